use Rattle.std.specs.Ordering.{nat_cmp, is_lt}
use Rattle.std.specs.Cmp.Lexicographic.{slice_cmp}
use Rattle.std.proofs.Common.{◌≡◌, ◌+◌, ◌-◌, length, sym, ap, ◌∙◌, arith}
use Rattle.json_order.specs.declared.key_order.KeyOrder.TheVariants.{Rising, Falling}
use Rattle.json_order.specs.private.Entries.{keys_of, last_before}
use Rattle.json_order.proofs.Keys.{last_at}
use Rattle.json_order.proofs.key_order.is_behind.Goals as goal

pub returns-in-Rising : goal.returns-in-Rising
returns-in-Rising c =
    let ms = c.args.members.now in
    let i = length ms - 1 in
    let e : i + 1 ≡ length ms = omega arith in
    c.is_lt.ensures
    ∙ ap is_lt (c.cmp.ensures ∙ ap (λ x. slice_cmp nat_cmp x c.args.key.now) c.as_str.ensures)
    ∙ sym (last_at Rising ms i c.index-members-len.result c.args.key.now e c.index-members-len.is)
    ∙ ap (λ o. last_before o (keys_of ms) c.args.key.now) (sym c.in-Rising.is)

pub returns-in-Falling : goal.returns-in-Falling
returns-in-Falling c =
    let ms = c.args.members.now in
    let i = length ms - 1 in
    let e : i + 1 ≡ length ms = omega arith in
    c.is_lt-in-Falling.ensures
    ∙ ap is_lt (c.cmp-in-Falling.ensures ∙ ap (λ x. slice_cmp nat_cmp c.args.key.now x) c.as_str-in-Falling.ensures)
    ∙ sym (last_at Falling ms i c.index-members-len.result c.args.key.now e c.index-members-len.is)
    ∙ ap (λ o. last_before o (keys_of ms) c.args.key.now) (sym c.in-Falling.is)
