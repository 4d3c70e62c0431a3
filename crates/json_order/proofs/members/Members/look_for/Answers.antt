use Rattle.std.proofs.Common.{◌≡◌, ◌<◌, true, length, rules, sym, ap, ◌∙◌}
use Rattle.json_order.specs.private.Entries.{keys_of, last_before}
use Rattle.json_order.proofs.Keys.{follows_new}
use Rattle.json_order.proofs.KeySets.{none_of}
use Rattle.json_order.proofs.members.Members.look_for.Goals as goal

pub returns-then-is_behind : goal.returns-then-is_behind
returns-then-is_behind c =
    let m = c.args.self.now in
    let zero : length m.sets.items ≡ 0 = search rules in
    let none = none_of m.sets.items zero in
    let many : 16 < length m.list.items = search rules in
    let last : last_before m.order (keys_of m.list.items) c.args.key.now ≡ true =
    ap (λ x. last_before m.order (keys_of x) c.args.key.now) (sym c.deref-then-len-gt-FEW.ensures.value) ∙ sym c.is_behind.ensures ∙ c.if-is_behind.true in
    (follows_new m.order (keys_of m.list.items) c.args.key.now (m.ordered none many c.args.key.now last), last)
