use Rattle.std.proofs.Common.{◌≡◌, ◌+◌, ◌++◌, ◌∷◌, [], true, take, rules, sym, ap, ◌∙◌, subst}
use Rattle.std.proofs.lemmas.List.{take_more}
use Rattle.json_order.specs.Lent.{text_bytes}
use Rattle.json_order.specs.private.Entries.{keys_of, last_before, AreOrdered}
use Rattle.json_order.proofs.Keys.{ordered_more}
use Rattle.json_order.proofs.key_order.are_ordered.Goals as goal

pub loop-i-preserved : goal.loop-i-preserved
loop-i-preserved c =
    let i = c.loop-i.i in
    let ms = c.args.members.now in
    let m = c.index-members-i.result in
    let whole : take (i + 1) ms ≡ take i ms ++ m ∷ [] = take_more ms i m c.loop-i-test.true ∙ ap (λ x. take i ms ++ x ∷ []) (sym c.index-members-i.is) in
    let below : last_before c.args.order (keys_of (take i ms)) (text_bytes m.0) ≡ true = search rules in
    subst (λ x. AreOrdered c.args.order (keys_of x)) (sym whole) (ordered_more c.args.order (take i ms) m.0 m.1 c.loop-i.invariant below)
