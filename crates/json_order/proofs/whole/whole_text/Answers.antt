use Rattle.std.proofs.Common.{◌≡◌, length, sym, ◌∙◌}
use Rattle.std.proofs.lemmas.Bool.{eqb-true}
use Rattle.json_order.specs.Lent.{lent_json}
use Rattle.json_order.specs.private.Whole.{ReadsValue}
use Rattle.json_order.proofs.Crossings.{text_whole}
use Rattle.json_order.proofs.whole.whole_text.Goals as goal

pub returns-then-is_empty-clause-ok : goal.returns-then-is_empty-clause-ok
returns-then-is_empty-clause-ok c =
    let v = lent_json c.in-Some.tree in
    let read : ReadsValue 16 v c.behind_space-left.result.now c.in-Some.after.now = rw c.in-Some.is at c.in_ok-tree.ensures.ok in
    let nothing : length c.behind_space-end.result.now ≡ 0 = eqb-true _ _ (sym c.is_empty.ensures ∙ c.if-is_empty.true) in
    text_whole c.args.text.now c.behind_space-left.result.now c.in-Some.after.now c.behind_space-end.result.now v c.behind_space-left.ensures read c.behind_space-end.ensures nothing
