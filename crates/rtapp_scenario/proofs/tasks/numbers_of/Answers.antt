use Rattle.std.proofs.Common.{◌≡◌, ◌≤◌, ◌∙◌, ◌+◌, ◌++◌, [], ◌∷◌, List, ℕ, append_assoc, drop, map, ap, sym}
use Rattle.std.proofs.lemmas.List.Elements.{All-push}
use Rattle.json_order.specs.Lent.{lent_json}
use Rattle.json_order.specs.declared.lent.LentTree.{LentTree}
use Rattle.rtapp_scenario.specs.Keys.{numbers_in}
use Rattle.rtapp_scenario.proofs.Walks.{here}
use Rattle.rtapp_scenario.proofs.tasks.numbers_of.Goals as goal

pub loop-item-preserved : goal.loop-item-preserved
loop-item-preserved c =
    let items : List LentTree = c.args.items.now in
    let i : ℕ = c.loop-item.item-index in
    let item : LentTree = c.item-item.result in
    let inv = c.loop-item.invariant in
    let n : ℕ = c.number_of.result in
    let left : List ℕ = numbers_in (map lent_json (drop (i + 1) items)) in
    let next : n ∷ left ≡ numbers_in (map lent_json (drop i items)) = ap (λ (m : ℕ). m ∷ left) c.number_of.ensures.value ∙ sym (here (λ xs. numbers_in (map lent_json xs)) items i item c.loop-item-test.true c.item-item.is) in
    rw c.in_ok-push.ensures.items (record {
      made = append_assoc c.loop-item.numbers.items (n ∷ []) left ∙ ap (λ (ns : List ℕ). c.loop-item.numbers.items ++ ns) next ∙ inv.made;
      placed = All-push (λ cpu. cpu ≤ 511) c.loop-item.numbers.items n inv.placed c.number_of.ensures.placed;
    })
