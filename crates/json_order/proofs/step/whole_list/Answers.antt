use Rattle.std.proofs.Common.{[], ◌∷◌, List, map, ap, ◌∙◌, arith}
use Rattle.std.proofs.lemmas.Grind.{common_steps}
use Rattle.std.proofs.lemmas.List.{map-append}
use Rattle.json_order.specs.Json.{Json, array, no_items}
use Rattle.json_order.specs.Lent.{lent_json}
use Rattle.json_order.specs.Seen.{items_with}
use Rattle.json_order.specs.declared.lent.LentTree.{LentTree}
use Rattle.json_order.proofs.Trees.{list_seen}
use Rattle.json_order.proofs.step.whole_list.Goals as goal

pub returns-clause-ok : goal.returns-clause-ok
returns-clause-ok c =
    list_seen c.add_last.new.items
    ∙ ap (λ (ts : List LentTree). array (items_with (map lent_json ts) no_items)) c.in_ok-add_last.ensures.ok
    ∙ ap (λ (vs : List Json). array (items_with vs no_items)) (map-append lent_json c.args.items.items (c.args.value ∷ []))

pub returns-in_err-add_last-clause-ok : goal.returns-in_err-add_last-clause-ok
returns-in_err-add_last-clause-ok c = grind (arith, common_steps)

pub returns-in_err-add_last-clause-err : goal.returns-in_err-add_last-clause-err
returns-in_err-add_last-clause-err c = grind (arith, common_steps)

pub returns-clause-err : goal.returns-clause-err
returns-clause-err c = grind (arith, common_steps)
