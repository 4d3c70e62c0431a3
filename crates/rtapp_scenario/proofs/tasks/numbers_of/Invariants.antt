use Rattle.std.proofs.Common.{◌≡◌, ◌≤◌, ◌++◌, drop, map, All}
use Rattle.json_order.specs.Lent.{lent_json}
use Rattle.rtapp_scenario.specs.Keys.{numbers_in}
use Rattle.rtapp_scenario.proofs.tasks.numbers_of.Given as goal

abbrev pub invariant-loop-item : goal.invariant-loop-item
invariant-loop-item l = record {
  made : l.numbers.items ++ numbers_in (map lent_json (drop l.item-index l.items)) ≡ numbers_in (map lent_json l.items);
  placed : All (λ cpu. cpu ≤ 511) l.numbers.items;
}
