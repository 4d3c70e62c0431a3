use Rattle.std.proofs.Common.{◌≡◌, drop, take, map, []}
use Rattle.json_order.specs.Lent.{lent_json}
use Rattle.rtapp_scenario.specs.Keys.{cpus_after, numbers_in}
use Rattle.rtapp_scenario.specs.private.Marks.{AreMarks}
use Rattle.rtapp_scenario.proofs.key.are_new_cpus.Given as goal

abbrev pub invariant-loop-item : goal.invariant-loop-item
invariant-loop-item l = record {
  so_far : cpus_after (numbers_in (map lent_json (take l.item-index l.items))) (map lent_json (drop l.item-index l.items)) ≡ cpus_after [] (map lent_json l.items);
  marks : AreMarks l.seen (numbers_in (map lent_json (take l.item-index l.items)));
}
