use Rattle.std.proofs.Common.{◌≡◌, ◌++◌, drop}
use Rattle.recorded_table.specs.Table.{distances_after}
use Rattle.recorded_table.proofs.table.distances_after.Given as goal

abbrev pub invariant-loop-release : goal.invariant-loop-release
invariant-loop-release l = l.distances.items ++ distances_after l.before (drop l.release-index l.others) ≡ distances_after l.first l.others
