use Rattle.std.proofs.Common.{◌≡◌, ◌++◌, drop}
use Rattle.recorded_table.specs.Table.{works}
use Rattle.recorded_table.proofs.table.works.Given as goal

abbrev pub invariant-loop-release : goal.invariant-loop-release
invariant-loop-release l = l.works.items ++ works (drop l.release-index l.jobs) ≡ works l.jobs
