use Rattle.std.proofs.Common.{◌≡◌, drop}
use Rattle.std.specs.Prelude.{fold, min}
use Rattle.recorded_table.proofs.spread.least_of.Given as goal

abbrev pub invariant-loop-n : goal.invariant-loop-n
invariant-loop-n l = fold min l.least (drop l.n-index l.others) ≡ fold min l.first l.others
