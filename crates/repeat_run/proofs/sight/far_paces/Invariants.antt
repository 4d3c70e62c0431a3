use Rattle.std.proofs.Common.{◌≡◌, map, take}
use Rattle.repeat_law.specs.Repeats.{many_paces}
use Rattle.repeat_run.proofs.sight.far_paces.Given as goal

abbrev pub invariant-loop-place : goal.invariant-loop-place
invariant-loop-place l = l.far.items ≡ map (many_paces l.periods) (take l.place l.paces)
