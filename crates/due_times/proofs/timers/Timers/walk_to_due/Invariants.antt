use Rattle.std.proofs.Common.{◌-◌, ◌≤◌, length}
use Rattle.due_times.specs.Timers.{AreLater}
use Rattle.due_times.proofs.timers.Timers.walk_to_due.Given as goal

abbrev pub invariant-loop-place : goal.invariant-loop-place
invariant-loop-place l = record {
  from : l.from ≤ l.place;
  most : l.place ≤ length l.self;
  later : AreLater l.self l.time l.from l.place;
}

abbrev pub decreases-loop-place : goal.decreases-loop-place
decreases-loop-place l = length l.self - l.place
