use Rattle.std.proofs.Common.{take}
use Rattle.repeat_run.specs.Seen.{AreTasksSeen}
use Rattle.repeat_run.proofs.seeing.see_all.Given as goal

abbrev pub invariant-loop-place : goal.invariant-loop-place
invariant-loop-place l = AreTasksSeen l.seen.items (take l.place l.state.tasks)
