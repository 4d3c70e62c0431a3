use Rattle.std.proofs.Common.{◌≡◌, take}
use Rattle.repeat_run.proofs.seeing.runs_same.Given as goal

abbrev pub invariant-loop-cpu : goal.invariant-loop-cpu
invariant-loop-cpu l = take l.cpu l.state.curr ≡ take l.cpu l.running
