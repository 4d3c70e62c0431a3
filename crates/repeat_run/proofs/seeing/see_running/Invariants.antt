use Rattle.std.proofs.Common.{◌≡◌, take}
use Rattle.repeat_run.proofs.seeing.see_running.Given as goal

abbrev pub invariant-loop-cpu : goal.invariant-loop-cpu
invariant-loop-cpu l = l.running.items ≡ take l.cpu l.state.curr
