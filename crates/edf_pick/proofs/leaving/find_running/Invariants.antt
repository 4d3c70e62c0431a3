use Rattle.std.proofs.Common.{◌≡◌, ◌<◌, ℕ, false, None, get_or}
use Rattle.edf_pick.specs.private.Ready.{is_there}
use Rattle.edf_pick.proofs.leaving.find_running.Given as goal

abbrev pub invariant-loop-cpu : goal.invariant-loop-cpu
invariant-loop-cpu l = (k : ℕ) → k < l.cpu → is_there l.c (get_or l.running k None) ≡ false
