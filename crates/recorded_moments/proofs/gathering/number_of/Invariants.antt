use Rattle.std.proofs.Common.{◌≡◌, drop, map}
use Rattle.recorded_moments.specs.Moments.{watched_view, thread_number}
use Rattle.recorded_moments.proofs.gathering.number_of.Given as goal

abbrev pub invariant-loop-i : goal.invariant-loop-i
invariant-loop-i l = thread_number 0 (map watched_view l.tasks) l.name l.pid ≡ thread_number l.i (map watched_view (drop l.i l.tasks)) l.name l.pid
