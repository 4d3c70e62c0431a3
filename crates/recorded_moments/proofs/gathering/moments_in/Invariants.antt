use Rattle.std.proofs.Common.{◌+◌, ◌≤◌, length, map}
use Rattle.recorded_moments.specs.Moments.{watched_view}
use Rattle.recorded_moments.specs.private.Lines.{IsGatheredSoFar}
use Rattle.recorded_moments.proofs.gathering.moments_in.Given as goal

abbrev pub invariant-loop-end : goal.invariant-loop-end
invariant-loop-end l = record {
  found : IsGatheredSoFar l.wanted (map watched_view l.tasks) l.text l.rest l.line l.moments.items;
  few : l.line + length l.rest ≤ length l.text + 1;
}

abbrev pub decreases-loop-end : goal.decreases-loop-end
decreases-loop-end l = length l.rest
