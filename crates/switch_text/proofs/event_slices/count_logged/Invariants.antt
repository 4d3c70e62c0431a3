use Rattle.std.proofs.Common.{ℕ, ◌<◌, ◌≤◌, ◌-◌, get_or, length}
use Rattle.domain_run.specs.declared.happened.Happened.{Happened}
use Rattle.switch_text.proofs.EventSplitting.{IsLoggedEarly}
use Rattle.switch_text.proofs.event_slices.count_logged.Given as goal

abbrev pub invariant-count : goal.invariant-count
invariant-count l = record {
  inside : l.count ≤ length l.happened;
  early : (k : ℕ) (d : Happened) → k < l.count → IsLoggedEarly l.cut (get_or l.happened k d);
}

abbrev pub decreases-count : goal.decreases-count
decreases-count l = length l.happened - l.count
