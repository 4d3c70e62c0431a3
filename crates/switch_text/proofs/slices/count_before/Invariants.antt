use Rattle.std.proofs.Common.{ℕ, ◌<◌, ◌≤◌, ◌-◌, get_or, length}
use Rattle.domain_run.specs.Switch.{Switch}
use Rattle.switch_text.proofs.Splitting.{IsEarly}
use Rattle.switch_text.proofs.slices.count_before.Given as goal

abbrev pub invariant-count : goal.invariant-count
invariant-count l = record {
  inside : l.count ≤ length l.switches;
  early : (k : ℕ) (d : Switch) → k < l.count → IsEarly l.cut (get_or l.switches k d);
}

abbrev pub decreases-count : goal.decreases-count
decreases-count l = length l.switches - l.count
