-- What is known of the running tasks before a jump, for the code's own contracts.
use Rattle.std.specs.Prelude.{ℕ, pos, ◌-◌, ◌*◌, ◌^◌, ◌<◌, ◌≤◌, ◌≡◌, List, slice_index, Some}
use Rattle.domain_run.specs.Domain.{Domain}
use Rattle.domain_run.specs.declared.running.Running.{Running}
use Rattle.domain_run.specs.Jump.{running, rate_for}

-- a running task may run for so many ticks: this is left of its budget now, and this is its rate
pub record IsGathered (d : Domain) (ticks : ℕ) (r : Running) (left rate : ℕ) : Type 0 where
  pub left_is : pos left ≡ r.left
  pub rate_is : rate ≡ rate_for d r
  pub worked : ticks ≤ r.work
  pub lasted : rate * (ticks - 1) < left

-- the first so many of them
pub record AreGathered (d : Domain) (ticks count : ℕ) (lefts rates : List ℕ) : Type 0 where
  pub each : (i : ℕ) (r : Running) → i < count → running d i ≡ Some r
      → IsGathered d ticks r (slice_index lefts i) (slice_index rates i)
  -- so that no product is out of range
  pub slow : (i : ℕ) → i < count → slice_index rates i ≤ 2 ^ 27
  pub high : (i : ℕ) → i < count → slice_index lefts i ≤ 2 ^ 52
