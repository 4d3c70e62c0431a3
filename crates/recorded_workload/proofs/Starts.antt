-- Time 0 is not after the first release of any task.
use Rattle.std.proofs.Common.{◌≡◌, ℕ, zero, suc, ◌+◌, ◌-◌, ◌<◌, ◌≤◌, List, [], ◌∷◌, length, get_or, Option, Some, None, refl, arith}
use Rattle.std.specs.Prelude.{fold, min, unwrap_or, slice_index_or}
use Rattle.recorded_jobs.specs.declared.job.Release.{Release}
use Rattle.recorded_scripts.specs.Scripts.{first_release}
use Rattle.recorded_workload.specs.Workload.{earlier, earliest, time_zero}

earlier_within : (t : ℕ) (js : List Release) → unwrap_or (earlier (Some t) js) 0 ≤ t
earlier_within t [] = omega arith
earlier_within t (r ∷ rs) = omega arith

-- what was found stays within what was found before
stays_within : (t : ℕ) (jobs : List (List Release)) → unwrap_or (fold earlier (Some t) jobs) 0 ≤ t
stays_within t [] = omega arith
stays_within t ([] ∷ jobs) = stays_within t jobs
stays_within t ((r ∷ rs) ∷ jobs) = let h = stays_within (min t r.time) jobs in omega (arith, h)

from_first : (found : Option ℕ) (r : Release) (rs : List Release) (jobs : List (List Release)) → unwrap_or (fold earlier found ((r ∷ rs) ∷ jobs)) 0 ≤ r.time
from_first None r rs jobs = stays_within r.time jobs
from_first (Some t) r rs jobs = let h = stays_within (min t r.time) jobs in omega (arith, h)

not_after : (found : Option ℕ) (jobs : List (List Release)) (task : ℕ) (d : List Release) → task < length jobs → 0 < length (slice_index_or jobs task d) → unwrap_or (fold earlier found jobs) 0 ≤ first_release (slice_index_or jobs task d)
not_after found [] task d l some = absurd (omega (arith, l))
not_after found ([] ∷ jobs) zero d l some = absurd (omega (arith, some))
not_after found ((r ∷ rs) ∷ jobs) zero d l some = from_first found r rs jobs
not_after found (js ∷ jobs) (suc task) d l some = not_after (earlier found js) jobs task d (omega (arith, l)) some

pub delays_are : (jobs : List (List Release)) (task : ℕ) (d : List Release) → task < length jobs → 0 < length (slice_index_or jobs task d) → time_zero jobs + (first_release (slice_index_or jobs task d) - time_zero jobs) ≡ first_release (slice_index_or jobs task d)
delays_are jobs task d l some = let h = not_after None jobs task d l some in omega (arith, h)
