-- Moments in order are in the order of time.
use Rattle.std.proofs.Common.{ℕ, ◌≤◌, Bool, true, false, List, get_or, arith}
use Rattle.std.specs.Prelude.{if◌then◌else◌}
use Rattle.std.specs.List.Sorted.{IsNonDecreasingBy}
use Rattle.recorded_jobs.specs.declared.moment.Moment.{Moment}
use Rattle.recorded_jobs.specs.Stretches.{is_switch}
use Rattle.recorded_moments.specs.Ordered.{order_of}

at_most_one : (b : Bool) → (if b then 1 else 0) ≤ 1
at_most_one true = omega arith
at_most_one false = omega arith

pub in_time : (moments : List Moment) → IsNonDecreasingBy order_of moments → IsNonDecreasingBy (λ m. m.time) moments
in_time moments h = λ i j d le l.
    let up = h i j d le l in
    let one = at_most_one (is_switch (get_or moments i d).what) in
    let two = at_most_one (is_switch (get_or moments j d).what) in
    omega (arith, up, one, two)
