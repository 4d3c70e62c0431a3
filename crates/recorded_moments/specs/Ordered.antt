-- The moments of a recording in the order of time (own).
use Rattle.std.specs.Prelude.{ℕ, ◌+◌, ◌*◌, nat_lt, ◌&&◌, not, if◌then◌else◌, List, filter}
use Rattle.std.specs.List.Sorted.{IsPermutation, IsNonDecreasingBy, IsStableByKey}
use Rattle.std.specs.Ordering.{nat_cmp}
use Rattle.recorded_jobs.specs.declared.moment.Moment.{Moment}
use Rattle.recorded_jobs.specs.Stretches.{is_switch}

-- the place of a moment in that order: at the same time a wake comes before a switch
abbrev pub order_of : Moment → ℕ
order_of m = m.time * 2 + (if is_switch m.what then 1 else 0)

-- the same moments in the order of time; those of one place keep the order of their lines
pub record AreInOrder (moments ordered : List Moment) : Type 0 where
  pub same : IsPermutation moments ordered
  pub stable : IsStableByKey order_of nat_cmp moments ordered
  pub in_order : IsNonDecreasingBy order_of ordered
  pub in_time : IsNonDecreasingBy (λ m. m.time) ordered
