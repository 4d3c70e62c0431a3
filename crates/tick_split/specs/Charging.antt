-- The charge of a running task for some ticks (sched-deadline.rst, "Bandwidth reclaiming").
use Rattle.std.specs.Prelude.{pos, neg_ℤ, ◌≤◌, ◌*◌, ◌^◌, ◌-ℤ◌, ◌≤ℤ◌}
use Rattle.tick_split.specs.declared.element.Slice.{Slice}
use Rattle.limits.specs.Limits.{clock_end}

-- within the limits that a domain keeps
pub record IsChargeable (s : Slice) : Type 0 where
  pub slow : s.rate ≤ 2 ^ 32
  pub few : s.ticks ≤ clock_end
  pub low : neg_ℤ (pos (2 ^ 63)) ≤ℤ s.left
  pub high : s.left ≤ℤ pos (2 ^ 63)

-- the budget is less by rate * ticks; rate and ticks stay
abbrev pub charged_slice : Slice → Slice
charged_slice s = record s { left = s.left -ℤ pos (s.rate * s.ticks) }
