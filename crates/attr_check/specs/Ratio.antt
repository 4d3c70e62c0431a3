-- Bandwidth as a share of one CPU.
use Rattle.std.specs.Prelude.{ℕ, ◌*◌, ◌/◌}
use Rattle.limits.specs.Limits.{unit}

-- runtime / period, rounded down to a whole number of units (sched-deadline.rst, "Bandwidth
-- management"; the rounding is own)
abbrev pub ratio : ℕ → ℕ → ℕ
ratio period runtime = runtime * unit / period

-- what the tasks of a root domain may have together: M times the limit (sched-deadline.rst,
-- "Bandwidth management": the sum of bandwidths is at most M * rt_runtime / rt_period; that
-- equality is admitted is own)
abbrev pub cap : ℕ → ℕ → ℕ
cap cpus limit = cpus * limit
