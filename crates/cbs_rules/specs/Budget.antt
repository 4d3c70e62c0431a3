-- A budget that may have gone below zero.
use Rattle.std.specs.Prelude.{ℕ, suc, ℤ, pos, negsuc, ◌*◌}
use Rattle.attr_check.specs.ParamsView.{ParamsView}
use Rattle.limits.specs.Limits.{unit}

-- the budget of one period: the runtime, in 1/2^20 us (own)
abbrev pub budget : ParamsView → ℕ
budget p = p.runtime * unit

-- what is left, or 0
abbrev pub above_zero : ℤ → ℕ
above_zero (pos n) = n
above_zero (negsuc n) = 0

-- how far it is below zero, or 0
abbrev pub below_zero : ℤ → ℕ
below_zero (pos n) = 0
below_zero (negsuc n) = suc n
