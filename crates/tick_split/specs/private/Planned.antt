-- What becomes of a plan, as a function; that it is the one of specs/Planning.antt is proved in
-- proofs/Spending.antt.
use Rattle.std.specs.Prelude.{ℕ}
use Rattle.std.specs.Int.{div_ceil}
use Rattle.cbs_rules.specs.Budget.{above_zero}
use Rattle.grub_rules.specs.Rate as rates
use Rattle.tick_split.specs.declared.element.Plan.{Plan}

abbrev pub rate_in_plan : Plan → ℕ
rate_in_plan p = rates.rate p.params p.uinact p.sum p.cpus p.limit

-- `spent` by a division, rounded up
abbrev pub planned : Plan → Plan
planned p =
    record p { rate = rate_in_plan p; spent = div_ceil (above_zero p.left) (rate_in_plan p) }
