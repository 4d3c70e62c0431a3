-- The calls of a section that are left.
use Rattle.std.specs.Prelude.{ℕ, ◌≤◌}
use Rattle.domain_run.specs.declared.call.Call.{Call}
use Rattle.domain_run.specs.declared.call.Call.TheVariants.{Admit, Regrade, Wake, Leave, Advance, Limit, Depart, Arrive}
use Rattle.domain_run.specs.Domain.{IsLimit}
use Rattle.calls_text.specs.Limits.{IsTaskNumber}
use Rattle.limits.specs.Limits.{least_limit, max_advance, max_script_number}

-- whom it admits; 1 where it admits nobody
abbrev pub number_given : Call → ℕ
number_given (Admit number name params delay script) = number
number_given (Regrade number params word) = 1
number_given (Wake number) = 1
number_given (Leave number) = 1
number_given (Advance n) = 1
number_given (Limit limit word) = 1
number_given (Depart number) = 1
number_given (Arrive number name params script) = number

-- from when on; 0 where it admits nobody
abbrev pub delay_given : Call → ℕ
delay_given (Admit number name params delay script) = delay
delay_given (Regrade number params word) = 0
delay_given (Wake number) = 0
delay_given (Leave number) = 0
delay_given (Advance n) = 0
delay_given (Limit limit word) = 0
delay_given (Depart number) = 0
delay_given (Arrive number name params script) = 0

-- the limit that it sets; the least one where it sets none
abbrev pub limit_given : Call → ℕ
limit_given (Admit number name params delay script) = least_limit
limit_given (Regrade number params word) = least_limit
limit_given (Wake number) = least_limit
limit_given (Leave number) = least_limit
limit_given (Advance n) = least_limit
limit_given (Limit limit word) = limit
limit_given (Depart number) = least_limit
limit_given (Arrive number name params script) = least_limit

-- how many ticks it makes
abbrev pub ticks_given : Call → ℕ
ticks_given (Admit number name params delay script) = 0
ticks_given (Regrade number params word) = 0
ticks_given (Wake number) = 0
ticks_given (Leave number) = 0
ticks_given (Advance n) = n
ticks_given (Limit limit word) = 0
ticks_given (Depart number) = 0
ticks_given (Arrive number name params script) = 0

-- What is used of a call of a section while it is made, in a form that a ghost field may keep: a
-- fact that goes by cases, as `IsCall` of calls_text does, it may not.
pub record IsCallReady (c : Call) : Type 0 where
  pub numbered : IsTaskNumber (number_given c)
  pub soon : delay_given c ≤ max_script_number
  pub limited : IsLimit (limit_given c)
  pub short : ticks_given c ≤ max_advance
