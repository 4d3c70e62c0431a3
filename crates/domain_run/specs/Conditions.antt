-- What a task's condition says.
use Rattle.std.specs.Prelude.{ℕ, Bool, true, false, nat_le, Option, Some, None}
use Rattle.domain_run.specs.declared.task.Condition.{Condition}
use Rattle.domain_run.specs.declared.task.Condition.TheVariants.{Ready, Throttled, Blocked, Waiting, Leaving}

abbrev pub is_ready : Condition → Bool
is_ready Ready = true
is_ready _ = false

abbrev pub is_throttled : Condition → Bool
is_throttled Throttled = true
is_throttled _ = false

-- it wants a CPU, with budget or without
abbrev pub is_contending : Condition → Bool
is_contending Ready = true
is_contending Throttled = true
is_contending _ = false

abbrev pub is_waiting : Condition → Bool
is_waiting Waiting = true
is_waiting _ = false

abbrev pub is_leaving : Condition → Bool
is_leaving Leaving = true
is_leaving _ = false

-- blocked until a time that has come
abbrev pub is_over : ℕ → Condition → Bool
is_over time (Blocked u) = nat_le u time
is_over time _ = false

-- there is a time, and it has come
abbrev pub has_come : ℕ → Option ℕ → Bool
has_come time None = false
has_come time (Some z) = nat_le z time
