-- LOW TIMES: those that may go on, since 64 bits hold what is added (own).
use Rattle.std.specs.Prelude.{ℕ, ◌<◌, ◌^◌, IfSome}
use Rattle.domain_run.specs.declared.task.Task.{Task}
use Rattle.domain_run.specs.Jump.{asks_at}
use Rattle.limits.specs.Limits.{deadline_end}

-- a time from which any number of microseconds of a domain leads to one that 64 bits hold
abbrev pub IsLowTime : ℕ → Type 0
IsLowTime time = time < deadline_end

-- all times of a task are
pub record HasTime (t : Task) : Type 0 where
  pub deadline : IfSome t.server.deadline IsLowTime
  pub asks : IfSome (asks_at t.condition) IsLowTime
  pub zero_lag : IfSome t.zero_lag IsLowTime
  pub reference : IsLowTime t.cursor.reference
