-- Zero-lag times that are deferred while no task of a domain reclaims, for the code's own
-- contracts: nobody looks at them then, so a jump goes past them.
use Rattle.std.specs.Prelude.{ℕ, ◌-◌, ◌≡◌, ◌||◌, false, nat_le, if◌then◌else◌, List, [], ◌∷◌, Option, None, Some, IfSome}
use Rattle.domain_run.specs.declared.task.Task.{Task}
use Rattle.domain_run.specs.Conditions.{is_contending, is_leaving}
use Rattle.domain_run.specs.Domain.{Domain}
use Rattle.due_times.specs.declared.charges.OpenCharge.{OpenCharge}
use Rattle.edf_pick.specs.Places.{Places}
use Rattle.domain_run.specs.private.TaskTable.{without_zero_lag, leapt}
use Rattle.domain_run.specs.private.Owed.{time_passed}

-- a task with the zero-lag time that was deferred for it, where it does not contend and that time
-- has not come
abbrev pub with_lag : ℕ → Option ℕ → Task → Task
with_lag time None t = t
with_lag time (Some z) t =
    if is_contending t.condition || nat_le z time then t else record t { zero_lag = Some z }

-- those of a list, place by place
abbrev pub with_lags : ℕ → List (Option ℕ) → List Task → List Task
with_lags time [] tasks = tasks
with_lags time (lag ∷ lags) [] = []
with_lags time (lag ∷ lags) (t ∷ tasks) = with_lag time lag t ∷ with_lags time lags tasks

-- a domain with those of its tasks
abbrev pub awake : List (Option ℕ) → Domain → Domain
awake lags d = record d { tasks = with_lags (d.time - 1) lags d.tasks }

-- a task that has no zero-lag time and does not reclaim; and one that has not ended either, so it
-- stays listed
pub record IsBare (t : Task) : Type 0 where
  pub lag : t.zero_lag ≡ None
  pub fixed : t.params.reclaim ≡ false

pub record IsWithoutLag (t : Task) : Type 0 where
  pub lag : t.zero_lag ≡ None
  pub stays : is_leaving t.condition ≡ false
  pub fixed : t.params.reclaim ≡ false

-- a task whose zero-lag time may be deferred at a time: it does not reclaim, has not ended, and
-- that time, if it has one, has not come, nor does the task contend then
pub record MayDefer (time : ℕ) (t : Task) : Type 0 where
  pub fixed : t.params.reclaim ≡ false
  pub stays : is_leaving t.condition ≡ false
  pub ahead : IfSome t.zero_lag
      (λ z. (is_contending t.condition || nat_le z time) ≡ false)

-- a task once so many ticks have passed, up to a time, without the zero-lag time with which it
-- stops
abbrev pub passed_bare : ℕ → ℕ → List (Option OpenCharge) → Task → Task
passed_bare time ticks charges t = without_zero_lag (time_passed time ticks charges t)

abbrev pub leapt_bare : ℕ → ℕ → Places → ℕ → ℕ → List Task → Task → Task
leapt_bare time ticks places cpus limit tasks t =
    without_zero_lag (leapt time ticks places cpus limit tasks t)
