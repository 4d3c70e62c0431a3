-- When something is to be done to a task before the choice, for the code's own contracts.
use Rattle.std.specs.Prelude.{ℕ, ◌≡◌, ◌+◌, ◌-◌, ◌^◌, ◌<◌, ◌≤◌, min, true, List, length, filter, slice_index_or, slice_set, Option, Some, None}
use Rattle.domain_run.specs.declared.task.Task.{Task}
use Rattle.domain_run.specs.Parts.{is_listed}
use Rattle.domain_run.specs.Jump.{replenished_at, asks_at, gone_at}

-- a time that may come; the last number means none
abbrev pub due_moment : Option ℕ → ℕ
due_moment None = 2 ^ 64 - 1
due_moment (Some u) = u

-- the first time at which parts 1 to 3 have something to do to a task
abbrev pub due_of : Task → ℕ
due_of t =
    min (min (due_moment (replenished_at t)) (due_moment t.zero_lag))
    (min (due_moment (asks_at t.condition)) (due_moment (gone_at t)))

-- the task at a place has changed, and no other
pub record IsTimerStep (f : Task → Task) (place : ℕ) (old new : List Task) : Type 0 where
  pub is : (d : Task) → new ≡ slice_set old place (f (slice_index_or old place d))

-- the tasks at the places from this one on, up to that, are not due
abbrev pub AreNotDue : List Task → ℕ → ℕ → ℕ → Type 0
AreNotDue tasks time from end =
    (place : ℕ) (d : Task) → from ≤ place → place < end → place < length tasks
    → time < due_of (slice_index_or tasks place d)
