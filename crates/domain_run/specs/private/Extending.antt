-- A running task that has work again where its work ends: its charge stays open, and expires later.
-- For the code's own contracts.
use Rattle.std.specs.Prelude.{ℕ, pos, ◌+◌, ◌-◌, ◌*◌, ◌^◌, ◌<◌, ◌≤◌, ◌<ℤ◌, ◌≡◌, List, slice_index_or, slice_set, Option, Some, None, IfSome, IsTrue}
use Rattle.task_script.specs.script.Segments.{next_segment, work_in}
use Rattle.due_times.specs.declared.charges.OpenCharge.{OpenCharge}
use Rattle.due_times.specs.OpenCharges.{ending_at}
use Rattle.domain_run.specs.declared.task.Task.{Task}
use Rattle.domain_run.specs.declared.task_table.extending.More.{More}
use Rattle.domain_run.specs.Conditions.{is_ready}
use Rattle.domain_run.specs.private.TaskTable.{TaskTableView}
use Rattle.limits.specs.Limits.{max_script_number}

-- a task with so much work more, whose script is past it
abbrev pub with_more : ℕ → ℕ → Task → Task
with_more time n t = record t { work = t.work + n; cursor = (next_segment t.cursor time).cursor }

-- the work of a task ends with so many ticks at a rate, its budget does not, and its script has it
-- run for so much more
pub record GoesOn (time ticks rate more : ℕ) (t : Task) : Type 0 where
  pub ready : IsTrue (is_ready t.condition)
  pub worked : t.work ≡ ticks
  pub lasted : pos (rate * ticks) <ℤ t.server.left
  pub some : 0 < more
  pub asked : work_in (next_segment t.cursor time).segment ≡ Some more

-- the same of a task as it is stored, which is not charged since its open charge says: the work
-- ends when the clock of the open charges comes to `upto`, and the open charge may end later then
pub record MayExtend (upto time : ℕ) (s : OpenCharge) (m : More) (t : Task) : Type 0 where
  pub worked : t.work ≡ upto - s.since
  pub later : upto < m.end
  pub within : m.end - s.since ≤ t.work + m.work
  pub soon : m.end ≤ 2 ^ 63
  pub lasted : pos (s.rate * (m.end - s.since - 1)) <ℤ t.server.left
  pub some : 0 < m.work
  pub short : m.work ≤ max_script_number
  pub asked : work_in (next_segment t.cursor time).segment ≡ Some m.work

-- the task with an open charge on a CPU, the task at a place, has so much work more after so many
-- ticks, and its open charge ends later
pub record HasGoneOn (time ticks cpu place : ℕ) (s : OpenCharge)
    (old new : TaskTableView) : Type 0 where
  pub work : ℕ
  pub end : ℕ
  pub later : old.clock + ticks < end
  pub goes : (d : Task) → GoesOn time ticks s.rate work (slice_index_or old.tasks place d)
  pub tasks : (d : Task) → new.tasks
      ≡ slice_set old.tasks place (with_more time work (slice_index_or old.tasks place d))
  pub charges : new.charges ≡ slice_set old.charges cpu (Some (ending_at end s))

-- the open charge of a CPU ends after a time or is free, and no other open charge has changed
pub record HasExpired (time cpu : ℕ) (old new : List (Option OpenCharge)) : Type 0 where
  pub charges : new ≡ slice_set old cpu (slice_index_or new cpu None)
  pub later : IfSome (slice_index_or new cpu None) (λ s. time < s.end)
