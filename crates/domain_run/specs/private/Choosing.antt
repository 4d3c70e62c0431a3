-- Who starts on a CPU belongs to it, and the switches, by the CPUs that a choice gave to another
-- one, for the code's own contracts.
use Rattle.std.specs.Prelude.{ℕ, ◌<◌, ◌≡◌, List, fold, All, length, slice_index_or, Option, Some}
use Rattle.grub_rules.specs.Accounts.{AccountsView, AreAccounts}
use Rattle.edf_pick.specs.declared.moves.Moved.{Moved}
use Rattle.edf_pick.specs.Places.{Places}
use Rattle.domain_run.specs.declared.task.Task.{Task}
use Rattle.domain_run.specs.Switch.{Switch}
use Rattle.domain_run.specs.Sound.{occupant}
use Rattle.domain_run.specs.Switches.{prev_state_of}
use Rattle.domain_run.specs.Tick.{shares}
use Rattle.domain_run.specs.private.TaskTable.{homed_here}
use Rattle.domain_run.specs.private.RunQueue.{IsTaskTable}
use Rattle.due_times.specs.OpenCharges.{OpenChargesView}
use Rattle.domain_run.specs.private.Owed.{owed_all, AreOpen}

-- of so many CPUs
abbrev pub AreWithin : ℕ → List Moved → Type 0
AreWithin cpus moves = All (λ m. m.cpu < cpus) moves

-- what is kept of the tasks beside the schedule: the sums are those of the list, and each open
-- charge is that of its task
pub record AreCounted (accounts : AccountsView) (charges : OpenChargesView) (tasks : List Task)
    : Type 0 where
  pub sums : AreAccounts accounts (shares (owed_all charges tasks))
  pub task_table : IsTaskTable (owed_all charges tasks)
  pub waits : AreOpen charges.charges tasks

-- the task at a place, if it runs on a CPU, belongs to it
pub record IsHome (o : Option ℕ) (cpu place : ℕ) (tasks : List Task) : Type 0 where
  pub within : place < length tasks
  pub is_on_cpu : (d : Task) → o ≡ Some (slice_index_or tasks place d).number
  pub home : (d : Task) → (slice_index_or tasks place d).cpu ≡ cpu

-- the task that runs on one of these CPUs belongs to it
abbrev pub task_homed_by : Places → List Moved → Task → Task
task_homed_by places moves t =
    fold (λ (u : Task) m. homed_here (occupant places m.cpu) m.cpu u) t moves

-- the switch of a CPU that another one has
abbrev pub switch_made : ℕ → List Task → Places → Moved → Switch
switch_made time tasks places m =
    record {
      time = time;
      prev = m.before;
      next = occupant places m.cpu;
      cpu = m.cpu;
      state = prev_state_of tasks m.before;
    }
