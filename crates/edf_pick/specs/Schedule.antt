-- The ready tasks of a root domain and the tasks that run on its CPUs, as one (own).
use Rattle.std.specs.Prelude.{ℕ, ◌≡◌, true, if◌then◌else◌, List, fold, IsTrue, None, slice_index_or}
use Rattle.edf_pick.specs.declared.candidate.Candidate.{Candidate}
use Rattle.edf_pick.specs.declared.moves.Moved.{Moved}
use Rattle.edf_pick.specs.Changes.{is_home}
use Rattle.edf_pick.specs.Places.{Places, is_task, is_on_cpu}

pub record ScheduleView : Type 0 where
  -- the ready tasks in the order of the choice
  pub queue : List Candidate
  -- the task that runs on each CPU
  pub places : Places
  -- the CPUs that the last choice gave to another one
  pub moves : List Moved

-- a task that runs does so on the CPU to which it belongs
abbrev pub IsAtHome : Places → Candidate → Type 0
IsAtHome places c = IsTrue (is_on_cpu c.number places) → is_home places c ≡ true

-- the task that runs on this CPU belongs to it
abbrev pub homed_on : Places → ℕ → Candidate → Candidate
homed_on places cpu c =
    if is_task c.number (slice_index_or places cpu None) then record c { home = cpu } else c

-- and so on each CPU that was given to another one
abbrev pub homed_by : Places → List Moved → Candidate → Candidate
homed_by places moves c = fold (λ (a : Candidate) m. homed_on places m.cpu a) c moves
