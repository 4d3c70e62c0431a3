-- Where in a list of tasks a number is, for the code's own contracts.
use Rattle.std.specs.Prelude.{ℕ, ◌<◌, ◌≤◌, ◌≡◌, ◌≢◌, List, length, All, slice_index_or}
use Rattle.domain_run.specs.declared.task.Task.{Task}
use Rattle.limits.specs.Limits.{task_number_end}

-- what an index keeps: an entry for each number, a place for each entry, and the room that it was
-- opened with, so it takes no more
pub record IsNumberIndex (entries places free : List ℕ) (of_entries of_places of_free : ℕ)
    : Type 0 where
  pub all : length entries ≡ task_number_end
  pub each : length places ≡ 256
  pub few : length free ≤ 256
  pub room : of_entries ≡ task_number_end
  pub room_of_places : of_places ≡ 256
  pub room_of_free : of_free ≡ 256

-- the task of a number is at a place
pub record IsListedAt (tasks : List Task) (number place : ℕ) : Type 0 where
  pub within : place < length tasks
  pub is : (d : Task) → (slice_index_or tasks place d).number ≡ number

-- no task has the number
abbrev pub IsUnlisted : List Task → ℕ → Type 0
IsUnlisted tasks number = All (λ t. t.number ≢ number) tasks
