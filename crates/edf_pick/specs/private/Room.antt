-- The room of a queue.
use Rattle.std.specs.Prelude.{ℕ, ◌≡◌, ◌≤◌, ◌-◌, List, length, take, drop}
use Rattle.edf_pick.specs.declared.candidate.Candidate.{Candidate}
use Rattle.edf_pick.specs.declared.room.Room.{Room}
use Rattle.edf_pick.specs.Order.{IsRising}

-- the tasks from one place up to another
abbrev pub tasks_between : ℕ → ℕ → List Candidate → List Candidate
tasks_between front end places = take (end - front) (drop front places)

abbrev pub tasks_in_room : Room → List Candidate
tasks_in_room room = tasks_between room.front room.end room.tasks.items

-- there are 1,024 places, and the tasks are within them
pub record IsTaskRoom (room : Room) : Type 0 where
  pub forward : room.front ≤ room.end
  pub within : room.end ≤ 1024
  pub full : length room.tasks.items ≡ 1024

-- what a queue has: its order, at most 256 tasks, and the room for 1,024 that it was opened with,
-- so it takes no more
pub record IsQueue (queue : List Candidate) (capacity : ℕ) : Type 0 where
  pub rising : IsRising queue
  pub few : length queue ≤ 256
  pub room : capacity ≡ 1024

-- what a queue keeps
pub record HoldsQueue (room : Room) (capacity : ℕ) : Type 0 where
  pub queue : IsQueue (tasks_in_room room) capacity
  pub is : IsTaskRoom room
