-- On which CPU each chosen task runs (own).
use Rattle.std.specs.Prelude.{ℕ, zero, suc, ◌≡◌, ◌<◌, ◌≤◌, length, position, Bool, false, ◌&&◌, ◌==◌, if◌then◌else◌, List, map, slice_get, slice_index_or, slice_set, Option, Some, None, is_none}
use Rattle.std.specs.Int.{bit_at}
use Rattle.std.specs.List.{list_any}
use Rattle.edf_pick.specs.declared.candidate.Candidate.{Candidate}
use Rattle.edf_pick.specs.Choice.{is_chosen, candidate_at_rank}

-- the task that runs on each CPU, none for idle
abbrev pub Places : Type 0
Places = List (Option ℕ)

-- 1 where a task runs
abbrev pub count_occupant : Option ℕ → ℕ
count_occupant None = 0
count_occupant (Some n) = 1

-- the word has a mark for each CPU on which a task runs
abbrev pub AreTaken : Places → ℕ → Type 0
AreTaken places marks =
    (cpu : ℕ) → bit_at marks cpu ≡ count_occupant (slice_index_or places cpu None)

-- no task runs on two CPUs
abbrev pub AreSingle : Places → Type 0
AreSingle places =
    (a b n : ℕ) → slice_index_or places a None ≡ Some n → slice_index_or places b None ≡ Some n
    → a ≡ b

-- those of 1 to 64 CPUs, with the room for so many that they were opened with, so they take no
-- more; and a copy of them, from which the next choice finds which task ran there before
pub record IsPlaces (places before : Places) (capacity before_capacity marks : ℕ) : Type 0 where
  pub some : 0 < length places
  pub few : length places ≤ 64
  pub room : capacity ≡ length places
  pub before_room : before_capacity ≡ length places
  pub copied : before ≡ places
  pub taken : AreTaken places marks
  pub single : AreSingle places

-- the occupant is this task
abbrev pub is_task : ℕ → Option ℕ → Bool
is_task number None = false
is_task number (Some n) = n == number

abbrev pub is_on_cpu : ℕ → Places → Bool
is_on_cpu number places = list_any (is_task number) places

abbrev pub is_chosen_number : ℕ → List Candidate → ℕ → Bool
is_chosen_number cpus ready number =
    list_any (λ c. c.number == number && is_chosen cpus ready c) ready

-- an occupant that is chosen stays
abbrev pub kept_if_chosen : ℕ → List Candidate → Option ℕ → Option ℕ
kept_if_chosen cpus ready None = None
kept_if_chosen cpus ready (Some n) = if is_chosen_number cpus ready n then Some n else None

abbrev pub is_free : Option (Option ℕ) → Bool
is_free None = false
is_free (Some occupant) = is_none occupant

-- the CPU for a task that runs nowhere: the one to which it belongs where that is free, else the
-- lowest free one
abbrev pub cpu_for : Places → Candidate → Option ℕ
cpu_for places c =
    if is_free (slice_get places c.home) then Some c.home
    else position (λ occupant. is_none occupant) places

abbrev pub put : Places → ℕ → Option ℕ → Places
put places number None = places
put places number (Some cpu) = slice_set places cpu (Some number)

abbrev pub assigned : Places → Candidate → Places
assigned places c =
    if is_on_cpu c.number places then places else put places c.number (cpu_for places c)

abbrev pub assigned_if : Places → Option Candidate → Places
assigned_if places None = places
assigned_if places (Some c) = assigned places c

-- the tasks before which 0, 1, .. others are, one after another
abbrev pub assigned_upto : List Candidate → Places → ℕ → Places
assigned_upto ready places zero = places
assigned_upto ready places (suc r) =
    assigned_if (assigned_upto ready places r) (candidate_at_rank ready r)

-- those that stay, and then the other chosen ones in the order of the choice
abbrev pub placed : ℕ → List Candidate → Places → Places
placed cpus ready before = assigned_upto ready (map (kept_if_chosen cpus ready) before) cpus
