-- Those who stay on the CPU where they run, apart from those who wait.
use Rattle.std.specs.Prelude.{ℕ, ◌≡◌, ◌≢◌, ◌++◌, List, [], ◌∷◌, map, length, slice_index_or, All, AllPairs, Option, Some, None, Bool, false}
use Rattle.std.specs.List.Sorted.{IsPermutation}
use Rattle.edf_pick.specs.declared.candidate.Candidate.{Candidate}
use Rattle.edf_pick.specs.Order.{is_same, has_candidate, without_candidate, by_deadline}
use Rattle.edf_pick.specs.Places.{Places}
use Rattle.edf_pick.specs.Schedule.{IsAtHome}
use Rattle.edf_pick.specs.private.First.{assigned_all}

-- the tasks that stay, CPU by CPU
abbrev pub all_held : List (Option Candidate) → List Candidate
all_held [] = []
all_held (None ∷ stays) = all_held stays
all_held (Some c ∷ stays) = c ∷ all_held stays

-- who stays on a CPU, as its occupant
abbrev pub candidate_number : Option Candidate → Option ℕ
candidate_number None = None
candidate_number (Some c) = Some c.number

-- the occupants that stay; on another CPU nobody
abbrev pub running_places : List (Option Candidate) → Places
running_places stays = map candidate_number stays

-- a task, wherever it belongs
abbrev pub without_home : Candidate → Candidate
without_home c = record c { home = 0 }

-- all tasks, in the order of the choice
abbrev pub all_ready : List (Option Candidate) → List Candidate → List Candidate
all_ready stays ready_rest = by_deadline (all_held stays ++ ready_rest)

-- who stays on a CPU belongs to it and runs there
abbrev pub AreOn : List (Option Candidate) → Places → Type 0
AreOn stays places = (cpu : ℕ) (c : Candidate) → slice_index_or stays cpu None ≡ Some c
    → (c.home ≡ cpu) × (slice_index_or places cpu None ≡ Some c.number)

-- as many CPUs as places, no two tasks have one number, who stays runs at home, and who waits and
-- runs does so at home
pub record IsReady (stays : List (Option Candidate)) (ready_rest : List Candidate) (places : Places)
    : Type 0 where
  pub len : length stays ≡ length places
  pub numbered : AllPairs (λ a b. a.number ≢ b.number) (all_held stays ++ ready_rest)
  pub on : AreOn stays places
  pub homed : All (IsAtHome places) ready_rest

-- some of the movers have got their CPUs, one after another: each has the CPU on which it runs then
pub record AreAssigned (stays : List (Option Candidate)) (movers : List Candidate)
    (now : List (Option Candidate)) (places : Places) : Type 0 where
  pub len : length now ≡ length stays
  pub assigned : places ≡ assigned_all movers (running_places stays)
  pub running : running_places now ≡ places
  pub on : AreOn now places
  pub same : IsPermutation (map without_home (all_held now))
      (map without_home (all_held stays ++ movers))

-- the task of the deadline and the number of c stays there
abbrev pub is_there : Candidate → Option Candidate → Bool
is_there c None = false
is_there c (Some d) = is_same d c

-- the task of the deadline and the number of c is there no more, and it is known whether it was;
-- who stays and who waits is at home as before
pub record HasLeftReady (c : Candidate) (stays : List (Option Candidate))
    (ready_rest : List Candidate)
    (now : List (Option Candidate)) (rest : List Candidate) (was : Bool) : Type 0 where
  pub all : all_ready now rest ≡ without_candidate c (all_ready stays ready_rest)
  pub there : was ≡ has_candidate c (all_ready stays ready_rest)
  pub is : (places : Places) → IsReady stays ready_rest places → IsReady now rest places
