-- The choice, while those who wait are looked at one after another: some stay where they run, some
-- have been chosen and run nowhere, and the others wait.
use Rattle.std.specs.Prelude.{ℕ, ◌≡◌, ◌≢◌, ◌≤◌, ◌+◌, ◌*◌, ◌^◌, ◌⊎◌, ◌++◌, true, false, if◌then◌else◌, List, [], ◌∷◌, length, slice_set, All, AllPairs, Option, Some}
use Rattle.std.specs.List.{sum_by}
use Rattle.edf_pick.specs.declared.candidate.Candidate.{Candidate}
use Rattle.edf_pick.specs.Choice.{is_before}
use Rattle.edf_pick.specs.Order.{IsRising}
use Rattle.edf_pick.specs.Places.{Places, is_on_cpu}
use Rattle.edf_pick.specs.Schedule.{IsAtHome}
use Rattle.edf_pick.specs.Changes.{is_home}
use Rattle.edf_pick.specs.private.Ready.{all_held, AreOn}

-- a task that has been chosen stays where it runs
abbrev pub chosen_stays : Places → Candidate → List (Option Candidate) → List (Option Candidate)
chosen_stays places c stays = if is_home places c then slice_set stays c.home (Some c) else stays

-- one that runs nowhere is a mover
abbrev pub chosen_movers : Places → Candidate → List Candidate → List Candidate
chosen_movers places c movers = if is_home places c then movers else movers ++ c ∷ []

-- the movers rise, run nowhere and are before all who wait; there are no more chosen tasks than
-- CPUs
pub record IsChoosing (stays : List (Option Candidate)) (movers ready_rest : List Candidate)
    (places : Places) : Type 0 where
  pub len : length stays ≡ length places
  pub numbered : AllPairs (λ a b. a.number ≢ b.number) (all_held stays ++ (movers ++ ready_rest))
  pub on : AreOn stays places
  pub away : All (λ c. is_on_cpu c.number places ≡ false) movers
  pub homed : All (IsAtHome places) ready_rest
  pub rising : IsRising movers
  pub waits : IsRising ready_rest
  pub before : All (λ a. All (λ b. is_before a b ≡ true) ready_rest) movers
  pub few : length (all_held stays) + length movers ≤ length places

-- nobody waits, or each CPU has a chosen task
abbrev pub AreAllAssigned : List (Option Candidate) → List Candidate → List Candidate → Places
    → Type 0
AreAllAssigned stays movers ready_rest places =
    (ready_rest ≡ []) ⊎ (length (all_held stays) + length movers ≡ length places)

-- the chosen tasks are before all who wait
abbrev pub AreBefore : List Candidate → List Candidate → Type 0
AreBefore chosen ready_rest = All (λ a. All (λ b. is_before a b ≡ true) ready_rest) chosen

-- the choice is made
pub record IsChosen (stays : List (Option Candidate)) (movers ready_rest : List Candidate)
    (places : Places) : Type 0 where
  pub choosing : IsChoosing stays movers ready_rest places
  pub all : AreAllAssigned stays movers ready_rest places
  pub first : AreBefore (all_held stays) ready_rest

-- deadlines and numbers, as one number: it falls where a chosen task gives way to an earlier one
abbrev pub total : List Candidate → ℕ
total chosen = sum_by (λ c. c.deadline * 2 ^ 64 + c.number) chosen
