-- Worked rows of the choice and the placement.
use Rattle.std.specs.Prelude.{ℕ, ◌≡◌, [], ◌∷◌, map, Some, None, refl}
use Rattle.edf_pick.specs.declared.candidate.Candidate.{Candidate}
use Rattle.edf_pick.specs.Changes.{with_home}
use Rattle.edf_pick.specs.Moves.{moved_from}
use Rattle.edf_pick.specs.Order.{without_candidate, by_deadline}
use Rattle.edf_pick.specs.Places.{placed}

abbrev ready : ℕ → ℕ → ℕ → Candidate
ready deadline number home = record { deadline = deadline; number = number; home = home }

-- of three with one deadline the two with the smaller numbers, each on its own CPU; the order of
-- the list means nothing
two_of_three : placed 2 (ready 8 3 1 ∷ ready 8 2 0 ∷ ready 8 1 1 ∷ []) (None ∷ None ∷ [])
    ≡ Some 2 ∷ Some 1 ∷ []
two_of_three = refl

-- an earlier deadline goes before a smaller number
earlier_first : placed 1 (ready 8 1 0 ∷ ready 7 2 0 ∷ []) (Some 1 ∷ []) ≡ Some 2 ∷ []
earlier_first = refl

-- a chosen task stays where it ran, though another of an earlier deadline belongs there; that one
-- goes to the lowest free CPU
chosen_stays : placed 3 (ready 5 1 2 ∷ ready 8 2 0 ∷ []) (None ∷ None ∷ Some 2 ∷ [])
    ≡ Some 1 ∷ None ∷ Some 2 ∷ []
chosen_stays = refl

-- of two that belong to one CPU the first of the choice has it
first_has_it : placed 2 (ready 8 1 1 ∷ ready 7 2 1 ∷ []) (None ∷ None ∷ []) ≡ Some 1 ∷ Some 2 ∷ []
first_has_it = refl

-- who is not ready runs nowhere
nobody : placed 2 [] (Some 1 ∷ Some 2 ∷ []) ≡ None ∷ None ∷ []
nobody = refl

-- the earliest deadline first, ties by number
in_order : by_deadline (ready 8 2 0 ∷ ready 5 7 1 ∷ ready 8 1 0 ∷ [])
    ≡ ready 5 7 1 ∷ ready 8 1 0 ∷ ready 8 2 0 ∷ []
in_order = refl

-- who is taken out is known by deadline and number, wherever it belongs
taken_out : without_candidate (ready 8 1 3) (ready 5 7 1 ∷ ready 8 1 0 ∷ ready 8 2 0 ∷ [])
    ≡ ready 5 7 1 ∷ ready 8 2 0 ∷ []
taken_out = refl

-- the CPUs that another one has, in their order, and which task ran there before: task 4 has gone
-- from CPU 1, and task 2 has come to CPU 2, which was idle
two_moved : moved_from 0 (Some 1 ∷ Some 4 ∷ None ∷ []) (Some 1 ∷ None ∷ Some 2 ∷ [])
    ≡ record { cpu = 1; before = Some 4 } ∷ record { cpu = 2; before = None } ∷ []
two_moved = refl

-- the task that runs belongs to that CPU, and a task that runs nowhere to the one that it had
each_home : map (with_home (None ∷ Some 2 ∷ [])) (ready 5 2 0 ∷ ready 8 1 0 ∷ [])
    ≡ ready 5 2 1 ∷ ready 8 1 0 ∷ []
each_home = refl
