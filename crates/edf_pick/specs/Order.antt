-- The ready tasks in the order of the choice.
use Rattle.std.specs.Prelude.{Bool, not, ◌&&◌, ◌==◌, if◌then◌else◌, List, [], ◌∷◌, filter, AllPairs, IsTrue}
use Rattle.std.specs.List.{list_any}
use Rattle.edf_pick.specs.declared.candidate.Candidate.{Candidate}
use Rattle.edf_pick.specs.Choice.{is_before}

-- each task is before every later one
abbrev pub IsRising : List Candidate → Type 0
IsRising queue = AllPairs (λ a b. IsTrue (is_before a b)) queue

-- the same deadline and number: one place in the order
abbrev pub is_same : Candidate → Candidate → Bool
is_same a b = a.deadline == b.deadline && a.number == b.number

abbrev pub has_candidate : Candidate → List Candidate → Bool
has_candidate c queue = list_any (λ a. is_same a c) queue

-- with one more, after those that are before it
abbrev pub with_candidate : Candidate → List Candidate → List Candidate
with_candidate c [] = c ∷ []
with_candidate c (a ∷ queue) = if is_before a c then a ∷ with_candidate c queue else c ∷ a ∷ queue

-- without the one at its place
abbrev pub without_candidate : Candidate → List Candidate → List Candidate
without_candidate c queue = filter (λ a. not (is_same a c)) queue

-- the same tasks, each in its place
abbrev pub by_deadline : List Candidate → List Candidate
by_deadline [] = []
by_deadline (c ∷ candidates) = with_candidate c (by_deadline candidates)
