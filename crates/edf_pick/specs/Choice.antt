-- Which tasks run: the first M by deadline (sched-deadline.rst, "Main algorithm"; ties by number
-- are own).
use Rattle.std.specs.Prelude.{ℕ, Bool, ◌&&◌, ◌||◌, ◌==◌, nat_lt, List, count_by, find, Option}
use Rattle.edf_pick.specs.declared.candidate.Candidate.{Candidate}

-- an earlier deadline, or the same and a smaller number
abbrev pub is_before : Candidate → Candidate → Bool
is_before a b =
    nat_lt a.deadline b.deadline || (a.deadline == b.deadline && nat_lt a.number b.number)

-- how many ready tasks are before this one
abbrev pub rank : List Candidate → Candidate → ℕ
rank ready c = count_by (λ a. is_before a c) ready

-- fewer than M ready tasks are before it
abbrev pub is_chosen : ℕ → List Candidate → Candidate → Bool
is_chosen cpus ready c = nat_lt (rank ready c) cpus

-- the ready task before which so many are
abbrev pub candidate_at_rank : List Candidate → ℕ → Option Candidate
candidate_at_rank ready r = find (λ c. rank ready c == r) ready
