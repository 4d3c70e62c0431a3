-- A task belongs to the CPU on which it runs (own).
use Rattle.std.specs.Prelude.{ℕ, Bool, position, Option, Some, None, slice_index_or}
use Rattle.edf_pick.specs.declared.candidate.Candidate.{Candidate}
use Rattle.edf_pick.specs.Places.{Places, is_task}

-- a task that runs on the CPU to which it belongs
abbrev pub is_home : Places → Candidate → Bool
is_home places c = is_task c.number (slice_index_or places c.home None)

abbrev pub home_on : Candidate → Option ℕ → Candidate
home_on c None = c
home_on c (Some cpu) = record c { home = cpu }

-- a task that runs belongs to the CPU on which it runs
abbrev pub with_home : Places → Candidate → Candidate
with_home places c = home_on c (position (is_task c.number) places)
