-- The placement, where the chosen tasks are in a list of their own, in the order of the choice.
use Rattle.std.specs.Prelude.{ℕ, ◌==◌, Bool, if◌then◌else◌, List, fold, slice_index_or, Option, Some, None}
use Rattle.std.specs.List.{list_any}
use Rattle.edf_pick.specs.declared.candidate.Candidate.{Candidate}
use Rattle.edf_pick.specs.Places.{Places, is_task, assigned}

-- an occupant that is chosen stays
abbrev pub kept_running : List Candidate → Option ℕ → Option ℕ
kept_running chosen None = None
kept_running chosen (Some n) = if list_any (λ c. c.number == n) chosen then Some n else None

-- the chosen tasks, placed one after another
abbrev pub assigned_all : List Candidate → Places → Places
assigned_all chosen places = fold assigned places chosen
