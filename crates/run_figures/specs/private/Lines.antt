-- The jobs of a task while its entries go by.
use Rattle.std.specs.Prelude.{ℕ, ◌+◌, ◌<◌, ◌≤◌, ◌≡◌, ◌^◌, ◌++◌, List, [], fold, map, All, Option, None, IfSome}
use Rattle.std.specs.Global.{Vec}
use Rattle.std.specs.Option.{option_to_list}
use Rattle.domain_run.specs.declared.happened.Happened.{Happened}
use Rattle.run_figures.specs.Jobs.{over_by, job_after}
use Rattle.run_figures.specs.TaskJobsView.{TaskJobsView}
use Rattle.run_figures.specs.private.LineView.{JobLineView}
use Rattle.run_figures.specs.Places.{if_number}

abbrev pub line_after : Happened → JobLineView → JobLineView
line_after h l = record {
  number = l.number;
  over = l.over ++ option_to_list (over_by h.time h.what l.job);
  job = job_after h.time h.what l.job;
}

abbrev pub line_if : JobLineView → Happened → JobLineView
line_if l h = if_number (λ l. l.number) h.number (line_after h) l

abbrev pub line_all : List Happened → JobLineView → JobLineView
line_all hs l = fold line_if l hs

abbrev pub no_line : ℕ → JobLineView
no_line number = record { number = number; over = []; job = None }

-- throttled at most so often
abbrev pub IsLineWithin : ℕ → JobLineView → Type 0
IsLineWithin n l = IfSome l.job (λ j. j.throttled ≤ n)

-- so much more can be logged
pub record LinesHaveRoomFor (n : ℕ) (ls : List JobLineView) : Type 0 where
  pub used : ℕ
  pub fits : used + n < 2 ^ 64
  pub within : All (IsLineWithin used) ls

-- the jobs of a task, with the one that is under way
abbrev pub closed_line : JobLineView → TaskJobsView
closed_line l = record { number = l.number; jobs = l.over ++ option_to_list l.job }

-- the jobs of tasks after all that happened
abbrev pub job_lines_of : List Happened → List ℕ → List JobLineView
job_lines_of happened numbers = map (λ n. line_all happened (no_line n)) numbers

-- these are the jobs of all tasks after all that happened, if they are kept
abbrev pub AreLinesKept : List Happened → List ℕ → Option (Vec JobLineView) → Type 0
AreLinesKept happened numbers lines = IfSome lines (λ ls. ls.items ≡ job_lines_of happened numbers)
