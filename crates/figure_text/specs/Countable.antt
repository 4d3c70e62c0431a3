-- When the text of jobs can be counted for certain (own).
use Rattle.std.specs.Prelude.{ℕ, ◌≤◌, List, length, All}
use Rattle.std.specs.List.{sum_by}
use Rattle.run_figures.specs.TaskJobsView.{TaskJobsView}
use Rattle.figure_text.specs.Jobs.{JobsView}

-- no name has more than 256 bytes
abbrev pub HasShortNames : JobsView → Type 0
HasShortNames d = All (λ t. length (d.names t.number) ≤ 256) d.tasks

-- how many jobs a domain has
abbrev pub count_of_tasks : List TaskJobsView → ℕ
count_of_tasks tasks = sum_by (λ t. length t.jobs) tasks

abbrev pub count_of_jobs : JobsView → ℕ
count_of_jobs d = count_of_tasks d.tasks
