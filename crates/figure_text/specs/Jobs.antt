-- The jobs of all tasks, as a text (own): by domain, by task, and in their order.
use Rattle.std.specs.Prelude.{ℕ, ◌-◌, List, ◌++◌, flat_map, Option, Some, None, codes, decimal, pos, ◌-ℤ◌}
use Rattle.std.specs.Fmt.{signed_decimal}
use Rattle.run_figures.specs.declared.job.Job.{Job}
use Rattle.run_figures.specs.TaskJobsView.{TaskJobsView}
use Rattle.switch_text.specs.Names.{name_of_task}
use Rattle.figure_text.specs.declared.jobs.DomainJobs.{DomainJobs}
use Rattle.draft.specs.Columns.{right, column}
use Rattle.figure_text.specs.Columns.{pid}
use Rattle.run_figures.specs.Lines.{numbered_lines}

abbrev pub job_header : List ℕ
job_header = codes
    "#          task    pid    job     release         end    response       slack throttled\n"

-- when it ended, how long it took, and how far its end is before its deadline
abbrev pub end_columns : Job → Option ℕ → List ℕ
end_columns j None = column 11 (codes "-") ++ (column 11 (codes "-") ++ column 11 (codes "-"))
end_columns j (Some end) =
    column 11 (decimal end)
    ++ (column 11 (decimal (end - j.release))
    ++ column 11 (signed_decimal (pos j.deadline -ℤ pos end)))

-- whose job it is, and which of its jobs
abbrev pub job_name : List ℕ → ℕ → ℕ → List ℕ
job_name name number place =
    right 15 name ++ (column 6 (pid number) ++ column 6 (decimal place))

abbrev pub job_line : List ℕ → ℕ → ℕ → Job → List ℕ
job_line name number place j =
    job_name name number place
    ++ (column 11 (decimal j.release)
    ++ (end_columns j j.ended ++ (column 9 (decimal j.throttled) ++ codes "\n")))

-- the first job of a task is job 0
abbrev pub task_job_lines : (ℕ → List ℕ) → TaskJobsView → List ℕ
task_job_lines names t = numbered_lines (job_line (names t.number) t.number) 0 t.jobs

-- one domain: the names of its tasks by number, and their jobs
pub record JobsView : Type 0 where
  pub names : ℕ → List ℕ
  pub tasks : List TaskJobsView

abbrev pub jobs_view_of : DomainJobs → JobsView
jobs_view_of d = record { names = name_of_task d.names.now; tasks = d.tasks.now }

abbrev pub domain_job_lines : JobsView → List ℕ
domain_job_lines d = flat_map (task_job_lines d.names) d.tasks

abbrev pub jobs_text : List JobsView → List ℕ
jobs_text domains = job_header ++ flat_map domain_job_lines domains
