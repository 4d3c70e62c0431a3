-- The line of a job in the order in which it is put together.
use Rattle.std.specs.Prelude.{ℕ, List, ◌++◌, codes, decimal}
use Rattle.run_figures.specs.declared.job.Job.{Job}
use Rattle.draft.specs.Columns.{column}
use Rattle.figure_text.specs.Columns.{pid}
use Rattle.figure_text.specs.Jobs.{end_columns}

-- what follows the task's name
abbrev pub after_name : ℕ → ℕ → Job → List ℕ
after_name number place j =
    ((((column 6 (pid number) ++ column 6 (decimal place)) ++ column 11 (decimal j.release))
    ++ end_columns j j.ended) ++ column 9 (decimal j.throttled)) ++ codes "\n"
