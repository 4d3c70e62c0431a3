-- Matchings that belong to tasks, and the report of these. No public clause names it.
use Rattle.std.specs.Prelude.{◌≡◌, ℕ, ◌<◌, Bool, List, length, slice_index_or}
use Rattle.compare_report.specs.declared.tally.Tally.{Tally}
use Rattle.compare_report.specs.Tally.{tally_of}
use Rattle.trace_compare.specs.declared.comparing.Compared.{Compared}
use Rattle.trace_compare.specs.Differences.{first_start, last_end}
use Rattle.compare_report.specs.declared.finding.Finding.{Finding}
use Rattle.compare_report.specs.Findings.{AreFindings}
use Rattle.compare_report.specs.Text.{IsTextOf}
use Rattle.trace_compare.specs.declared.task.TaskRuns.{TaskRuns}
use Rattle.trace_compare.specs.declared.pairs.Matching.{Matching}

-- one for each task, which says of each of its runs in the model what it takes
pub record AreFitting (tasks : List TaskRuns) (matchings : List Matching) : Type 0 where
  pub as_many : length matchings ≡ length tasks
  pub each : (j : ℕ) (t : TaskRuns) (m : Matching) → j < length tasks
      → length (slice_index_or matchings j m).partners.items
      ≡ length (slice_index_or tasks j t).model.items

-- the text of what is told of these tasks, and its total
pub record IsReportOfRuns (cpus : Bool) (names : List (List ℕ)) (tasks : List TaskRuns)
    (compared : Compared) (text : List ℕ) (tally : Tally) : Type 0 where
  pub findings : List Finding
  pub are_findings : AreFindings compared.shift (first_start tasks)
      (last_end tasks) names tasks compared.tasks.items (length tasks) findings
  pub counted : tally ≡ tally_of findings
  pub is_text : IsTextOf cpus compared.shift tally findings text
