-- The report of two texts (own).
use Rattle.std.specs.Prelude.{◌≡◌, ℕ, suc, ℤ, pos, negsuc, ◌-◌, min, List, length}
use Rattle.std.specs.Option.{option_map}
use Rattle.trace_compare.specs.declared.clock.ClockShift.{ClockShift}
use Rattle.trace_compare.specs.declared.task.TaskRuns.{TaskRuns}
use Rattle.trace_compare.specs.declared.comparing.Compared.{Compared}
use Rattle.trace_compare.specs.Clocks.{time_limit}
use Rattle.trace_compare.specs.Tasks.{IsNoise, AreTasksOf}
use Rattle.trace_compare.specs.Compared.{IsCompared}
use Rattle.trace_compare.specs.Differences.{first_start, last_end}
use Rattle.compare_report.specs.declared.finding.Finding.{Finding}
use Rattle.compare_report.specs.declared.options.CompareOptions.{CompareOptions}
use Rattle.compare_report.specs.Findings.{AreFindings}
use Rattle.compare_report.specs.declared.tally.Tally.{Tally}
use Rattle.compare_report.specs.Tally.{tally_of}
use Rattle.compare_report.specs.Text.{IsTextOf}
use Rattle.compare_report.specs.Reading.{Pair}

-- a shift that is asked for, within the limit of times
abbrev pub asked_shift : ℤ → ClockShift
asked_shift (pos n) = record { ahead = min n (time_limit - 1); behind = 0 }
asked_shift (negsuc n) = record { ahead = 0; behind = min (suc n) time_limit }

-- the tasks are the model's; their runs in both texts are compared under the shift that was asked
-- for, or the best; what is told is of these, and the total is that of what is told
pub record IsReport (asked : CompareOptions) (p : Pair) (text : List ℕ) (tally : Tally)
    : Type 0 where
  pub noise : ℕ
  pub is_noise : IsNoise asked.noise p.model p.many noise
  pub tasks : List TaskRuns
  pub are_tasks : AreTasksOf noise p.model p.recorded p.many tasks
  pub compared : Compared
  pub is_compared : IsCompared asked.within (option_map asked_shift asked.shift) tasks compared
  pub findings : List Finding
  pub are_findings : AreFindings compared.shift (first_start tasks)
      (last_end tasks) p.names tasks compared.tasks.items (length tasks) findings
  pub counted : tally ≡ tally_of findings
  pub is_text : IsTextOf asked.cpus compared.shift tally findings text
