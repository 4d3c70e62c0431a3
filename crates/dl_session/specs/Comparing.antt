-- How a comparison of two traces ends: what is said on standard error, and the exit status (own).
use Rattle.std.specs.Prelude.{◌≡◌, ℕ, if◌then◌else◌, List, [], ◌++◌, Option, Some, None, Result, Ok, Err, codes, decimal}
use Rattle.one_line.specs.Shown.{shown}
use Rattle.compare_report.specs.declared.fault.CompareFault.{CompareFault}
use Rattle.compare_report.specs.declared.fault.CompareFault.TheVariants.{BadLine, NoSwitch, Read, Endless, Write, Memory}
use Rattle.compare_report.specs.declared.fault.Input.{Input}
use Rattle.compare_report.specs.declared.tally.Tally.{Tally}
use Rattle.compare_report.specs.Table.{tally_text}
use Rattle.compare_report.specs.Tally.{is_under}
use Rattle.compare_report.specs.declared.fault.Input.TheVariants.{Model, Recorded}
use Rattle.dl_session.specs.Ending.{as_line}
use Rattle.dl_session.specs.declared.comparing.TraceNames.{TraceNames}
use Rattle.dl_session.specs.declared.comparing.ComparisonEnding.{ComparisonEnding}
use Rattle.dl_session.specs.declared.comparing.ComparisonEnding.TheVariants.{Done, FewMatch, BothStdin, NotOpened, Fault}

abbrev pub input_name : TraceNames → Input → List ℕ
input_name names Model = names.model.now
input_name names Recorded = names.recorded.now

-- the text of a fault: one line, without the program's name and the LF
abbrev pub compare_text : CompareFault → TraceNames → List ℕ
compare_text (BadLine input line) names =
    codes "trace line " ++ (decimal line ++ (codes " in " ++ shown (input_name names input)))
compare_text (NoSwitch input) names = codes "no switch in " ++ shown (input_name names input)
compare_text (Read input) names = codes "read failed in " ++ shown (input_name names input)
compare_text (Endless input) names = codes "read failed in " ++ shown (input_name names input)
compare_text (Write written) names = codes "write failed after " ++ decimal written
compare_text Memory names = codes "out of memory"

-- how many of the model's runs match
abbrev pub few_text : Tally → List ℕ
few_text tally = tally_text tally ++ codes " match"

-- what is said on standard error
abbrev pub comparison_text : ComparisonEnding → List ℕ
comparison_text Done = []
comparison_text (FewMatch tally) = as_line (codes "dlsim: " ++ few_text tally)
comparison_text BothStdin = as_line (codes "dlsim: both traces are standard input")
comparison_text (NotOpened name) = as_line (codes "dlsim: cannot open " ++ shown name.now)
comparison_text (Fault fault names) = as_line (codes "dlsim: " ++ compare_text fault names)

-- 1 for a trace that is none; 3 where reading or writing failed; 4 for want of memory
abbrev pub compare_status : CompareFault → ℕ
compare_status (BadLine input line) = 1
compare_status (NoSwitch input) = 1
compare_status (Read input) = 3
compare_status (Endless input) = 3
compare_status (Write written) = 3
compare_status Memory = 4

-- 0 where the report was written, 2 for wrong words, 3 for a file that was not opened, 5 where it
-- was written and too few runs matched
abbrev pub comparison_status : ComparisonEnding → ℕ
comparison_status Done = 0
comparison_status (FewMatch tally) = 5
comparison_status BothStdin = 2
comparison_status (NotOpened name) = 3
comparison_status (Fault fault names) = compare_status fault

-- a report with this total ends with no line, unless so many per cent of the model's runs had to
-- match, and fewer did
abbrev pub end_of_tally : Option ℕ → Tally → ComparisonEnding
end_of_tally None tally = Done
end_of_tally (Some percent) tally = if is_under percent tally then FewMatch tally else Done

-- a comparison that answered Ok ends by its total, another one with its fault
abbrev pub IsEndOfComparison : Result Tally CompareFault → Option ℕ → TraceNames → ComparisonEnding
    → Type 0
IsEndOfComparison (Ok tally) asked names ending = ending ≡ end_of_tally asked tally
IsEndOfComparison (Err fault) asked names ending = ending ≡ Fault fault names
