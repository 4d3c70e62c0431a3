-- How an import ends: what is said on standard error, and the exit status (own).
use Rattle.std.specs.Prelude.{◌≡◌, ℕ, List, [], ◌∷◌, ◌++◌, Result, Ok, Err, codes, decimal}
use Rattle.one_line.specs.Shown.{shown}
use Rattle.recording_import.specs.declared.fault.ImportFault.{ImportFault}
use Rattle.recording_import.specs.declared.fault.ImportFault.TheVariants.{BadLine, NoSwitch, NoTask, ManyJobs, LongSleep, ManyCpus, LongRecording, Read, Write, Memory}
use Rattle.recording_import.specs.declared.fault.ImportInput.{ImportInput}
use Rattle.recording_import.specs.declared.fault.ImportInput.TheVariants.{Tasks, Recorded}
use Rattle.recording_import.specs.declared.ending.InputNames.{InputNames}
use Rattle.recording_import.specs.declared.ending.ImportEnding.{ImportEnding}
use Rattle.recording_import.specs.declared.ending.ImportEnding.TheVariants.{Done, BothStdin, NotOpened, Fault}

abbrev pub import_input_name : InputNames → ImportInput → List ℕ
import_input_name names Tasks = names.tasks.now
import_input_name names Recorded = names.recorded.now

-- the words before the number of a bad line
abbrev pub line_words : ImportInput → List ℕ
line_words Tasks = codes "tasks line "
line_words Recorded = codes "trace line "

-- the text of a fault: one line, without the program's name and the LF
abbrev pub import_text : ImportFault → InputNames → List ℕ
import_text (BadLine input line) names =
    line_words input ++ (decimal line ++ (codes " in " ++ shown (import_input_name names input)))
import_text NoSwitch names = codes "no switch in " ++ shown names.recorded.now
import_text NoTask names =
    codes "no task of " ++ (shown names.tasks.now ++ (codes " in " ++ shown names.recorded.now))
import_text (ManyJobs name jobs) names =
    codes "task " ++ (name ++ (codes " has " ++ (decimal jobs ++ codes " jobs")))
import_text (LongSleep name) names = codes "task " ++ (name ++ codes " sleeps too long")
import_text (ManyCpus cpus) names = decimal cpus ++ codes " CPUs"
import_text LongRecording names = codes "more than 45 days in " ++ shown names.recorded.now
import_text (Read input) names = codes "read failed in " ++ shown (import_input_name names input)
import_text (Write written) names = codes "write failed after " ++ decimal written
import_text Memory names = codes "out of memory"

-- a text as a line of its own
abbrev pub as_import_line : List ℕ → List ℕ
as_import_line text = text ++ (10 ∷ [])

-- what is said on standard error
abbrev pub import_end_text : ImportEnding → List ℕ
import_end_text Done = []
import_end_text BothStdin = as_import_line (codes "dlsim: both inputs are standard input")
import_end_text (NotOpened name) = as_import_line (codes "dlsim: cannot open " ++ shown name.now)
import_end_text (Fault fault names) = as_import_line (codes "dlsim: " ++ import_text fault names)

-- 1 if a text is none, or has no workload; 3 if reading or writing failed; 4 for want of memory
abbrev pub import_fault_status : ImportFault → ℕ
import_fault_status (BadLine input line) = 1
import_fault_status NoSwitch = 1
import_fault_status NoTask = 1
import_fault_status (ManyJobs name jobs) = 1
import_fault_status (LongSleep name) = 1
import_fault_status (ManyCpus cpus) = 1
import_fault_status LongRecording = 1
import_fault_status (Read input) = 3
import_fault_status (Write written) = 3
import_fault_status Memory = 4

-- 0 if the text was written, 2 for wrong words, 3 for a file that was not opened
abbrev pub import_end_status : ImportEnding → ℕ
import_end_status Done = 0
import_end_status BothStdin = 2
import_end_status (NotOpened name) = 3
import_end_status (Fault fault names) = import_fault_status fault

-- an import that answered Ok ends with no line, another one with its fault
abbrev pub IsEndOfImport : Result (Unit {0}) ImportFault → InputNames → ImportEnding → Type 0
IsEndOfImport (Ok done) names ending = ending ≡ Done
IsEndOfImport (Err fault) names ending = ending ≡ Fault fault names
