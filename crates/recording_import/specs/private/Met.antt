-- A fault of one of the texts, and one of a workload. No public clause names it.
use Rattle.std.specs.Prelude.{◌≡◌, ℕ, List, [], ◌∷◌, None, Some}
use Rattle.counted_io.specs.Sides.{Side, HasNoFault, HasOneFault}
use Rattle.recorded_jobs.specs.declared.moment.Moment.{Moment}
use Rattle.recorded_moments.specs.Moments.{first_bad_event}
use Rattle.calls_text.specs.Spelling.{spelling}
use Rattle.calls_text.specs.RoundTrip.{IsReadAs}
use Rattle.tasks_text.specs.declared.task.Task.{Task}
use Rattle.recorded_workload.specs.Workload.{workload_of}
use Rattle.recorded_workload.specs.Refusals.{workload_refused}
use Rattle.recording_import.specs.declared.options.ImportOptions.{ImportOptions}
use Rattle.recording_import.specs.declared.fault.ImportInput.{ImportInput}
use Rattle.recording_import.specs.declared.fault.ImportFault.{ImportFault}
use Rattle.recording_import.specs.declared.fault.ImportFault.TheVariants.{BadLine, Read, Memory}
use Rattle.recording_import.specs.declared.fault.TextFault.{TextFault}
use Rattle.recording_import.specs.declared.fault.TextFault.TheVariants as text
use Rattle.recording_import.specs.Import.{shape_of}
use Rattle.recording_import.specs.Answer.{HasBadInputLine}

-- as a fault of the import
abbrev pub import_fault_of : ImportInput → TextFault → ImportFault
import_fault_of input (text.BadLine n) = BadLine input n
import_fault_of input text.Read = Read input
import_fault_of input text.Memory = Memory

-- what it says of the text and its reader
abbrev pub IsInputFault : ImportInput → Side → TextFault → Type 0
IsInputFault input s (text.BadLine n) = HasBadInputLine input n s
IsInputFault input s text.Read = HasOneFault s
IsInputFault input s text.Memory = HasNoFault s

-- what it says of the text of a recording
abbrev pub IsBadRecording : List ℕ → TextFault → Type 0
IsBadRecording bytes (text.BadLine n) = first_bad_event bytes ≡ Some n
IsBadRecording bytes text.Read = ⊥
IsBadRecording bytes text.Memory = Unit {0}

-- the text of a workload that is granted
pub record IsGrantedText (o : ImportOptions) (tasks : List Task) (moments : List Moment)
    (bytes : List ℕ) : Type 0 where
  pub granted : workload_refused moments tasks (shape_of o) ≡ None
  pub spelled : bytes ≡ spelling (workload_of moments tasks (shape_of o) ∷ [])
  pub back : IsReadAs bytes (workload_of moments tasks (shape_of o) ∷ [])
