-- What an import answers, and what it leaves (own).
use Rattle.std.specs.Prelude.{◌≡◌, ℕ, false, true, List, [], Some, IfSome}
use Rattle.std.specs.Option.{option_map_or}
use Rattle.std.specs.Prelude.{slice_get}
use Rattle.std.specs.Io.KnownBytes.{Appends}
use Rattle.counted_io.specs.Sides.{Side, HasNoFault, HasOneFault, IsUntouched}
use Rattle.counted_io.specs.Faults.{TakesFront}
use Rattle.recorded_jobs.specs.declared.moment.Moment.{Moment}
use Rattle.recorded_moments.specs.Moments.{first_bad_event}
use Rattle.tasks_text.specs.declared.task.Task.{Task}
use Rattle.tasks_text.specs.Tasks.{tasks_spelling, IsTaskList}
use Rattle.tasks_text.specs.BadLine.{IsBadTaskLine}
use Rattle.recorded_workload.specs.declared.fault.WorkloadFault.{WorkloadFault}
use Rattle.recorded_workload.specs.declared.fault.WorkloadFault.TheVariants as workload
use Rattle.recorded_workload.specs.Refusals.{workload_refused}
use Rattle.recording_import.specs.declared.options.ImportOptions.{ImportOptions}
use Rattle.recording_import.specs.declared.fault.ImportInput.{ImportInput}
use Rattle.recording_import.specs.declared.fault.ImportInput.TheVariants.{Tasks, Recorded}
use Rattle.recording_import.specs.declared.fault.ImportFault.{ImportFault}
use Rattle.recording_import.specs.declared.fault.ImportFault.TheVariants.{BadLine, NoSwitch, NoTask, ManyJobs, LongSleep, ManyCpus, LongRecording, Read, Write, Memory}
use Rattle.recording_import.specs.Import.{shape_of, has_switch, AreInputs, IsWorkloadText}

-- what an import met: the readers of both texts and the writer, each before the call and after it
pub record ImportStreams : Type 0 where
  pub tasks : Side
  pub recorded : Side
  pub writer : Side

abbrev pub import_streams : Side → Side → Side → ImportStreams
import_streams tasks recorded writer =
    record { tasks = tasks; recorded = recorded; writer = writer }

-- both texts were read to their ends, and are those of these tasks and moments
pub record AreBothRead (o : ImportOptions) (s : ImportStreams) (tasks : List Task)
    (moments : List Moment) : Type 0 where
  pub inputs : AreInputs o s.tasks.before.bytes s.recorded.before.bytes tasks moments
  pub no_tasks_fault : HasNoFault s.tasks
  pub no_recorded_fault : HasNoFault s.recorded

-- the calls text of the two texts that were read
pub record IsImportOf (o : ImportOptions) (s : ImportStreams) (text : List ℕ) : Type 0 where
  pub tasks : List Task
  pub moments : List Moment
  pub read : AreBothRead o s tasks moments
  pub is_text : IsWorkloadText o tasks moments text

-- it was written, and nothing else
pub record IsImportWritten (o : ImportOptions) (s : ImportStreams) : Type 0 where
  pub text : List ℕ
  pub import : IsImportOf o s text
  pub written : Appends s.writer.before.bytes s.writer.after.bytes text
  pub writes : HasNoFault s.writer

-- ---- faults

-- the tasks file was read to its end, and is one
pub record IsTasksFile (s : Side) : Type 0 where
  pub tasks : List Task
  pub are_tasks : IsTaskList tasks
  pub is_text : IfSome s.before.bytes (λ text. text ≡ tasks_spelling tasks)
  pub no_fault : HasNoFault s

abbrev pub input_reader : ImportInput → ImportStreams → Side
input_reader Tasks s = s.tasks
input_reader Recorded s = s.recorded

-- the tasks file is read first, and the recording only then
abbrev pub AreReadInOrder : ImportInput → ImportStreams → Type 0
AreReadInOrder Tasks s = IsUntouched s.recorded
AreReadInOrder Recorded s = IsTasksFile s.tasks

abbrev pub IsBadLineOf : ImportInput → List ℕ → ℕ → Type 0
IsBadLineOf Tasks text n = IsBadTaskLine text n
IsBadLineOf Recorded text n = first_bad_event text ≡ Some n

-- the text has this first bad line
pub record HasBadInputLine (input : ImportInput) (n : ℕ) (s : Side) : Type 0 where
  pub bad : IfSome s.before.bytes (λ text. IsBadLineOf input text n)
  pub no_fault : HasNoFault s

-- reading stopped at a text, of which this holds; nothing was written
pub record StopsAtInput (input : ImportInput) (holds : Side → Type 0) (s : ImportStreams)
    : Type 0 where
  pub here : holds (input_reader input s)
  pub order : AreReadInOrder input s
  pub unwritten : IsUntouched s.writer

-- no switch counts; nothing was written
pub record HasNoSwitchToImport (o : ImportOptions) (s : ImportStreams) : Type 0 where
  pub tasks : List Task
  pub moments : List Moment
  pub read : AreBothRead o s tasks moments
  pub no_switch : has_switch moments ≡ false
  pub unwritten : IsUntouched s.writer

-- the name of a task, by its number
abbrev pub task_name_at : List Task → ℕ → List ℕ
task_name_at tasks n = option_map_or (λ t. t.name) (slice_get tasks n) []

-- as a fault of the import
abbrev pub fault_named : List Task → WorkloadFault → ImportFault
fault_named tasks workload.NoTask = NoTask
fault_named tasks (workload.ManyJobs task jobs) = ManyJobs (task_name_at tasks task) jobs
fault_named tasks (workload.LongSleep task) = LongSleep (task_name_at tasks task)
fault_named tasks (workload.ManyCpus cpus) = ManyCpus cpus
fault_named tasks workload.LongRecording = LongRecording
fault_named tasks workload.Memory = Memory

-- there is no workload, by this refusal, which is the first; nothing was written
pub record IsImportRefused (o : ImportOptions) (s : ImportStreams) (fault : ImportFault)
    : Type 0 where
  pub tasks : List Task
  pub moments : List Moment
  pub read : AreBothRead o s tasks moments
  pub switches : has_switch moments ≡ true
  pub refusal : WorkloadFault
  pub refused : workload_refused moments tasks (shape_of o) ≡ Some refusal
  pub named : fault ≡ fault_named tasks refusal
  pub unwritten : IsUntouched s.writer

-- the writer failed: exactly so many bytes of the text were taken, and not all
pub record IsImportCutOff (o : ImportOptions) (s : ImportStreams) (written : ℕ) : Type 0 where
  pub text : List ℕ
  pub import : IsImportOf o s text
  pub taken : TakesFront s.writer.before.bytes s.writer.after.bytes text written
  pub writes : HasOneFault s.writer

-- memory was refused, and nothing was written
pub record IsImportOutOfMemory (s : ImportStreams) : Type 0 where
  pub tasks : HasNoFault s.tasks
  pub recorded : HasNoFault s.recorded
  pub unwritten : IsUntouched s.writer

-- a fault is what was met
abbrev pub IsImportFault : ImportOptions → ImportStreams → ImportFault → Type 0
IsImportFault o s (BadLine input n) = StopsAtInput input (HasBadInputLine input n) s
IsImportFault o s NoSwitch = HasNoSwitchToImport o s
IsImportFault o s NoTask = IsImportRefused o s NoTask
IsImportFault o s (ManyJobs name jobs) = IsImportRefused o s (ManyJobs name jobs)
IsImportFault o s (LongSleep name) = IsImportRefused o s (LongSleep name)
IsImportFault o s (ManyCpus cpus) = IsImportRefused o s (ManyCpus cpus)
IsImportFault o s LongRecording = IsImportRefused o s LongRecording
IsImportFault o s (Read input) = StopsAtInput input HasOneFault s
IsImportFault o s (Write written) = IsImportCutOff o s written
IsImportFault o s Memory = IsImportOutOfMemory s
