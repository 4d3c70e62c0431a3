-- The table of jobs that is written for a tasks file and a recording (own), and what is answered.
use Rattle.std.specs.Prelude.{◌≡◌, ℕ, true, List, map}
use Rattle.std.specs.Io.KnownBytes.{Appends}
use Rattle.counted_io.specs.Sides.{HasNoFault, HasOneFault}
use Rattle.counted_io.specs.Faults.{TakesFront}
use Rattle.recorded_jobs.specs.declared.moment.Moment.{Moment}
use Rattle.tasks_text.specs.declared.task.Task.{Task}
use Rattle.recorded_workload.specs.Workload.{jobs_of_all}
use Rattle.recorded_table.specs.Table.{jobs_table}
use Rattle.recording_import.specs.declared.options.ImportOptions.{ImportOptions}
use Rattle.recording_import.specs.declared.fault.ImportFault.{ImportFault}
use Rattle.recording_import.specs.declared.fault.ImportFault.TheVariants.{BadLine, NoSwitch, NoTask, ManyJobs, LongSleep, ManyCpus, LongRecording, Read, Write, Memory}
use Rattle.recording_import.specs.Import.{has_switch}
use Rattle.recording_import.specs.Answer.{ImportStreams, AreBothRead, HasBadInputLine, HasNoSwitchToImport, StopsAtInput, IsImportOutOfMemory}

-- the jobs of each task
abbrev pub table_of : List Moment → List Task → List ℕ
table_of moments tasks = jobs_table (map (λ t. t.name) tasks) (jobs_of_all moments tasks)

-- the table of the two texts that were read
pub record IsTableOf (o : ImportOptions) (s : ImportStreams) (text : List ℕ) : Type 0 where
  pub tasks : List Task
  pub moments : List Moment
  pub read : AreBothRead o s tasks moments
  pub switches : has_switch moments ≡ true
  pub is_text : text ≡ table_of moments tasks

-- it was written, and nothing else
pub record IsTableWritten (o : ImportOptions) (s : ImportStreams) : Type 0 where
  pub text : List ℕ
  pub table : IsTableOf o s text
  pub written : Appends s.writer.before.bytes s.writer.after.bytes text
  pub writes : HasNoFault s.writer

-- the writer failed: exactly so many bytes of the table were taken, and not all
pub record IsTableCutOff (o : ImportOptions) (s : ImportStreams) (written : ℕ) : Type 0 where
  pub text : List ℕ
  pub table : IsTableOf o s text
  pub taken : TakesFront s.writer.before.bytes s.writer.after.bytes text written
  pub writes : HasOneFault s.writer

-- a fault is what was met; nothing that the table shows is refused
abbrev pub IsTableFault : ImportOptions → ImportStreams → ImportFault → Type 0
IsTableFault o s (BadLine input n) = StopsAtInput input (HasBadInputLine input n) s
IsTableFault o s NoSwitch = HasNoSwitchToImport o s
IsTableFault o s NoTask = ⊥
IsTableFault o s (ManyJobs name jobs) = ⊥
IsTableFault o s (LongSleep name) = ⊥
IsTableFault o s (ManyCpus cpus) = ⊥
IsTableFault o s LongRecording = ⊥
IsTableFault o s (Read input) = StopsAtInput input HasOneFault s
IsTableFault o s (Write written) = IsTableCutOff o s written
IsTableFault o s Memory = IsImportOutOfMemory s
