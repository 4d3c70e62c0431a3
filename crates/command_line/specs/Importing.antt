-- What the words of `import` mean: of the name of a file or an option, clap finds a text, or none.
use Rattle.std.specs.Prelude.{◌≡◌, ◌≢◌, ◌<◌, ◌≤◌, ◌^◌, ◌-◌, ◌&&◌, ℕ, Bool, IsTrue, List, Some, None, IfSome, codes, max, min, option_map, unwrap_or}
use Rattle.clap.specs.Words.{Row, first_of}
use Rattle.run_options.specs.Words.{limit_of}
use Rattle.run_options.specs.declared.words.WordsFault.{WordsFault}
use Rattle.run_options.specs.declared.words.WordsFault.TheVariants as faults
use Rattle.recorded_workload.specs.Refusals.{IsWorkloadShape}
use Rattle.recording_import.specs.Import.{shape_of}
use Rattle.recording_import.specs.declared.options.ImportOptions.{ImportOptions}
use Rattle.command_line.specs.Comparing.{IsSourceAt, is_stdin}
use Rattle.command_line.specs.Found.{IsFlagAt, IsNumberAt, IsReadAt}
use Rattle.command_line.specs.declared.importing.ImportCommand.{ImportCommand}
use Rattle.command_line.specs.declared.importing.ImportPrint.{ImportPrint}
use Rattle.command_line.specs.declared.importing.ImportPrint.TheVariants.{Calls, Jobs}
use Rattle.command_line.specs.declared.importing.ImportWords.{ImportWords}

-- each word is that of its own option
pub record AreImportWordsAt (rows : List Row) (words : ImportWords) : Type 0 where
  pub cpus : IsReadAt rows (codes "cpus") words.cpus
  pub rt_runtime : IsNumberAt rows (codes "rt-runtime") 1000000000 words.rt_runtime
  pub rt_period : IsNumberAt rows (codes "rt-period") 1000000000 words.rt_period
  pub from : IsReadAt rows (codes "from") words.from
  pub to : IsReadAt rows (codes "to") words.to
  pub any_policy : IsFlagAt rows (codes "any-policy") words.any_policy

-- a number of CPUs, moved into the range from 1 to 64
abbrev pub cpus_in_range : ℕ → ℕ
cpus_in_range n = min (max n 1) 64

-- where the recording begins to count: at its beginning, where no word says so
abbrev pub counts_from : ImportWords → ℕ
counts_from w = unwrap_or w.from 0

-- the last time that counts: any, where no word says so
abbrev pub counts_to : ImportWords → ℕ
counts_to w = unwrap_or w.to (2 ^ 64 - 1)

-- the options that the words mean
pub record AreImportOptions (w : ImportWords) (o : ImportOptions) : Type 0 where
  pub cpus : o.cpus ≡ option_map cpus_in_range w.cpus
  pub limit : limit_of w.rt_runtime w.rt_period ≡ Some o.limit
  pub from : o.from ≡ counts_from w
  pub to : o.to ≡ counts_to w
  pub any_policy : o.any_policy ≡ w.any_policy

-- why they mean none: first that what counts does not begin before it ends, then that there is no
-- limit; want of memory may come after these
abbrev pub IsImportWordsFault : ImportWords → WordsFault → Type 0
IsImportWordsFault w faults.Window = counts_to w ≤ counts_from w
IsImportWordsFault w faults.Limit =
    (counts_from w < counts_to w) × (limit_of w.rt_runtime w.rt_period ≡ None)
IsImportWordsFault w faults.Memory = Unit {0}
IsImportWordsFault w faults.NoChart = ⊥
IsImportWordsFault w faults.List = ⊥

-- the options are within their limits, and what counts begins before it ends
pub record IsImportable (o : ImportOptions) : Type 0 where
  pub shape : IsWorkloadShape (shape_of o)
  pub few_cpus : IfSome o.cpus (λ cpus. cpus ≤ 64)
  pub window : o.from < o.to

-- the table is printed where the text at `print` is `jobs`, else the calls
pub record IsImportPrintAt (rows : List Row) (print : ImportPrint) : Type 0 where
  pub jobs : first_of (codes "print") rows ≡ Some (codes "jobs") → print ≡ Jobs
  pub calls : first_of (codes "print") rows ≢ Some (codes "jobs") → print ≡ Calls

-- the options that the words at the options mean
pub record AreImportOptionsAt (rows : List Row) (o : ImportOptions) : Type 0 where
  pub words : ImportWords
  pub are_found : AreImportWordsAt rows words
  pub meant : AreImportOptions words o

-- and why they mean none
pub record IsImportFaultAt (rows : List Row) (fault : WordsFault) : Type 0 where
  pub words : ImportWords
  pub are_found : AreImportWordsAt rows words
  pub is_fault : IsImportWordsFault words fault

-- each file, the options and what is printed are those of their own names
pub record IsImportAt (rows : List Row) (i : ImportCommand) : Type 0 where
  pub tasks : IsSourceAt rows (codes "TASKS") i.tasks
  pub recorded : IsSourceAt rows (codes "RECORDED") i.recorded
  pub options : AreImportOptionsAt rows i.options
  pub print : IsImportPrintAt rows i.print

-- standard input is for one of the two
abbrev pub shares_input : ImportCommand → Bool
shares_input i = is_stdin i.tasks && is_stdin i.recorded

-- the words ask for both files from standard input
pub record IsOneInput (rows : List Row) : Type 0 where
  pub import : ImportCommand
  pub found : IsImportAt rows import
  pub shares : IsTrue (shares_input import)
