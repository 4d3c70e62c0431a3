-- What the words of a command line may ask for.
use Rattle.std.specs.Prelude.{◌≡◌, ◌≢◌, ◌⊎◌, ℕ, false, List, Option, Some, Result, Ok, IfErr, IfOk, codes, option_map}
use Rattle.clap.specs.Words.{App, HasKind, Row, Text, fault_of, subcommand_of}
use Rattle.command_line.specs.Commands.{AreHeld, HeldNames, program_app}
use Rattle.command_line.specs.Reading.{HasReplayTexts, HasTexts}
use Rattle.run_options.specs.Options.{AreOptions}
use Rattle.run_options.specs.declared.words.WordsFault.TheVariants.{Memory}
use Rattle.command_line.specs.Comparing.{IsComparisonAt, IsWithItself, shares_stdin, AreFit}
use Rattle.command_line.specs.Found.{AreMeantBy, IsCutFault, IsFaultOfRows, IsReplayPrintAt}
use Rattle.command_line.specs.Importing.{IsImportAt, IsImportFaultAt, IsImportable, IsOneInput, shares_input}
use Rattle.command_line.specs.declared.words.Task.{Task}
use Rattle.command_line.specs.declared.words.Task.TheVariants.{Compare, Import, Replay, Run}
use Rattle.command_line.specs.declared.words.Wrong.{Wrong}
use Rattle.command_line.specs.declared.words.Wrong.TheVariants as wrong

-- the options of a run, the numbers of a comparison and those of an import are within their
-- limits, and two inputs come from two places
abbrev pub IsFit : Task → Type 0
IsFit (Replay print) = Unit {0}
IsFit (Run options) = AreOptions options
IsFit (Compare comparison) = AreFit comparison.options × (shares_stdin comparison ≡ false)
IsFit (Import import) = IsImportable import.options × (shares_input import ≡ false)

-- the command that was named: a run where it is `run`, a comparison where it is `compare`, an
-- import where it is `import`, a replay where it is another
abbrev pub IsTaskOf : Option (List ℕ) → Task → Type 0
IsTaskOf command (Replay print) =
    (command ≢ Some (codes "run")) × (command ≢ Some (codes "compare"))
    × (command ≢ Some (codes "import"))
IsTaskOf command (Run options) = command ≡ Some (codes "run")
IsTaskOf command (Compare comparison) = command ≡ Some (codes "compare")
IsTaskOf command (Import import) = command ≡ Some (codes "import")

-- the command that was found, with what was found at its options
abbrev pub Command : Type 0
Command = Option (Text × List Row)

abbrev pub command_name : Command → Option Text
command_name = option_map (λ command. command.0)

-- a run, with the options that the words at the options of `run` mean
abbrev pub IsRunBy : List Row → Task → Type 0
IsRunBy rows (Run options) = AreMeantBy rows options
IsRunBy rows (Replay print) = ⊥
IsRunBy rows (Compare comparison) = ⊥
IsRunBy rows (Import import) = ⊥

-- a replay, which prints what the words at the options of `replay` say
abbrev pub IsReplayBy : List Row → Task → Type 0
IsReplayBy rows (Replay print) = IsReplayPrintAt rows print
IsReplayBy rows (Run options) = ⊥
IsReplayBy rows (Compare comparison) = ⊥
IsReplayBy rows (Import import) = ⊥

-- a comparison, with the traces and numbers at the options of `compare`
abbrev pub IsComparisonBy : List Row → Task → Type 0
IsComparisonBy rows (Compare comparison) = IsComparisonAt rows comparison
IsComparisonBy rows (Run options) = ⊥
IsComparisonBy rows (Replay print) = ⊥
IsComparisonBy rows (Import import) = ⊥

-- an import, with the files and what is asked for at the options of `import`
abbrev pub IsImportBy : List Row → Task → Type 0
IsImportBy rows (Import import) = IsImportAt rows import
IsImportBy rows (Run options) = ⊥
IsImportBy rows (Replay print) = ⊥
IsImportBy rows (Compare comparison) = ⊥

-- a replay prints what the words at its options say
abbrev pub IsMeant : Command → Task → Type 0
IsMeant command (Replay print) =
    (rows : List Row) → command ≡ Some (codes "replay", rows) → IsReplayPrintAt rows print
IsMeant command (Run options) =
    (rows : List Row) × (command ≡ Some (codes "run", rows)) × AreMeantBy rows options
IsMeant command (Compare comparison) =
    (rows : List Row) × (command ≡ Some (codes "compare", rows)) × IsComparisonAt rows comparison
IsMeant command (Import import) =
    (rows : List Row) × (command ≡ Some (codes "import", rows)) × IsImportAt rows import

-- what is wrong with the words at the options of `run`: they mean no options, for this reason
abbrev pub IsRunRefusedBy : List Row → Wrong → Type 0
IsRunRefusedBy rows (wrong.Options fault) = IsFaultOfRows rows fault
IsRunRefusedBy rows (wrong.Clap error) = ⊥
IsRunRefusedBy rows wrong.BothStdin = ⊥
IsRunRefusedBy rows wrong.OneInput = ⊥

-- with those at the options of `replay`: they ask for no part that a chart can show, or for one
-- beside another text
abbrev pub IsReplayRefusedBy : List Row → Wrong → Type 0
IsReplayRefusedBy rows (wrong.Options fault) = IsCutFault rows fault
IsReplayRefusedBy rows (wrong.Clap error) = ⊥
IsReplayRefusedBy rows wrong.BothStdin = ⊥
IsReplayRefusedBy rows wrong.OneInput = ⊥

-- with those at the options of `compare`: both traces are standard input, or there was no memory to
-- copy them
abbrev pub IsComparisonRefusedBy : List Row → Wrong → Type 0
IsComparisonRefusedBy rows (wrong.Options fault) = fault ≡ Memory
IsComparisonRefusedBy rows (wrong.Clap error) = ⊥
IsComparisonRefusedBy rows wrong.BothStdin = IsWithItself rows
IsComparisonRefusedBy rows wrong.OneInput = ⊥

-- with those at the options of `import`: they mean no import, for this reason, or both files are
-- standard input
abbrev pub IsImportRefusedBy : List Row → Wrong → Type 0
IsImportRefusedBy rows (wrong.Options fault) = IsImportFaultAt rows fault
IsImportRefusedBy rows (wrong.Clap error) = ⊥
IsImportRefusedBy rows wrong.BothStdin = ⊥
IsImportRefusedBy rows wrong.OneInput = IsOneInput rows

-- with those of the command that was found
abbrev pub IsRefusedBy : Command → Wrong → Type 0
IsRefusedBy command w =
    ((rows : List Row) × (command ≡ Some (codes "run", rows)) × IsRunRefusedBy rows w)
    ⊎ (((rows : List Row) × (command ≡ Some (codes "compare", rows)) × IsComparisonRefusedBy rows w)
    ⊎ (((rows : List Row) × (command ≡ Some (codes "import", rows)) × IsImportRefusedBy rows w)
    ⊎ ((rows : List Row) × (command ≡ Some (codes "replay", rows)) × IsReplayRefusedBy rows w)))

-- what is wrong: clap's rules refuse the words, or memory ran out; or they accept them, and the
-- words at the options of the command are refused
abbrev pub IsWrong : App → List Text → Wrong → Type 0
IsWrong app words (wrong.Clap error) = HasKind (fault_of app words) error
IsWrong app words (wrong.Options fault) =
    IsRefusedBy (subcommand_of app words) (wrong.Options fault)
IsWrong app words wrong.BothStdin = IsRefusedBy (subcommand_of app words) wrong.BothStdin
IsWrong app words wrong.OneInput = IsRefusedBy (subcommand_of app words) wrong.OneInput

-- what the words of a command line, of which the first is the program's name, ask for: the command
-- that clap's rules find in them, a run with the options that its words mean, a comparison with its
-- traces and numbers, an import with its files and options, or a replay with what it prints, and
-- each option of a run and of a replay has a text that it takes; or what is wrong with them
pub record IsAskedBy (words : List Text) (r : Result Task Wrong) : Type 0 where
  pub run : HeldNames
  pub replay : HeldNames
  pub import : HeldNames
  pub are_held : AreHeld run replay import
  pub named : IfOk r (IsTaskOf (command_name (subcommand_of (program_app run replay import) words)))
  pub meant : IfOk r (IsMeant (subcommand_of (program_app run replay import) words))
  pub taken : IfOk r
      (λ task. (rows : List Row)
      → subcommand_of (program_app run replay import) words ≡ Some (codes "run", rows) → HasTexts rows)
  pub taken_by_replay : IfOk r
      (λ task. (rows : List Row)
      → subcommand_of (program_app run replay import) words ≡ Some (codes "replay", rows)
      → HasReplayTexts rows)
  pub wrong : IfErr r (IsWrong (program_app run replay import) words)

-- there are words that ask for it
pub record IsAsked (task : Task) : Type 0 where
  pub words : List Text
  pub by : IsAskedBy words (Ok task)
