-- Options and commands before they are put together.
use Rattle.std.specs.Prelude.{◌≡◌, List, [], ◌∷◌, ◌++◌, Some, ⊤, false}
use Rattle.clap.specs.Words.{App, Rule, app_of, rule_of}
use Rattle.clap.specs.declared.builder.arg.Arg.{Arg}
use Rattle.clap.specs.declared.builder.command.Command.{Command}
use Rattle.clap.specs.declared.builder.command.Command.TheViews.{out-Command}
use Rattle.clap.specs.declared.builder.value_parser.ValueParser.TheVariants.{Names}
use Rattle.command_line.specs.Commands.{HeldNames, file, flag, option, tested_option}
use Rattle.command_line.specs.declared.command.Choice.{Choice}
use Rattle.command_line.specs.declared.command.Choice.TheVariants.{Open, Checked, Tested, Flag, File}

-- this is what clap reads of the command, of which no argument is global
pub record IsChoiceMade (c : Command) (app : App) : Type 0 where
  pub is : app_of c ≡ app
  pub local : (out-Command c).has_globals ≡ false

-- this is what clap reads of the argument, which is not global
pub record IsOption (arg : Arg) (rule : Rule) : Type 0 where
  pub is : rule_of arg ≡ rule
  pub local : arg.global ≡ false

-- the two lists are of one length, and each of the first is that of the second in its place
abbrev pub AreInTurn : {X Y : Type 0} → (X → Y → Type 0) → List X → List Y → Type 0
AreInTurn is [] [] = ⊤
AreInTurn is [] (y ∷ ys) = ⊥
AreInTurn is (x ∷ xs) [] = ⊥
AreInTurn is (x ∷ xs) (y ∷ ys) = is x y × AreInTurn is xs ys

-- the second list has one more at its end, of which this is true
abbrev pub AddsOne : {X : Type 0} → (X → Type 0) → List X → List X → Type 0
AddsOne {X} is old new = (x : X) × (new ≡ old ++ x ∷ []) × is x

-- what clap is to read of a choice
abbrev pub of_choice : Choice → Rule
of_choice (Open name value default help) = option name.now default.now
of_choice (Checked name value default test help) =
    record (option name.now default.now) { parser = Some test }
of_choice (Tested name value test help) = tested_option name.now test
of_choice (Flag name help) = flag name.now
of_choice (File name help) = file name.now

-- the names of which a choice takes one
abbrev pub names_of_choices : List Choice → HeldNames
names_of_choices [] = record { ref_ptr = (0, 0); now = [] }
names_of_choices (Checked name value default (Names names) help ∷ choices) = names
names_of_choices (choice ∷ choices) = names_of_choices choices
