-- What words ask for, from what is read of them.
use Rattle.std.proofs.Common.{◌≡◌, ◌∙◌, inl, inr, List, Option, Some, None, Result, Ok, Err, IfOk, IfErr, option_map, refl, subst, sym, true≢false}
use Rattle.std.specs.Prelude.{Box}
use Rattle.std.specs.Box.{box_value}
use Rattle.clap.specs.Simple.{subcommand_rows}
use Rattle.clap.specs.Words.{App, Row, Text, subcommand_name_of, subcommand_of, subcommand_rows_of}
use Rattle.clap.specs.declared.parser.matches.ArgMatches.{ArgMatches}
use Rattle.clap.specs.declared.parser.matches.ArgMatches.TheViews.{out-ArgMatches, out-SubCommand}
use Rattle.clap.specs.declared.parser.matches.SubCommand.{SubCommand}
use Rattle.command_line.specs.Commands.{program_app}
use Rattle.command_line.specs.Reading.{HasTextsOfReplay, HasTextsOfRun, ReadsWords}
use Rattle.command_line.specs.Tasks.{IsAsked, IsAskedBy, IsMeant, IsRefusedBy, IsTaskOf, IsWrong, command_name}
use Rattle.command_line.specs.declared.words.Task.{Task}
use Rattle.command_line.specs.declared.words.Wrong.{Wrong}
use Rattle.command_line.specs.declared.words.Wrong.TheVariants as wrong

name_in : {Z : Type 0} (o : Option (Box SubCommand Z)) → command_name (subcommand_rows o) ≡ option_map (λ b. (out-SubCommand (box_value b)).name.now) o
name_in None = refl
name_in (Some b) = refl

-- the name of the command with what is found there
pub name_found : (m : ArgMatches) → command_name (subcommand_rows_of m) ≡ subcommand_name_of m
name_found m = name_in (out-ArgMatches m).subcommand

is_wrong : (app : App) (words : List Text) (w : Wrong) → IsRefusedBy (subcommand_of app words) w → IsWrong app words w
is_wrong app words (wrong.Clap e) (inl r) = absurd r.2
is_wrong app words (wrong.Clap e) (inr (inl r)) = absurd r.2
is_wrong app words (wrong.Clap e) (inr (inr (inl r))) = absurd r.2
is_wrong app words (wrong.Clap e) (inr (inr (inr r))) = absurd r.2
is_wrong app words (wrong.Options fault) refused = refused
is_wrong app words wrong.BothStdin refused = refused
is_wrong app words wrong.OneInput refused = refused

pub of_wrong : (words : List Text) (m : ArgMatches) (w : Wrong) → ReadsWords words (Ok m) → IsRefusedBy (subcommand_rows_of m) w
    → IsAskedBy words (Err w)
of_wrong words m w read refused = record {
  run = read.run;
  replay = read.replay;
  import = read.import;
  are_held = read.are_held;
  named = tt;
  meant = tt;
  taken = tt;
  taken_by_replay = tt;
  wrong = is_wrong (program_app read.run read.replay read.import) words w (subst (λ (command : Option (Text × List Row)). IsRefusedBy command w) read.found refused);
}

pub of_task : (words : List Text) (m : ArgMatches) (task : Task) → ReadsWords words (Ok m) → HasTextsOfRun m → HasTextsOfReplay m → IsTaskOf (subcommand_name_of m) task
    → IsMeant (subcommand_rows_of m) task → IsAskedBy words (Ok task)
of_task words m task read texts text named meant = record {
  run = read.run;
  replay = read.replay;
  import = read.import;
  are_held = read.are_held;
  named = subst (λ (command : Option (Text × List Row)). IsTaskOf (command_name command) task) read.found
      (subst (λ (name : Option Text). IsTaskOf name task) (sym (name_found m)) named);
  meant = subst (λ (command : Option (Text × List Row)). IsMeant command task) read.found meant;
  taken = λ rows is. texts rows (read.found ∙ is);
  taken_by_replay = λ rows is. text rows (read.found ∙ is);
  wrong = tt;
}

pub of_answer : (words : List Text) (m : ArgMatches) (r : Result Task Wrong) → ReadsWords words (Ok m) → HasTextsOfRun m → HasTextsOfReplay m
    → IfOk r (IsTaskOf (subcommand_name_of m)) → IfOk r (IsMeant (subcommand_rows_of m)) → IfErr r (IsRefusedBy (subcommand_rows_of m)) → IsAskedBy words r
of_answer words m (Ok task) read texts text named meant refused = of_task words m task read texts text named meant
of_answer words m (Err w) read texts text named meant refused = of_wrong words m w read refused

pub asked_by : (words : List Text) (r : Result Task Wrong) → IsAskedBy words r → IfOk r IsAsked
asked_by words (Ok task) by = record { words = words; by = by }
asked_by words (Err wrong) by = tt
