-- What a reading of words answers.
use Rattle.std.specs.Prelude.{◌≡◌, ◌⊎◌, ℕ, List, [], ◌∷◌, Result, Some, IfOk, codes}
use Rattle.clap.specs.Words.{FailsBy, IsUnsignedIn, Row, Text, fault_of, first_of, one_of, subcommand_of, subcommand_rows_of}
use Rattle.clap.specs.declared.error.Error.{Error}
use Rattle.clap.specs.declared.parser.matches.ArgMatches.{ArgMatches}
use Rattle.command_line.specs.Commands.{AreHeld, HeldNames, program_app, run_texts, replay_texts}

-- at the option is a text that spells a number from 1 to the most
abbrev pub HasNumber : List Row → Text → ℕ → Type 0
HasNumber rows name most = (text : Text) × (one_of name rows ≡ Some text) × IsUnsignedIn 1 most text

-- at the option is one of these texts
abbrev pub IsOneAt : List Row → Text → List Text → Type 0
IsOneAt rows name [] = ⊥
IsOneAt rows name (text ∷ texts) =
    (first_of name rows ≡ Some text) ⊎ IsOneAt rows name texts

-- at the option is no text, or one that spells a time of a run
abbrev pub IsMomentIfAny : List Row → Text → Type 0
IsMomentIfAny rows name =
    (text : Text) → one_of name rows ≡ Some text → IsUnsignedIn 0 4398046511104 text

-- each option of `run` has a text that it takes, be it of the words or its default; those without a
-- default have one or none
pub record HasTexts (rows : List Row) : Type 0 where
  pub domains : (text : Text) × (first_of (codes "domains") rows ≡ Some text)
  pub rt_runtime : HasNumber rows (codes "rt-runtime") 1000000000
  pub rt_period : HasNumber rows (codes "rt-period") 1000000000
  pub clients : HasNumber rows (codes "clients") 64
  pub workers : HasNumber rows (codes "workers") 8
  pub reclaim : (one_of (codes "reclaim") rows ≡ Some (codes "true"))
      ⊎ (one_of (codes "reclaim") rows ≡ Some (codes "false"))
  pub print : IsOneAt rows (codes "print") run_texts
  pub from : IsMomentIfAny rows (codes "from")
  pub to : IsMomentIfAny rows (codes "to")

-- and so have those of `replay`
pub record HasReplayTexts (rows : List Row) : Type 0 where
  pub print : IsOneAt rows (codes "print") replay_texts
  pub from : IsMomentIfAny rows (codes "from")
  pub to : IsMomentIfAny rows (codes "to")

-- the command that the words name and what is found for each of its options are what clap's rules
-- give for the words, of which the first is the program's name; where it is refused, clap's rules
-- refuse the words so, or memory ran out
pub record ReadsWords (words : List Text) (r : Result ArgMatches Error) : Type 0 where
  pub run : HeldNames
  pub replay : HeldNames
  pub import : HeldNames
  pub are_held : AreHeld run replay import
  pub found : IfOk r
      (λ m. subcommand_rows_of m ≡ subcommand_of (program_app run replay import) words)
  pub refused : FailsBy (fault_of (program_app run replay import) words) r

-- what is found for `run`
abbrev pub HasTextsOfRun : ArgMatches → Type 0
HasTextsOfRun m =
    (rows : List Row) → subcommand_rows_of m ≡ Some (codes "run", rows) → HasTexts rows

-- what is found for `replay`
abbrev pub HasTextsOfReplay : ArgMatches → Type 0
HasTextsOfReplay m =
    (rows : List Row) → subcommand_rows_of m ≡ Some (codes "replay", rows) → HasReplayTexts rows
