-- What clap reads of the program's command: the commands, their options, and what each option
-- takes.
use Rattle.std.specs.Prelude.{◌≡◌, ◌^◌, ℕ, pos, neg_ℤ, List, [], ◌∷◌, Some, true, false, fold, map, codes}
use Rattle.std.specs.Borrow.{Bor}
use Rattle.clap.specs.Words.{App, Rule, Text, app_of, new_app, new_rule, with_rule, with_subcommand}
use Rattle.clap.specs.declared.builder.command.Command.TheViews.{out-Command}
use Rattle.clap.specs.Simple.{on_top}
use Rattle.clap.specs.declared.builder.action.ArgAction.TheVariants.{SetTrue}
use Rattle.clap.specs.declared.builder.command.Command.{Command}
use Rattle.clap.specs.declared.builder.value_parser.ValueParser.{ValueParser}
use Rattle.clap.specs.declared.builder.value_parser.ValueParser.TheVariants.{Names, Signed, Unsigned}

-- names as clap holds them: references to texts
abbrev pub HeldNames : Type 0
HeldNames = Bor (List (Bor Text))

-- these are the names
abbrev pub AreTexts : List Text → HeldNames → Type 0
AreTexts texts names = map (λ name. name.now) names.now ≡ texts

-- what `--print` of `run` takes
abbrev pub run_texts : List Text
run_texts =
    codes "trace" ∷ codes "calls" ∷ codes "replies" ∷ codes "events"
    ∷ codes "jobs" ∷ codes "summary" ∷ codes "promises" ∷ codes "chart" ∷ []

-- what `--print` of `replay` takes
abbrev pub replay_texts : List Text
replay_texts =
    codes "trace" ∷ codes "replies" ∷ codes "events"
    ∷ codes "jobs" ∷ codes "summary" ∷ codes "chart" ∷ []

-- what `--print` of `import` takes
abbrev pub import_texts : List Text
import_texts = codes "calls" ∷ codes "jobs" ∷ []

-- the names that clap holds for the three
pub record AreHeld (run replay import : HeldNames) : Type 0 where
  pub of_run : AreTexts run_texts run
  pub of_replay : AreTexts replay_texts replay
  pub of_import : AreTexts import_texts import

-- an option `--name TEXT` with a default
abbrev pub option : Text → Text → Rule
option name default =
    record (new_rule name) { long = Some name; value_names = 1; defaults = default ∷ [] }

-- an option that takes a number from 1 to the most
abbrev pub count_option : Text → ℕ → Text → Rule
count_option name most default = record (option name default) { parser = Some (Unsigned 1 most) }

-- `--print`, with the names that it takes
abbrev pub print_option : HeldNames → Rule
print_option names = record (option (codes "print") (codes "trace")) { parser = Some (Names names) }

-- a flag, which takes no value
abbrev pub flag : Text → Rule
flag name = record (new_rule name) { long = Some name; action = Some SetTrue }

-- an option whose value passes a test, and which has no default
abbrev pub tested_option : Text → ValueParser → Rule
tested_option name test =
    record (new_rule name) { long = Some name; value_names = 1; parser = Some test }

-- a time of a run, in microseconds
abbrev pub moment : Text → Rule
moment name = tested_option name (Unsigned 0 4398046511104)

-- the options of `run`
abbrev pub run_options : HeldNames → List Rule
run_options names =
    option (codes "domains") (codes "1")
    ∷ count_option (codes "rt-runtime") 1000000000 (codes "950000")
    ∷ count_option (codes "rt-period") 1000000000 (codes "1000000")
    ∷ count_option (codes "clients") 64 (codes "1")
    ∷ count_option (codes "workers") 8 (codes "1")
    ∷ flag (codes "reclaim")
    ∷ print_option names
    ∷ moment (codes "from")
    ∷ moment (codes "to")
    ∷ []

-- `dlsim run`
abbrev pub run_app : HeldNames → App
run_app names = fold with_rule (new_app (codes "run")) (run_options names)

-- the options of `replay`
abbrev pub replay_options : HeldNames → List Rule
replay_options names =
    print_option names ∷ moment (codes "from") ∷ moment (codes "to") ∷ []

-- `dlsim replay`
abbrev pub replay_app : HeldNames → App
replay_app names = fold with_rule (new_app (codes "replay")) (replay_options names)

-- a file, named by its place among the words, which has to be there
abbrev pub file : Text → Rule
file name = record (new_rule name) { value_names = 1; required = true }

-- the files and the options of `compare`; times are in microseconds
abbrev pub compare_options : List Rule
compare_options =
    file (codes "MODEL") ∷ file (codes "RECORDED")
    ∷ record (option (codes "within") (codes "1000")) { parser = Some (Unsigned 0 1000000000) }
    ∷ tested_option (codes "noise") (Unsigned 0 1000000000)
    ∷ tested_option (codes "shift") (Signed (neg_ℤ (pos (2 ^ 60))) (pos (2 ^ 60)))
    ∷ flag (codes "cpus")
    ∷ tested_option (codes "fail-under") (Unsigned 0 100)
    ∷ []

-- `dlsim compare`
abbrev pub compare_app : App
compare_app = fold with_rule (new_app (codes "compare")) compare_options

-- a time of a recording's clock, in microseconds
abbrev pub recorded_moment : Text → Rule
recorded_moment name = tested_option name (Unsigned 0 (2 ^ 60))

-- the files and the options of `import`
abbrev pub import_options : HeldNames → List Rule
import_options names =
    file (codes "TASKS") ∷ file (codes "RECORDED")
    ∷ tested_option (codes "cpus") (Unsigned 1 64)
    ∷ count_option (codes "rt-runtime") 1000000000 (codes "950000")
    ∷ count_option (codes "rt-period") 1000000000 (codes "1000000")
    ∷ recorded_moment (codes "from")
    ∷ recorded_moment (codes "to")
    ∷ flag (codes "any-policy")
    ∷ record (option (codes "print") (codes "calls")) { parser = Some (Names names) }
    ∷ []

-- `dlsim import`
abbrev pub import_app : HeldNames → App
import_app names = fold with_rule (new_app (codes "import")) (import_options names)

-- `dlsim`, which wants one of its commands `run`, `replay`, `compare` and `import`
abbrev pub program_app : HeldNames → HeldNames → HeldNames → App
program_app run replay import =
    let top = on_top (λ s. record s { subcommand_required = true }) (new_app (codes "dlsim")) in
    let both = with_subcommand (with_subcommand top (run_app run).top) (replay_app replay).top in
    with_subcommand (with_subcommand both compare_app.top) (import_app import).top

-- clap's command is `dlsim run`
pub record IsRunCommand (c : Command) : Type 0 where
  pub names : HeldNames
  pub are_texts : AreTexts run_texts names
  pub app : app_of c ≡ run_app names
  pub local : (out-Command c).has_globals ≡ false

-- clap's command is `dlsim replay`
pub record IsReplay (c : Command) : Type 0 where
  pub names : HeldNames
  pub are_texts : AreTexts replay_texts names
  pub app : app_of c ≡ replay_app names
  pub local : (out-Command c).has_globals ≡ false

-- clap's command is `dlsim compare`
pub record IsCompare (c : Command) : Type 0 where
  pub app : app_of c ≡ compare_app
  pub local : (out-Command c).has_globals ≡ false

-- clap's command is `dlsim import`
pub record IsImport (c : Command) : Type 0 where
  pub names : HeldNames
  pub are_texts : AreTexts import_texts names
  pub app : app_of c ≡ import_app names
  pub local : (out-Command c).has_globals ≡ false

-- clap's command is `dlsim`
pub record IsProgram (c : Command) : Type 0 where
  pub run : HeldNames
  pub replay : HeldNames
  pub import : HeldNames
  pub are_held : AreHeld run replay import
  pub app : app_of c ≡ program_app run replay import
