use Rattle.std.proofs.Common.{◌∙◌, ◌∷◌, [], List, ap, codes, refl, subst, sym, true}
use Rattle.std.proofs.lemmas.Result.{IfOk-weaker}
use Rattle.clap.specs.Words.{App, new_app}
use Rattle.clap.specs.Simple.{app_of_fields, on_top}
use Rattle.clap.specs.declared.builder.command.Command.{Command}
use Rattle.command_line.specs.Commands.{IsProgram, compare_app, import_app, replay_app, run_app}
use Rattle.command_line.specs.private.Made.{AreInTurn, IsChoiceMade}
use Rattle.command_line.proofs.Made.{changed, with_commands}
use Rattle.command_line.proofs.command.program.Goals as goal

pub returns : goal.returns
returns c =
    let four = c.in_ok-commands.ensures in
    let run = four.4 in
    let replay = four.5 in
    let compare = four.6 in
    let import = four.7 in
    let apps : List App = run_app run.names ∷ replay_app replay.names ∷ compare_app ∷ import_app import.names ∷ [] in
    let all : AreInTurn IsChoiceMade c.in_ok-commands.commands.items apps = subst (λ (commands : List Command). AreInTurn IsChoiceMade commands apps) (sym four.8)
    (record { is = run.app; local = run.local }, (record { is = replay.app; local = replay.local }, (record { is = compare.app; local = compare.local }, (record { is = import.app; local = import.local }, tt)))) in
    let new : IsChoiceMade c.new.result (new_app (codes "dlsim")) = record { is = c.new.ensures.app; local = c.new.ensures.local } in
    let about = changed _ _ _ _ _ c.about.ensures new.is refl new in
    let after_help = changed _ _ _ _ _ c.after_help.ensures about.is refl about in
    let required = changed _ _ _ _ _ c.subcommand_required.ensures (ap (on_top (λ s. record s { subcommand_required = true })) after_help.is) refl after_help in
    let whole = with_commands _ _ _ _ _ required all c.in_ok-subcommands.ensures in
    IfOk-weaker c.bin_name.result _ IsProgram (λ command named.
    record { run = run.names; replay = replay.names; import = import.names; are_held = record { of_run = run.are_texts; of_replay = replay.are_texts; of_import = import.are_texts }; app = ap app_of_fields named.0 ∙ whole.is }) c.bin_name.ensures
