use Rattle.std.proofs.Common.{map, refl}
use Rattle.clap.specs.Words.{new_app}
use Rattle.command_line.specs.private.Made.{IsChoiceMade, of_choice}
use Rattle.command_line.proofs.Made.{changed, with_options}
use Rattle.command_line.proofs.command.add_command.Goals as goal

pub returns-clause-added : goal.returns-clause-added
returns-clause-added c =
    let new : IsChoiceMade c.new.result (new_app c.args.name.now) = record { is = c.new.ensures.app; local = c.new.ensures.local } in
    let about = changed _ _ _ _ _ c.about.ensures new.is refl new in
    let after_help = changed _ _ _ _ _ c.after_help.ensures about.is refl about in (
      c.in_ok-command.command,
      c.push_reserved.ensures.items,
      with_options _ _ _ _ (map of_choice c.args.choices.now) after_help c.in_ok-options.ensures c.in_ok-command.ensures,
    )
