use Rattle.std.proofs.Common.{◌∙◌, ◌++◌, ◌∷◌, [], List, ap, codes, fold, subst}
use Rattle.clap.specs.Words.{Rule, new_app, with_rule}
use Rattle.command_line.specs.private.Made.{IsChoiceMade}
use Rattle.command_line.proofs.command.subcommands.Goals as goal

pub returns : goal.returns
returns c =
    let run = c.run_choices.ensures in
    let replay = c.replay_choices.ensures in
    let first = c.in_ok-add_command.ensures.added in
    let second = c.in_ok-add_command-2.ensures.added in
    let third = c.in_ok-add_command-3.ensures.added in
    let import = c.import_choices.ensures in
    let fourth = c.in_ok-add_command-4.ensures.added in
    let run_made = subst (λ (rules : List Rule). IsChoiceMade first.0 (fold with_rule (new_app (codes "run")) rules)) run.rules first.2 in
    let replay_made = subst (λ (rules : List Rule). IsChoiceMade second.0 (fold with_rule (new_app (codes "replay")) rules)) replay.rules second.2 in
    let compare_made = subst (λ (rules : List Rule). IsChoiceMade third.0 (fold with_rule (new_app (codes "compare")) rules)) c.compare_choices.ensures third.2 in
    let import_made = subst (λ (rules : List Rule). IsChoiceMade fourth.0 (fold with_rule (new_app (codes "import")) rules)) import.rules fourth.2 in (
      first.0,
      second.0,
      third.0,
      fourth.0,
      record { names = _; are_texts = run.texts; app = run_made.is; local = run_made.local },
      record { names = _; are_texts = replay.texts; app = replay_made.is; local = replay_made.local },
      record { app = compare_made.is; local = compare_made.local },
      record { names = _; are_texts = import.texts; app = import_made.is; local = import_made.local },
      fourth.1 ∙ ap (λ all. all ++ fourth.0 ∷ []) (third.1 ∙ ap (λ all. all ++ third.0 ∷ []) (second.1 ∙ ap (λ all. all ++ second.0 ∷ []) (first.1 ∙ ap (λ all. all ++ first.0 ∷ []) c.in_ok-all.ensures.items))),
    )
