use Rattle.std.proofs.Common.{◌∙◌, arith, sym, ap}
use Rattle.std.specs.Prelude.{IsSome, is_some}
use Rattle.task_script.proofs.Rounds.{rounds_fit, stands_further}
use Rattle.task_script.proofs.progress.go_on.Goals as goal

pub overflow_cast-progress : goal.overflow_cast-progress
overflow_cast-progress c =
    let finite : IsSome c.args.script.now.rounds = sym (ap is_some c.rounds.ensures) ∙ sym c.is_some.ensures ∙ c.if-is_some.true in
    let most = rounds_fit c.args.script.now c.args.progress.now c.args.rounds c.phases.ensures.within c.requires.stands c.requires.rounds finite in
    omega (arith, most)

pub overflow_add-progress : goal.overflow_add-progress
overflow_add-progress c =
    let finite : IsSome c.args.script.now.rounds = sym (ap is_some c.rounds.ensures) ∙ sym c.is_some.ensures ∙ c.if-is_some.true in
    let most = rounds_fit c.args.script.now c.args.progress.now c.args.rounds c.phases.ensures.within c.requires.stands c.requires.rounds finite in
    omega (arith, most)

pub returns-then-is_some-clause-stands : goal.returns-then-is_some-clause-stands
returns-then-is_some-clause-stands c =
    let finite : IsSome c.args.script.now.rounds = sym (ap is_some c.rounds.ensures) ∙ sym c.is_some.ensures ∙ c.if-is_some.true in
    stands_further c.args.script.now c.args.progress.now c.args.rounds c.phases.ensures.within c.requires.stands c.requires.rounds finite
