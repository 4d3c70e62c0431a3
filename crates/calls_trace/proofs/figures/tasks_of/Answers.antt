use Rattle.std.proofs.Common.{◌≡◌, map, sym, ap, subst, ◌∙◌, arith}
use Rattle.std.proofs.lemmas.List.{take_all}
use Rattle.run_figures.specs.Runs.{AreTasks}
use Rattle.std.proofs.lemmas.Grind.{common_steps}
use Rattle.calls_trace.specs.DomainEvents.{admitted_with_params}
use Rattle.calls_trace.specs.private.Replaying.{given_in}
use Rattle.calls_trace.proofs.Texts.{tasks_apart}
use Rattle.calls_trace.proofs.figures.tasks_of.Goals as goal

pub returns-clause-apart : goal.returns-clause-apart
returns-clause-apart c =
    let given = given_in c.args.given.now in
    let numbers = c.in_ok-numbers.numbers.items in
    let are : c.loop-number.tasks.items ≡ map (admitted_with_params given) numbers =
    c.loop-number.invariant.tasks ∙ ap (map (admitted_with_params given)) (take_all c.loop-number.number-index c.deref-number-items.result.now c.loop-number-test.false ∙ c.deref-number-items.ensures.value) in
    subst AreTasks (sym are) (tasks_apart given numbers c.in_ok-numbers.ensures.small c.in_ok-numbers.ensures.apart)

pub loop-number-preserved : goal.loop-number-preserved
loop-number-preserved c = grind (arith, common_steps)

pub returns-clause-tasks : goal.returns-clause-tasks
returns-clause-tasks c = grind (arith, common_steps)
