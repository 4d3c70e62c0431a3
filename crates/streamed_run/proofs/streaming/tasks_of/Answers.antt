use Rattle.std.proofs.Common.{◌≡◌, map, ◌∙◌}
use Rattle.std.proofs.lemmas.List.{take_all}
use Rattle.run_figures.specs.declared.run.Admitted.{Admitted}
use Rattle.streamed_run.proofs.Pieces.{tasks_apart}
use Rattle.streamed_run.proofs.streaming.tasks_of.Goals as goal

pub returns-clause-apart : goal.returns-clause-apart
returns-clause-apart c =
    let numbers = c.in_ok-numbers.numbers.items in
    let are : map (λ (t : Admitted). t.number) c.loop-number.tasks.items ≡ numbers =
    c.loop-number.invariant.tasks ∙ take_all c.loop-number.number-index c.deref-number-items.result.now c.loop-number-test.false ∙ c.deref-number-items.ensures.value in
    tasks_apart c.loop-number.tasks.items numbers are c.in_ok-numbers.ensures.small c.in_ok-numbers.ensures.apart
