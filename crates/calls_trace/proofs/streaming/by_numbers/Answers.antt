use Rattle.std.proofs.Common.{◌≡◌, map, sym, ap, subst, ◌∙◌}
use Rattle.std.proofs.lemmas.List.{take_all}
use Rattle.std.proofs.lemmas.Map.Made.{AllPairs-from_IsDistinct}
use Rattle.std.proofs.lemmas.Bool.Decides.{Decides-eqb}
use Rattle.run_figures.specs.Runs.{AreTasks}
use Rattle.run_figures.specs.declared.run.Admitted.{Admitted}
use Rattle.calls_trace.specs.DomainEvents.{admitted_with_params, no_params}
use Rattle.calls_trace.proofs.Figured.{numbers_are}
use Rattle.calls_trace.proofs.Texts.{tasks_apart}
use Rattle.calls_trace.proofs.streaming.by_numbers.Goals as goal

pub returns-clause-apart : goal.returns-clause-apart
returns-clause-apart c =
    let keys = c.args.numbers.now.keys in
    let are : c.loop-number.tasks.items ≡ map (admitted_with_params no_params) keys =
    c.loop-number.invariant.tasks ∙ ap (map (admitted_with_params no_params)) (take_all c.loop-number.number-index c.as_slice-listed.result.now c.loop-number-test.false ∙ c.as_slice-listed.ensures.keys) in
    subst AreTasks (sym are) (tasks_apart no_params keys c.requires.small (AllPairs-from_IsDistinct Decides-eqb keys c.as_slice-listed.ensures.unique))

pub returns-clause-tasks : goal.returns-clause-tasks
returns-clause-tasks c =
    let keys = c.args.numbers.now.keys in
    let are : c.loop-number.tasks.items ≡ map (admitted_with_params no_params) keys =
    c.loop-number.invariant.tasks ∙ ap (map (admitted_with_params no_params)) (take_all c.loop-number.number-index c.as_slice-listed.result.now c.loop-number-test.false ∙ c.as_slice-listed.ensures.keys) in
    ap (map (λ (t : Admitted). t.number)) are ∙ numbers_are no_params keys
