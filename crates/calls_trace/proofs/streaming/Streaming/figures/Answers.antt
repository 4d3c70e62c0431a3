use Rattle.std.proofs.Common.{◌≡◌, List, subst, ◌∙◌}
use Rattle.std.specs.Prelude.{IfOk}
use Rattle.run_figures.specs.declared.run.Admitted.{Admitted}
use Rattle.run_figures.specs.Accounting.{streamed_run}
use Rattle.run_figures.specs.Figures.{task_figures, cpu_figures}
use Rattle.calls_trace.specs.private.Streaming.{tasks_led}
use Rattle.calls_trace.specs.private.Replaying.{given_in}
use Rattle.calls_trace.proofs.StreamedCalls.{tasks_are_among}
use Rattle.calls_trace.proofs.streaming.Streaming.figures.Goals as goal

pub summary_of_some-requires-clause-among : goal.summary_of_some-requires-clause-among
summary_of_some-requires-clause-among c =
    let h = c.args.self.now in
    tasks_are_among (given_in h.run.given) h.accounting.tasks h.run.state.used c.deref.result.now (c.deref.ensures.value ∙ c.in_ok-tasks.ensures.tasks) c.requires.among

pub returns-clause-tasks : goal.returns-clause-tasks
returns-clause-tasks c =
    let h = c.args.self.now in
    let are : c.deref.result.now ≡ tasks_led h = c.deref.ensures.value ∙ c.in_ok-tasks.ensures.tasks in
    subst (λ (ts : List Admitted). IfOk c.summary_of_some.result (λ s. s.tasks.items ≡ task_figures (streamed_run h.accounting ts))) are c.summary_of_some.ensures.tasks

pub returns-clause-cpus : goal.returns-clause-cpus
returns-clause-cpus c =
    let h = c.args.self.now in
    let are : c.deref.result.now ≡ tasks_led h = c.deref.ensures.value ∙ c.in_ok-tasks.ensures.tasks in
    subst (λ (ts : List Admitted). IfOk c.summary_of_some.result (λ s. s.cpus.items ≡ cpu_figures (streamed_run h.accounting ts))) are c.summary_of_some.ensures.cpus
