use Rattle.std.proofs.Common.{◌≡◌, ℕ, map, subst}
use Rattle.std.specs.Prelude.{IfOk}
use Rattle.attr_check.specs.ParamsView.{ParamsView}
use Rattle.calls_trace.specs.DomainEvents.{admitted_with_params}
use Rattle.calls_trace.proofs.streamed_summary.tasks_streamed.Goals as goal

pub returns-clause-tasks : goal.returns-clause-tasks
returns-clause-tasks c =
    subst (λ (g : ℕ → ParamsView). IfOk c.tasks_of.result (λ v. v.items ≡ map (admitted_with_params g) c.args.state.now.used)) c.in_ok-given.ensures c.tasks_of.ensures.tasks
