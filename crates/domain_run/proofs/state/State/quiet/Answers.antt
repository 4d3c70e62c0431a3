use Rattle.std.proofs.Common.{ℕ, ◌+◌, ap, ◌∙◌}
use Rattle.domain_run.specs.Domain.{Domain}
use Rattle.domain_run.specs.Jump.{ticks_to_event}
use Rattle.domain_run.proofs.Due.{rest_least}
use Rattle.domain_run.proofs.state.State.quiet.Goals as goal

pub returns-clause-quiet : goal.returns-clause-quiet
returns-clause-quiet c =
    let s = c.self.inside in
    ap (λ (n : ℕ). 1 + n)
    (c.ticks_to_due.ensures
    ∙ rest_least s.time s.task_table.tasks c.self.invariant.domain.steady.early)
    ∙ ap (λ (d : Domain). ticks_to_event d) c.self.view_is
