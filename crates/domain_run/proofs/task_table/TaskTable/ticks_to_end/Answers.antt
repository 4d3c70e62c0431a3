use Rattle.std.proofs.Common.{◌≤◌, ◌+◌, ℕ, None, get_or, subst, arith}
use Rattle.std.specs.Prelude.{All, IfSome}
use Rattle.domain_run.specs.private.TaskTable.{TaskTableView}
use Rattle.domain_run.specs.private.Owed.{charge_of_task, Lasts}
use Rattle.domain_run.proofs.Later.{ends_from, both_ends, all_last}
use Rattle.domain_run.proofs.task_table.TaskTable.ticks_to_end.Goals as goal

pub returns-clause-ends : goal.returns-clause-ends
returns-clause-ends c =
    let s = c.self.inside in
    subst (λ (r : TaskTableView). (cpu : ℕ) → IfSome (get_or r.charges cpu None) (λ s. r.clock + c.min.result ≤ s.end)) c.self.view_is
    (ends_from (s.charges.upto + c.min.result) s.charges.charges (omega (arith, c.first_end.ensures.end, c.first_end.ensures.ahead, c.upto.ensures.upto, c.min.ensures)))

pub returns-clause-lasts : goal.returns-clause-lasts
returns-clause-lasts c =
    let s = c.self.inside in
    let ends = ends_from (s.charges.upto + c.min.result) s.charges.charges (omega (arith, c.first_end.ensures.end, c.first_end.ensures.ahead, c.upto.ensures.upto, c.min.ensures)) in
    subst (λ (r : TaskTableView). All (λ t. IfSome (charge_of_task r.charges t) (λ s. Lasts c.min.result s.rate t)) r.tasks) c.self.view_is
    (all_last s.charges.upto c.min.result s.charges.charges s.tasks (omega (arith, c.first_end.ensures.ahead, c.upto.ensures.upto, c.min.ensures, c.requires.some))
    (both_ends s.charges.upto (s.charges.upto + c.min.result) s.charges.charges c.first_end.ensures.charges ends) c.self.invariant.waits)
