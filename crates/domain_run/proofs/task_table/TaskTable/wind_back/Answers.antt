use Rattle.std.proofs.Common.{◌≡◌, ℕ, None, length, get_or, sym, ap, subst, ◌∙◌}
use Rattle.domain_run.specs.private.TaskTable.{TaskTableView}
use Rattle.due_times.specs.OpenCharges.{OpenChargesView}
use Rattle.domain_run.specs.private.Owed.{owed_all, AreOpen}
use Rattle.domain_run.proofs.Stale.{clock_settled}
use Rattle.domain_run.proofs.Chargings.{kept_again}
use Rattle.domain_run.proofs.Later.{nobody_view}
use Rattle.domain_run.proofs.task_table.TaskTable.wind_back.Goals as goal

pub invariant_of-self : goal.invariant_of-self
invariant_of-self c =
    let s = c.self-then-upto.inside in
    let nobody = subst (λ (r : TaskTableView). (cpu : ℕ) → get_or r.charges cpu None ≡ None) (sym c.self-then-upto.view_is) c.vacate_all.ensures.nobody in
    kept_again s.queue s.charges c.restart.new.self s.tasks s.tasks s.stale s.stale c.self-then-upto.invariant
    (ap (λ (v : OpenChargesView). owed_all v s.tasks) c.restart.ensures ∙ nobody_view 0 s.charges.upto s.charges.charges s.tasks nobody)
    (subst (λ (v : OpenChargesView). AreOpen v.charges s.tasks) (sym c.restart.ensures) c.self-then-upto.invariant.waits)
    (ap (λ (v : OpenChargesView). length v.charges) c.restart.ensures)
    (clock_settled s.stale (length s.queue.accounts.all) s.queue.schedule.places s.charges c.restart.new.self s.tasks (ap (λ (v : OpenChargesView). v.charges) c.restart.ensures) c.self-then-upto.invariant.settled)

pub returns-then-upto-clause-tasks : goal.returns-then-upto-clause-tasks
returns-then-upto-clause-tasks c =
    let s = c.self-then-upto.inside in
    let nobody = subst (λ (r : TaskTableView). (cpu : ℕ) → get_or r.charges cpu None ≡ None) (sym c.self-then-upto.view_is) c.vacate_all.ensures.nobody in
    ap (λ (v : OpenChargesView). owed_all v s.tasks) c.restart.ensures
    ∙ nobody_view 0 s.charges.upto s.charges.charges s.tasks nobody
    ∙ ap (λ (r : TaskTableView). r.tasks) c.self-then-upto.view_is
    ∙ c.vacate_all.ensures.tasks
