use Rattle.std.proofs.Common.{◌≡◌, ◌++◌, ◌∷◌, [], ℕ, List, length, map, sym, ap, subst, ◌∙◌, arith}
use Rattle.std.proofs.lemmas.List.{length-map}
use Rattle.domain_run.specs.declared.task.Task.{Task}
use Rattle.edf_pick.specs.Places.{Places}
use Rattle.edf_pick.specs.Schedule.{ScheduleView}
use Rattle.domain_run.specs.private.StaleCharges.{AreSettled}
use Rattle.domain_run.specs.private.Index.{IsUnlisted}
use Rattle.domain_run.specs.private.TaskTable.{TaskTableView}
use Rattle.domain_run.specs.private.RunQueue.{IsCounted}
use Rattle.due_times.specs.OpenCharges.{OpenChargesView}
use Rattle.domain_run.specs.private.Owed.{owed, owed_all, charges_without, AreOpen}
use Rattle.domain_run.proofs.Owed.{alike_owed, counted_like, counted_unlike, absent_unlike, length_left, pushed_owed, pushed_waits}
use Rattle.domain_run.proofs.Stale.{push_settled}
use Rattle.domain_run.proofs.task_table.TaskTable.push.Goals as goal

pub push_task-requires-clause-few : goal.push_task-requires-clause-few
push_task-requires-clause-few c =
    let s = c.self.inside in
    let many : length (map (owed s.charges.upto s.charges.charges) s.tasks) ≡ length s.tasks = simp length-map in
    omega (arith, many, c.requires.few, ap (λ (r : TaskTableView). length r.tasks) c.self.view_is)

pub push_task-requires-clause-absent : goal.push_task-requires-clause-absent
push_task-requires-clause-absent c =
    let s = c.self.inside in
    absent_unlike (owed s.charges.upto s.charges.charges) (alike_owed s.charges.upto s.charges.charges) c.args.task.number s.tasks
    (subst (λ (r : TaskTableView). IsUnlisted r.tasks c.args.task.number) (sym c.self.view_is) c.requires.absent)

pub push_task-requires-clause-counted : goal.push_task-requires-clause-counted
push_task-requires-clause-counted c =
    let s = c.self.inside in
    counted_unlike (owed s.charges.upto s.charges.charges) (alike_owed s.charges.upto s.charges.charges) (length s.queue.accounts.all) s.queue s.tasks c.self.invariant.counted

pub returns-clause-tasks : goal.returns-clause-tasks
returns-clause-tasks c =
    let s = c.self.inside in
    let t = c.args.task in
    let items = c.push_task.new.tasks in
    let absent = absent_unlike (owed s.charges.upto s.charges.charges) (alike_owed s.charges.upto s.charges.charges) t.number s.tasks
    (subst (λ (r : TaskTableView). IsUnlisted r.tasks t.number) (sym c.self.view_is) c.requires.absent) in
    ap (λ (v : OpenChargesView). owed_all v items) c.leave.ensures
    ∙ ap (λ (ts : List Task). map (owed s.charges.upto (charges_without t s.charges.charges)) ts) c.push_task.ensures.tasks
    ∙ pushed_owed s.charges.upto s.charges.charges s.tasks t absent
    ∙ ap (λ (r : TaskTableView). r.tasks ++ t ∷ []) c.self.view_is

pub invariant_of-self : goal.invariant_of-self
invariant_of-self c =
    let s = c.self.inside in
    let t = c.args.task in
    let items = c.push_task.new.tasks in
    let queue = c.push_task.new.queue in
    let charges = c.leave.new.self in
    let counted = c.push_task.ensures.counted in
    let absent = absent_unlike (owed s.charges.upto s.charges.charges) (alike_owed s.charges.upto s.charges.charges) t.number s.tasks
    (subst (λ (r : TaskTableView). IsUnlisted r.tasks t.number) (sym c.self.view_is) c.requires.absent) in
    let tasks = ap (λ (v : OpenChargesView). owed_all v items) c.leave.ensures
    ∙ ap (λ (ts : List Task). map (owed s.charges.upto (charges_without t s.charges.charges)) ts) c.push_task.ensures.tasks
    ∙ pushed_owed s.charges.upto s.charges.charges s.tasks t absent in
    record {
      counted = subst (λ (n : ℕ). IsCounted n queue (owed_all charges items)) (sym counted.wide) (counted_like (owed charges.upto charges.charges) (alike_owed charges.upto charges.charges) (length s.queue.accounts.all) queue items counted);
      waits = subst (λ (v : OpenChargesView). AreOpen v.charges items) (sym c.leave.ensures) (subst (AreOpen (charges_without t s.charges.charges)) (sym c.push_task.ensures.tasks) (pushed_waits s.charges.charges s.tasks t absent c.self.invariant.waits));
      wide = ap (λ (v : OpenChargesView). length v.charges) c.leave.ensures ∙ length_left t.cpu t.number s.charges.charges ∙ c.self.invariant.wide ∙ sym counted.wide;
      settled = subst (λ (ps : Places). AreSettled c.mark.new.self (length queue.accounts.all) ps charges.charges (owed_all charges items)) (sym (ap (λ (x : ScheduleView). x.places) c.push_task.ensures.schedule))
          (subst (λ (n : ℕ). AreSettled c.mark.new.self n s.queue.schedule.places charges.charges (owed_all charges items)) (sym counted.wide)
          (push_settled s.stale c.mark.new.self (length s.queue.accounts.all) s.queue.schedule.places s.charges charges s.tasks items t c.leave.ensures tasks c.mark.ensures.marked c.mark.ensures.bare c.mark.ensures.rated c.mark.ensures.sum c.mark.ensures.limit c.self.invariant.settled));
    }
