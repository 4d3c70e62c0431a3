use Rattle.std.proofs.Common.{ℕ, refl, sym, ap, subst, ◌∙◌, List, length, map}
use Rattle.std.specs.Prelude.{filter}
use Rattle.std.proofs.lemmas.List.Elements.{All-filter}
use Rattle.edf_pick.specs.Schedule.{ScheduleView}
use Rattle.domain_run.specs.declared.task.Task.{Task}
use Rattle.domain_run.specs.private.StaleCharges.{AreSettled}
use Rattle.domain_run.specs.Calls.{is_other}
use Rattle.domain_run.specs.private.TaskTable.{TaskTableView, quit}
use Rattle.domain_run.specs.private.RunQueue.{IsCounted}
use Rattle.domain_run.specs.private.Owed.{owed, AreOpen, IsOpenIf}
use Rattle.domain_run.proofs.Departing.{IsIdle, others_of, quit_idle}
use Rattle.domain_run.proofs.Owed.{alike_owed, counted_like, counted_unlike, idle_unlike, other_alike, filter_alike}
use Rattle.domain_run.proofs.Stale.{rated_settled}
use Rattle.domain_run.proofs.task_table.TaskTable.take_off.Goals as goal

pub apply_number-requires-clause-may : goal.apply_number-requires-clause-may
apply_number-requires-clause-may c k d h same = tt

pub drop_number-requires-clause-idle : goal.drop_number-requires-clause-idle
drop_number-requires-clause-idle c =
    let s = c.self.inside in
    idle_unlike (owed s.charges.upto s.charges.charges) (alike_owed s.charges.upto s.charges.charges) c.args.number s.tasks
    (subst (IsIdle c.args.number) (sym (ap (λ (r : TaskTableView). r.tasks) c.self.view_is ∙ c.apply_number.ensures.tasks)) (quit_idle c.args.number c.args.self.now.tasks))

pub drop_number-requires-clause-counted : goal.drop_number-requires-clause-counted
drop_number-requires-clause-counted c =
    let s = c.self.inside in
    counted_unlike (owed s.charges.upto s.charges.charges) (alike_owed s.charges.upto s.charges.charges) (length s.queue.accounts.all) s.queue s.tasks c.self.invariant.counted

pub invariant_of-self : goal.invariant_of-self
invariant_of-self c =
    let s = c.self.inside in
    let f = owed s.charges.upto s.charges.charges in
    let queue = c.drop_number.new.queue in
    let items = c.drop_number.new.tasks in
    let counted = c.drop_number.ensures.counted in
    record {
      counted = subst (λ (n : ℕ). IsCounted n queue (map f items)) (sym counted.wide) (counted_like f (alike_owed s.charges.upto s.charges.charges) (length s.queue.accounts.all) queue items counted);
      waits = subst (AreOpen s.charges.charges) (sym c.drop_number.ensures.tasks) (All-filter (is_other c.args.number) (IsOpenIf s.charges.charges) s.tasks c.self.invariant.waits);
      wide = c.self.invariant.wide ∙ sym counted.wide;
      settled = subst (λ (x : ScheduleView). AreSettled c.mark_rated.new.self (length queue.accounts.all) x.places s.charges.charges (map f items)) (sym c.drop_number.ensures.schedule)
          (rated_settled s.stale c.mark_rated.new.self (length s.queue.accounts.all) (length queue.accounts.all) s.queue.schedule.places s.charges.charges (map f s.tasks) (map f items) c.mark_rated.ensures.bare c.mark_rated.ensures.free c.mark_rated.ensures.rated c.self.invariant.settled);
    }

pub returns-clause-tasks : goal.returns-clause-tasks
returns-clause-tasks c =
    let s = c.self.inside in
    let f = owed s.charges.upto s.charges.charges in
    ap (λ (ts : List Task). map f ts) c.drop_number.ensures.tasks
    ∙ sym (filter_alike f (alike_owed s.charges.upto s.charges.charges) (is_other c.args.number) s.tasks (other_alike f (alike_owed s.charges.upto s.charges.charges) c.args.number))
    ∙ ap (λ (ts : List Task). filter (is_other c.args.number) ts) (ap (λ (r : TaskTableView). r.tasks) c.self.view_is ∙ c.apply_number.ensures.tasks)
    ∙ others_of c.args.number quit (λ t. refl) c.args.self.now.tasks
