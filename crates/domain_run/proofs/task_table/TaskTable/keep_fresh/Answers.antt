use Rattle.std.proofs.Common.{◌≡◌, ◌<◌, arith, None, length, get_or, sym, ap, subst, ◌∙◌}
use Rattle.std.specs.Prelude.{All}
use Rattle.domain_run.specs.Tick.{sum_of}
use Rattle.domain_run.specs.private.StaleCharges.{IsSettled}
use Rattle.domain_run.specs.private.TaskTable.{TaskTableView, basis_in, rate_in}
use Rattle.domain_run.specs.private.Owed.{owed_all, charge_of_task, IsRight}
use Rattle.domain_run.proofs.Stale.{fresh_settled, settled_right}
use Rattle.domain_run.proofs.task_table.TaskTable.keep_fresh.Goals as goal

pub is_rated-is_rated-requires : goal.is_rated-is_rated-requires
is_rated-is_rated-requires c = let h = subst (λ (r : TaskTableView). c.args.cpu < r.cpus) (sym c.self.view_is) c.requires.there in omega (arith, h, c.self.invariant.wide)

pub invariant_of-self : goal.invariant_of-self
invariant_of-self c =
    let s = c.self.inside in
    let i = c.self.invariant in
    let w = length s.queue.accounts.all in
    let tasks = owed_all s.charges s.tasks in
    let noted = c.is_fresh.ensures.noted c.if-is_fresh.true in
    let here = subst (λ (r : TaskTableView). IsSettled (get_or r.places c.args.cpu None) (basis_in r.cpus c.args.limit r.tasks c.args.cpu) (get_or r.charges c.args.cpu None)) (sym c.self.view_is) c.requires.settled in
    record {
      counted = i.counted;
      waits = i.waits;
      wide = i.wide;
      settled = fresh_settled s.stale c.clear.new.self w c.args.limit c.args.cpu s.queue.schedule.places s.charges.charges tasks c.is_rated-is_rated.result c.clear.ensures.others c.clear.ensures.elsewhere c.clear.ensures.here c.is_rated-is_rated.ensures.free c.clear.ensures.sum c.clear.ensures.limit (λ is. ((noted is).0 ∙ c.sum.ensures ∙ ap (λ (r : TaskTableView). sum_of r.tasks) (sym c.self.view_is), (noted is).1)) here i.settled;
    }

pub returns-then-is_fresh-clause-right : goal.returns-then-is_fresh-clause-right
returns-then-is_fresh-clause-right c =
    let s = c.self.inside in
    let cpu = c.args.cpu in
    let limit = c.args.limit in
    let here = subst (λ (r : TaskTableView). IsSettled (get_or r.places cpu None) (basis_in r.cpus limit r.tasks cpu) (get_or r.charges cpu None)) (sym c.self.view_is) c.requires.settled in
    subst (λ (v : TaskTableView). All (λ t. t.cpu ≡ cpu → IsRight (get_or v.places cpu None) t.number (rate_in v.cpus limit v.tasks t) (charge_of_task v.charges t)) v.tasks) c.self.view_is
    (settled_right (length s.queue.accounts.all) limit s.charges.upto cpu (get_or s.queue.schedule.places cpu None) s.charges.charges s.tasks here c.self.invariant.waits)

pub returns-else-is_fresh-clause-right : goal.returns-else-is_fresh-clause-right
returns-else-is_fresh-clause-right c =
    let s = c.self.inside in
    let cpu = c.args.cpu in
    let limit = c.args.limit in
    let here = subst (λ (r : TaskTableView). IsSettled (get_or r.places cpu None) (basis_in r.cpus limit r.tasks cpu) (get_or r.charges cpu None)) (sym c.self.view_is) c.requires.settled in
    subst (λ (v : TaskTableView). All (λ t. t.cpu ≡ cpu → IsRight (get_or v.places cpu None) t.number (rate_in v.cpus limit v.tasks t) (charge_of_task v.charges t)) v.tasks) c.self.view_is
    (settled_right (length s.queue.accounts.all) limit s.charges.upto cpu (get_or s.queue.schedule.places cpu None) s.charges.charges s.tasks here c.self.invariant.waits)
