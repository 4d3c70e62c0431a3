use Rattle.std.proofs.Common.{◌≡◌, ◌<◌, ℕ, Some, None, Option, List, length, get_or, refl, sym, ap, subst, ◌∙◌, arith}
use Rattle.std.specs.Prelude.{All, IfSome}
use Rattle.std.proofs.lemmas.List.{get_or-map, get_or-set_same, length-set}
use Rattle.domain_run.specs.declared.task.Task.{Task}
use Rattle.domain_run.specs.Tick.{sum_of}
use Rattle.due_times.specs.OpenCharges.{OpenChargesView, IsOn}
use Rattle.domain_run.specs.private.StaleCharges.{IsSettled}
use Rattle.domain_run.specs.private.Index.{IsListedAt}
use Rattle.domain_run.specs.private.TaskTable.{TaskTableView, rate_in, basis_in}
use Rattle.domain_run.specs.private.Owed.{owed, owed_all, charge_of_task, IsRight}
use Rattle.domain_run.proofs.Stale.{claimed_settled, settled_right}
use Rattle.domain_run.proofs.Chargings.{kept_again}
use Rattle.domain_run.proofs.Owed.{alike_owed, numbered_unlike, at_unlike}
use Rattle.domain_run.proofs.task_table.TaskTable.go_on.Goals as goal
use Rattle.domain_run.proofs.task_table.TaskTable.go_on.Goals.{After-clear_for}

pub go_on-requires-clause-at : goal.go_on-requires-clause-at
go_on-requires-clause-at c =
    let s = c.self.inside in
    at_unlike (owed s.charges.upto s.charges.charges) (alike_owed s.charges.upto s.charges.charges) c.args.open_charge.number c.args.place s.tasks
    (subst (λ (r : TaskTableView). IsListedAt r.tasks c.args.open_charge.number c.args.place) (sym c.self.view_is) c.requires.at)

pub go_on-requires-clause-home : goal.go_on-requires-clause-home
go_on-requires-clause-home c d =
    let s = c.self.inside in
    let f = owed s.charges.upto s.charges.charges in
    let p = c.args.place in
    let at = at_unlike f (alike_owed s.charges.upto s.charges.charges) c.args.open_charge.number p s.tasks
    (subst (λ (r : TaskTableView). IsListedAt r.tasks c.args.open_charge.number p) (sym c.self.view_is) c.requires.at) in
    sym (alike_owed s.charges.upto s.charges.charges (get_or s.tasks p d)).cpu
    ∙ ap (λ (t : Task). t.cpu) (sym (get_or-map f s.tasks p d d at.within))
    ∙ subst (λ (r : TaskTableView). (get_or r.tasks p d).cpu ≡ c.args.cpu) (sym c.self.view_is) (c.requires.home d)

pub go_on-requires-clause-numbered : goal.go_on-requires-clause-numbered
go_on-requires-clause-numbered c =
    let s = c.self.inside in
    numbered_unlike (owed s.charges.upto s.charges.charges) (alike_owed s.charges.upto s.charges.charges) s.tasks c.self.invariant.counted.task_table.numbered

-- the task that runs on the CPU
is_on_cpu : (c : After-clear_for) → get_or c.self.inside.queue.schedule.places c.args.cpu None ≡ Some c.go_on.result.number
is_on_cpu c =
    subst (λ (r : TaskTableView). get_or r.places c.args.cpu None ≡ Some c.args.open_charge.number) (sym c.self.view_is) c.requires.is_on_cpu
    ∙ ap (λ n. Some n) (sym c.go_on.ensures.number)

-- its claim runs now
on : (c : After-clear_for) → IsOn (basis_in (length c.self.inside.queue.accounts.all) c.args.limit (owed_all c.self.inside.charges c.self.inside.tasks) c.args.cpu) c.args.claim
on c = subst (λ (r : TaskTableView). IsOn (basis_in r.cpus c.args.limit r.tasks c.args.cpu) c.args.claim) (sym c.self.view_is) c.requires.on

inside : (c : After-clear_for) → c.args.cpu < length c.self.inside.charges.charges
inside c =
    let there = subst (λ (r : TaskTableView). c.args.cpu < r.cpus) (sym c.self.view_is) c.requires.there in
    omega (arith, there, c.self.invariant.wide)

pub invariant_of-self : goal.invariant_of-self
invariant_of-self c =
    let a = (goal.at.invariant_of-self c).After-clear_for in
    let s = c.self.inside in
    let cpu = c.args.cpu in
    let w = length s.queue.accounts.all in
    let v = c.go_on.new.charges in
    let after = c.go_on.new.tasks in
    let e = c.go_on.ensures in
    let q = c.clear_for.ensures in
    let sum : c.total.result ≡ sum_of (owed_all s.charges s.tasks) = c.total.ensures ∙ c.self.invariant.counted.counts.sums.total in
    kept_again s.queue s.charges v s.tasks after s.stale c.clear_for.new.self c.self.invariant e.tasks e.waits
    (ap (λ (x : OpenChargesView). length x.charges) e.charges ∙ length-set s.charges.charges cpu (Some c.go_on.result))
    (claimed_settled s.stale c.clear_for.new.self w c.args.limit cpu s.queue.schedule.places s.charges v s.tasks after c.go_on.result c.args.claim e.charges e.tasks (inside a) (is_on_cpu a) e.claim (on a)
    q.others q.elsewhere (q.marked refl) (λ bare. let p = q.noted refl bare in (p.0 ∙ sum, p.1)) q.sum q.limit c.self.invariant.settled)

pub returns-clause-right : goal.returns-clause-right
returns-clause-right c =
    let a = (goal.at.returns-clause-right c).After-clear_for in
    let s = c.self.inside in
    let cpu = c.args.cpu in
    let limit = c.args.limit in
    let w = length s.queue.accounts.all in
    let o = get_or s.queue.schedule.places cpu None in
    let v = c.go_on.new.charges in
    let after = c.go_on.new.tasks in
    let e = c.go_on.ensures in
    let now = owed_all v after in
    let was_started : get_or v.charges cpu None ≡ Some c.go_on.result = ap (λ (x : OpenChargesView). get_or x.charges cpu None) e.charges ∙ get_or-set_same s.charges.charges cpu (Some c.go_on.result) None (inside a) in
    let mine : IsSettled o (basis_in w limit now cpu) (get_or v.charges cpu None) =
    subst (λ (ts : List Task). IsSettled o (basis_in w limit ts cpu) (get_or v.charges cpu None)) (sym e.tasks)
    (subst (IsSettled o (basis_in w limit (owed_all s.charges s.tasks) cpu)) (sym was_started)
    (subst (λ (n : Option ℕ). IsSettled n (basis_in w limit (owed_all s.charges s.tasks) cpu) (Some c.go_on.result)) (sym (is_on_cpu a))
    (refl, subst (λ k. IfSome k (IsOn (basis_in w limit (owed_all s.charges s.tasks) cpu))) (sym e.claim) (on a)))) in
    let all = settled_right w limit v.upto cpu o v.charges after mine e.waits in
    let moved = subst (λ (ts : List Task). All (λ t. t.cpu ≡ cpu → IsRight o t.number (rate_in w limit ts t) (charge_of_task v.charges t)) now) e.tasks all in
    subst (λ (r : TaskTableView). All (λ t. t.cpu ≡ cpu → IsRight (get_or r.places cpu None) t.number (rate_in r.cpus limit r.tasks t) (charge_of_task v.charges t)) now) c.self.view_is moved
