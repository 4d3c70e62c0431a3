use Rattle.std.proofs.Common.{◌≡◌, ◌<◌, ◌≤◌, ℕ, Some, None, Option, List, length, get_or, inl, inr, sym, ap, subst, ◌∙◌}
use Rattle.std.specs.Prelude.{All}
use Rattle.std.proofs.lemmas.Bool.{cases_eq}
use Rattle.attr_check.specs.Ratio.{cap}
use Rattle.domain_run.specs.declared.task.Task.{Task}
use Rattle.domain_run.specs.Tick.{sum_of}
use Rattle.domain_run.specs.private.StaleCharges.{IsSettled, IsTrusted, AreSettled}
use Rattle.domain_run.specs.private.TaskTable.{TaskTableView, rate_in, basis_in}
use Rattle.domain_run.specs.private.Owed.{owed_all, charge_of_task, MayStart, IsRight}
use Rattle.domain_run.proofs.Bare.{inside_seen}
use Rattle.domain_run.proofs.Stale.{settled_right}
use Rattle.domain_run.proofs.Chargings.{kept_again}
use Rattle.domain_run.proofs.Starting.{a_task}
use Rattle.domain_run.proofs.task_table.TaskTable.occupy.Goals as goal
use Rattle.domain_run.proofs.task_table.TaskTable.occupy.Goals.{After-start_charge_at}

pub start_charge_at-requires-clause-there : goal.start_charge_at-requires-clause-there
start_charge_at-requires-clause-there c = subst (λ (r : TaskTableView). c.args.cpu < r.cpus) (sym c.self.view_is) c.requires.there

pub start_charge_at-requires-clause-wide : goal.start_charge_at-requires-clause-wide
start_charge_at-requires-clause-wide c = c.self.invariant.wide

pub start_charge_at-requires-clause-cpus : goal.start_charge_at-requires-clause-cpus
start_charge_at-requires-clause-cpus c = subst (λ (r : TaskTableView). (0 < r.cpus) × (r.cpus ≤ 64)) (sym c.self.view_is) c.requires.cpus

pub start_charge_at-requires-clause-counts : goal.start_charge_at-requires-clause-counts
start_charge_at-requires-clause-counts c =
    let s = c.self.inside in
    let i = c.self.invariant in
    (record { sums = i.counted.counts.sums; task_table = i.counted.task_table; waits = i.waits })

pub start_charge_at-requires-clause-within : goal.start_charge_at-requires-clause-within
start_charge_at-requires-clause-within c =
    let s = c.self.inside in
    (subst (λ (r : TaskTableView). sum_of r.tasks ≤ cap r.cpus c.args.limit) (sym c.self.view_is) c.requires.within)

pub start_charge_at-requires-clause-free : goal.start_charge_at-requires-clause-free
start_charge_at-requires-clause-free c = subst (λ (r : TaskTableView). get_or r.charges c.args.cpu None ≡ None) (sym c.self.view_is) c.requires.free

pub start_charge_at-requires-clause-at : goal.start_charge_at-requires-clause-at
start_charge_at-requires-clause-at c =
    let s = c.self.inside in
    let p = c.args.place in
    (inside_seen s.charges.upto s.charges.charges s.tasks p (subst (λ (r : TaskTableView). p < length r.tasks) (sym c.self.view_is) c.requires.at))

pub start_charge_at-requires-clause-home : goal.start_charge_at-requires-clause-home
start_charge_at-requires-clause-home c d =
    let s = c.self.inside in
    let p = c.args.place in
    (subst (λ (r : TaskTableView). (get_or r.tasks p d).cpu ≡ c.args.cpu) (sym c.self.view_is) (c.requires.home d))

pub start_charge_at-requires-clause-may : goal.start_charge_at-requires-clause-may
start_charge_at-requires-clause-may c d =
    let s = c.self.inside in
    let p = c.args.place in
    (subst (λ (r : TaskTableView). MayStart (get_or r.tasks p d)) (sym c.self.view_is) (c.requires.may d))

-- callers see the tasks as before
seen : (c : After-start_charge_at) → owed_all c.start_charge_at.new.charges c.self.inside.tasks ≡ owed_all c.self.inside.charges c.self.inside.tasks
seen c =
    c.start_charge_at.ensures.tasks

one_of : (c : After-start_charge_at) → Task
one_of c = a_task c.args.place c.args.self.now.tasks c.requires.at

-- the task that runs on the CPU
is_on_cpu : (c : After-start_charge_at) → Some (get_or (owed_all c.self.inside.charges c.self.inside.tasks) c.args.place (one_of c)).number ≡ get_or c.self.inside.queue.schedule.places c.args.cpu None
is_on_cpu c = sym (subst (λ (r : TaskTableView). get_or r.places c.args.cpu None ≡ Some (get_or r.tasks c.args.place (one_of c)).number) (sym c.self.view_is) (c.requires.is_on_cpu (one_of c)))

pub invariant_of-self : goal.invariant_of-self
invariant_of-self c =
    let a = (goal.at.invariant_of-self c).After-start_charge_at in
    let s = c.self.inside in
    let cpu = c.args.cpu in
    let p = c.args.place in
    let w = length s.queue.accounts.all in
    let places = s.queue.schedule.places in
    let items = s.tasks in
    let v = c.start_charge_at.new.charges in
    let d = c.start_charge_at.new.stale in
    let e = c.start_charge_at.ensures in
    let x = one_of a in
    let here : IsTrusted d w (get_or places cpu None) v.charges (owed_all v items) cpu =
    subst (λ (ts : List Task). IsTrusted d w (get_or places cpu None) v.charges ts cpu) (sym (seen a))
    (subst (λ (o : Option ℕ). IsTrusted d w o v.charges (owed_all s.charges items) cpu) (is_on_cpu a)
    ((e.here x))) in
    let settled : AreSettled d w places v.charges (owed_all v items) = λ i. elim (cases_eq i cpu) [
      | inl same ↦ subst (λ (n : ℕ). IsTrusted d w (get_or places n None) v.charges (owed_all v items) n) (sym same) here
      | inr other ↦
          let was = (c.self.invariant.settled i) in
          subst (λ (ts : List Task). IsTrusted d w (get_or places i None) v.charges ts i) (sym (seen a))
          ((e.keep_fresh i (get_or places i None) other was))
    ] in
    kept_again s.queue s.charges v items items s.stale d c.self.invariant (seen a) (e.waits) e.wide settled

pub returns-clause-tasks : goal.returns-clause-tasks
returns-clause-tasks c = seen (goal.at.returns-clause-tasks c).After-start_charge_at ∙ ap (λ (r : TaskTableView). r.tasks) c.self.view_is

pub returns-clause-right : goal.returns-clause-right
returns-clause-right c =
    let a = (goal.at.returns-clause-right c).After-start_charge_at in
    let s = c.self.inside in
    let cpu = c.args.cpu in
    let p = c.args.place in
    let limit = c.args.limit in
    let w = length s.queue.accounts.all in
    let o = get_or s.queue.schedule.places cpu None in
    let items = s.tasks in
    let v = c.start_charge_at.new.charges in
    let e = c.start_charge_at.ensures in
    let x = one_of a in
    let now = owed_all v items in
    let mine : IsSettled o (basis_in w limit now cpu) (get_or v.charges cpu None) =
    subst (λ (ts : List Task). IsSettled o (basis_in w limit ts cpu) (get_or v.charges cpu None)) (sym (seen a))
    (subst (λ (n : Option ℕ). IsSettled n (basis_in w limit (owed_all s.charges items) cpu) (get_or v.charges cpu None)) (is_on_cpu a)
    ((e.is_charging x))) in
    let all = settled_right w limit v.upto cpu o v.charges items mine (e.waits) in
    let moved = subst (λ (ts : List Task). All (λ t. t.cpu ≡ cpu → IsRight o t.number (rate_in w limit ts t) (charge_of_task v.charges t)) now) (seen a) all in
    subst (λ (r : TaskTableView). All (λ t. t.cpu ≡ cpu → IsRight (get_or r.places cpu None) t.number (rate_in r.cpus limit r.tasks t) (charge_of_task v.charges t)) now) c.self.view_is moved
