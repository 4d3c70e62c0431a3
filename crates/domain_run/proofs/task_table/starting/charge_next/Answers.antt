use Rattle.std.proofs.Common.{◌≡◌, ◌≤◌, ℕ, None, Some, Option, List, length, map, get_or, set, refl, sym, ap, subst, ◌∙◌, arith}
use Rattle.std.specs.Prelude.{IfSome}
use Rattle.attr_check.specs.Ratio.{cap}
use Rattle.std.proofs.lemmas.Grind.{common_steps}
use Rattle.domain_run.specs.declared.task.Task.{Task}
use Rattle.domain_run.specs.Tick.{sum_of}
use Rattle.domain_run.specs.private.Choosing.{IsHome}
use Rattle.domain_run.specs.private.StaleCharges.{IsTrusted, StaysFresh}
use Rattle.domain_run.specs.private.TaskTable.{homed_here}
use Rattle.due_times.specs.OpenCharges.{OpenChargesView}
use Rattle.domain_run.specs.private.Owed.{owed, owed_all, MayStartOf}
use Rattle.domain_run.proofs.Stale.{trusted_again, charge_other, same_trusted}
use Rattle.domain_run.proofs.Starting.{here_sum, here_may_some, home_may, a_task}
use Rattle.domain_run.proofs.Owed.{alike_owed, numbered_unlike}
use Rattle.domain_run.proofs.task_table.starting.charge_next.Goals as goal
use Rattle.domain_run.proofs.task_table.starting.charge_next.Goals.{After-leave_free_on, After-start_charge_at}

pub leave_free_on-requires-clause-numbered : goal.leave_free_on-requires-clause-numbered
leave_free_on-requires-clause-numbered c =
    let s = c.home_on-place.new.charges in
    numbered_unlike (owed s.upto s.charges) (alike_owed s.upto s.charges) c.home_on-place.new.tasks c.home_on-place.ensures.counts.task_table.numbered

-- who was trusted elsewhere still is, once no charge is open here
left_fresh : (c : After-leave_free_on) → StaysFresh (length c.args.accounts.now.all) c.args.cpu c.args.stale.now c.args.charges.now.charges (owed_all c.args.charges.now c.args.tasks.now)
    c.home_on-place.new.stale c.leave_free_on.new.charges.charges (owed_all c.leave_free_on.new.charges c.leave_free_on.new.tasks)
left_fresh c i o other was =
    let w = length c.args.accounts.now.all in
    let home = c.home_on-place in
    let d = home.new.stale in
    let before = owed_all c.args.charges.now c.args.tasks.now in
    let after = owed_all home.new.charges home.new.tasks in
    let one = trusted_again c.args.stale.now d w i o c.args.charges.now.charges home.new.charges.charges before after home.ensures.rated home.ensures.sum home.ensures.limit home.ensures.marked was in
    let two = charge_other d d w c.args.cpu i o None home.new.charges.charges after refl refl refl refl other one in
    subst (λ (v : OpenChargesView). IsTrusted d w o v.charges (owed_all c.leave_free_on.new.charges c.leave_free_on.new.tasks) i) (sym c.leave_free_on.ensures.charges)
    (subst (λ (ts : List Task). IsTrusted d w o (set home.new.charges.charges c.args.cpu None) ts i) (sym c.leave_free_on.ensures.tasks) two)

pub returns-then-is_none-clause-keep_fresh : goal.returns-then-is_none-clause-keep_fresh
returns-then-is_none-clause-keep_fresh c i o other was =
    let a = (goal.at.returns-then-is_none-clause-keep_fresh c).After-leave_free_on in
    let q = c.clear.ensures in
    same_trusted c.home_on-place.new.stale c.clear.new.self (length c.args.accounts.now.all) i o c.leave_free_on.new.charges.charges (owed_all c.leave_free_on.new.charges c.leave_free_on.new.tasks)
    (q.others i other) (q.elsewhere i other) q.sum q.limit (left_fresh a i o other was)

pub returns-in_default-clause-keep_fresh : goal.returns-in_default-clause-keep_fresh
returns-in_default-clause-keep_fresh c i o other was = left_fresh (goal.at.returns-in_default-clause-keep_fresh c).After-leave_free_on i o other was

-- the tasks then
then_are : (c : After-leave_free_on) → owed_all c.leave_free_on.new.charges c.leave_free_on.new.tasks ≡ map (homed_here c.args.occupant c.args.cpu) (owed_all c.args.charges.now c.args.tasks.now)
then_are c = c.leave_free_on.ensures.tasks ∙ c.home_on-place.ensures.tasks

pub start_charge_at-requires-clause-within : goal.start_charge_at-requires-clause-within
start_charge_at-requires-clause-within c =
    let a = (goal.at.start_charge_at-requires-clause-within c).After-leave_free_on in
    let tasks = owed_all c.args.charges.now c.args.tasks.now in
    let same : sum_of (owed_all c.leave_free_on.new.charges c.leave_free_on.new.tasks) ≡ sum_of tasks =
    ap sum_of (then_are a) ∙ here_sum c.args.occupant c.args.cpu tasks in
    subst (λ (n : ℕ). n ≤ cap (length c.home_on-place.new.accounts.all) c.args.limit) (sym same)
    (subst (λ (w : ℕ). sum_of tasks ≤ cap w c.args.limit) (sym c.home_on-place.ensures.wide) c.requires.within)

pub start_charge_at-requires-clause-may : goal.start_charge_at-requires-clause-may
start_charge_at-requires-clause-may c d =
    let a = (goal.at.start_charge_at-requires-clause-may c).After-leave_free_on in
    let tasks = owed_all c.args.charges.now c.args.tasks.now in
    let now = owed_all c.leave_free_on.new.charges c.leave_free_on.new.tasks in
    let may = subst (λ (ts : List Task). IfSome c.args.occupant (MayStartOf ts)) (sym (then_are a)) (here_may_some c.args.occupant c.args.cpu tasks c.args.occupant c.requires.may) in
    let home = subst (IsHome c.args.occupant c.args.cpu c.in-Some.place) (sym c.leave_free_on.ensures.tasks) c.in-Some.ensures.place in
    (home_may c.args.occupant c.args.cpu c.in-Some.place now may home d)

-- seating changes no task
seen : (c : After-start_charge_at) → owed_all c.leave_free_on.new.charges c.leave_free_on.new.tasks ≡ owed_all c.start_charge_at.new.charges c.leave_free_on.new.tasks
seen c = sym c.start_charge_at.ensures.tasks

pub returns-in-Some-clause-here : goal.returns-in-Some-clause-here
returns-in-Some-clause-here c =
    let a = (goal.at.returns-in-Some-clause-here c).After-start_charge_at in
    let w = length c.args.accounts.now.all in
    let p = c.in-Some.place in
    let cpu = c.args.cpu in
    let d = c.start_charge_at.new.stale in
    let charges = c.start_charge_at.new.charges in
    let home = c.in-Some.ensures.place in
    let x = a_task p (owed_all c.home_on-place.new.charges c.home_on-place.new.tasks) home.within in
    let was = owed_all c.leave_free_on.new.charges c.leave_free_on.new.tasks in
    let same : was ≡ owed_all c.home_on-place.new.charges c.home_on-place.new.tasks = c.leave_free_on.ensures.tasks in
    let is_on_cpu : Some (get_or was p x).number ≡ c.args.occupant = ap (λ (ts : List Task). Some (get_or ts p x).number) same ∙ sym (home.is_on_cpu x) in
    subst (λ (ts : List Task). IsTrusted d w c.args.occupant charges.charges ts cpu) (seen a)
    (subst (λ (o : Option ℕ). IsTrusted d w o charges.charges was cpu) is_on_cpu
    (subst (λ (n : ℕ). IsTrusted d n (Some (get_or was p x).number) charges.charges was cpu) c.home_on-place.ensures.wide (c.start_charge_at.ensures.here x)))

pub returns-in-Some-clause-keep_fresh : goal.returns-in-Some-clause-keep_fresh
returns-in-Some-clause-keep_fresh c i o other was =
    let a = (goal.at.returns-in-Some-clause-keep_fresh c).After-start_charge_at in
    let b = (goal.at.returns-in-Some-clause-keep_fresh c).After-leave_free_on in
    let w = length c.args.accounts.now.all in
    let then = owed_all c.leave_free_on.new.charges c.leave_free_on.new.tasks in
    let mid = (left_fresh b i o other was) in
    let now = c.start_charge_at.ensures.keep_fresh i o other (subst (λ (n : ℕ). IsTrusted c.home_on-place.new.stale n o c.leave_free_on.new.charges.charges then i) (sym c.home_on-place.ensures.wide) mid) in
    subst (λ (ts : List Task). IsTrusted c.start_charge_at.new.stale w o c.start_charge_at.new.charges.charges ts i) (seen a)
    (subst (λ (n : ℕ). IsTrusted c.start_charge_at.new.stale n o c.start_charge_at.new.charges.charges then i) c.home_on-place.ensures.wide now)

pub home_on-place-requires-clause-there : goal.home_on-place-requires-clause-there
home_on-place-requires-clause-there c = grind (arith, common_steps)

pub home_on-place-requires-clause-counts : goal.home_on-place-requires-clause-counts
home_on-place-requires-clause-counts c = grind (arith, common_steps)

pub leave_free_on-requires-clause-there : goal.leave_free_on-requires-clause-there
leave_free_on-requires-clause-there c = grind (arith, common_steps)

pub leave_free_on-requires-clause-waits : goal.leave_free_on-requires-clause-waits
leave_free_on-requires-clause-waits c = grind (arith, common_steps)

pub returns-then-is_none-clause-wide : goal.returns-then-is_none-clause-wide
returns-then-is_none-clause-wide c = grind (arith, common_steps)

pub returns-then-is_none-clause-counts : goal.returns-then-is_none-clause-counts
returns-then-is_none-clause-counts c = grind (arith, common_steps)

pub returns-then-is_none-clause-tasks : goal.returns-then-is_none-clause-tasks
returns-then-is_none-clause-tasks c = grind (arith, common_steps)

pub returns-then-is_none-clause-clock : goal.returns-then-is_none-clause-clock
returns-then-is_none-clause-clock c = grind (arith, common_steps)

pub returns-then-is_none-clause-charges : goal.returns-then-is_none-clause-charges
returns-then-is_none-clause-charges c = grind (arith, common_steps)

pub returns-then-is_none-clause-here : goal.returns-then-is_none-clause-here
returns-then-is_none-clause-here c = grind (arith, common_steps)

pub start_charge_at-requires-clause-there : goal.start_charge_at-requires-clause-there
start_charge_at-requires-clause-there c = grind (arith, common_steps)

pub start_charge_at-requires-clause-wide : goal.start_charge_at-requires-clause-wide
start_charge_at-requires-clause-wide c = grind (arith, common_steps)

pub start_charge_at-requires-clause-cpus : goal.start_charge_at-requires-clause-cpus
start_charge_at-requires-clause-cpus c = grind (arith, common_steps)

pub start_charge_at-requires-clause-limit : goal.start_charge_at-requires-clause-limit
start_charge_at-requires-clause-limit c = grind (arith, common_steps)

pub start_charge_at-requires-clause-counts : goal.start_charge_at-requires-clause-counts
start_charge_at-requires-clause-counts c = grind (arith, common_steps)

pub start_charge_at-requires-clause-free : goal.start_charge_at-requires-clause-free
start_charge_at-requires-clause-free c = grind (arith, common_steps)

pub start_charge_at-requires-clause-at : goal.start_charge_at-requires-clause-at
start_charge_at-requires-clause-at c = grind (arith, common_steps)

pub start_charge_at-requires-clause-home : goal.start_charge_at-requires-clause-home
start_charge_at-requires-clause-home c = grind (arith, common_steps)

pub returns-in-Some-clause-wide : goal.returns-in-Some-clause-wide
returns-in-Some-clause-wide c = grind (arith, common_steps)

pub returns-in-Some-clause-counts : goal.returns-in-Some-clause-counts
returns-in-Some-clause-counts c = grind (arith, common_steps)

pub returns-in-Some-clause-tasks : goal.returns-in-Some-clause-tasks
returns-in-Some-clause-tasks c = grind (arith, common_steps)

pub returns-in-Some-clause-clock : goal.returns-in-Some-clause-clock
returns-in-Some-clause-clock c = grind (arith, common_steps)

pub returns-in-Some-clause-charges : goal.returns-in-Some-clause-charges
returns-in-Some-clause-charges c = grind (arith, common_steps)

pub returns-in_default-clause-wide : goal.returns-in_default-clause-wide
returns-in_default-clause-wide c = grind (arith, common_steps)

pub returns-in_default-clause-counts : goal.returns-in_default-clause-counts
returns-in_default-clause-counts c = grind (arith, common_steps)

pub returns-in_default-clause-tasks : goal.returns-in_default-clause-tasks
returns-in_default-clause-tasks c = grind (arith, common_steps)

pub returns-in_default-clause-clock : goal.returns-in_default-clause-clock
returns-in_default-clause-clock c = grind (arith, common_steps)

pub returns-in_default-clause-charges : goal.returns-in_default-clause-charges
returns-in_default-clause-charges c = grind (arith, common_steps)

pub returns-in_default-clause-here : goal.returns-in_default-clause-here
returns-in_default-clause-here c = grind (arith, common_steps)
