use Rattle.std.proofs.Common.{◌≡◌, ℕ, Option, Some, None, List, length, ap, refl, sym, subst, ◌∙◌, arith}
use Rattle.std.specs.Prelude.{All, IfSome}
use Rattle.std.specs.Int.{bit_at}
use Rattle.edf_pick.specs.Places.{Places}
use Rattle.std.proofs.lemmas.Grind.{common_steps}
use Rattle.domain_run.specs.declared.task.Task.{Task}
use Rattle.domain_run.specs.Sound.{occupant}
use Rattle.domain_run.specs.private.TaskTable.{TaskTableView, rate_in, HasItsCharge}
use Rattle.domain_run.specs.private.Owed.{MayStart, IsRight, charge_of_task}
use Rattle.domain_run.proofs.Leaping.{right_next}
use Rattle.domain_run.proofs.to_event.charge_all.Goals as goal

pub loop-cpu-init : goal.loop-cpu-init
loop-cpu-init c =
    let first = c.args.task_table.now in
    let same : c.stale_there-left.new.self ≡ first = c.stale_there-left.ensures.task_table in
    record {
      marked = c.first_marked-cpu.ensures.marked;
      lowest = c.first_marked-cpu.ensures.lowest;
      cpus = ap (λ (r : TaskTableView). r.cpus) same;
      places = ap (λ (r : TaskTableView). r.places) same;
      clock = ap (λ (r : TaskTableView). r.clock) same;
      tasks = ap (λ (r : TaskTableView). r.tasks) same;
      right = subst (λ (r : TaskTableView). All (λ t. bit_at c.stale_there-left.result t.cpu ≡ 0 → HasItsCharge first.places first.cpus c.args.limit first.tasks r.charges t) first.tasks) (sym same) c.stale_there-left.ensures.others;
    }

pub charge_rightly-requires-clause-there : goal.charge_rightly-requires-clause-there
charge_rightly-requires-clause-there c =
    let many = ap (λ (ps : Places). length ps) c.occupants-cpus.ensures.occupants in
    omega (arith, c.loop-cpu-test.true, c.requires.wide, c.loop-cpu.invariant.cpus, many)

pub charge_rightly-requires-clause-may : goal.charge_rightly-requires-clause-may
charge_rightly-requires-clause-may c =
    let l = c.loop-cpu in
    let places = c.args.task_table.now.places in
    subst (λ (ps : Places). IfSome (occupant ps l.cpu) (λ n. All (λ t. t.number ≡ n → (t.cpu ≡ l.cpu) × MayStart t) l.task_table.tasks)) (sym l.invariant.places) (by_occupant (occupant places l.cpu) refl)
  where
    by_occupant : (o : Option ℕ) → occupant c.args.task_table.now.places c.loop-cpu.cpu ≡ o → IfSome o (λ n. All (λ t. t.number ≡ n → (t.cpu ≡ c.loop-cpu.cpu) × MayStart t) c.loop-cpu.task_table.tasks)
    by_occupant None e = tt
    by_occupant (Some n) e = subst (λ (ts : List Task). All (λ t. t.number ≡ n → (t.cpu ≡ c.loop-cpu.cpu) × MayStart t) ts) (sym c.loop-cpu.invariant.tasks) (c.requires.may c.loop-cpu.cpu n e)

pub loop-cpu-preserved : goal.loop-cpu-preserved
loop-cpu-preserved c =
    let l = c.loop-cpu in
    let first = c.args.task_table.now in
    let new = c.charge_rightly.new.self in
    let places = first.places in
    let e = c.charge_rightly.ensures in
    let stay : new.places ≡ places = e.places ∙ l.invariant.places in
    let tasks : new.tasks ≡ first.tasks = e.tasks ∙ l.invariant.tasks in
    let there = subst (λ (ps : Places). All (λ (t : Task). t.cpu ≡ l.cpu → IsRight (occupant ps l.cpu) t.number (rate_in l.task_table.cpus c.args.limit l.task_table.tasks t) (charge_of_task new.charges t)) new.tasks) l.invariant.places e.right in
    let here = subst (λ (ts : List Task). All (λ (t : Task). t.cpu ≡ l.cpu → IsRight (occupant places l.cpu) t.number (rate_in l.task_table.cpus c.args.limit l.task_table.tasks t) (charge_of_task new.charges t)) ts) tasks there in
    let now = subst (λ (n : ℕ). All (λ (t : Task). t.cpu ≡ l.cpu → IsRight (occupant places l.cpu) t.number (rate_in n c.args.limit first.tasks t) (charge_of_task new.charges t)) first.tasks) l.invariant.cpus
    (subst (λ (ts : List Task). All (λ (t : Task). t.cpu ≡ l.cpu → IsRight (occupant places l.cpu) t.number (rate_in l.task_table.cpus c.args.limit ts t) (charge_of_task new.charges t)) first.tasks) l.invariant.tasks here) in
    let next = c.first_marked-cpu-in-loop-cpu.ensures in
    record {
      marked = next.marked;
      lowest = next.lowest;
      cpus = e.cpus ∙ l.invariant.cpus;
      places = stay;
      clock = e.clock ∙ l.invariant.clock;
      tasks = tasks;
      right = right_next places first.cpus c.args.limit l.cpu l.left c.without-left.result first.tasks l.task_table.charges new.charges c.without-left.ensures.others l.invariant.right e.others now;
    }

pub returns-clause-right : goal.returns-clause-right
returns-clause-right c =
    let l = c.loop-cpu in
    let first = c.args.task_table.now in
    let many = ap (λ (ps : Places). length ps) c.occupants-cpus.ensures.occupants in
    subst (λ (ts : List Task). All (HasItsCharge first.places first.cpus c.args.limit first.tasks l.task_table.charges) ts) (sym l.invariant.tasks)
    (λ k d h. l.invariant.right k d h (l.invariant.lowest _ (let home = c.requires.homes k d h in omega (arith, home, c.requires.wide, c.loop-cpu-test.false, many))))

pub charge_rightly-requires-clause-cpus : goal.charge_rightly-requires-clause-cpus
charge_rightly-requires-clause-cpus c = grind (arith, common_steps)

pub charge_rightly-requires-clause-limit : goal.charge_rightly-requires-clause-limit
charge_rightly-requires-clause-limit c = grind (arith, common_steps)

pub charge_rightly-requires-clause-within : goal.charge_rightly-requires-clause-within
charge_rightly-requires-clause-within c = grind (arith, common_steps)

pub returns-clause-cpus : goal.returns-clause-cpus
returns-clause-cpus c = grind (arith, common_steps)

pub returns-clause-places : goal.returns-clause-places
returns-clause-places c = grind (arith, common_steps)

pub returns-clause-clock : goal.returns-clause-clock
returns-clause-clock c = grind (arith, common_steps)

pub returns-clause-tasks : goal.returns-clause-tasks
returns-clause-tasks c = grind (arith, common_steps)

pub returns-clause-homed : goal.returns-clause-homed
returns-clause-homed c = grind (arith, common_steps)
