use Rattle.std.proofs.Common.{◌≡◌, ◌<◌, ◌≤◌, ◌++◌, ℕ, List, length, map, sym, ap, subst, ◌∙◌, refl, arith}
use Rattle.std.specs.Prelude.{All}
use Rattle.attr_check.specs.Ratio.{cap}
use Rattle.edf_pick.specs.declared.moves.Moved.{Moved}
use Rattle.edf_pick.specs.Places.{placed}
use Rattle.edf_pick.proofs.CallerLemmas.{moved_length}
use Rattle.domain_run.specs.declared.run_queue.RunQueue.{RunQueue}
use Rattle.domain_run.specs.Parts.{with_last_cpu}
use Rattle.domain_run.specs.Sound.{HasNoTaskTwice}
use Rattle.domain_run.specs.Tick.{candidates, sum_of}
use Rattle.domain_run.specs.private.Choosing.{AreWithin, task_homed_by, switch_made}
use Rattle.domain_run.specs.private.StaleCharges.{IsTrusted, AreSettled, AreSettledBut}
use Rattle.domain_run.specs.private.TaskTable.{TaskTableView}
use Rattle.domain_run.specs.private.RunQueue.{IsCounted}
use Rattle.domain_run.specs.private.Owed.{owed_all, MayStartIfReady}
use Rattle.domain_run.proofs.Choosing.{counted_homed}
use Rattle.domain_run.proofs.Stale.{still_first}
use Rattle.domain_run.proofs.Counting.{placed_counted, placed_charging}
use Rattle.domain_run.proofs.Moving.{moved_within, homed_moves}
use Rattle.domain_run.proofs.OpenCharging.{IsCharging}
use Rattle.domain_run.proofs.Starting.{may_run_there}
use Rattle.domain_run.proofs.task_table.TaskTable.choose_charging.Goals as goal
use Rattle.domain_run.proofs.task_table.TaskTable.choose_charging.Goals.{After-pick, After-charge_moved}

was_on_cpu : (c : After-pick) → HasNoTaskTwice c.self.inside.queue.schedule.places
was_on_cpu c = subst (λ (r : TaskTableView). HasNoTaskTwice r.places) (sym c.self.view_is) c.requires.apart

-- the task that runs is placed
open_charging : (c : After-pick) → IsCharging (candidates (owed_all c.self.inside.charges c.self.inside.tasks)) (length c.self.inside.queue.schedule.places) c.pick.new.self.places
open_charging c =
    let s = c.self.inside in
    placed_charging s.queue.schedule.queue (owed_all s.charges s.tasks) s.queue.schedule.places c.pick.new.self.places c.self.invariant.counted.counts.order c.self.invariant.counted.task_table.numbered (was_on_cpu c) c.pick.ensures.places

pub charge_moved-requires-clause-there : goal.charge_moved-requires-clause-there
charge_moved-requires-clause-there c =
    let s = c.self.inside in
    let before = s.queue.schedule.places in
    let wide : length before ≡ length s.queue.accounts.all = subst (λ (r : TaskTableView). length r.places ≡ r.cpus) (sym c.self.view_is) c.requires.wide in
    subst (AreWithin (length s.queue.accounts.all)) (sym c.pick.ensures.moves)
    (λ k d h. let less = moved_within 0 before c.pick.new.self.places k d h in omega (arith, less, wide))

pub charge_moved-requires-clause-wide : goal.charge_moved-requires-clause-wide
charge_moved-requires-clause-wide c = c.self.invariant.wide

pub charge_moved-requires-clause-cpus : goal.charge_moved-requires-clause-cpus
charge_moved-requires-clause-cpus c = subst (λ (r : TaskTableView). (0 < r.cpus) × (r.cpus ≤ 64)) (sym c.self.view_is) c.requires.cpus

pub charge_moved-requires-clause-counts : goal.charge_moved-requires-clause-counts
charge_moved-requires-clause-counts c =
    let i = c.self.invariant in
    record { sums = i.counted.counts.sums; task_table = i.counted.task_table; waits = i.waits }

pub charge_moved-requires-clause-within : goal.charge_moved-requires-clause-within
charge_moved-requires-clause-within c = subst (λ (r : TaskTableView). sum_of r.tasks ≤ cap r.cpus c.args.moment.limit) (sym c.self.view_is) c.requires.within

pub charge_moved-requires-clause-may : goal.charge_moved-requires-clause-may
charge_moved-requires-clause-may c cpu =
    let s = c.self.inside in
    let a = (goal.at.charge_moved-requires-clause-may c).After-pick in
    let may = subst (λ (r : TaskTableView). All MayStartIfReady r.tasks) (sym c.self.view_is) c.requires.may in
    may_run_there c.pick.new.self.places (owed_all s.charges s.tasks) (open_charging a).candidates c.self.invariant.counted.task_table.numbered may cpu

pub charge_moved-requires-clause-settled : goal.charge_moved-requires-clause-settled
charge_moved-requires-clause-settled c =
    let s = c.self.inside in
    let a = (goal.at.charge_moved-requires-clause-settled c).After-pick in
    let w = length s.queue.accounts.all in
    let tasks = owed_all s.charges s.tasks in
    let before = s.queue.schedule.places in
    let after = c.pick.new.self.places in
    subst (λ (ms : List Moved). AreSettledBut ms s.stale w after s.charges.charges tasks) (sym c.pick.ensures.moves)
    (λ cpu others. subst (λ o. IsTrusted s.stale w o s.charges.charges tasks cpu) (sym (still_first before after cpu (open_charging a).wide others)) (c.self.invariant.settled cpu))

pub charge_moved-requires-clause-spare : goal.charge_moved-requires-clause-spare
charge_moved-requires-clause-spare c =
    let before = c.self.inside.queue.schedule.places in
    let after = c.pick.new.self.places in
    let len : length before ≡ length c.args.self.now.places = ap (λ (r : TaskTableView). length r.places) c.self.view_is in
    omega (arith, c.requires.spare, len, ap (λ (ms : List Moved). length ms) c.pick.ensures.moves, moved_length 0 before after)

ran_still : (c : After-charge_moved) → HasNoTaskTwice c.self.inside.queue.schedule.places
ran_still c = subst (λ (r : TaskTableView). HasNoTaskTwice r.places) (sym c.self.view_is) c.requires.apart

assigned : (c : After-charge_moved) → IsCharging (candidates (owed_all c.self.inside.charges c.self.inside.tasks)) (length c.self.inside.queue.schedule.places) c.pick.new.self.places
assigned c =
    let s = c.self.inside in
    placed_charging s.queue.schedule.queue (owed_all s.charges s.tasks) s.queue.schedule.places c.pick.new.self.places c.self.invariant.counted.counts.order c.self.invariant.counted.task_table.numbered (ran_still c) c.pick.ensures.places

-- the tasks then
homes : (c : After-charge_moved) → owed_all c.charge_moved.new.charges c.charge_moved.new.tasks ≡ map (with_last_cpu c.pick.new.self.places) (owed_all c.self.inside.charges c.self.inside.tasks)
homes c =
    let s = c.self.inside in
    let before = s.queue.schedule.places in
    let after = c.pick.new.self.places in
    let tasks = owed_all s.charges s.tasks in
    c.charge_moved.ensures.tasks
    ∙ ap (λ (ms : List Moved). map (task_homed_by after ms) tasks) c.pick.ensures.moves
    ∙ homed_moves before after tasks (assigned c).wide (ran_still c).once (assigned c).apart.once c.self.invariant.counted.homed

pub invariant_of-self : goal.invariant_of-self
invariant_of-self c =
    let s = c.self.inside in
    let a = (goal.at.invariant_of-self c).After-charge_moved in
    let new : RunQueue = record { accounts = c.charge_moved.new.accounts; schedule = c.pick.new.self; timers = s.queue.timers } in
    let all = c.charge_moved.ensures in
    let charges = c.charge_moved.new.charges in
    let items = c.charge_moved.new.tasks in
    let counted = counted_homed (length s.queue.accounts.all) s.queue new s.charges charges s.tasks items c.self.invariant.counted all.wide all.counts c.pick.ensures.queue refl (homes a) in
    record {
      counted = subst (λ (n : ℕ). IsCounted n new (owed_all charges items)) (sym all.wide) counted;
      waits = all.counts.waits;
      wide = all.charges ∙ c.self.invariant.wide ∙ sym all.wide;
      settled = subst (λ (n : ℕ). AreSettled c.charge_moved.new.stale n c.pick.new.self.places charges.charges (owed_all charges items)) (sym all.wide) all.settled;
    }

pub returns-clause-places : goal.returns-clause-places
returns-clause-places c =
    let s = c.self.inside in
    let before = s.queue.schedule.places in
    let tasks = owed_all s.charges s.tasks in
    c.pick.ensures.places
    ∙ placed_counted (length before) s.queue.schedule.queue tasks before c.self.invariant.counted.counts.order c.self.invariant.counted.task_table.numbered
    ∙ ap (λ (r : TaskTableView). placed (length r.places) (candidates r.tasks) r.places) c.self.view_is

pub returns-clause-tasks : goal.returns-clause-tasks
returns-clause-tasks c =
    homes (goal.at.returns-clause-tasks c).After-charge_moved ∙ ap (λ (r : TaskTableView). map (with_last_cpu c.pick.new.self.places) r.tasks) c.self.view_is

pub returns-clause-wide : goal.returns-clause-wide
returns-clause-wide c =
    (open_charging (goal.at.returns-clause-wide c).After-pick).wide ∙ ap (λ (r : TaskTableView). length r.places) c.self.view_is

pub returns-clause-switches : goal.returns-clause-switches
returns-clause-switches c =
    c.charge_moved.ensures.switches
    ∙ ap (λ (r : TaskTableView). c.args.switches.now.items ++ map (switch_made c.args.moment.time r.tasks c.pick.new.self.places) c.pick.new.self.moves) c.self.view_is

pub returns-clause-apart : goal.returns-clause-apart
returns-clause-apart c = (assigned c).apart
