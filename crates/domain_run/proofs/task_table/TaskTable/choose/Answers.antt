use Rattle.std.specs.Int.{bit_at}
use Rattle.std.specs.Prelude.{All}
use Rattle.std.proofs.Common.{◌≡◌, ◌<◌, ℕ, List, length, map, sym, ap, subst, ◌∙◌, refl, arith}
use Rattle.edf_pick.specs.declared.moves.Moved.{Moved}
use Rattle.edf_pick.specs.Moves.{moved_from}
use Rattle.edf_pick.specs.Places.{placed}
use Rattle.domain_run.specs.declared.run_queue.RunQueue.{RunQueue}
use Rattle.domain_run.specs.Parts.{with_last_cpu}
use Rattle.domain_run.specs.Sound.{HasNoTaskTwice}
use Rattle.domain_run.specs.Tick.{candidates}
use Rattle.domain_run.specs.private.Choosing.{AreWithin, task_homed_by}
use Rattle.domain_run.specs.private.StaleCharges.{AreSettled}
use Rattle.domain_run.specs.private.TaskTable.{TaskTableView}
use Rattle.domain_run.specs.private.RunQueue.{IsCounted}
use Rattle.domain_run.specs.private.Owed.{owed_all}
use Rattle.domain_run.proofs.Choosing.{counted_homed}
use Rattle.domain_run.proofs.Stale.{settled_again, still_first, moved_apart}
use Rattle.domain_run.proofs.Counting.{placed_counted, placed_charging}
use Rattle.domain_run.proofs.Moving.{moved_within, homed_moves}
use Rattle.domain_run.proofs.OpenCharging.{IsCharging}
use Rattle.domain_run.proofs.task_table.TaskTable.choose.Goals as goal
use Rattle.domain_run.proofs.task_table.TaskTable.choose.Goals.{After-home_all}

was_on_cpu : (c : After-home_all) → HasNoTaskTwice c.self.inside.queue.schedule.places
was_on_cpu c = subst (λ (r : TaskTableView). HasNoTaskTwice r.places) (sym c.self.view_is) c.requires.apart

-- the task that runs is placed
open_charging : (c : After-home_all) → IsCharging (candidates (owed_all c.self.inside.charges c.self.inside.tasks)) (length c.self.inside.queue.schedule.places) c.pick.new.self.places
open_charging c =
    let s = c.self.inside in
    placed_charging s.queue.schedule.queue (owed_all s.charges s.tasks) s.queue.schedule.places c.pick.new.self.places c.self.invariant.counted.counts.order c.self.invariant.counted.task_table.numbered (was_on_cpu c) c.pick.ensures.places

pub home_all-requires-clause-there : goal.home_all-requires-clause-there
home_all-requires-clause-there c =
    let s = c.self.inside in
    let before = s.queue.schedule.places in
    let wide : length before ≡ length s.queue.accounts.all = subst (λ (r : TaskTableView). length r.places ≡ r.cpus) (sym c.self.view_is) c.requires.wide in
    subst (AreWithin (length s.queue.accounts.all)) (sym c.pick.ensures.moves)
    (λ k d h. let less = moved_within 0 before c.pick.new.self.places k d h in omega (arith, less, wide))

pub home_all-requires-clause-counts : goal.home_all-requires-clause-counts
home_all-requires-clause-counts c =
    let i = c.self.invariant in
    record { sums = i.counted.counts.sums; task_table = i.counted.task_table; waits = i.waits }

-- the tasks then
homes : (c : After-home_all) → owed_all c.home_all.new.charges c.home_all.new.tasks ≡ map (with_last_cpu c.pick.new.self.places) (owed_all c.self.inside.charges c.self.inside.tasks)
homes c =
    let s = c.self.inside in
    let before = s.queue.schedule.places in
    let after = c.pick.new.self.places in
    let tasks = owed_all s.charges s.tasks in
    c.home_all.ensures.tasks
    ∙ ap (λ (ms : List Moved). map (task_homed_by after ms) tasks) c.pick.ensures.moves
    ∙ homed_moves before after tasks (open_charging c).wide (was_on_cpu c).once (open_charging c).apart.once c.self.invariant.counted.homed

pub invariant_of-self : goal.invariant_of-self
invariant_of-self c =
    let s = c.self.inside in
    let a = (goal.at.invariant_of-self c).After-home_all in
    let new : RunQueue = record { accounts = c.home_all.new.accounts; schedule = c.pick.new.self; timers = s.queue.timers } in
    let all = c.home_all.ensures in
    let counted = counted_homed (length s.queue.accounts.all) s.queue new s.charges c.home_all.new.charges s.tasks c.home_all.new.tasks c.self.invariant.counted all.wide all.counts
    (c.pick.ensures.queue) refl (homes a) in
    record {
      counted = subst (λ (n : ℕ). IsCounted n new (owed_all c.home_all.new.charges c.home_all.new.tasks)) (sym all.wide) counted;
      waits = all.counts.waits;
      wide = all.charges ∙ c.self.invariant.wide ∙ sym all.wide;
      settled = subst (λ (n : ℕ). AreSettled c.home_all.new.stale n c.pick.new.self.places c.home_all.new.charges.charges (owed_all c.home_all.new.charges c.home_all.new.tasks)) (sym all.wide)
          (settled_again s.stale c.home_all.new.stale (length s.queue.accounts.all) s.queue.schedule.places c.pick.new.self.places s.charges.charges c.home_all.new.charges.charges (owed_all s.charges s.tasks) (owed_all c.home_all.new.charges c.home_all.new.tasks)
          all.rated all.sum all.limit all.marked
          (λ cpu few bare. still_first s.queue.schedule.places c.pick.new.self.places cpu (open_charging a).wide
          (moved_apart c.home_all.new.stale.cpus cpu (moved_from 0 s.queue.schedule.places c.pick.new.self.places) (subst (λ (ms : List Moved). All (λ m. m.cpu < 64 → bit_at c.home_all.new.stale.cpus m.cpu ≡ 1) ms) c.pick.ensures.moves all.moved) few bare))
          c.self.invariant.settled);
    }

pub returns-clause-places : goal.returns-clause-places
returns-clause-places c =
    let s = c.self.inside in
    let before = s.queue.schedule.places in
    let tasks = owed_all s.charges s.tasks in
    c.pick.ensures.places
    ∙ placed_counted (length before) s.queue.schedule.queue tasks before c.self.invariant.counted.counts.order c.self.invariant.counted.task_table.numbered
    ∙ ap (λ (r : TaskTableView). placed (length r.places) (candidates r.tasks) r.places) c.self.view_is

pub returns-clause-tasks : goal.returns-clause-tasks
returns-clause-tasks c =
    homes (goal.at.returns-clause-tasks c).After-home_all ∙ ap (λ (r : TaskTableView). map (with_last_cpu c.pick.new.self.places) r.tasks) c.self.view_is

pub returns-clause-wide : goal.returns-clause-wide
returns-clause-wide c =
    (open_charging (goal.at.returns-clause-wide c).After-home_all).wide ∙ ap (λ (r : TaskTableView). length r.places) c.self.view_is

pub returns-clause-apart : goal.returns-clause-apart
returns-clause-apart c = (open_charging (goal.at.returns-clause-apart c).After-home_all).apart
