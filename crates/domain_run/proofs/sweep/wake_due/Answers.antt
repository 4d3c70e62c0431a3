use Rattle.std.proofs.Common.{◌≡◌, ◌<◌, ◌+◌, ◌-◌, ◌*◌, ◌≤◌, length, refl, sym, ◌∙◌, arith}
use Rattle.domain_run.proofs.Woken.{woken_rest, walk_ends}
use Rattle.domain_run.proofs.LoggedWoken.{log_begins, log_step, log_by, log_ends}
use Rattle.domain_run.proofs.sweep.wake_due.Goals as goal

pub loop-place-init : goal.loop-place-init
loop-place-init c =
    let tasks = c.args.task_table.now.tasks in
    let log = c.args.log.now in
    let next = c.next_due-place in
    record {
      cpus = refl;
      places = refl;
      within = next.ensures.most;
      walk = log_by c.args.time tasks tasks 0 next.result log log (log_begins c.args.time tasks log) (omega arith) next.ensures.most next.ensures.others;
      spare = omega arith;
      sound = c.requires.sound;
    }

pub next_due-place-requires-in-loop-place : goal.next_due-place-requires-in-loop-place
next_due-place-requires-in-loop-place c =
    let l = c.loop-place in
    let one = c.wake_at-next in
    let there : l.place < length l.task_table.tasks = omega arith in
    omega (arith, woken_rest c.args.time l.task_table.tasks one.new.task_table.tasks l.place one.result there one.ensures.woken)

pub loop-place-smaller : goal.loop-place-smaller
loop-place-smaller c =
    let l = c.loop-place in
    let one = c.wake_at-next in
    let there : l.place < length l.task_table.tasks = omega arith in
    let rest = woken_rest c.args.time l.task_table.tasks one.new.task_table.tasks l.place one.result there one.ensures.woken in
    let less : length one.new.task_table.tasks - c.next_due-place-in-loop-place.result < length l.task_table.tasks - l.place = omega (arith, rest, there, c.next_due-place-in-loop-place.ensures.from) in
    less

pub wake_at-next-requires-clause-narrow : goal.wake_at-next-requires-clause-narrow
wake_at-next-requires-clause-narrow c = omega (arith, c.loop-place.invariant.cpus, c.requires.narrow)

pub wake_at-next-requires-clause-room : goal.wake_at-next-requires-clause-room
wake_at-next-requires-clause-room c wanted =
    let l = c.loop-place in
    let there : l.place < length l.task_table.tasks = omega arith in
    omega (arith, c.requires.room (sym l.invariant.walk.logged.wanted ∙ wanted), l.invariant.spare, there)

pub loop-place-preserved : goal.loop-place-preserved
loop-place-preserved c =
    let l = c.loop-place in
    let first = c.args.task_table.now.tasks in
    let log = c.args.log.now in
    let one = c.wake_at-next in
    let now = one.new.task_table.tasks in
    let next = c.next_due-place-in-loop-place in
    let there : l.place < length l.task_table.tasks = omega arith in
    let rest = woken_rest c.args.time l.task_table.tasks now l.place one.result there one.ensures.woken in
    let walk = log_step c.args.time first l.task_table.tasks now l.place one.result log l.log one.new.log l.invariant.walk there one.ensures.woken one.ensures.logged in
    record {
      cpus = one.ensures.cpus ∙ l.invariant.cpus;
      places = one.ensures.places ∙ l.invariant.places;
      within = next.ensures.most;
      walk = log_by c.args.time first now one.result next.result log one.new.log walk next.ensures.from next.ensures.most next.ensures.others;
      spare = omega (arith, l.invariant.spare, one.ensures.room, rest, there, next.ensures.from);
      sound = one.ensures.sound;
    }

pub returns-clause-tasks : goal.returns-clause-tasks
returns-clause-tasks c = walk_ends c.args.time c.args.task_table.now.tasks c.loop-place.task_table.tasks c.loop-place.place c.loop-place.invariant.walk.walked (omega arith)

pub returns-clause-logged : goal.returns-clause-logged
returns-clause-logged c = log_ends c.args.time c.args.task_table.now.tasks c.loop-place.task_table.tasks c.loop-place.place c.args.log.now c.loop-place.log c.loop-place.invariant.walk (omega arith)

pub returns-clause-room : goal.returns-clause-room
returns-clause-room c = omega (arith, c.loop-place.invariant.spare)
