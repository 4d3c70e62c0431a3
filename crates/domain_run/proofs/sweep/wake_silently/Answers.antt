use Rattle.std.proofs.Common.{◌<◌, ◌-◌, length, refl, ◌∙◌, arith}
use Rattle.domain_run.proofs.Woken.{woken_rest, walk_begins, walk_step, walk_by, walk_ends}
use Rattle.domain_run.proofs.sweep.wake_silently.Goals as goal

pub loop-place-init : goal.loop-place-init
loop-place-init c =
    let tasks = c.args.task_table.now.tasks in
    let next = c.next_due-place in
    record {
      cpus = refl;
      places = refl;
      within = next.ensures.most;
      walked = walk_by c.args.time tasks tasks 0 next.result (walk_begins c.args.time tasks) (omega arith) next.ensures.most next.ensures.others;
      sound = c.requires.sound;
    }

pub next_due-place-requires-in-loop-place : goal.next_due-place-requires-in-loop-place
next_due-place-requires-in-loop-place c =
    let l = c.loop-place in
    let one = c.wake_silently_at-next in
    let there : l.place < length l.task_table.tasks = omega arith in
    omega (arith, woken_rest c.args.time l.task_table.tasks one.new.task_table.tasks l.place one.result there one.ensures.woken)

pub loop-place-smaller : goal.loop-place-smaller
loop-place-smaller c =
    let l = c.loop-place in
    let one = c.wake_silently_at-next in
    let there : l.place < length l.task_table.tasks = omega arith in
    let rest = woken_rest c.args.time l.task_table.tasks one.new.task_table.tasks l.place one.result there one.ensures.woken in
    let less : length one.new.task_table.tasks - c.next_due-place-in-loop-place.result < length l.task_table.tasks - l.place = omega (arith, rest, there, c.next_due-place-in-loop-place.ensures.from) in
    less

pub loop-place-preserved : goal.loop-place-preserved
loop-place-preserved c =
    let l = c.loop-place in
    let first = c.args.task_table.now.tasks in
    let one = c.wake_silently_at-next in
    let now = one.new.task_table.tasks in
    let next = c.next_due-place-in-loop-place in
    let there : l.place < length l.task_table.tasks = omega arith in
    let walked = walk_step c.args.time first l.task_table.tasks now l.place one.result l.invariant.walked there one.ensures.woken in
    record {
      cpus = one.ensures.cpus ∙ l.invariant.cpus;
      places = one.ensures.places ∙ l.invariant.places;
      within = next.ensures.most;
      walked = walk_by c.args.time first now one.result next.result walked next.ensures.from next.ensures.most next.ensures.others;
      sound = one.ensures.sound;
    }

pub returns-clause-tasks : goal.returns-clause-tasks
returns-clause-tasks c = walk_ends c.args.time c.args.task_table.now.tasks c.loop-place.task_table.tasks c.loop-place.place c.loop-place.invariant.walked (omega arith)
