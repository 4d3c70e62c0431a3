use Rattle.std.proofs.Common.{◌<◌, ◌∙◌, length, get_or, take, ap, arith}
use Rattle.std.proofs.lemmas.List.{get_or_default}
use Rattle.domain_run.specs.declared.pace.Pace.TheVariants.{Rests}
use Rattle.domain_run.proofs.GoingOn.{length_paced, paced_step, may_go_at, time_go_at}
use Rattle.domain_run.proofs.task_table.TaskTable.repeat.Goals as goal

pub repeat_at-requires-clause-there : goal.repeat_at-requires-clause-there
repeat_at-requires-clause-there c =
    let l = c.loop-place in
    let many = ap length l.invariant.tasks ∙ length_paced c.args.micros (take l.place c.args.paces.now) c.args.self.now.tasks in
    omega (arith, many, c.loop-place-test.true, c.requires.many)

pub repeat_at-requires-clause-time : goal.repeat_at-requires-clause-time
repeat_at-requires-clause-time c =
    let l = c.loop-place in
    let within : l.place < length c.args.self.now.tasks = omega (arith, c.loop-place-test.true, c.requires.many) in
    time_go_at c.args.micros c.args.paces.now c.args.self.now.tasks l.self.tasks l.place within l.invariant.tasks c.requires.time

pub repeat_at-requires-clause-may : goal.repeat_at-requires-clause-may
repeat_at-requires-clause-may c =
    let l = c.loop-place in
    let paces = c.args.paces.now in
    let pace = get_or paces l.place Rests in
    let within = c.loop-place-test.true in
    may_go_at c.args.micros paces c.args.self.now.tasks l.self.tasks l.place pace within c.requires.many (get_or_default paces l.place Rests pace within) l.invariant.tasks c.requires.may

pub loop-place-preserved : goal.loop-place-preserved
loop-place-preserved c =
    let l = c.loop-place in
    let one = c.repeat_at in
    let paces = c.args.paces.now in
    let pace = get_or paces l.place Rests in
    let within = c.loop-place-test.true in
    record {
      cpus = one.ensures.cpus ∙ l.invariant.cpus;
      places = one.ensures.places ∙ l.invariant.places;
      tasks = paced_step c.args.micros paces c.args.self.now.tasks l.self.tasks one.new.self.tasks l.place pace within c.requires.many (get_or_default paces l.place Rests pace within) l.invariant.tasks one.ensures.step;
    }
