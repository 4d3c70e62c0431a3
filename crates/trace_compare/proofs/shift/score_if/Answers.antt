use Rattle.std.proofs.Common.{arith, ◌-◌}
use Rattle.std.proofs.lemmas.Grind.{common_steps}
use Rattle.std.proofs.lemmas.List.Sums.{sum_by_more}
use Rattle.trace_compare.specs.private.Choices.{most_of}
use Rattle.trace_compare.proofs.FewMatch.{too_few}
use Rattle.trace_compare.proofs.shift.score_if.Goals as goal

pub loop-task-init : goal.loop-task-init
loop-task-init c = record {
  told = omega arith;
  small = omega arith;
  rest = omega (arith, c.most_of_tasks-left.ensures.value);
  few = omega (arith, c.most_of_tasks-left.ensures.value, c.most_of_tasks-left.ensures.small);
}

pub returns-in-None-clause-none : goal.returns-in-None-clause-none
returns-in-None-clause-none c =
    let v = c.loop-task.invariant in
    let i = c.loop-task.task-index in
    let most = c.most_of_task-left.result in
    let item = c.task-item.result in
    let more = sum_by_more (most_of c.args.share) c.args.tasks.now i item c.loop-task-test.true in
    too_few c.args.within c.args.share c.args.shift c.args.tasks.now i c.loop-task.total (c.loop-task.left - most) c.args.needed item c.loop-task-test.true v.told
    (grind (arith, common_steps, v.rest, more))
    (grind (arith, common_steps, c.in-None.ensures.none))
