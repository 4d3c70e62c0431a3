use Rattle.std.specs.List.{flat_map}
use Rattle.std.proofs.Common.{◌∙◌, ap}
use Rattle.std.proofs.lemmas.List.{take_all}
use Rattle.trace_compare.specs.Shift.{shifts_of}
use Rattle.trace_compare.proofs.OneMore.{flat_told}
use Rattle.trace_compare.proofs.shift.all_shifts.Goals as goal

pub loop-task-preserved : goal.loop-task-preserved
loop-task-preserved c =
    record {
      told = flat_told shifts_of c.loop-task.shifts.items c.push_shifts.new.shifts.items c.args.tasks.now c.loop-task.task-index c.task-item.result c.loop-task-test.true c.task-item.is c.loop-task.invariant.told c.in_ok-push_shifts.ensures.shifts;
      small = c.push_shifts.ensures.small c.loop-task.invariant.small;
    }

pub returns-clause-shifts : goal.returns-clause-shifts
returns-clause-shifts c = c.loop-task.invariant.told ∙ ap (flat_map shifts_of) (take_all c.loop-task.task-index c.args.tasks.now c.loop-task-test.false)
