use Rattle.std.proofs.Common.{◌≡◌, take, All}
use Rattle.std.specs.List.{flat_map}
use Rattle.trace_compare.specs.Clocks.{IsSmallShift}
use Rattle.trace_compare.specs.Shift.{shifts_of}
use Rattle.trace_compare.proofs.shift.all_shifts.Given as goal

abbrev pub invariant-loop-task : goal.invariant-loop-task
invariant-loop-task l = record {
  told : l.shifts.items ≡ flat_map shifts_of (take l.task-index l.tasks);
  small : All IsSmallShift l.shifts.items;
}
