use Rattle.std.proofs.Common.{◌≡◌, ◌++◌, map, take, All}
use Rattle.trace_compare.specs.Clocks.{shift_between, IsSmallShift}
use Rattle.trace_compare.proofs.shift.push_from.Given as goal

abbrev pub invariant-loop-run : goal.invariant-loop-run
invariant-loop-run l = record {
  told : l.shifts.items ≡ l.initial.shifts.items ++ map (λ r. shift_between l.start r.start) (take l.run-index l.runs);
  small : All IsSmallShift l.initial.shifts.items → All IsSmallShift l.shifts.items;
}
