use Rattle.std.proofs.Common.{◌≡◌, ◌++◌, ◌-◌, ◌/◌, ◌%◌, length}
use Rattle.recorded_workload.specs.Workload.{advances, full_advances, last_advance, numbered_from}
use Rattle.recorded_workload.proofs.building.push_advances.Given as goal

abbrev pub invariant-loop : goal.invariant-loop
invariant-loop l = l.entries.items ++ numbered_from (length l.entries.items) (full_advances (l.ticks / 60000000 - l.counter) ++ last_advance (l.ticks % 60000000)) ≡ l.initial.entries.items ++ numbered_from (length l.initial.entries.items) (advances l.ticks)
