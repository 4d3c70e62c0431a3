use Rattle.std.proofs.Common.{◌≡◌, replicate}
use Rattle.due_times.specs.OpenCharges.{end_of}
use Rattle.std.specs.Prelude.{None}
use Rattle.due_times.proofs.charges.add_never.Given as goal

abbrev pub invariant-loop : goal.invariant-loop
invariant-loop l = record { ends : l.ends ≡ replicate l.counter (end_of None) }
