use Rattle.std.proofs.Common.{◌≡◌, ◌-◌, ◌≤◌}
use Rattle.std.specs.Prelude.{vec_capacity}
use Rattle.std.specs.List.{range_with_len}
use Rattle.session.proofs.parts.cpus_from.Given as goal

abbrev pub invariant-loop-cpu : goal.invariant-loop-cpu
invariant-loop-cpu l = record {
  made : l.set.items ≡ range_with_len l.base (l.cpu - l.base);
  room : l.cpus ≤ vec_capacity l.set;
}
