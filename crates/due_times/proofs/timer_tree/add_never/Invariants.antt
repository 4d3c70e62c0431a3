use Rattle.std.proofs.Common.{◌≡◌, ◌-◌, ◌^◌, ◌++◌}
use Rattle.std.specs.Prelude.{replicate, vec_capacity}
use Rattle.due_times.proofs.timer_tree.add_never.Given as goal

abbrev pub invariant-loop : goal.invariant-loop
invariant-loop l = record {
  nodes : l.nodes.items ≡ l.fn.nodes.items ++ replicate l.counter (2 ^ 64 - 1);
  room : vec_capacity l.nodes ≡ vec_capacity l.fn.nodes;
}
