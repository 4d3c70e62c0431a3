use Rattle.std.proofs.Common.{◌≡◌, ◌≤◌, ◌+◌, ◌++◌, map, take, vec_len}
use Rattle.std.specs.Prelude.{vec_capacity}
use Rattle.domain_run.specs.private.Choosing.{switch_made}
use Rattle.domain_run.proofs.sweep.add_switches.Given as goal

abbrev pub invariant-loop-i : goal.invariant-loop-i
invariant-loop-i l = record {
  written : l.switches.items ≡ l.fn.switches.items ++ map (switch_made l.time l.task_table.tasks l.task_table.places) (take l.i l.moves);
  few : vec_len l.switches ≤ vec_len l.fn.switches + l.i;
  room : vec_capacity l.switches ≡ vec_capacity l.fn.switches;
}
