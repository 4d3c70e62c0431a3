use Rattle.std.proofs.Common.{◌≡◌, ◌≤◌, take, vec_len}
use Rattle.std.specs.Prelude.{vec_capacity}
use Rattle.domain_run.specs.Jump.{running_numbers}
use Rattle.domain_run.proofs.running.list_running.Given as goal

abbrev pub invariant-loop-occupant : goal.invariant-loop-occupant
invariant-loop-occupant l = record {
  listed : l.running.items ≡ running_numbers (take l.occupant-index l.places);
  few : vec_len l.running ≤ l.occupant-index;
  room : vec_capacity l.running ≡ vec_capacity l.fn.running;
}
