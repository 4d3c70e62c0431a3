use Rattle.std.proofs.Common.{◌≡◌, drop}
use Rattle.std.specs.Prelude.{slice_get}
use Rattle.domain_run.specs.Jump.{running_numbers}
use Rattle.domain_run.proofs.running.found_at.Given as goal

abbrev pub invariant-loop-cpu : goal.invariant-loop-cpu
invariant-loop-cpu l = record {
  rest : slice_get (running_numbers (drop l.cpu l.places)) l.left ≡ slice_get (running_numbers l.places) l.i;
}
