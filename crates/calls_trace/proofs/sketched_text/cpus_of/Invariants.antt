use Rattle.std.proofs.Common.{◌≡◌, ◌≤◌, ◌*◌, map, take}
use Rattle.calls_trace.specs.private.Sketched.{cpus_sketched, sketch_as}
use Rattle.calls_trace.proofs.sketched_text.cpus_of.Given as goal

abbrev pub invariant-loop-one : goal.invariant-loop-one
invariant-loop-one l = record {
  cpus : l.cpus ≡ cpus_sketched (map sketch_as (take l.one-index l.sketches));
  few : l.cpus ≤ 64 * l.one-index;
}
