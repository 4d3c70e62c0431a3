use Rattle.std.proofs.Common.{◌≤◌, vec_capacity}
use Rattle.calls_text.specs.Reader.{bytes_left}
use Rattle.calls_trace.specs.private.Summed.{AreSummedSoFar}
use Rattle.calls_trace.proofs.summing.summed_of_text.Given as goal

abbrev pub invariant-sections : goal.invariant-sections
invariant-sections l = record {
  so_far : AreSummedSoFar l.text l.jobs l.reader l.runs.items;
  room : 8 ≤ vec_capacity l.runs;
}

abbrev pub decreases-sections : goal.decreases-sections
decreases-sections l = bytes_left l.reader
