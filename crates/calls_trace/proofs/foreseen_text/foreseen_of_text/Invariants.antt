use Rattle.std.proofs.Common.{◌≤◌, vec_capacity}
use Rattle.calls_text.specs.Reader.{bytes_left}
use Rattle.calls_trace.specs.private.Sketched.{AreForeseenSoFar}
use Rattle.calls_trace.proofs.foreseen_text.foreseen_of_text.Given as goal

abbrev pub invariant-sections : goal.invariant-sections
invariant-sections l = record {
  so_far : AreForeseenSoFar l.text l.reader l.all.items;
  room : 8 ≤ vec_capacity l.all;
}

abbrev pub decreases-sections : goal.decreases-sections
decreases-sections l = bytes_left l.reader
