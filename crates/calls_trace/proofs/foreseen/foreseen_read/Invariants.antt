use Rattle.std.proofs.Common.{ℕ, ◌≤◌, List}
use Rattle.calls_text.specs.SectionView.{SectionView}
use Rattle.calls_text.specs.Reader.{IsWithin, empty_section, bytes_left}
use Rattle.calls_trace.specs.private.Foreseen.{IsForeseen, IsForeseenSoFar}
use Rattle.calls_trace.proofs.foreseen.foreseen_read.Given as goal

abbrev pub invariant-calls : goal.invariant-calls
invariant-calls l = record {
  so_far : (text : List ℕ) (before : List SectionView) → IsWithin text before (empty_section l.fn.cpus l.fn.limit) l.fn.reader → IsForeseenSoFar text before l.fn.cpus l.fn.limit l.reader l.foreseen.calls;
  foreseen : IsForeseen l.foreseen;
  never_more : bytes_left l.reader ≤ bytes_left l.fn.reader;
}

abbrev pub decreases-calls : goal.decreases-calls
decreases-calls l = bytes_left l.reader
