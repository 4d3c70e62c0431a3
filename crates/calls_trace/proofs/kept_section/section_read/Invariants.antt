use Rattle.std.proofs.Common.{ℕ, ◌≤◌, List}
use Rattle.calls_text.specs.SectionView.{SectionView}
use Rattle.calls_text.specs.Reader.{IsWithin, empty_section, bytes_left}
use Rattle.calls_trace.specs.private.Kept.{IsKeptSoFar, KeepsCalls}
use Rattle.calls_trace.proofs.kept_section.section_read.Given as goal

abbrev pub invariant-calls : goal.invariant-calls
invariant-calls l = record {
  so_far : (text : List ℕ) (before : List SectionView) → IsWithin text before (empty_section l.fn.cpus l.fn.limit) l.fn.reader → IsKeptSoFar text before l.reader l.section;
  kept : KeepsCalls l.section;
  never_more : bytes_left l.reader ≤ bytes_left l.fn.reader;
}

abbrev pub decreases-calls : goal.decreases-calls
decreases-calls l = bytes_left l.reader
