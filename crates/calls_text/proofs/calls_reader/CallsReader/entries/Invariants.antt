use Rattle.std.proofs.Common.{ℕ, ◌≤◌, List}
use Rattle.calls_text.specs.SectionView.{SectionView}
use Rattle.calls_text.specs.Reader.{IsWithin, section_with_entries, bytes_left}
use Rattle.calls_text.proofs.calls_reader.CallsReader.entries.Given as goal

abbrev pub invariant-entries : goal.invariant-entries
invariant-entries l = record {
  so_far : (text : List ℕ) (before : List SectionView) (s : SectionView) → IsWithin text before s l.fn.self → IsWithin text before (section_with_entries s l.entries.items) l.self;
  never_more : bytes_left l.self ≤ bytes_left l.fn.self;
}

abbrev pub decreases-entries : goal.decreases-entries
decreases-entries l = bytes_left l.self
