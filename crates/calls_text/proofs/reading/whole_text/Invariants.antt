use Rattle.calls_text.specs.Reader.{IsAfter, bytes_left}
use Rattle.calls_text.proofs.reading.whole_text.Given as goal

abbrev pub invariant-loop-sections : goal.invariant-loop-sections
invariant-loop-sections l = IsAfter l.text l.sections.items l.reader

abbrev pub decreases-loop-sections : goal.decreases-loop-sections
decreases-loop-sections l = bytes_left l.reader
