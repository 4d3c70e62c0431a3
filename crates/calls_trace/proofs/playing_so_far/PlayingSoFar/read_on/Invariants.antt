use Rattle.std.proofs.Common.{ℕ, List}
use Rattle.calls_text.specs.Reader.{bytes_left}
use Rattle.calls_trace.specs.private.ReadText.{ArePlayingSoFar}
use Rattle.calls_trace.proofs.playing_so_far.PlayingSoFar.read_on.Given as goal

abbrev pub invariant-sections : goal.invariant-sections
invariant-sections l = record {
  so_far : (text : List ℕ) → ArePlayingSoFar text l.fn.reader l.fn.self → ArePlayingSoFar text l.reader l.self;
}

abbrev pub decreases-sections : goal.decreases-sections
decreases-sections l = bytes_left l.reader
