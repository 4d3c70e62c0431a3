use Rattle.std.proofs.Common.{◌≡◌, length}
use Rattle.switch_text.specs.SlicedTrace.{whole_of}
use Rattle.calls_trace.specs.private.Playing.{sliced_of}
use Rattle.calls_trace.proofs.playing.Playing.make_more.Given as goal

abbrev pub invariant-pieces : goal.invariant-pieces
invariant-pieces l = whole_of (sliced_of l.self) ≡ whole_of (sliced_of l.fn.self)

abbrev pub decreases-pieces : goal.decreases-pieces
decreases-pieces l = length l.self.calls
