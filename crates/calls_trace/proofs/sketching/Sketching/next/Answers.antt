use Rattle.std.proofs.Common.{◌∷◌}
use Rattle.calls_trace.specs.private.Sketched.{streamed_as}
use Rattle.calls_trace.proofs.StreamedCalls.{moved_before}
use Rattle.calls_trace.proofs.sketching.Sketching.next.Goals as goal

pub make-requires : goal.make-requires
make-requires c =
    let h = streamed_as c.args.self.now in
    let left = c.next.new.self in
    record { before = moved_before h left h.calls (c.in-Some.call ∷ left) c.in-Some.ensures.next c.requires.before }
