use Rattle.std.proofs.Common.{List, length, map, refl, ap, arith}
use Rattle.switch_text.specs.SlicedTrace.{wholes}
use Rattle.calls_trace.specs.declared.playing.Playing.{Playing}
use Rattle.calls_trace.specs.private.Playing.{sliced_of}
use Rattle.calls_trace.proofs.playing_so_far.PlayingSoFar.open.Goals as goal

pub returns : goal.returns
returns c =
    let none = c.in_ok-with_capacity.ensures.items in
    record { lead = ap (λ (runs : List Playing). wholes (map sliced_of runs)) none; count = ap length none; base_is = refl; inside = omega arith }
