use Rattle.std.specs.Str.Iter.{chars_rest}
use Rattle.std.proofs.Common.{length}
use Rattle.json_order.specs.private.AtOnce.{Stands}
use Rattle.json_order.specs.private.Machine.{IsFinePlace}
use Rattle.json_order.specs.private.Places.{code_place, code_state}
use Rattle.json_order.proofs.reading.read_through.Given as goal

abbrev pub invariant-loop-c : goal.invariant-loop-c
invariant-loop-c l = record {
  stands : Stands l.text (code_state l.place l.stack.items) (chars_rest l.chars);
  fine : IsFinePlace (code_place l.place);
}

abbrev pub decreases-loop-c : goal.decreases-loop-c
decreases-loop-c l = length (chars_rest l.chars)
