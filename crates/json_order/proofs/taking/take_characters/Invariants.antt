use Rattle.std.specs.Str.Iter.{chars_rest}
use Rattle.std.proofs.Common.{length, string_bytes}
use Rattle.json_order.specs.private.AtOnce.{TakesQuoted}
use Rattle.json_order.specs.declared.place.Escape.TheVariants.{Outside}
use Rattle.json_order.proofs.taking.take_characters.Given as goal

abbrev pub invariant-loop-behind : goal.invariant-loop-behind
invariant-loop-behind l = TakesQuoted (string_bytes l.fn.text) Outside (string_bytes l.text) Outside l.rest (chars_rest l.chars)

abbrev pub decreases-loop-behind : goal.decreases-loop-behind
decreases-loop-behind l = length (chars_rest l.chars)
