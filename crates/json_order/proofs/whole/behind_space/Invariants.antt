use Rattle.std.specs.Str.Iter.{chars_rest}
use Rattle.std.proofs.Common.{length}
use Rattle.json_order.specs.Grammar.{IsSpaced}
use Rattle.json_order.proofs.whole.behind_space.Given as goal

abbrev pub invariant-spaces : goal.invariant-spaces
invariant-spaces l = IsSpaced l.rest (chars_rest l.chars)

abbrev pub decreases-spaces : goal.decreases-spaces
decreases-spaces l = length (chars_rest l.chars)
