use Rattle.std.proofs.Common.{arith}
use Rattle.recorded_text.proofs.Digits.{digits_fit}
use Rattle.recorded_text.proofs.number.number.Goals as goal

pub overflow_mul-n : goal.overflow_mul-n
overflow_mul-n c = let small = digits_fit c.loop-b.n c.loop-b.b-index c.loop-b.invariant.below (omega arith) in omega (arith, small)

pub overflow_add-n : goal.overflow_add-n
overflow_add-n c = let small = digits_fit c.loop-b.n c.loop-b.b-index c.loop-b.invariant.below (omega arith) in omega (arith, small)

pub returns-clause-small : goal.returns-clause-small
returns-clause-small c = let small = digits_fit c.loop-b.n c.loop-b.b-index c.loop-b.invariant.below (omega arith) in omega (arith, small)
