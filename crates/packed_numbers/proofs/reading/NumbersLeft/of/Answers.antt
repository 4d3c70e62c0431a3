use Rattle.std.proofs.Common.{arith}
use Rattle.packed_numbers.proofs.Rest.{numbers_few}
use Rattle.packed_numbers.proofs.reading.NumbersLeft.of.Goals as goal

pub returns-clause-countable : goal.returns-clause-countable
returns-clause-countable c = let few = numbers_few c.args.bytes.now in omega (arith, few)
