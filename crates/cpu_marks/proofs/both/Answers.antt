use Rattle.std.proofs.Common.{arith}
use Rattle.std.proofs.lemmas.Nat.Bits.{bit_at_or}
use Rattle.cpu_marks.proofs.both.Goals as goal

pub returns-clause-first : goal.returns-clause-first
returns-clause-first c = λ i e. omega (arith, e, bit_at_or c.args.a c.args.b i)

pub returns-clause-second : goal.returns-clause-second
returns-clause-second c = λ i e. omega (arith, e, bit_at_or c.args.a c.args.b i)

pub returns-clause-only : goal.returns-clause-only
returns-clause-only c = λ i bare also. omega (arith, bare, also, bit_at_or c.args.a c.args.b i)
