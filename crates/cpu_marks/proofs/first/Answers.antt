use Rattle.std.proofs.Common.{rules, w64}
use Rattle.std.proofs.lemmas.Nat.Bits.{bit_at-trailing_zeros}
use Rattle.cpu_marks.proofs.first.Goals as goal

pub returns-clause-marked : goal.returns-clause-marked
returns-clause-marked c = (bit_at-trailing_zeros w64 c.args.marks c.requires (search rules)).1

pub returns-clause-lowest : goal.returns-clause-lowest
returns-clause-lowest c = (bit_at-trailing_zeros w64 c.args.marks c.requires (search rules)).2
