use Rattle.std.proofs.Common.{w64}
use Rattle.std.proofs.lemmas.Nat.Bits.{bit_at_set_same, bit_at_set_other}
use Rattle.cpu_marks.proofs.with.Goals as goal

pub returns-clause-marked : goal.returns-clause-marked
returns-clause-marked c = bit_at_set_same w64 c.args.marks c.args.place c.requires

pub returns-clause-others : goal.returns-clause-others
returns-clause-others c = λ i apart. bit_at_set_other w64 c.args.marks c.args.place c.requires i apart
