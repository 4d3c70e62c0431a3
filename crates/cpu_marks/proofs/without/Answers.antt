use Rattle.std.proofs.Common.{rules, w64}
use Rattle.std.proofs.lemmas.Nat.Bits.{bit_at_clear_same}
use Rattle.cpu_marks.proofs.Words.{cleared_others, cleared_fewer}
use Rattle.cpu_marks.proofs.without.Goals as goal

pub returns-clause-bare : goal.returns-clause-bare
returns-clause-bare c = bit_at_clear_same w64 c.args.marks c.args.place c.requires

pub returns-clause-others : goal.returns-clause-others
returns-clause-others c = λ i apart. cleared_others c.args.marks c.args.place i (search rules) c.requires apart

pub returns-clause-fewer : goal.returns-clause-fewer
returns-clause-fewer c = λ set. cleared_fewer c.args.marks c.args.place c.requires set
