use Rattle.std.proofs.Common.{arith}
use Rattle.std.proofs.lemmas.Nat.Bits.{bit_at_and, bit_at-lt, bit_at-zero}
use Rattle.due_times.proofs.stale.mark_at.Goals as goal

pub returns-clause-here : goal.returns-clause-here
returns-clause-here c =
    omega (arith, bit_at_and c.args.marks c.with.result c.args.place, c.with.ensures.marked, bit_at-lt c.args.marks c.args.place)

pub returns-clause-others : goal.returns-clause-others
returns-clause-others c = λ i apart.
    omega (arith, bit_at_and c.args.marks c.with.result i, c.with.ensures.others i apart, bit_at-zero i)
