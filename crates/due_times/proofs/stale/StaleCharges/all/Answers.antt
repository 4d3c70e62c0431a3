use Rattle.std.proofs.lemmas.Nat.Bits.{bit_at_ones}
use Rattle.due_times.proofs.stale.StaleCharges.all.Goals as goal

pub returns-clause-is_stale : goal.returns-clause-is_stale
returns-clause-is_stale c = λ i h. bit_at_ones 64 i h
