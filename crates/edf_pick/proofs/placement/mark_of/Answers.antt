use Rattle.std.proofs.Common.{◌≡◌, ℕ, zero, suc, Option, Some, None, ◌∷◌, [], ap, sym, arith}
use Rattle.std.specs.Prelude.{slice_index_or}
use Rattle.std.specs.Int.{bit_at}
use Rattle.std.proofs.lemmas.Nat.Bits.{bit_at-pow_other}
use Rattle.edf_pick.specs.Places.{count_occupant}
use Rattle.edf_pick.proofs.placement.mark_of.Goals as goal

one_mark : (o : Option ℕ) (n : ℕ) → o ≡ Some n → (cpu : ℕ) → bit_at 1 cpu ≡ count_occupant (slice_index_or (o ∷ []) cpu None)
one_mark o n e zero = sym (ap (λ (x : Option ℕ). count_occupant x) e)
one_mark o n e (suc cpu) = bit_at-pow_other 0 (suc cpu) (λ f. omega (arith, f))

pub returns-in-Some : goal.returns-in-Some
returns-in-Some c = one_mark c.args.is_on_cpu c.in-Some.field-0 c.in-Some.is
