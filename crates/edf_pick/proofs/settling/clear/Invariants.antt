use Rattle.std.proofs.Common.{◌≡◌, ℕ, get_or, vec_len}
use Rattle.std.specs.Prelude.{vec_capacity, None}
use Rattle.std.specs.Int.{bit_at}
use Rattle.edf_pick.specs.Places.{AreTaken}
use Rattle.edf_pick.proofs.settling.clear.Given as goal

abbrev pub invariant-cpus : goal.invariant-cpus
invariant-cpus l = record {
  len : vec_len l.places ≡ vec_len l.fn.places;
  room : vec_capacity l.places ≡ vec_capacity l.fn.places;
  inside : (cpu : ℕ) → bit_at l.ahead cpu ≡ 1 → bit_at l.left cpu ≡ 1;
  gone : (cpu : ℕ) → bit_at l.left cpu ≡ 1 → bit_at l.ahead cpu ≡ 0 → get_or l.places.items cpu None ≡ None;
  others : (cpu : ℕ) → bit_at l.left cpu ≡ 0 → get_or l.places.items cpu None ≡ get_or l.fn.places.items cpu None;
  taken : AreTaken l.places.items l.marks;
}

abbrev pub decreases-cpus : goal.decreases-cpus
decreases-cpus l = l.ahead
