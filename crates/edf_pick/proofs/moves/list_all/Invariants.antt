use Rattle.std.proofs.Common.{◌≡◌, ◌++◌, ℕ, false, get_or, vec_len}
use Rattle.std.specs.Prelude.{None, vec_capacity}
use Rattle.std.specs.Int.{bit_at}
use Rattle.edf_pick.specs.Moves.{same_occupant, moved_from}
use Rattle.edf_pick.proofs.moves.list_all.Given as goal

abbrev pub invariant-cpus : goal.invariant-cpus
invariant-cpus l = record {
  whole : l.list.items ++ moved_from 0 l.before.items l.occupants ≡ moved_from 0 l.fn.before.items l.occupants;
  others : (cpu : ℕ) → bit_at l.left cpu ≡ 0 → get_or l.before.items cpu None ≡ get_or l.occupants cpu None;
  differ : (cpu : ℕ) → bit_at l.left cpu ≡ 1 → same_occupant (get_or l.before.items cpu None) (get_or l.occupants cpu None) ≡ false;
  len : vec_len l.before ≡ vec_len l.fn.before;
  room : vec_capacity l.before ≡ vec_capacity l.fn.before;
  list_room : vec_capacity l.list ≡ vec_capacity l.fn.list;
}

abbrev pub decreases-cpus : goal.decreases-cpus
decreases-cpus l = l.left
