use Rattle.std.proofs.Common.{◌≡◌, take, vec_len}
use Rattle.std.specs.Prelude.{vec_capacity}
use Rattle.edf_pick.specs.Places.{AreTaken}
use Rattle.edf_pick.specs.private.Ready.{AreAssigned}
use Rattle.edf_pick.proofs.settling.assign_all.Given as goal

abbrev pub invariant-loop-i : goal.invariant-loop-i
invariant-loop-i l = record {
  assigned : AreAssigned l.fn.running (take l.i l.movers) l.running l.places.items;
  len : vec_len l.places ≡ vec_len l.fn.places;
  room : vec_capacity l.places ≡ vec_capacity l.fn.places;
  taken : AreTaken l.places.items l.marks;
}
