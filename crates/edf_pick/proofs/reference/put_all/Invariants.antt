use Rattle.std.proofs.Common.{◌≡◌}
use Rattle.edf_pick.specs.Places.{assigned_upto}
use Rattle.edf_pick.proofs.reference.put_all.Given as goal

abbrev pub invariant-loop-r : goal.invariant-loop-r
invariant-loop-r l = record {
  placed : l.placement ≡ assigned_upto l.ready l.fn.placement l.r;
}
