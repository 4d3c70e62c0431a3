use Rattle.std.proofs.Common.{◌++◌}
use Rattle.std.specs.List.Sorted.{IsPermutation}
use Rattle.edf_pick.specs.private.Choosing.{IsChoosing, AreAllAssigned, total}
use Rattle.edf_pick.specs.private.Ready.{all_held}
use Rattle.edf_pick.proofs.choosing.displace_all.Given as goal

abbrev pub invariant-rounds : goal.invariant-rounds
invariant-rounds l = record {
  is : IsChoosing l.running l.movers l.ready_rest l.places;
  all : AreAllAssigned l.running l.movers l.ready_rest l.places;
  same : IsPermutation (all_held l.fn.running ++ (l.fn.movers ++ l.fn.ready_rest)) (all_held l.running ++ (l.movers ++ l.ready_rest));
}

abbrev pub decreases-rounds : goal.decreases-rounds
decreases-rounds l = total (all_held l.running ++ l.movers)
