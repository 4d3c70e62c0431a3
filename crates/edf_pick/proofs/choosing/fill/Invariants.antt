use Rattle.std.proofs.Common.{◌++◌, length}
use Rattle.std.specs.List.Sorted.{IsPermutation}
use Rattle.edf_pick.specs.private.Choosing.{IsChoosing}
use Rattle.edf_pick.specs.private.Ready.{all_held}
use Rattle.edf_pick.proofs.choosing.fill.Given as goal

abbrev pub invariant-free : goal.invariant-free
invariant-free l = record {
  is : IsChoosing l.running l.movers l.ready_rest l.places;
  same : IsPermutation (all_held l.fn.running ++ (l.fn.movers ++ l.fn.ready_rest)) (all_held l.running ++ (l.movers ++ l.ready_rest));
}

abbrev pub decreases-free : goal.decreases-free
decreases-free l = length l.ready_rest
