use Rattle.std.proofs.Common.{◌≤◌}
use Rattle.edf_pick.specs.private.Search.{IsSearched}
use Rattle.edf_pick.proofs.order.place_of.Given as goal

abbrev pub invariant-fours : goal.invariant-fours
invariant-fours l = record {
  some : 1 ≤ l.width;
  searched : IsSearched l.c l.queue l.place l.width;
}

abbrev pub decreases-fours : goal.decreases-fours
decreases-fours l = l.width

abbrev pub invariant-looks : goal.invariant-looks
invariant-looks l = record {
  some : 1 ≤ l.width;
  searched : IsSearched l.c l.queue l.place l.width;
}

abbrev pub decreases-looks : goal.decreases-looks
decreases-looks l = l.width
