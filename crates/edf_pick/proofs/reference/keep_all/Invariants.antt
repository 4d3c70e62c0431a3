use Rattle.std.proofs.Common.{◌≡◌, ◌<◌, ◌≤◌, ℕ, None, length, get_or}
use Rattle.edf_pick.specs.Places.{kept_if_chosen}
use Rattle.edf_pick.proofs.reference.keep_all.Given as goal

abbrev pub invariant-loop-cpu : goal.invariant-loop-cpu
invariant-loop-cpu l = record {
  len : length l.placement ≡ length l.fn.placement;
  done : (k : ℕ) → k < l.cpu → get_or l.placement k None ≡ kept_if_chosen (length l.fn.placement) l.ready (get_or l.fn.placement k None);
  ahead : (k : ℕ) → l.cpu ≤ k → get_or l.placement k None ≡ get_or l.fn.placement k None;
}
