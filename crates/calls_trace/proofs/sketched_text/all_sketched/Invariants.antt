use Rattle.std.proofs.Common.{◌≡◌, ◌+◌, ◌≤◌, ◌++◌, length, map, All, vec_capacity}
use Rattle.std.specs.Vec.Iter.{into_iter_items, into_iter_len}
use Rattle.calls_trace.specs.private.Sketched.{IsReadyToRun, ahead_as, sketch_ahead, sketch_as}
use Rattle.calls_trace.proofs.sketched_text.all_sketched.Given as goal

-- those that are drawn, and then those that are left
abbrev pub invariant-loop-section : goal.invariant-loop-section
invariant-loop-section l = record {
  drawn : map sketch_as l.all.items ++ map (λ f. sketch_ahead l.fn.window (ahead_as f)) (into_iter_items l.rest) ≡ map (λ f. sketch_ahead l.fn.window (ahead_as f)) l.fn.sections.items;
  window : All (λ s. s.window ≡ l.fn.window) l.all.items;
  ready : All IsReadyToRun (into_iter_items l.rest);
  room : length l.all.items + into_iter_len l.rest ≤ vec_capacity l.all;
}

abbrev pub decreases-loop-section : goal.decreases-loop-section
decreases-loop-section l = into_iter_len l.rest
