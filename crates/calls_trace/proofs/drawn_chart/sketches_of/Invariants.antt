use Rattle.std.proofs.Common.{◌≡◌, ◌+◌, ◌≤◌, length, map, take, drop, All, vec_capacity}
use Rattle.std.specs.Vec.Iter.{into_iter_items, into_iter_len}
use Rattle.calls_trace.specs.private.Sketched.{ahead_in, sketch_ahead, sketch_as}
use Rattle.calls_trace.proofs.drawn_chart.sketches_of.Given as goal

-- those that are sketched, and the drawings that are left
abbrev pub invariant-loop-drawing : goal.invariant-loop-drawing
invariant-loop-drawing l = record {
  drawn : map sketch_as l.all.items ≡ map (λ s. sketch_ahead l.fn.window (ahead_in s)) (take l.place l.histories);
  window : All (λ s. s.window ≡ l.fn.window) l.all.items;
  left : into_iter_items l.rest ≡ drop l.place l.fn.drawings.items;
  inside : l.place ≤ length l.fn.drawings.items;
  room : length l.all.items + into_iter_len l.rest ≤ vec_capacity l.all;
}

abbrev pub decreases-loop-drawing : goal.decreases-loop-drawing
decreases-loop-drawing l = into_iter_len l.rest
