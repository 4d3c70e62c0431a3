use Rattle.std.proofs.Common.{◌≡◌, ℕ, ◌<◌, length, map, take}
use Rattle.std.specs.Prelude.{All}
use Rattle.chart_pieces.specs.RowView.{RowView}
use Rattle.calls_trace.specs.private.Sketched.{row_in}
use Rattle.calls_trace.proofs.sketching.places_of.Given as goal

abbrev pub invariant-loop-task : goal.invariant-loop-task
invariant-loop-task l = record {
  inside : All (λ i. i < length l.index) l.places.items;
  rows : (f : ℕ → RowView) → map (row_in (map f l.index)) l.places.items ≡ map (λ t. f t.number) (take l.task-index l.tasks);
}
