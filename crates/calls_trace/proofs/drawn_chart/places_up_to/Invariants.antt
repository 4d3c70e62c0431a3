use Rattle.std.proofs.Common.{◌≡◌, ◌<◌, ◌≤◌, List, length, map, take, vec_capacity}
use Rattle.std.specs.Prelude.{All}
use Rattle.chart_pieces.specs.RowView.{RowView}
use Rattle.calls_trace.specs.private.Sketched.{row_in}
use Rattle.calls_trace.proofs.drawn_chart.places_up_to.Given as goal

abbrev pub invariant-loop-place : goal.invariant-loop-place
invariant-loop-place l = record {
  inside : All (λ i. i < l.count) l.places.items;
  many : length l.places.items ≡ l.place;
  all : (rows : List RowView) → length rows ≡ l.count → map (row_in rows) l.places.items ≡ take l.place rows;
  most : l.place ≤ l.count;
  room : l.count ≤ vec_capacity l.places;
}
