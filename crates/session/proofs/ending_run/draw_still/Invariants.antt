use Rattle.std.proofs.Common.{◌≡◌, ◌≤◌, true, false, length}
use Rattle.std.specs.Prelude.{All, vec_capacity}
use Rattle.chart_pieces.specs.Drawing.{DrawingView}
use Rattle.session.specs.private.Ending.{books_of}
use Rattle.session.proofs.Advanced.{FirstAre, FirstStreamed, RestAre, given_to}
use Rattle.session.proofs.ending_run.draw_still.Given as goal

-- this number of domains were drawn
abbrev pub invariant-loop-place : goal.invariant-loop-place
invariant-loop-place l = record {
  books : books_of l.books.items ≡ books_of l.fn.books.items;
  count : length l.books.items ≡ length l.fn.books.items;
  first : FirstAre true l.place l.books.items;
  rest : RestAre false l.place l.books.items;
  many : length l.drawn.items ≡ l.place;
  drawn : FirstStreamed l.place 0 (books_of l.books.items) (given_to l.drawn.items);
  same_window : All (λ (d : DrawingView). d.window ≡ l.fn.window) l.drawn.items;
  room : length l.fn.books.items ≤ vec_capacity l.drawn;
}
