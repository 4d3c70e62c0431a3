use Rattle.std.proofs.Common.{◌≡◌, ◌<◌, ◌≤◌, true, false, length}
use Rattle.std.specs.Prelude.{All, vec_capacity}
use Rattle.chart_pieces.specs.Drawing.{DrawingView}
use Rattle.session.specs.private.Ending.{books_of}
use Rattle.session.specs.private.Parts.{AreSessionBooks}
use Rattle.session.proofs.Advanced.{MakesFirst, FirstAre, FirstEnd, FirstStreamed, RestAre, all_ticks, given_to}
use Rattle.session.proofs.ending_run.draw_all.Given as goal

-- this number of domains were advanced, and drawn
abbrev pub invariant-loop-place : goal.invariant-loop-place
invariant-loop-place g l = record {
  named : AreSessionBooks g.N.Names.id (books_of l.books.items);
  count : length l.books.items ≡ length l.fn.books.items;
  domains : 0 < l.place → length l.fn.client.passes ≡ length g.N.Names.id.cpu_sets;
  made : MakesFirst l.place l.fn.client l.client (all_ticks l.fn.duration);
  ends : FirstEnd l.place l.fn.duration (books_of l.books.items);
  first : FirstAre true l.place l.books.items;
  rest : RestAre false l.place l.books.items;
  many : length l.drawn.items ≡ l.place;
  drawn : FirstStreamed l.place l.fn.duration (books_of l.books.items) (given_to l.drawn.items);
  same_window : All (λ (d : DrawingView). d.window ≡ l.fn.window) l.drawn.items;
  room : length l.fn.books.items ≤ vec_capacity l.drawn;
}
