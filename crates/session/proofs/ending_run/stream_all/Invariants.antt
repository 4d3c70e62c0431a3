use Rattle.std.proofs.Common.{◌≡◌, ◌<◌, ◌≤◌, true, false, length}
use Rattle.std.specs.Prelude.{vec_capacity}
use Rattle.session.specs.private.Ending.{books_of}
use Rattle.session.specs.private.Parts.{AreSessionBooks}
use Rattle.session.proofs.Advanced.{MakesFirst, FirstAre, FirstEnd, FirstStreamed, RestAre, all_ticks}
use Rattle.session.proofs.ending_run.stream_all.Given as goal

-- so many domains were advanced, and streamed
abbrev pub invariant-loop-place : goal.invariant-loop-place
invariant-loop-place g l = record {
  named : AreSessionBooks g.N.Names.id (books_of l.books.items);
  count : length l.books.items ≡ length l.fn.books.items;
  domains : 0 < l.place → length l.fn.client.passes ≡ length g.N.Names.id.cpu_sets;
  made : MakesFirst l.place l.fn.client l.client (all_ticks l.fn.duration);
  ends : FirstEnd l.place l.fn.duration (books_of l.books.items);
  first : FirstAre true l.place l.books.items;
  rest : RestAre false l.place l.books.items;
  many : length l.streamed.items ≡ l.place;
  streamed : FirstStreamed l.place l.fn.duration (books_of l.books.items) l.streamed.items;
  room : length l.fn.books.items ≤ vec_capacity l.streamed;
}
