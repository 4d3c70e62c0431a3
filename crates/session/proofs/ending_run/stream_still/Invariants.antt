use Rattle.std.proofs.Common.{◌≡◌, ◌≤◌, true, false, length}
use Rattle.std.specs.Prelude.{vec_capacity}
use Rattle.session.specs.private.Ending.{books_of}
use Rattle.session.proofs.Advanced.{FirstAre, FirstStreamed, RestAre}
use Rattle.session.proofs.ending_run.stream_still.Given as goal

-- so many domains were streamed
abbrev pub invariant-loop-place : goal.invariant-loop-place
invariant-loop-place l = record {
  books : books_of l.books.items ≡ books_of l.fn.books.items;
  count : length l.books.items ≡ length l.fn.books.items;
  first : FirstAre true l.place l.books.items;
  rest : RestAre false l.place l.books.items;
  many : length l.streamed.items ≡ l.place;
  streamed : FirstStreamed l.place 0 (books_of l.books.items) l.streamed.items;
  room : length l.fn.books.items ≤ vec_capacity l.streamed;
}
