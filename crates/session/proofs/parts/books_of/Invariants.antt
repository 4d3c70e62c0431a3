use Rattle.std.proofs.Common.{◌≡◌, ◌≤◌, true, length, map, replicate}
use Rattle.std.specs.Prelude.{vec_capacity, is_some}
use Rattle.session.specs.private.Parts.{AreHands, HaveRoom, AreBooks}
use Rattle.session.proofs.parts.books_of.Given as goal

abbrev pub invariant-loop-d : goal.invariant-loop-d
invariant-loop-d l = record {
  count : length l.books.items ≡ l.d;
  capacity : l.count ≤ vec_capacity l.books;
  books : AreBooks l.gate l.options.domains.items l.options.limit l.options.clients l.options.history l.options.workers l.books.items;
  hands : AreHands l.gate (map (λ b. b.spine) l.books.items) l.hands.items;
  some : map is_some l.hands.items ≡ replicate l.options.clients true;
  room : HaveRoom (length l.options.domains.items) l.hands.items;
}
