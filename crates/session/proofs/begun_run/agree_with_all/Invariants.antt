use Rattle.std.proofs.Common.{◌≡◌}
use Rattle.session.specs.Begun.{played_books}
use Rattle.session.proofs.Begun.{FirstHistories}
use Rattle.session.proofs.begun_run.agree_with_all.Given as goal

-- the passes of so many books agree
abbrev pub invariant-loop-place : goal.invariant-loop-place
invariant-loop-place g l = record {
  books : l.books.items ≡ l.fn.books.items;
  clients : l.clients.items ≡ l.fn.clients.items;
  histories : FirstHistories l.place g.N.Names.id l.fn.clients.items (played_books l.fn.books.items);
}
