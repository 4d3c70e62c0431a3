use Rattle.std.proofs.Common.{◌≡◌, ◌<◌, Bool, length}
use Rattle.session.specs.Begun.{played_books, AreUnlogged, HaveWholeRuns, LogsItsEnd}
use Rattle.session.specs.private.Parts.{AreSessionBooks}
use Rattle.session.proofs.Advanced.{MakesFirst, FirstEnd, all_ticks}
use Rattle.session.proofs.Begun.{FirstOf, RestMade}
use Rattle.session.proofs.begun_run.begin_all.Given as goal

-- so many books were begun
abbrev pub invariant-loop-place : goal.invariant-loop-place
invariant-loop-place g l = record {
  named : AreSessionBooks g.N.Names.id (played_books l.books.items);
  count : length l.books.items ≡ length l.fn.books.items;
  domains : 0 < l.place → length l.fn.client.passes ≡ length g.N.Names.id.cpu_sets;
  made : MakesFirst l.place l.fn.client l.client (all_ticks l.fn.duration);
  ends : FirstEnd l.place l.fn.duration (played_books l.books.items);
  rest : RestMade l.place l.books.items;
  whole : HaveWholeRuns l.books.items;
  unlogged : (logs : Bool) → AreUnlogged logs l.fn.books.items → AreUnlogged logs l.books.items;
  say : FirstOf (LogsItsEnd l.fn.duration) l.place l.books.items;
}
