use Rattle.std.proofs.Common.{◌≡◌, ◌<◌, length}
use Rattle.session.specs.private.Parts.{AreSessionBooks}
use Rattle.session.proofs.Advanced.{MakesFirst, FirstEnd, FirstLog, RestStay, all_ticks}
use Rattle.session.proofs.ending_run.advance_all.Given as goal

-- so many domains were advanced
abbrev pub invariant-loop-place : goal.invariant-loop-place
invariant-loop-place g l = record {
  named : AreSessionBooks g.N.Names.id l.books.items;
  count : length l.books.items ≡ length l.fn.books.items;
  domains : 0 < l.place → length l.fn.client.passes ≡ length g.N.Names.id.cpu_sets;
  made : MakesFirst l.place l.fn.client l.client (all_ticks l.fn.duration);
  ends : FirstEnd l.place l.fn.duration l.books.items;
  logs : length l.logs.items ≡ length l.fn.logs.items;
  logged : FirstLog l.place l.fn.duration l.books.items l.fn.logs.items l.logs.items;
  rest : RestStay l.place l.fn.logs.items l.logs.items;
}
