use Rattle.std.proofs.Common.{◌≡◌, ◌∙◌, true, false, List, length, set, sym, ap, subst, arith}
use Rattle.std.specs.Prelude.{Result, Ok, Err, OnOk, OnErr, is_err}
use Rattle.std.proofs.lemmas.List.{length-map}
use Rattle.call_book.specs.Book.{BookView}
use Rattle.call_book.specs.Playing.{PlayingView}
use Rattle.session.specs.Asks.{ClientView, Makes}
use Rattle.session.specs.Begun.{played_books, AreBookHistories, AreUnlogged, HaveWholeRuns, LogTheirEnds}
use Rattle.session.specs.RunEnd.{HaveAdvanced, advance_of}
use Rattle.session.specs.private.Begun.{unplayed}
use Rattle.session.specs.private.Ending.{AllEnd}
use Rattle.session.specs.private.Parts.{AreSessionBooks}
use Rattle.session.proofs.Advanced.{have_advanced}
use Rattle.session.proofs.Begun.{books_named, all_made, all_unlogged, all_whole, played_gates, full_played}
use Rattle.session.proofs.begun_run.begin_end.Goals as goal

met_in : {A E : Type 0} (r : Result A E) (P : Type 0) → is_err r ≡ true → OnErr r P → P
met_in (Ok a) P e is = absurd cc
met_in (Err x) P e is = is

made_in : {A E : Type 0} (r : Result A E) (P : Type 0) → is_err r ≡ false → OnOk r P → P
made_in (Ok a) P e is = is
made_in (Err x) P e is = absurd cc

pub begin-begun-requires-clause-named : goal.begin-begun-requires-clause-named
begin-begun-requires-clause-named g c = let was = c.in_ok-gate.field-0 in books_named c.args.logs g.N.Names.id c.in-Ok.books.items was.books.items c.in-Ok.ensures was.named

pub begin-begun-requires-clause-made : goal.begin-begun-requires-clause-made
begin-begun-requires-clause-made g c = let was = c.in_ok-gate.field-0 in all_made c.args.logs c.in-Ok.books.items was.books.items c.in-Ok.ensures

pub begin-begun-requires-clause-whole : goal.begin-begun-requires-clause-whole
begin-begun-requires-clause-whole g c = let was = c.in_ok-gate.field-0 in all_whole c.args.logs c.in-Ok.books.items was.books.items c.in-Ok.ensures

pub shut_books-requires : goal.shut_books-requires
shut_books-requires g c =
    let id = g.N.Names.id in
    let was = c.in_ok-gate.field-0 in
    played_gates id was.gate c.agree_with_all.new.books.items was.same_gate
    (subst (λ (ps : List PlayingView). AreSessionBooks id (played_books ps)) (sym c.agree_with_all.ensures.books) c.begin-begun.ensures.named)

pub returns-then-is_err-clause-err : goal.returns-then-is_err-clause-err
returns-then-is_err-clause-err g c =
    let id = g.N.Names.id in
    let was = c.in_ok-gate.field-0 in
    let cs = c.args.clients.items in
    let client = c.begin-begun.new.client in
    let now = c.begin-begun.new.books.items in
    let f : PlayingView → BookView = λ p. p.book in
    let logged = c.agree_with_all.ensures in
    let many = ap (λ (ps : List PlayingView). length ps) c.in-Ok.ensures in
    let histories : AreBookHistories id (set cs 0 client) (played_books now) =
    subst (λ (vs : List ClientView). AreBookHistories id vs (played_books now)) logged.clients
    (subst (λ (ps : List PlayingView). AreBookHistories id c.agree_with_all.new.clients.items (played_books ps)) logged.books logged.histories) in
    full_played id c.args.duration cs c.index_mut.result.now client (played_books now) c.requires.some c.index_mut.ensures.value
    (omega (arith, length-map now f, c.begin-begun.ensures.count, many, length-map was.books.items (unplayed c.args.logs), was.count))
    c.begin-begun.ensures.named histories
    (met_in c.begin-begun.result _ (sym c.is_err.ensures.value ∙ c.if-is_err.true) c.begin-begun.ensures.full)

pub invariant_of-rest-inside : goal.invariant_of-rest-inside
invariant_of-rest-inside g c =
    let id = g.N.Names.id in
    let was = c.in_ok-gate.field-0 in
    let now = c.begin-begun.new.books.items in
    let begun = c.of-begun.result.value.items in
    let same : begun ≡ now = ap (λ v. v.items) c.of-begun.ensures ∙ c.agree_with_all.ensures.books in
    let long = ap (λ (ps : List PlayingView). length ps) same in
    let many = ap (λ (ps : List PlayingView). length ps) c.in-Ok.ensures in
    let count : length begun ≡ length id.cpu_sets = omega (arith, long, c.begin-begun.ensures.count, many, length-map was.books.items (unplayed c.args.logs), was.count) in
    let named = subst (λ (ps : List PlayingView). AreSessionBooks id (played_books ps)) (sym same) c.begin-begun.ensures.named in
    (was.session, (was.same_limit, (was.same_gate, (count, (named, (was.blanks_own, (was.none_ended, (was.for_all, (was.enough, tt)))))))))

pub returns-clause-ok : goal.returns-clause-ok
returns-clause-ok g c =
    let id = g.N.Names.id in
    let was = c.in_ok-gate.field-0 in
    let cs = c.args.clients.items in
    let n = c.args.duration in
    let first = c.index_mut.result.now in
    let client = c.begin-begun.new.client in
    let now = c.begin-begun.new.books.items in
    let begun = c.of-begun.result.value.items in
    let logged = c.agree_with_all.ensures in
    let f : PlayingView → BookView = λ p. p.book in
    let left : begun ≡ c.agree_with_all.new.books.items = ap (λ v. v.items) c.of-begun.ensures in
    let same : begun ≡ now = left ∙ logged.books in
    let long = ap (λ (ps : List PlayingView). length ps) same in
    let many = ap (λ (ps : List PlayingView). length ps) c.in-Ok.ensures in
    let is = sym c.is_err.ensures.value ∙ c.if-is_err.false in
    let mine : Makes first client (λ d. advance_of n 1) = made_in c.begin-begun.result _ is c.begin-begun.ensures.made in
    let ends : AllEnd n (played_books now) = made_in c.begin-begun.result _ is c.begin-begun.ensures.ends in
    record {
      advanced = subst (HaveAdvanced n cs) (sym logged.clients) (have_advanced n cs first client c.requires.some c.index_mut.ensures.value mine);
      same = ap played_books (sym left);
      count = omega (arith, length-map begun f, long, c.begin-begun.ensures.count, many, length-map was.books.items (unplayed c.args.logs), was.count);
      histories = subst (λ (ps : List PlayingView). AreBookHistories id c.agree_with_all.new.clients.items (played_books ps)) (sym left) logged.histories;
      ends = subst (λ (ps : List PlayingView). AllEnd n (played_books ps)) (sym same) ends;
      whole = subst HaveWholeRuns (sym logged.books) c.begin-begun.ensures.whole;
      unlogged = subst (AreUnlogged c.args.logs) (sym logged.books) (c.begin-begun.ensures.unlogged c.args.logs (all_unlogged c.args.logs c.in-Ok.books.items was.books.items c.in-Ok.ensures));
      say = subst (LogTheirEnds n) (sym logged.books) (made_in c.begin-begun.result _ is c.begin-begun.ensures.say);
    }
