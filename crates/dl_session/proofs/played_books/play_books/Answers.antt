use Rattle.std.proofs.Common.{◌≡◌, ◌+◌, ◌++◌, ◌∙◌, All, Bool, true, List, [], ◌∷◌, length, ap, subst, arith}
use Rattle.std.specs.Option.{option_to_list}
use Rattle.std.specs.Vec.Iter.{into_iter_items}
use Rattle.std.proofs.lemmas.List.{length_push}
use Rattle.std.proofs.lemmas.List.Elements.{All-head, All-tail}
use Rattle.calls_text.specs.Limits.{IsSection}
use Rattle.call_book.specs.Playing.{PlayingView, HasWholeRun}
use Rattle.calls_trace.specs.Replay.{runs_from}
use Rattle.calls_trace.specs.DomainEvents.{logged_from}
use Rattle.session.specs.Begun.{section_of, played_books, HaveWholeRuns}
use Rattle.dl_session.specs.private.PlayedBooks.{played_histories, logged_at, LogsAll}
use Rattle.dl_session.proofs.PlayedRuns.{books_more, wholes_more, first_cpus, other_named, other_sections}
use Rattle.dl_session.proofs.EventRuns.{logged_more}
use Rattle.dl_session.proofs.played_books.play_books.Goals as goal

pub loop-book-preserved : goal.loop-book-preserved
loop-book-preserved c =
    let inv = c.loop-book.invariant in
    let rest = into_iter_items c.loop-book.rest in
    let left = into_iter_items c.next.new.self in
    let p = c.in-Some.book in
    let is = c.in-Some.ensures.items in
    let pushed = ap length c.push_reserved.ensures.items in
    let whole = All-head HasWholeRun p left (subst HaveWholeRuns is inv.untouched) in
    let at = c.next-in-Some.ensures.items ∙ ap (λ o. option_to_list o ++ into_iter_items c.next-in-Some.new.self) c.unwrap-named.ensures in
    let cpus = first_cpus rest left p is inv.sections in
    record {
      books = books_more c.loop-book.runs.items c.push_reserved.new.self.items c.of.result rest left p (played_books c.args.books.items) c.push_reserved.ensures.items is c.of.ensures.book inv.books;
      whole = wholes_more c.loop-book.base (c.loop-book.base + c.cpus-cpus.result) c.loop-book.runs.items c.push_reserved.new.self.items c.of.result rest left p (runs_from 0 (played_histories c.args.books.items)) c.push_reserved.ensures.items is (ap (λ n. c.loop-book.base + n) c.cpus-cpus.ensures.cpus) (c.of.ensures.whole whole) inv.whole;
      named = other_named rest left p (into_iter_items c.loop-book.names) (into_iter_items c.next-in-Some.new.self) c.unwrap-named.result is at inv.named;
      sections = other_sections rest left p is inv.sections;
      logged = λ all.
          let were = inv.logged all in
          let logs : All (λ (x : PlayingView). x.logs ≡ true) (p ∷ left) = subst (All (λ (x : PlayingView). x.logs ≡ true)) is were.0 in
          let here = c.of.ensures.logged ∙ ap (λ (b : Bool). logged_at b c.loop-book.base (section_of p.book)) (All-head (λ (x : PlayingView). x.logs ≡ true) p left logs) in (
            All-tail (λ (x : PlayingView). x.logs ≡ true) p left logs,
            logged_more c.loop-book.base (c.loop-book.base + c.cpus-cpus.result) c.loop-book.runs.items c.push_reserved.new.self.items c.of.result rest left p (logged_from 0 (played_histories c.args.books.items)) c.push_reserved.ensures.items is (ap (λ n. c.loop-book.base + n) c.cpus-cpus.ensures.cpus) here were.1,
          );
      unlogged = All-tail (λ (x : PlayingView). x.logged ≡ []) p left (subst (All (λ (x : PlayingView). x.logged ≡ [])) is inv.unlogged);
      say = All-tail LogsAll p left (subst (All LogsAll) is inv.say);
      untouched = All-tail HasWholeRun p left (subst HaveWholeRuns is inv.untouched);
      room = omega (arith, inv.room, c.in-Some.ensures.len, pushed, length_push c.loop-book.runs.items c.of.result, c.push_reserved.ensures.capacity);
      inside = omega (arith, inv.inside, c.in-Some.ensures.len, cpus, c.cpus-cpus.ensures.cpus);
    }

pub of-requires-clause-section : goal.of-requires-clause-section
of-requires-clause-section c =
    let left = into_iter_items c.next.new.self in
    let p = c.in-Some.book in
    All-head IsSection (section_of p.book) (played_histories left) (subst (λ (ps : List PlayingView). All IsSection (played_histories ps)) c.in-Some.ensures.items c.loop-book.invariant.sections)

pub of-requires-clause-unlogged : goal.of-requires-clause-unlogged
of-requires-clause-unlogged c = All-head (λ (x : PlayingView). x.logged ≡ []) c.in-Some.book (into_iter_items c.next.new.self) (subst (All (λ (x : PlayingView). x.logged ≡ [])) c.in-Some.ensures.items c.loop-book.invariant.unlogged)

pub of-requires-clause-has_logged : goal.of-requires-clause-has_logged
of-requires-clause-has_logged c = All-head LogsAll c.in-Some.book (into_iter_items c.next.new.self) (subst (All LogsAll) c.in-Some.ensures.items c.loop-book.invariant.say)
