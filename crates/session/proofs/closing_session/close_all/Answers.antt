use Rattle.std.proofs.Common.{◌≡◌, ◌+◌, ◌<◌, ℕ, List, ◌∷◌, [], ◌++◌, length, get_or, refl, sym, ap, subst, ◌∙◌, arith}
use Rattle.std.specs.Vec.Iter.{into_iter_items, into_iter_len}
use Rattle.std.proofs.lemmas.List.{length_push, length-map, get_or-map}
use Rattle.bw_gate.specs.Pieces.{bw_of_tickets}
use Rattle.domain_run.specs.Domain.{Domain}
use Rattle.call_book.specs.Ending.{EndingView}
use Rattle.calls_text.specs.SectionView.{SectionView}
use Rattle.session.specs.Asks.{ClientView}
use Rattle.session.specs.Report.{IsHistoryOf, sum_left}
use Rattle.session.specs.private.Ending.{books_of}
use Rattle.session.specs.private.Entering.{IsSessionBook}
use Rattle.session.specs.private.Closing.{AreHistories, AreSums, HaveEnded}
use Rattle.session.proofs.Closed.{by_place_more, left_next, taken_first, ended_more}
use Rattle.session.proofs.closing_session.close_all.Goals as goal

pub close_book-history-requires-clause-named : goal.close_book-history-requires-clause-named
close_book-history-requires-clause-named g c =
    let id = g.N.Names.id in
    let inv = c.loop-book.invariant in
    let books = c.args.books.items in
    let b = c.in-Some.book in
    let n = length c.loop-book.histories.items in
    let k = into_iter_len c.loop-book.rest in
    let some : 0 < k = omega (arith, c.in-Some.ensures.len) in
    let place : c.len-place.result ≡ n = omega (arith, c.len-place.ensures, c.loop-book.histories.ok.0) in
    let inside : c.len-place.result < length books = omega (arith, place, inv.count, some, c.requires.count) in
    let is : get_or books c.len-place.result b ≡ b =
    taken_first books (into_iter_items c.loop-book.rest) (into_iter_items c.next.new.self) b n k c.len-place.result c.in-Some.ensures.items some place inv.left b in
    let at : get_or (books_of books) c.len-place.result b.book ≡ b.book = get_or-map (λ (e : EndingView). e.book) books c.len-place.result b b.book inside ∙ ap (λ (e : EndingView). e.book) is in
    subst (IsSessionBook id c.len-place.result) at (c.requires.named c.len-place.result b.book (omega (arith, inside, length-map books (λ (e : EndingView). e.book))))

pub loop-book-preserved : goal.loop-book-preserved
loop-book-preserved g c =
    let id = g.N.Names.id in
    let inv = c.loop-book.invariant in
    let h = c.loop-book.histories.items in
    let s = c.close_book-history.result.history in
    let b = c.in-Some.book in
    let books = c.args.books.items in
    let all = into_iter_items c.loop-book.rest in
    let rest = into_iter_items c.next.new.self in
    let some : 0 < into_iter_len c.loop-book.rest = omega (arith, c.in-Some.ensures.len) in
    let made = c.close_book-history.ensures in
    let new = c.push_reserved.new.self.items in
    let clients = c.args.clients.now.items in
    let tickets = c.close_book-history.new.home.tickets.items in
    let is : new ≡ h ++ s ∷ [] = c.push_reserved.ensures.items in
    let place : c.len-place.result ≡ length h = omega (arith, c.len-place.ensures, c.loop-book.histories.ok.0) in
    let count : length new ≡ length h + 1 = omega (arith, ap length is, length_push h s) in
    let same : c.close_book-history.new.clients.items ≡ clients = made.clients ∙ inv.clients in
    let last : IsHistoryOf id (length h) clients s = subst (λ (cs : List ClientView). IsHistoryOf id (length h) cs s) same (subst (λ (d : ℕ). IsHistoryOf id d c.close_book-history.new.clients.items s) place made.history) in
    let sum_here : bw_of_tickets (length h) tickets ≡ sum_left s = subst (λ (d : ℕ). bw_of_tickets d tickets ≡ sum_left s) place (let none = inv.none c.len-place.result (omega (arith, place)) in omega (arith, made.here, none)) in
    record {
      clients = same;
      left = left_next books all rest b (length h) (length new) (into_iter_len c.loop-book.rest) (into_iter_len c.next.new.self) c.in-Some.ensures.items count (omega (arith, c.in-Some.ensures.len)) inv.left;
      count = omega (arith, count, inv.count, c.in-Some.ensures.len);
      histories = subst (AreHistories id clients) (sym is) (by_place_more (λ (d : ℕ) (t : SectionView). IsHistoryOf id d clients t) h s inv.histories last);
      ended =
          subst (λ (ss : List SectionView). HaveEnded books ss c.push_reserved-in-Some.new.self.items) (sym is)
          (subst (λ (xs : List Domain). HaveEnded books (h ++ s ∷ []) xs) (sym c.push_reserved-in-Some.ensures.items)
          (ended_more books h c.loop-book.states.items b s c.close_book-history.result.state inv.ended
          (taken_first books all rest b (length h) (into_iter_len c.loop-book.rest) (length h) c.in-Some.ensures.items some refl inv.left) made.ended));
      sums = subst (λ (ss : List SectionView). AreSums ss tickets) (sym is) (by_place_more (λ (d : ℕ) (t : SectionView). bw_of_tickets d tickets ≡ sum_left t) h s (λ d x inside. made.elsewhere d (λ at. absurd (omega (arith, at, place, inside))) ∙ inv.sums d x inside) sum_here);
      none = λ d following. made.elsewhere d (λ at. absurd (omega (arith, at, place, following, count))) ∙ inv.none d (omega (arith, following, count));
      few = omega (arith, made.count, inv.few, count);
      room = omega (arith, inv.room, made.room);
      sections = omega (arith, inv.sections, c.push_reserved.ensures.capacity);
      machines = omega (arith, inv.machines, c.push_reserved-in-Some.ensures.capacity);
    }
