-- The tickets of a book after some ticks.
use Rattle.std.proofs.Common.{◌≡◌, ℕ, ◌<◌, ◌≤◌, Bool, true, false, cond, Option, List, [], ◌∷◌, ◌++◌, length, map, refl, sym, ap, ◌∙◌, subst}
use Rattle.std.specs.Prelude.{filter}
use Rattle.std.proofs.lemmas.List.Elements.{filter_agree}
use Rattle.pass_seats.specs.Lists.{PassView}
use Rattle.bw_gate.specs.Pieces.{BlankView}
use Rattle.domain_run.specs.declared.call.Call.TheVariants as Call
use Rattle.domain_run.specs.declared.call.Reply.{Reply}
use Rattle.domain_run.specs.Domain.{Domain}
use Rattle.domain_run.specs.Tick.{ticks}
use Rattle.domain_run.specs.Keys.{has_task, AreKept}
use Rattle.domain_run.proofs.CallerLemmas.{view_where_listed}
use Rattle.calls_text.specs.declared.section.Entry.{Entry}
use Rattle.call_book.specs.declared.book.stock.Held.{Held}
use Rattle.call_book.specs.Pieces.{held_key, is_kept, is_gone, AreGiven, HoldsTickets}
use Rattle.call_book.specs.Book.{BookView, entry_by, with_entry}
use Rattle.call_book.specs.BookAnswers.{IsAdvanced}
use Rattle.call_book.specs.private.Ledger.{LedgerView}
use Rattle.call_book.specs.private.Stock.{StockView}
use Rattle.call_book.specs.private.Kept.{book_of, IsBook}
use Rattle.call_book.proofs.Growing.{book_grows}

filter_keys : (test : ℕ × ℕ → Bool) (tickets : List Held) → map held_key (filter (λ h. test (held_key h)) tickets) ≡ filter test (map held_key tickets)
filter_keys test [] = refl
filter_keys test (h ∷ tickets) =
    let rest = filter_keys test tickets in
    elim (test (held_key h)) as (λ b. map held_key (cond b (h ∷ filter (λ x. test (held_key x)) tickets) (filter (λ x. test (held_key x)) tickets)) ≡ cond b (held_key h ∷ filter test (map held_key tickets)) (filter test (map held_key tickets))) [ true ↦ ap (λ (ks : List (ℕ × ℕ)). held_key h ∷ ks) rest | false ↦ rest ]

-- the tickets of the tasks that are listed still are those of the new list
pub sifted_holds : (state next : Domain) (tickets : List Held) → HoldsTickets state tickets → AreKept state.tasks next.tasks → HoldsTickets next (filter (is_kept next) tickets)
sifted_holds state next tickets held kept =
    let test : ℕ × ℕ → Bool = λ k. has_task next.tasks k.0 in
    let same : filter (is_kept next) tickets ≡ filter (λ h. test (held_key h)) tickets = filter_agree (is_kept next) (λ h. test (held_key h)) (λ h. view_where_listed next h.number) tickets in
    ap (map held_key) same ∙ filter_keys test tickets ∙ ap (filter test) held ∙ sym kept

-- so many ticks of a book
pub advance_grows : (cpus limit workers : ℕ) (left : Option ℕ) (l grown : LedgerView) (s t : StockView) (state next : Domain) (k : ℕ) (p : PassView Entry) → IsBook (book_of cpus limit workers left l s) state
    → grown ≡ record l { history = l.history ++ entry_by p (Call.Advance k) (Reply.Done k) ∷ [] } → next ≡ ticks k state → AreKept state.tasks next.tasks
    → t ≡ record s { tickets = filter (is_kept next) s.tickets; blanks = t.blanks } → k ≤ 60000000 → IsBook (book_of cpus limit workers left grown t) next
advance_grows cpus limit workers left l grown s t state next k p is more becomes kept swept few =
    let tickets : t.tickets ≡ filter (is_kept next) s.tickets = ap (λ (x : StockView). x.tickets) swept in
    let pieces : t ≡ record s { tickets = t.tickets; blanks = t.blanks } = swept ∙ ap (λ (hs : List Held). record s { tickets = hs; blanks = t.blanks }) (sym tickets) in
    let held : HoldsTickets next t.tickets = ap (map held_key) tickets ∙ sifted_holds state next s.tickets is.held kept in
    book_grows cpus limit workers left l grown s t state next (entry_by p (Call.Advance k) (Reply.Done k)) is more pieces refl refl becomes held few

-- what an advance answers
pub advance_answer : (b : BookView) (cpus limit workers : ℕ) (left : Option ℕ) (l grown : LedgerView) (s t : StockView) (state next : Domain) (k n : ℕ) (p q : PassView Entry) → book_of cpus limit workers left l s ≡ b → IsBook (book_of cpus limit workers left l s) state → IsBook (book_of cpus limit workers left grown t) next
    → length l.history < l.room → 0 < k → k ≤ n → grown ≡ record l { history = l.history ++ entry_by p (Call.Advance k) (Reply.Done k) ∷ [] } → q ≡ with_entry p (Call.Advance k) (Reply.Done k)
    → t ≡ record s { tickets = filter (is_kept next) s.tickets; blanks = t.blanks } → ((given : List BlankView) × (t.blanks ≡ s.blanks ++ given) × AreGiven (filter (is_gone next) s.tickets) given)
    → IsAdvanced b (book_of cpus limit workers left grown t) p q n (Reply.Done k)
advance_answer b cpus limit workers left l grown s t state next k n p q view is after room some most more made swept given =
    let new = book_of cpus limit workers left grown t in
    let old = book_of cpus limit workers left l s in
    let made_of : StockView → LedgerView → BookView = λ x y. book_of cpus limit workers left y x in
    let book : new ≡ record old { history = l.history ++ entry_by p (Call.Advance k) (Reply.Done k) ∷ []; tickets = t.tickets; blanks = t.blanks } =
    ap (made_of t) more ∙ ap (λ (x : StockView). record old { gate = x.gate; domain = x.domain; history = l.history ++ entry_by p (Call.Advance k) (Reply.Done k) ∷ []; tickets = t.tickets; blanks = t.blanks }) swept in
    let whole : IsAdvanced old new p q n (Reply.Done k) = record {
      made = k;
      some = some;
      most = most;
      done = refl;
      entered = record { free = room; lawful = refl; book = book; pass = made };
      tickets = ap (λ (x : StockView). x.tickets) swept ∙ ap (λ (d : Domain). filter (is_kept d) s.tickets) after.run;
      given = given.0;
      blanks = given.1;
      are_given = subst (λ (d : Domain). AreGiven (filter (is_gone d) s.tickets) given.0) after.run given.2;
    } in
    subst (λ (x : BookView). IsAdvanced x new p q n (Reply.Done k)) view whole
