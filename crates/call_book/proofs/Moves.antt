-- A book that a task departs from, and one that a task comes to.
use Rattle.std.proofs.Common.{◌≡◌, ℕ, ◌+◌, Bool, true, false, cond, eqb, leb, ltb, Option, Some, None, List, [], ◌∷◌, ◌++◌, length, map, refl, sym, ap, ◌∙◌, subst, arith}
use Rattle.std.specs.Prelude.{option_map}
use Rattle.std.specs.List.{list_any}
use Rattle.attr_check.specs.ParamsView.{ParamsView}
use Rattle.attr_check.specs.Ratio.{cap}
use Rattle.std.proofs.lemmas.List.{map-append}
use Rattle.bw_gate.specs.Pieces.{GateId, BlankView, TicketView}
use Rattle.pass_seats.specs.Lists.{PassView}
use Rattle.domain_run.specs.declared.call.Call.{Call}
use Rattle.domain_run.specs.declared.call.Call.TheVariants as calls
use Rattle.domain_run.specs.declared.call.Reply.{Reply as Answer}
use Rattle.domain_run.specs.declared.call.Reply.TheVariants as Reply
use Rattle.domain_run.specs.declared.task.Task.{Task}
use Rattle.domain_run.specs.Domain.{Domain}
use Rattle.domain_run.specs.Calls.{admit_reply, depart_reply, task_of, reply_to, after_call}
use Rattle.domain_run.specs.Tick.{sum_of}
use Rattle.domain_run.specs.Views.{Moving, moving_of, moving_in}
use Rattle.domain_run.specs.Keys.{keys}
use Rattle.domain_run.proofs.CallerLemmas.{AreNumbered, sets_limit, arrived_keys}
use Rattle.calls_text.specs.declared.section.Entry.{Entry}
use Rattle.call_book.specs.declared.book.stock.Held.{Held}
use Rattle.call_book.specs.Pieces.{held_key, HoldsTickets}
use Rattle.call_book.specs.Book.{AdmissionView, entry_by}
use Rattle.call_book.specs.MoveAnswers.{arrival, IsTakenOut}
use Rattle.call_book.specs.private.Ledger.{LedgerView}
use Rattle.call_book.specs.private.Stock.{StockView}
use Rattle.call_book.specs.private.Kept.{book_of, IsBook}
use Rattle.call_book.proofs.Growing.{book_grows}
use Rattle.call_book.proofs.TakenOut.{taken_holds}

pub departed_grows : (cpus limit workers : ℕ) (left : Option ℕ) (l grown : LedgerView) (s t : StockView) (state next : Domain) (number : ℕ) (ticket : TicketView) (p : PassView Entry) → IsBook (book_of cpus limit workers left l s) state → AreNumbered state.tasks
    → grown ≡ record l { history = l.history ++ entry_by p (calls.Depart number) Reply.Departed ∷ [] } → t ≡ record s { tickets = t.tickets; blanks = t.blanks } → IsTakenOut number s.tickets t.tickets ticket
    → reply_to state (calls.Depart number) ≡ Reply.Departed → next ≡ after_call state (calls.Depart number) → IsBook (book_of cpus limit workers left grown t) next
departed_grows cpus limit workers left l grown s t state next number ticket p is numbered more pieces taken lawful becomes =
    let holds = taken_holds state number s.tickets t.tickets ticket taken numbered is.held lawful in
    book_grows cpus limit workers left l grown s t state next (entry_by p (calls.Depart number) Reply.Departed) is more pieces refl (ap Some (sym lawful)) becomes (subst (λ (d : Domain). HoldsTickets d t.tickets) (sym becomes) holds) (omega arith)

pub arrived_grows : (cpus limit workers : ℕ) (left : Option ℕ) (l grown : LedgerView) (s t : StockView) (state next : Domain) (a : AdmissionView) (ticket : TicketView) (number : ℕ) (call : Call) (p : PassView Entry) → IsBook (book_of cpus limit workers left l s) state
    → grown ≡ record l { history = l.history ++ entry_by p call Reply.Admitted ∷ [] } → t ≡ record s { tickets = t.tickets; blanks = t.blanks } → t.tickets ≡ s.tickets ++ record { number = number; ticket = ticket } ∷ []
    → reply_to state (arrival a) ≡ Reply.Admitted → next ≡ after_call state (arrival a) → number ≡ a.number → call ≡ arrival a → ticket.bw ≡ a.params.bw → IsBook (book_of cpus limit workers left grown t) next
arrived_grows cpus limit workers left l grown s t state next a ticket number call p is more pieces held lawful becomes named same bw =
    let h : Held = record { number = number; ticket = ticket } in
    let after : keys next.tasks ≡ keys state.tasks ++ (a.number, a.params.bw) ∷ [] = ap (λ (d : Domain). keys d.tasks) becomes ∙ arrived_keys state a.number a.name a.params a.script lawful in
    let key : held_key h ≡ (a.number, a.params.bw) = ap (λ (n : ℕ). (n, ticket.bw)) named ∙ ap (λ (n : ℕ). (a.number, n)) bw in
    let tickets : map held_key t.tickets ≡ keys next.tasks =
    ap (map held_key) held ∙ map-append held_key s.tickets (h ∷ []) ∙ ap (λ (ks : List (ℕ × ℕ)). ks ++ held_key h ∷ []) is.held ∙ ap (λ (k : ℕ × ℕ). keys state.tasks ++ k ∷ []) key ∙ sym after in
    let answered : Some Reply.Admitted ≡ Some (reply_to state call) = ap Some (sym lawful ∙ ap (reply_to state) (sym same)) in
    book_grows cpus limit workers left l grown s t state next (entry_by p call Reply.Admitted) is more pieces (ap sets_limit same) answered (becomes ∙ ap (after_call state) (sym same)) tickets (rw same (omega arith))

-- ---- pieces that come and go

same_place : (s t : StockView) → t.gate ≡ s.gate → t.domain ≡ s.domain → t ≡ record s { tickets = t.tickets; blanks = t.blanks }
same_place s t gate domain =
    let made : GateId → ℕ → StockView = λ g d. record { gate = g; domain = d; tickets = t.tickets; blanks = t.blanks } in
    ap (λ (g : GateId). made g t.domain) gate ∙ ap (made s.gate) domain

pub ticket_goes : (s t : StockView) → t ≡ record s { tickets = t.tickets } → t ≡ record s { tickets = t.tickets; blanks = t.blanks }
ticket_goes s t e = same_place s t (ap (λ (x : StockView). x.gate) e) (ap (λ (x : StockView). x.domain) e)

pub blank_comes : (s u t : StockView) (b : BlankView) → u ≡ record s { tickets = u.tickets } → t ≡ record u { blanks = u.blanks ++ b ∷ [] } → t ≡ record s { tickets = t.tickets; blanks = t.blanks }
blank_comes s u t b goes comes =
    same_place s t (ap (λ (x : StockView). x.gate) comes ∙ ap (λ (x : StockView). x.gate) goes) (ap (λ (x : StockView). x.domain) comes ∙ ap (λ (x : StockView). x.domain) goes)

-- ---- whether it moves

pub admits_by : (d : Domain) (number : ℕ) (params : ParamsView) (r : Answer) → r ≡ admit_reply d number params → (r ≡ Reply.Full → ⊥) → (r ≡ Reply.Twice → ⊥) → ((s : ℕ) → r ≡ Reply.Busy s → ⊥) → admit_reply d number params ≡ Reply.Admitted
admits_by d number params r is full twice busy =
    by_tests (leb 256 (length d.tasks)) (list_any (λ n. eqb n number) d.used) (ltb (cap d.cpus d.limit) (sum_of d.tasks + params.bw)) is
  where
    by_tests : (a b c : Bool) → r ≡ cond a Reply.Full (cond b Reply.Twice (cond c (Reply.Busy (sum_of d.tasks)) Reply.Admitted)) → cond a Reply.Full (cond b Reply.Twice (cond c (Reply.Busy (sum_of d.tasks)) Reply.Admitted)) ≡ Reply.Admitted
    by_tests true b c e = absurd (full e)
    by_tests false true c e = absurd (twice e)
    by_tests false false true e = absurd (busy (sum_of d.tasks) e)
    by_tests false false false e = refl

-- a task that has something to take along may depart
pub may_depart : (d : Domain) (number : ℕ) (m : Moving) → moving_in d number ≡ Some m → reply_to d (calls.Depart number) ≡ Reply.Departed
may_depart d number m e = by_task (task_of d number) e
  where
    by_task : (o : Option Task) → option_map moving_of o ≡ Some m → depart_reply o ≡ Reply.Departed
    by_task None k = absurd cc
    by_task (Some t) k = refl
