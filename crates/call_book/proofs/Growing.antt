-- A book with one call more.
use Rattle.std.proofs.Common.{◌≡◌, ℕ, ◌+◌, ◌<◌, ◌≤◌, Bool, true, false, Option, Some, List, [], ◌∷◌, ◌++◌, length, map, refl, sym, ap, ◌∙◌, subst, arith, length-append}
use Rattle.std.specs.Prelude.{IsTrue, ◌↔◌, IfNone, IfSome}
use Rattle.std.proofs.lemmas.List.{map-append}
use Rattle.attr_check.specs.Ratio.{cap}
use Rattle.bw_gate.specs.Word.{cap_of}
use Rattle.bw_gate.specs.Pieces.{GateId, TicketView, cpus_of}
use Rattle.pass_seats.specs.Lists.{PassView}
use Rattle.domain_run.specs.declared.call.Call.{Call}
use Rattle.domain_run.specs.declared.call.Reply.{Reply}
use Rattle.domain_run.specs.Domain.{Domain, empty_domain, IsLimit}
use Rattle.domain_run.specs.Calls.{reply_to, after_call, is_refusal}
use Rattle.domain_run.specs.Run.{after_calls, replies_to, run_of}
use Rattle.domain_run.specs.Keys.{keys}
use Rattle.domain_run.specs.Busy.{LacksRoomFor}
use Rattle.domain_run.proofs.CallerLemmas.{ticks_of, call_time, call_cpus, call_machine, sets_limit, wake_keys, leave_keys, admitted_keys, refused_keeps}
use Rattle.calls_text.specs.declared.section.Entry.{Entry}
use Rattle.call_book.specs.declared.book.stock.Held.{Held}
use Rattle.call_book.specs.Pieces.{held_key, HoldsTickets}
use Rattle.call_book.specs.Book.{BookView, AdmissionView, admission, state_of, entry_by, with_entry, Enters, EntersAlone, HasItsLimit}
use Rattle.calls_text.specs.Histories.{calls_of}
use Rattle.call_book.specs.BookAnswers.{IsBusy}
use Rattle.call_book.specs.private.Ledger.{LedgerView}
use Rattle.call_book.specs.private.Stock.{StockView}
use Rattle.call_book.specs.private.Kept.{book_of, IsBook}
use Rattle.call_book.specs.private.Listing.{ListingSays}

-- a run with one call more
after_calls_push : (d : Domain) (calls : List Call) (call : Call) → after_calls d (calls ++ call ∷ []) ≡ after_call (after_calls d calls) call
after_calls_push d [] call = refl
after_calls_push d (c ∷ calls) call = after_calls_push (after_call d c) calls call

replies_to_push : (d : Domain) (calls : List Call) (call : Call) → replies_to d (calls ++ call ∷ []) ≡ replies_to d calls ++ reply_to (after_calls d calls) call ∷ []
replies_to_push d [] call = refl
replies_to_push d (c ∷ calls) call = ap (λ (rs : List Reply). reply_to d c ∷ rs) (replies_to_push (after_call d c) calls call)

-- the history is not full
pub has_room : (full : Bool) (count room : ℕ) → IsTrue full ↔ (count ≡ room) → full ≡ false → count ≤ room → count < room
has_room full count room says empty within =
    let differ : count ≡ room → ⊥ = λ e. let yes : full ≡ true = says.1 e in absurd cc in
    omega (arith, differ, within)

-- the run of a history with one entry more
pub run_grows : (cpus limit : ℕ) (history : List Entry) (e : Entry) (state next : Domain) → state ≡ run_of cpus limit (calls_of history) → next ≡ after_call state e.call → next ≡ run_of cpus limit (calls_of (history ++ e ∷ []))
run_grows cpus limit history e state next run becomes =
    let start = empty_domain cpus limit in
    let calls_more : calls_of (history ++ e ∷ []) ≡ calls_of history ++ e.call ∷ [] = map-append (λ (x : Entry). x.call) history (e ∷ []) in
    becomes ∙ ap (λ (d : Domain). after_call d e.call) run ∙ sym (after_calls_push start (calls_of history) e.call) ∙ ap (after_calls start) (sym calls_more)

-- The one lemma for every call: before it a book, the reply and the new state of the definition,
-- tickets for the tasks that are listed then, the word that was left, and not too many ticks; with
-- its entry a book again.
pub book_goes_on : (cpus limit workers : ℕ) (left after : Option ℕ) (l grown : LedgerView) (s t : StockView) (state next : Domain) (e : Entry) → IsBook (book_of cpus limit workers left l s) state
    → grown ≡ record l { history = l.history ++ e ∷ [] } → t ≡ record s { tickets = t.tickets; blanks = t.blanks }
    → IsLimit next.limit → HasItsLimit (book_of cpus limit workers after (record l { history = l.history ++ e ∷ [] }) t)
    → e.reply ≡ Some (reply_to state e.call) → next ≡ after_call state e.call → HoldsTickets next t.tickets → ticks_of e.call ≤ 60000000
    → IsBook (book_of cpus limit workers after grown t) next
book_goes_on cpus limit workers left after l grown s t state next e is more pieces a_limit limited lawful becomes held few =
    let start = empty_domain cpus limit in
    let calls = calls_of l.history in
    let calls_more : calls_of (l.history ++ e ∷ []) ≡ calls ++ e.call ∷ [] = map-append (λ (x : Entry). x.call) l.history (e ∷ []) in
    let run : next ≡ after_calls start (calls_of (l.history ++ e ∷ [])) = run_grows cpus limit l.history e state next is.run becomes in
    let answers : replies_to start (calls_of (l.history ++ e ∷ [])) ≡ replies_to start calls ++ reply_to state e.call ∷ [] =
    ap (replies_to start) calls_more ∙ replies_to_push start calls e.call ∙ ap (λ (d : Domain). replies_to start calls ++ reply_to d e.call ∷ []) (sym is.run) in
    let legal : map (λ (x : Entry). x.reply) (l.history ++ e ∷ []) ≡ map Some (replies_to start (calls_of (l.history ++ e ∷ []))) =
    map-append (λ (x : Entry). x.reply) l.history (e ∷ []) ∙ ap (λ (xs : List _). xs ++ e.reply ∷ []) is.legal ∙ ap (λ (r : _). map Some (replies_to start calls) ++ r ∷ []) lawful
    ∙ sym (map-append Some (replies_to start calls) (reply_to state e.call ∷ [])) ∙ ap (map Some) (sym answers) in
    let time : next.time ≡ state.time + ticks_of e.call = ap (λ (d : Domain). d.time) becomes ∙ call_time state e.call in
    let early = is.early in
    let b : LedgerView = record l { history = l.history ++ e ∷ [] } in
    let whole : IsBook (book_of cpus limit workers after b t) next = record {
      run = run;
      legal = legal;
      held = held;
      machine = (ap (λ (d : Domain). d.cpus) becomes ∙ call_cpus state e.call ∙ is.machine.0, a_limit);
      early = omega (arith, time, early, few, length-append l.history (e ∷ []));
      few = is.few;
      high = is.high;
      capped = ap (λ (x : StockView). cpus_of x.gate x.domain) pieces ∙ is.capped;
      limited = limited;
    } in
    subst (λ (x : LedgerView). IsBook (book_of cpus limit workers after x t) next) (sym more) whole

-- the same for a call that sets no limit
pub book_grows : (cpus limit workers : ℕ) (left : Option ℕ) (l grown : LedgerView) (s t : StockView) (state next : Domain) (e : Entry) → IsBook (book_of cpus limit workers left l s) state
    → grown ≡ record l { history = l.history ++ e ∷ [] } → t ≡ record s { tickets = t.tickets; blanks = t.blanks } → sets_limit e.call ≡ false
    → e.reply ≡ Some (reply_to state e.call) → next ≡ after_call state e.call → HoldsTickets next t.tickets → ticks_of e.call ≤ 60000000
    → IsBook (book_of cpus limit workers left grown t) next
book_grows cpus limit workers left l grown s t state next e is more pieces sets lawful becomes held few =
    let keeps : next.limit ≡ state.limit = ap (λ (d : Domain). d.limit) becomes ∙ (call_machine state e.call sets).limit in
    let stays : (run_of cpus limit (calls_of (l.history ++ e ∷ []))).limit ≡ (run_of cpus limit (calls_of l.history)).limit =
    ap (λ (d : Domain). d.limit) (sym (run_grows cpus limit l.history e state next is.run becomes)) ∙ keeps ∙ ap (λ (d : Domain). d.limit) is.run in
    let limited : HasItsLimit (book_of cpus limit workers left (record l { history = l.history ++ e ∷ [] }) t) = record {
      first = subst (λ (n : ℕ). IfNone left (n ≡ limit)) (sym stays) is.limited.first;
      since = subst (λ (n : ℕ). IfSome left (λ word. cap_of word ≡ cap cpus n)) (sym stays) is.limited.since;
    } in
    book_goes_on cpus limit workers left left l grown s t state next e is more pieces (subst IsLimit (sym keeps) is.machine.1) limited lawful becomes held few

-- a blank goes and a ticket comes
pub moved : (s u t : StockView) (h : Held) → u ≡ record s { blanks = u.blanks } → t ≡ record u { tickets = u.tickets ++ h ∷ [] } → t ≡ record s { tickets = t.tickets; blanks = t.blanks }
moved s u t h spared held =
    let gate = ap (λ (x : StockView). x.gate) held ∙ ap (λ (x : StockView). x.gate) spared in
    let domain = ap (λ (x : StockView). x.domain) held ∙ ap (λ (x : StockView). x.domain) spared in
    let made : GateId → ℕ → StockView = λ g d. record { gate = g; domain = d; tickets = t.tickets; blanks = t.blanks } in
    ap (λ (g : GateId). made g t.domain) gate ∙ ap (made s.gate) domain

-- wake and leave keep the keys
pub wake_grows : (cpus limit workers : ℕ) (left : Option ℕ) (l grown : LedgerView) (s : StockView) (state next : Domain) (number : ℕ) (p : PassView Entry) (reply : Reply) → IsBook (book_of cpus limit workers left l s) state
    → grown ≡ record l { history = l.history ++ entry_by p (Call.Wake number) reply ∷ [] } → reply ≡ reply_to state (Call.Wake number) → next ≡ after_call state (Call.Wake number)
    → IsBook (book_of cpus limit workers left grown s) next
wake_grows cpus limit workers left l grown s state next number p reply is more lawful becomes =
    book_grows cpus limit workers left l grown s s state next (entry_by p (Call.Wake number) reply) is more refl refl (ap Some lawful) becomes (is.held ∙ sym (wake_keys state number) ∙ ap (λ (d : Domain). keys d.tasks) (sym becomes)) (omega arith)

pub leave_grows : (cpus limit workers : ℕ) (left : Option ℕ) (l grown : LedgerView) (s : StockView) (state next : Domain) (number : ℕ) (p : PassView Entry) (reply : Reply) → IsBook (book_of cpus limit workers left l s) state
    → grown ≡ record l { history = l.history ++ entry_by p (Call.Leave number) reply ∷ [] } → reply ≡ reply_to state (Call.Leave number) → next ≡ after_call state (Call.Leave number)
    → IsBook (book_of cpus limit workers left grown s) next
leave_grows cpus limit workers left l grown s state next number p reply is more lawful becomes =
    book_grows cpus limit workers left l grown s s state next (entry_by p (Call.Leave number) reply) is more refl refl (ap Some lawful) becomes (is.held ∙ sym (leave_keys state number) ∙ ap (λ (d : Domain). keys d.tasks) (sym becomes)) (omega arith)

-- an admission brings its ticket
pub admitted_grows : (cpus limit workers : ℕ) (left : Option ℕ) (l grown : LedgerView) (s t : StockView) (state next : Domain) (a : AdmissionView) (ticket : TicketView) (number : ℕ) (call : Call) (p : PassView Entry) → IsBook (book_of cpus limit workers left l s) state
    → grown ≡ record l { history = l.history ++ entry_by p call Reply.Admitted ∷ [] } → t ≡ record s { tickets = t.tickets; blanks = t.blanks } → t.tickets ≡ s.tickets ++ record { number = number; ticket = ticket } ∷ []
    → ListingSays state next a Reply.Admitted → number ≡ a.number → call ≡ admission a → ticket.bw ≡ a.params.bw → IsBook (book_of cpus limit workers left grown t) next
admitted_grows cpus limit workers left l grown s t state next a ticket number call p is more pieces held says named same bw =
    let h : Held = record { number = number; ticket = ticket } in
    let after : keys next.tasks ≡ keys state.tasks ++ (a.number, a.params.bw) ∷ [] = ap (λ (d : Domain). keys d.tasks) says.state ∙ admitted_keys state a.number a.name a.params a.delay a.script says.reply in
    let key : held_key h ≡ (a.number, a.params.bw) = ap (λ (n : ℕ). (n, ticket.bw)) named ∙ ap (λ (n : ℕ). (a.number, n)) bw in
    let tickets : map held_key t.tickets ≡ keys next.tasks =
    ap (map held_key) held ∙ map-append held_key s.tickets (h ∷ []) ∙ ap (λ (ks : List (ℕ × ℕ)). ks ++ held_key h ∷ []) is.held ∙ ap (λ (k : ℕ × ℕ). keys state.tasks ++ k ∷ []) key ∙ sym after in
    let lawful : Some Reply.Admitted ≡ Some (reply_to state call) = ap Some (sym says.reply ∙ ap (reply_to state) (sym same)) in
    book_grows cpus limit workers left l grown s t state next (entry_by p call Reply.Admitted) is more pieces (ap sets_limit same) lawful (says.state ∙ ap (after_call state) (sym same)) tickets (rw same (omega arith))

-- a refused admission changes the history alone
pub busy_grows : (cpus limit workers : ℕ) (left : Option ℕ) (l grown : LedgerView) (s : StockView) (state next : Domain) (a : AdmissionView) (seen : ℕ) (call : Call) (p : PassView Entry) → IsBook (book_of cpus limit workers left l s) state
    → grown ≡ record l { history = l.history ++ entry_by p call (Reply.Busy seen) ∷ [] } → ListingSays state next a (Reply.Busy seen) → call ≡ admission a → IsBook (book_of cpus limit workers left grown s) next
busy_grows cpus limit workers left l grown s state next a seen call p is more says same =
    let stays : after_call state (admission a) ≡ state = refused_keeps state (admission a) (ap is_refusal says.reply) in
    let lawful : Some (Reply.Busy seen) ≡ Some (reply_to state call) = ap Some (sym says.reply ∙ ap (reply_to state) (sym same)) in
    book_grows cpus limit workers left l grown s s state next (entry_by p call (Reply.Busy seen)) is more refl (ap sets_limit same) lawful (says.state ∙ ap (after_call state) (sym same)) (is.held ∙ ap (λ (d : Domain). keys d.tasks) (sym (says.state ∙ stays))) (rw same (omega arith))

-- what a call that is entered alone says
pub enters_alone : (b : BookView) (cpus limit workers : ℕ) (left : Option ℕ) (l grown : LedgerView) (s : StockView) (state : Domain) (p q : PassView Entry) (call : Call) (reply : Reply) → book_of cpus limit workers left l s ≡ b → IsBook (book_of cpus limit workers left l s) state → length l.history < l.room
    → grown ≡ record l { history = l.history ++ entry_by p call reply ∷ [] } → q ≡ with_entry p call reply → reply_to state call ≡ reply → EntersAlone b (book_of cpus limit workers left grown s) p q call reply
enters_alone b cpus limit workers left l grown s state p q call reply view is room more made says =
    let whole : EntersAlone (book_of cpus limit workers left l s) (book_of cpus limit workers left grown s) p q call reply = record {
      entered = record { free = room; lawful = sym says ∙ ap (λ (d : Domain). reply_to d call) is.run; book = ap (λ (x : LedgerView). book_of cpus limit workers left x s) more; pass = made };
      tickets = refl;
      blanks = refl;
    } in
    subst (λ (x : BookView). EntersAlone x (book_of cpus limit workers left grown s) p q call reply) view whole

-- what a call that is entered says, where pieces come or go
pub enters : (b : BookView) (cpus limit workers : ℕ) (left : Option ℕ) (l grown : LedgerView) (s t : StockView) (state : Domain) (p q : PassView Entry) (call : Call) (reply : Reply) → book_of cpus limit workers left l s ≡ b → IsBook (book_of cpus limit workers left l s) state → length l.history < l.room
    → grown ≡ record l { history = l.history ++ entry_by p call reply ∷ [] } → t ≡ record s { tickets = t.tickets; blanks = t.blanks } → q ≡ with_entry p call reply → reply_to state call ≡ reply → Enters b (book_of cpus limit workers left grown t) p q call reply
enters b cpus limit workers left l grown s t state p q call reply view is room more pieces made says =
    let longer : LedgerView = record l { history = l.history ++ entry_by p call reply ∷ [] } in
    let whole : Enters (book_of cpus limit workers left l s) (book_of cpus limit workers left grown t) p q call reply = record {
      free = room;
      lawful = sym says ∙ ap (λ (d : Domain). reply_to d call) is.run;
      book = ap (λ (x : LedgerView). book_of cpus limit workers left x t) more ∙ ap (λ (x : StockView). book_of cpus limit workers left longer (record x { tickets = t.tickets; blanks = t.blanks })) pieces;
      pass = made;
    } in
    subst (λ (x : BookView). Enters x (book_of cpus limit workers left grown t) p q call reply) view whole

pub busy_answer : (b : BookView) (cpus limit workers : ℕ) (left : Option ℕ) (l grown : LedgerView) (s : StockView) (state next : Domain) (p q : PassView Entry) (a : AdmissionView) (ticket : TicketView) (seen : ℕ) (call : Call) → book_of cpus limit workers left l s ≡ b → IsBook (book_of cpus limit workers left l s) state
    → length l.history < l.room → grown ≡ record l { history = l.history ++ entry_by p call (Reply.Busy seen) ∷ [] } → q ≡ with_entry p call (Reply.Busy seen) → ListingSays state next a (Reply.Busy seen) → call ≡ admission a → LacksRoomFor state a.params.bw seen
    → IsBusy b (book_of cpus limit workers left grown s) p q a ticket ticket seen
busy_answer b cpus limit workers left l grown s state next p q a ticket seen call view is room more made says same lacks =
    let caps : cap state.cpus state.limit ≡ cap b.cpus (state_of b).limit =
    ap (λ (n : ℕ). cap n state.limit) (is.machine.0 ∙ ap (λ (x : BookView). x.cpus) view) ∙ ap (λ (d : Domain). cap b.cpus d.limit) (is.run ∙ ap (λ (x : BookView). state_of x) view) in
    let within = lacks.within in
    let above = lacks.above in
    let alone = enters_alone b cpus limit workers left l grown s state p q call (Reply.Busy seen) view is room more made (ap (reply_to state) same ∙ says.reply) in
    record {
      entered = subst (λ (c : Call). EntersAlone b (book_of cpus limit workers left grown s) p q c (Reply.Busy seen)) same alone;
      a_limit = subst (λ (d : Domain). IsLimit d.limit) (is.run ∙ ap (λ (x : BookView). state_of x) view) is.machine.1;
      within = subst (λ (n : ℕ). seen ≤ n) caps within;
      above = subst (λ (n : ℕ). n < seen + a.params.bw) caps above;
      ticket_back = refl;
    }
