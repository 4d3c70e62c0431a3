-- A book in which a task was regraded.
use Rattle.std.proofs.Common.{◌≡◌, inl, inr, ℕ, zero, suc, ◌+◌, ◌-◌, ◌<◌, ◌≤◌, Bool, true, false, cond, ◌||◌, eqb, ltb, Option, Some, None, List, [], ◌∷◌, ◌++◌, length, map, refl, sym, ap, ◌∙◌, subst, arith, eq-eqb}
use Rattle.std.specs.Prelude.{All, AllPairs, ◌≢◌, ◌*◌, Contains, IfSome}
use Rattle.std.specs.List.{list_any}
use Rattle.std.proofs.lemmas.Bool.{eqb-true}
use Rattle.std.proofs.lemmas.List.{map-append}
use Rattle.std.proofs.lemmas.List.Folds.{list_any_at}
use Rattle.std.proofs.Math.Nat.{mul-le-mul_left}
use Rattle.attr_check.specs.ParamsView.{ParamsView}
use Rattle.attr_check.specs.Ratio.{cap}
use Rattle.bw_gate.specs.Word.{used_of, IsWord}
use Rattle.bw_gate.specs.Pieces.{GateId, BlankView, cpus_of}
use Rattle.pass_seats.specs.Lists.{PassView}
use Rattle.domain_run.specs.declared.task.Task.{Task}
use Rattle.domain_run.specs.declared.call.Call.TheVariants as Call
use Rattle.domain_run.specs.declared.call.Reply.{Reply}
use Rattle.domain_run.specs.Domain.{Domain}
use Rattle.domain_run.specs.Calls.{reply_to, after_call, is_refusal, regrade_reply, task_of}
use Rattle.domain_run.specs.Tick.{sum_of}
use Rattle.domain_run.specs.Keys.{keys, key_with_bw}
use Rattle.domain_run.specs.Sound.{IsDomain}
use Rattle.domain_run.proofs.CallerLemmas.{live_key, regraded_keys, refused_keeps}
use Rattle.calls_text.specs.declared.section.Entry.{Entry}
use Rattle.call_book.specs.declared.book.stock.Held.{Held}
use Rattle.calls_text.specs.Limits.{IsCall}
use Rattle.call_book.specs.Pieces.{held_key, is_held, word_at, IsTicketOf, AsksTheWord, HoldsTickets}
use Rattle.call_book.specs.Book.{BookView, state_of, entry_by, with_entry}
use Rattle.call_book.specs.BookAnswers.{IsRegraded}
use Rattle.call_book.specs.private.Ledger.{LedgerView}
use Rattle.call_book.specs.private.Stock.{StockView}
use Rattle.call_book.specs.private.Kept.{book_of, IsBook, IsRegradeAsked}
use Rattle.call_book.proofs.Growing.{book_grows}
use Rattle.call_book.proofs.Asking.{all_after}

-- ---- a task that is listed has a ticket

pub keyed_any : (number : ℕ) (tickets : List Held) → list_any (λ k. eqb k.0 number) (map held_key tickets) ≡ list_any (is_held number) tickets
keyed_any number [] = refl
keyed_any number (h ∷ tickets) = elim (eqb h.number number) as (λ b. (b || list_any (λ k. eqb k.0 number) (map held_key tickets)) ≡ (b || list_any (is_held number) tickets)) [ true ↦ refl | false ↦ keyed_any number tickets ]

in_keys : (number : ℕ) (ks : List (ℕ × ℕ)) (k : ℕ × ℕ) → k.0 ≡ number → Contains ks k → list_any (λ x. eqb x.0 number) ks ≡ true
in_keys number ks k named there = list_any_at (λ x. eqb x.0 number) ks there.0 k there.1 (ap (λ (x : ℕ × ℕ). eqb x.0 number) there.2 ∙ eq-eqb k.0 number named)

live_by : (d : Domain) (p : ParamsView) (o : Option Task) → regrade_reply d p None o ≡ Reply.Changed → (t : Task) × (o ≡ Some t)
live_by d p None e = absurd cc
live_by d p (Some t) e = (t, refl)

pub asked_is_held : (state : Domain) (tickets : List Held) (number : ℕ) (params : ParamsView) → HoldsTickets state tickets → regrade_reply state params None (task_of state number) ≡ Reply.Changed → list_any (is_held number) tickets ≡ true
asked_is_held state tickets number params held e =
    let live = live_by state params (task_of state number) e in
    let there = in_keys number (keys state.tasks) (number, live.0.params.bw) refl (live_key state number live.0 live.1) in
    sym (keyed_any number tickets) ∙ ap (list_any (λ (k : ℕ × ℕ). eqb k.0 number)) held ∙ there

-- ---- the keys of the tickets when one of them has another bandwidth

abbrev HasNone : ℕ → List (ℕ × ℕ) → Type 0
HasNone number [] = Unit {0}
HasNone number (k ∷ ks) = (k.0 ≢ number) × HasNone number ks

abbrev AreApart : List (ℕ × ℕ) → Type 0
AreApart [] = Unit {0}
AreApart (k ∷ ks) = HasNone k.0 ks × AreApart ks

none_of : (t : Task) (tasks : List Task) → All (λ u. t.number ≢ u.number) tasks → HasNone t.number (keys tasks)
none_of t [] all = tt
none_of t (u ∷ tasks) all = ((λ e. all zero u (omega arith) (sym e)), none_of t tasks (λ k d h. all (suc k) d (omega arith)))

apart_keys : (tasks : List Task) → AllPairs (λ a b. a.number ≢ b.number) tasks → AreApart (keys tasks)
apart_keys [] all = tt
apart_keys (t ∷ tasks) all = (none_of t tasks (λ k d h. all zero (suc k) d (omega arith) (omega arith)), apart_keys tasks (λ i j d less within. all (suc i) (suc j) d (omega arith) (omega arith)))

not_equal : (a b : ℕ) → a ≢ b → eqb a b ≡ false
not_equal a b h = elim (eqb a b) as (λ x. eqb a b ≡ x → x ≡ false) [ true ↦ λ e. absurd (h (eqb-true a b e)) | false ↦ λ e. refl ] refl

with_bw_none : (number bw : ℕ) (ks : List (ℕ × ℕ)) → HasNone number ks → map (key_with_bw number bw) ks ≡ ks
with_bw_none number bw [] none = refl
with_bw_none number bw (k ∷ ks) none =
    ap (λ (b : Bool). cond b (k.0, bw) k ∷ map (key_with_bw number bw) ks) (not_equal k.0 number none.0) ∙ ap (λ (xs : List (ℕ × ℕ)). k ∷ xs) (with_bw_none number bw ks none.1)

none_at : (number : ℕ) (front : List (ℕ × ℕ)) (k : ℕ × ℕ) (bs : List (ℕ × ℕ)) → HasNone number (front ++ k ∷ bs) → k.0 ≢ number
none_at number [] k bs none = none.0
none_at number (a ∷ front) k bs none = none_at number front k bs none.1

with_bw_one : (number was bw : ℕ) (front following : List (ℕ × ℕ)) → AreApart (front ++ (number, was) ∷ following) → map (key_with_bw number bw) (front ++ (number, was) ∷ following) ≡ front ++ (number, bw) ∷ following
with_bw_one number was bw [] following apart =
    ap (λ (b : Bool). cond b (number, bw) (number, was) ∷ map (key_with_bw number bw) following) (eq-eqb number number refl) ∙ ap (λ (xs : List (ℕ × ℕ)). (number, bw) ∷ xs) (with_bw_none number bw following apart.0)
with_bw_one number was bw (a ∷ front) following apart =
    let differ = none_at a.0 front (number, was) following apart.0 in
    ap (λ (b : Bool). cond b (a.0, bw) a ∷ map (key_with_bw number bw) (front ++ (number, was) ∷ following)) (not_equal a.0 number (λ e. differ (sym e))) ∙ ap (λ (xs : List (ℕ × ℕ)). a ∷ xs) (with_bw_one number was bw front following apart.1)

-- where the word has room, the ticket's key has the new bandwidth
asked_keys : (number bw : ℕ) (old new : List Held) → AsksTheWord number bw old new None → AreApart (map held_key old) → map held_key new ≡ map (key_with_bw number bw) (map held_key old)
asked_keys number bw old new asked apart =
    let x : Held = record { number = number; ticket = asked.was } in
    let y : Held = record { number = number; ticket = asked.becomes } in
    let front = map held_key asked.before in
    let following = map held_key asked.following in
    let was : map held_key old ≡ front ++ (number, asked.was.bw) ∷ following = ap (map held_key) asked.old_tickets ∙ map-append held_key asked.before (x ∷ asked.following) in
    let is : map held_key new ≡ front ++ (number, asked.becomes.bw) ∷ following = ap (map held_key) asked.new_tickets ∙ map-append held_key asked.before (y ∷ asked.following) in
    is ∙ ap (λ (n : ℕ). front ++ (number, n) ∷ following) asked.answered.answer ∙ sym (with_bw_one number asked.was.bw bw front following (subst AreApart was apart)) ∙ ap (map (key_with_bw number bw)) (sym was)

-- where it has none, the keys stay
refused_keys : (number bw seen : ℕ) (old new : List Held) → AsksTheWord number bw old new (Some seen) → map held_key new ≡ map held_key old
refused_keys number bw seen old new asked =
    let x : Held = record { number = number; ticket = asked.was } in
    let y : Held = record { number = number; ticket = asked.becomes } in
    let front = map held_key asked.before in
    let following = map held_key asked.following in
    let was : map held_key old ≡ front ++ (number, asked.was.bw) ∷ following = ap (map held_key) asked.old_tickets ∙ map-append held_key asked.before (x ∷ asked.following) in
    let is : map held_key new ≡ front ++ (number, asked.becomes.bw) ∷ following = ap (map held_key) asked.new_tickets ∙ map-append held_key asked.before (y ∷ asked.following) in
    is ∙ ap (λ (n : ℕ). front ++ (number, n) ∷ following) asked.answered.answer.0 ∙ sym was

-- what is used of a word is at most what its CPUs have
pub used_within : (cpus word used : ℕ) → IsWord cpus word → used_of word ≡ used → used ≤ cpus * 1048576
used_within cpus word used is same =
    let within = is.within in
    let product = is.cap.product in
    omega (arith, same, within, product, mul-le-mul_left cpus is.cap.a_limit.most)

pub asked_within : (gate : GateId) (domain number bw : ℕ) (old new : List Held) (word : Option ℕ) → AsksTheWord number bw old new word → All (λ h. IsTicketOf gate domain h.ticket) old → IfSome word (λ used. used ≤ cpus_of gate domain * 1048576)
asked_within gate domain number bw old new None asked all = tt
asked_within gate domain number bw old new (Some seen) asked all =
    let P : Held → Type 0 = λ h. IsTicketOf gate domain h.ticket in
    let x : Held = record { number = number; ticket = asked.was } in
    let tail : All P (x ∷ asked.following) = all_after P asked.before (x ∷ asked.following) (subst (All P) asked.old_tickets all) in
    let was : IsTicketOf gate domain asked.was = tail 0 x (omega arith) in
    let answer = asked.answered.answer in
    let within = used_within (cpus_of asked.was.gate asked.was.domain) (word_at asked.becomes) seen answer.2 answer.1 in
    subst (λ (n : ℕ). seen ≤ n * 1048576) (ap (λ (g : GateId). cpus_of g asked.was.domain) was.own ∙ ap (cpus_of gate) was.inside) within

-- ---- replies

busy_reply : (d : Domain) (p : ParamsView) (seen : ℕ) (o : Option Task) → regrade_reply d p None o ≡ Reply.Changed → regrade_reply d p (Some seen) o ≡ Reply.Busy seen
busy_reply d p seen None e = absurd cc
busy_reply d p seen (Some t) e =
    elim (ltb (cap d.cpus d.limit) (sum_of d.tasks - t.params.bw + p.bw)) as (λ b. cond b (Reply.Busy (sum_of d.tasks)) Reply.Changed ≡ Reply.Changed → cond b (Reply.Busy (sum_of d.tasks)) (Reply.Busy seen) ≡ Reply.Busy seen) [ true ↦ λ h. absurd cc | false ↦ λ h. refl ] e

refused_test : (d : Domain) (p : ParamsView) (o : Option Task) → regrade_reply d p None o ≢ Reply.Changed → is_refusal (regrade_reply d p None o) ≡ true
refused_test d p None differ = refl
refused_test d p (Some t) differ =
    elim (ltb (cap d.cpus d.limit) (sum_of d.tasks - t.params.bw + p.bw)) as (λ b. cond b (Reply.Busy (sum_of d.tasks)) Reply.Changed ≢ Reply.Changed → is_refusal (cond b (Reply.Busy (sum_of d.tasks)) Reply.Changed) ≡ true) [ true ↦ λ h. refl | false ↦ λ h. absurd (h refl) ] differ

-- ---- the book

abbrev Own : Domain → ℕ → ParamsView → Reply
Own d number params = regrade_reply d params None (task_of d number)

asked_held : (state next : Domain) (old new : List Held) (number : ℕ) (params : ParamsView) (word : Option ℕ) → IsDomain state → HoldsTickets state old → Own state number params ≡ Reply.Changed → AsksTheWord number params.bw old new word → next ≡ after_call state (Call.Regrade number params word) → HoldsTickets next new
asked_held state next old new number params None is held own asked becomes =
    let apart : AreApart (map held_key old) = subst AreApart (sym held) (apart_keys state.tasks is.steady.numbered) in
    asked_keys number params.bw old new asked apart ∙ ap (map (key_with_bw number params.bw)) held ∙ sym (regraded_keys state number params None own) ∙ ap (λ (d : Domain). keys d.tasks) (sym becomes)
asked_held state next old new number params (Some seen) is held own asked becomes =
    let stays : after_call state (Call.Regrade number params (Some seen)) ≡ state = refused_keeps state (Call.Regrade number params (Some seen)) (ap is_refusal (busy_reply state params seen (task_of state number) own)) in
    refused_keys number params.bw seen old new asked ∙ held ∙ ap (λ (d : Domain). keys d.tasks) (sym (becomes ∙ stays))

pub regrade_holds : (state next : Domain) (old new : StockView) (number : ℕ) (params : ParamsView) (word : Option ℕ) → HoldsTickets state old.tickets → IsRegradeAsked state old new number params word → next ≡ after_call state (Call.Regrade number params word) → HoldsTickets next new.tickets
regrade_holds state next old new number params word held (inl a) becomes = asked_held state next old.tickets new.tickets number params word a.1 held a.0 a.3 becomes
regrade_holds state next old new number params word held (inr a) becomes =
    let none : next ≡ after_call state (Call.Regrade number params None) = becomes ∙ ap (λ (w : Option ℕ). after_call state (Call.Regrade number params w)) a.1 in
    let stays : after_call state (Call.Regrade number params None) ≡ state = refused_keeps state (Call.Regrade number params None) (refused_test state params (task_of state number) a.0) in
    ap (λ (x : StockView). map held_key x.tickets) a.2 ∙ held ∙ ap (λ (d : Domain). keys d.tasks) (sym (none ∙ stays))

asked_stock : (state : Domain) (old new : StockView) (number : ℕ) (params : ParamsView) (word : Option ℕ) → IsRegradeAsked state old new number params word → new ≡ record old { tickets = new.tickets }
asked_stock state old new number params word (inl a) = a.2
asked_stock state old new number params word (inr a) = a.2 ∙ ap (λ (x : StockView). record old { tickets = x.tickets }) (sym a.2)

pub regrade_grows : (cpus limit workers : ℕ) (left : Option ℕ) (l grown : LedgerView) (s t : StockView) (state next : Domain) (number : ℕ) (params : ParamsView) (word : Option ℕ) (reply : Reply) (p : PassView Entry) → IsBook (book_of cpus limit workers left l s) state
    → grown ≡ record l { history = l.history ++ entry_by p (Call.Regrade number params word) reply ∷ [] } → IsRegradeAsked state s t number params word
    → reply ≡ reply_to state (Call.Regrade number params word) → next ≡ after_call state (Call.Regrade number params word) → IsBook (book_of cpus limit workers left grown t) next
regrade_grows cpus limit workers left l grown s t state next number params word reply p is more asked lawful becomes =
    let stock = asked_stock state s t number params word asked in
    let pieces : t ≡ record s { tickets = t.tickets; blanks = t.blanks } = stock ∙ ap (λ (bs : List BlankView). record s { tickets = t.tickets; blanks = bs }) (sym (ap (λ (x : StockView). x.blanks) stock)) in
    book_grows cpus limit workers left l grown s t state next (entry_by p (Call.Regrade number params word) reply) is more pieces refl (ap Some lawful) becomes (regrade_holds state next s t number params word is.held asked becomes) (omega arith)

-- the call has a spelling, since 64 CPUs have 2^26
pub regrade_spelled : (cpus limit workers : ℕ) (left : Option ℕ) (l : LedgerView) (s t : StockView) (state : Domain) (number : ℕ) (params : ParamsView) (word : Option ℕ) → IsBook (book_of cpus limit workers left l s) state → IsCall (Call.Regrade number params None) → IsRegradeAsked state s t number params word → IsCall (Call.Regrade number params word)
regrade_spelled cpus limit workers left l s t state number params None is call asked = call
regrade_spelled cpus limit workers left l s t state number params (Some seen) is call (inl a) =
    let capped = is.capped in
    let few = is.few in
    let within = a.4 in
    (call.0, call.1, omega (arith, within, capped, few))
regrade_spelled cpus limit workers left l s t state number params (Some seen) is call (inr a) = absurd (let e = a.1 in cc)

pub regrade_answer : (b : BookView) (cpus limit workers : ℕ) (left : Option ℕ) (l grown : LedgerView) (s t : StockView) (state : Domain) (number : ℕ) (params : ParamsView) (word : Option ℕ) (reply : Reply) (p q : PassView Entry) → book_of cpus limit workers left l s ≡ b → IsBook (book_of cpus limit workers left l s) state → length l.history < l.room
    → grown ≡ record l { history = l.history ++ entry_by p (Call.Regrade number params word) reply ∷ [] } → q ≡ with_entry p (Call.Regrade number params word) reply → IsRegradeAsked state s t number params word → reply ≡ reply_to state (Call.Regrade number params word)
    → IsRegraded b (book_of cpus limit workers left grown t) p q number params reply
regrade_answer b cpus limit workers left l grown s t state number params word reply p q view is room more made asked lawful =
    let old = book_of cpus limit workers left l s in
    let new = book_of cpus limit workers left grown t in
    let stock = asked_stock state s t number params word asked in
    let e : Entry = entry_by p (Call.Regrade number params word) reply in
    let book : new ≡ record old { history = l.history ++ e ∷ []; tickets = t.tickets; blanks = t.blanks } =
    ap (λ (x : LedgerView). book_of cpus limit workers left x t) more ∙ ap (λ (x : StockView). record old { gate = x.gate; domain = x.domain; history = l.history ++ e ∷ []; tickets = t.tickets; blanks = t.blanks }) stock in
    let test : Own (state_of old) number params ≡ Own state number params = ap (λ (d : Domain). Own d number params) (sym is.run) in
    let whole : IsRegraded old new p q number params reply = record {
      word = word;
      entered = record { free = room; lawful = lawful ∙ ap (λ (d : Domain). reply_to d (Call.Regrade number params word)) is.run; book = book; pass = made };
      blanks = ap (λ (x : StockView). x.blanks) stock;
      asked = λ e. elim asked [ inl a ↦ a.3 | inr a ↦ absurd (a.0 (sym test ∙ e)) ];
      own = λ e. elim asked [ inl a ↦ a.5 | inr a ↦ absurd (a.0 (sym test ∙ e)) ];
      unasked = λ differ. elim asked [ inl a ↦ absurd (differ (test ∙ a.0)) | inr a ↦ (a.1, ap (λ (x : StockView). x.tickets) a.2) ];
    } in
    subst (λ (x : BookView). IsRegraded x new p q number params reply) view whole
