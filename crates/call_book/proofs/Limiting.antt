-- A book whose domain's limit was to change.
use Rattle.std.proofs.Common.{◌≡◌, inl, inr, ℕ, ◌*◌, ◌<◌, ◌≤◌, ◌^◌, Bool, true, false, cond, ltb, Option, Some, None, List, [], ◌∷◌, ◌++◌, length, refl, sym, ap, ◌∙◌, subst, arith, append_assoc}
use Rattle.std.specs.Prelude.{◌≢◌, ◌⊎◌, IfNone, IfSome, slice_index}
use Rattle.std.proofs.lemmas.Bool.{cases_lt, ltb-false, ltb-true}
use Rattle.std.proofs.lemmas.List.{get_or_past}
use Rattle.attr_check.specs.Ratio.{cap}
use Rattle.pass_seats.specs.Lists.{PassView}
use Rattle.bw_gate.specs.Word.{used_of, cap_of, word_of}
use Rattle.bw_gate.specs.Pieces.{GateId, BlankView, cpus_of, found_in, last_word_found}
use Rattle.bw_gate.specs.declared.view.Found.{Found}
use Rattle.bw_gate.specs.Answers.{words_of, IsLimited, cap_by}
use Rattle.bw_gate.specs.declared.answer.Limit.TheVariants as gate
use Rattle.domain_run.specs.declared.call.Call.TheVariants as Call
use Rattle.domain_run.specs.declared.call.Reply.{Reply}
use Rattle.domain_run.specs.declared.call.Reply.TheVariants as replies
use Rattle.domain_run.specs.Domain.{Domain, IsLimit}
use Rattle.domain_run.specs.Calls.{after_call, is_refusal, limit_reply, set_reply, with_limit}
use Rattle.domain_run.specs.Tick.{sum_of}
use Rattle.domain_run.specs.Keys.{keys}
use Rattle.domain_run.specs.Run.{run_of}
use Rattle.domain_run.proofs.CallerLemmas.{refused_keeps}
use Rattle.calls_text.specs.declared.section.Entry.{Entry}
use Rattle.calls_text.specs.Limits.{IsCall}
use Rattle.call_book.specs.Book.{BookView, state_of, entry_by, with_entry, EntersAlone, HasItsLimit}
use Rattle.calls_text.specs.Histories.{calls_of}
use Rattle.call_book.specs.LimitAnswers.{word_of_blank, AsksForLimit, IsLimitSet, IsBusyBySum, IsBusyByWord}
use Rattle.call_book.specs.private.Ledger.{LedgerView}
use Rattle.call_book.specs.private.Stock.{StockView}
use Rattle.call_book.specs.private.Kept.{book_of, IsBook, IsLimitAsked}
use Rattle.call_book.proofs.Words.{last_of_push}
use Rattle.call_book.proofs.Growing.{run_grows, book_goes_on, enters_alone}
use Rattle.call_book.proofs.Regrading.{used_within}

-- ---- what the blank learns

-- the parts of the word that is left
left_parts : (most used : ℕ) → used < 2 ^ 32 → (cap_of (word_of most used) ≡ most) × (used_of (word_of most used) ≡ used)
left_parts most used short = (omega (arith, short), omega (arith, short))

last_of_two : (found : List Found) (d a b : ℕ) → last_word_found (found ++ found_in d (a ∷ b ∷ [])) ≡ b
last_of_two found d a b = ap last_word_found (sym (append_assoc found (found_in d (a ∷ [])) (found_in d (b ∷ [])))) ∙ last_of_push (found ++ found_in d (a ∷ [])) d b

-- a blank whose limit was set has its answer
pub set_answer : (cpus domain limit : ℕ) (blank back : BlankView) → cpus_of blank.gate domain ≡ cpus → IsLimited blank domain limit (gate.Set back) → AsksForLimit cpus domain limit blank back None
set_answer cpus domain limit blank back machine asked =
    let words = words_of asked.races in
    let h = asked.last in
    let seen = h.seen in
    let most = cap_by blank.gate domain limit in
    let left = word_of most (used_of seen) in
    let before = blank.found ++ found_in domain words in
    let found : back.found ≡ before ++ found_in domain (seen ∷ left ∷ []) = ap (λ (x : BlankView). x.found) h.blank in
    let last : word_of_blank back ≡ left = ap last_word_found found ∙ last_of_two before domain seen left in
    let parts = left_parts most (used_of seen) (omega arith) in
    let caps : most ≡ cap cpus limit = ap (λ (n : ℕ). n * limit) machine in
    let room : used_of seen ≤ most = h.room in
    let used = ap used_of last ∙ parts.1 in
    record {
      asked = asked;
      answer = (ap cap_of last ∙ parts.0 ∙ caps, omega (arith, used, room, caps));
      own = ap (λ (x : BlankView). x.gate) h.blank;
    }

-- and so has one that was refused
pub busy_answer : (cpus domain limit : ℕ) (blank back : BlankView) (seen used : ℕ) → cpus_of blank.gate domain ≡ cpus → IsLimited blank domain limit (gate.Refused back seen) → used ≡ used_of seen → AsksForLimit cpus domain limit blank back (Some used) × (used ≤ cpus_of blank.gate domain * 1048576)
busy_answer cpus domain limit blank back seen used machine asked logged =
    let words = words_of asked.races in
    let h = asked.last in
    let before = blank.found ++ found_in domain words in
    let found : back.found ≡ before ++ found_in domain (seen ∷ []) = ap (λ (x : BlankView). x.found) h.blank in
    let last : word_of_blank back ≡ seen = ap last_word_found found ∙ last_of_push before domain seen in
    let caps : cap_by blank.gate domain limit ≡ cap cpus limit = ap (λ (n : ℕ). n * limit) machine in
    let over : cap_by blank.gate domain limit < used_of seen = h.over in (
      record {
        asked = subst (λ (n : ℕ). IsLimited blank domain limit (gate.Refused back n)) (sym last) asked;
        answer = (ap used_of last ∙ sym logged, omega (arith, logged, caps, over));
        own = ap (λ (x : BlankView). x.gate) h.blank;
      },
      used_within (cpus_of blank.gate domain) seen used h.word (sym logged),
    )

-- ---- replies

-- a reply is not two
set_not_busy : (seen : ℕ) → replies.Set ≡ replies.Busy seen → ⊥
set_not_busy seen e = cc

fits_by : (b : Bool) (sum : ℕ) → cond b (replies.Busy sum) replies.Set ≡ replies.Set → b ≡ false
fits_by true sum e = absurd cc
fits_by false sum e = refl

-- the domain's own test passes where the sum is not above CPUs times the new limit
pub fits : (d : Domain) (limit : ℕ) → limit_reply d limit None ≡ replies.Set → sum_of d.tasks ≤ cap d.cpus limit
fits d limit e = ltb-false (cap d.cpus limit) (sum_of d.tasks) (fits_by (ltb (cap d.cpus limit) (sum_of d.tasks)) (sum_of d.tasks) e)

-- then the word's answer is the reply
by_word : (d : Domain) (limit : ℕ) (word : Option ℕ) → limit_reply d limit None ≡ replies.Set → limit_reply d limit word ≡ set_reply word
by_word d limit word e = ap (λ (b : Bool). cond b (replies.Busy (sum_of d.tasks)) (set_reply word)) (fits_by (ltb (cap d.cpus limit) (sum_of d.tasks)) (sum_of d.tasks) e)

above_by : (b : Bool) (sum : ℕ) → cond b (replies.Busy sum) replies.Set ≢ replies.Set → b ≡ true
above_by true sum differ = refl
above_by false sum differ = absurd (differ refl)

-- and else the sum is
by_sum : (d : Domain) (limit : ℕ) → limit_reply d limit None ≢ replies.Set → (limit_reply d limit None ≡ replies.Busy (sum_of d.tasks)) × (cap d.cpus limit < sum_of d.tasks)
by_sum d limit differ =
    let test = above_by (ltb (cap d.cpus limit) (sum_of d.tasks)) (sum_of d.tasks) differ in
    (ap (λ (b : Bool). cond b (replies.Busy (sum_of d.tasks)) replies.Set) test, ltb-true (cap d.cpus limit) (sum_of d.tasks) test)

set_after : (d : Domain) (limit : ℕ) → limit_reply d limit None ≡ replies.Set → after_call d (Call.Limit limit None) ≡ with_limit limit d
set_after d limit e = ap (λ (r : Reply). cond (is_refusal r) d (with_limit limit d)) e

either : (d : Domain) (limit : ℕ) (word : Option ℕ) (b : Bool) → ((seen : ℕ) → cond b (replies.Busy (sum_of d.tasks)) (set_reply word) ≡ replies.Busy seen → ⊥) → cond b (replies.Busy (sum_of d.tasks)) (set_reply word) ≡ replies.Set
either d limit word true not = absurd (not (sum_of d.tasks) refl)
either d limit None false not = refl
either d limit (Some seen) false not = absurd (not seen refl)

-- a reply to a new limit that is not a refusal
pub not_refused : (d : Domain) (limit : ℕ) (word : Option ℕ) (reply : Reply) → reply ≡ limit_reply d limit word → ((seen : ℕ) → reply ≡ replies.Busy seen → ⊥) → limit_reply d limit word ≡ replies.Set
not_refused d limit word reply is not = either d limit word (ltb (cap d.cpus limit) (sum_of d.tasks)) (λ seen e. not seen (is ∙ e))

-- the number of a refusal
abbrev logged_number : Reply → ℕ
logged_number (replies.Busy seen) = seen
logged_number r = 0

same_number : (a b : ℕ) → replies.Busy a ≡ replies.Busy b → a ≡ b
same_number a b e = ap logged_number e

-- ---- the book

-- where the limit is set, the blank was logged so
pub is_set : (state : Domain) (id : GateId) (domain limit : ℕ) (blank back : BlankView) (word : Option ℕ) → IsLimitAsked state id domain limit blank back word → limit_reply state limit word ≡ replies.Set
    → (word ≡ None) × (limit_reply state limit None ≡ replies.Set) × AsksForLimit state.cpus domain limit blank back None
is_set state id domain limit blank back None (inl a) set = (refl, a.0, a.1)
is_set state id domain limit blank back (Some used) (inl a) set = absurd (set_not_busy used (sym set ∙ by_word state limit (Some used) a.0))
is_set state id domain limit blank back word (inr a) set = absurd (a.0 (ap (limit_reply state limit) (sym a.1) ∙ set))

-- a book whose limit was refused
pub limit_refused_grows : (cpus limit workers : ℕ) (left : Option ℕ) (l grown : LedgerView) (s : StockView) (state next : Domain) (wanted : ℕ) (word : Option ℕ) (seen : ℕ) (p : PassView Entry) → IsBook (book_of cpus limit workers left l s) state
    → grown ≡ record l { history = l.history ++ entry_by p (Call.Limit wanted word) (replies.Busy seen) ∷ [] } → replies.Busy seen ≡ limit_reply state wanted word → next ≡ after_call state (Call.Limit wanted word)
    → IsBook (book_of cpus limit workers left grown s) next
limit_refused_grows cpus limit workers left l grown s state next wanted word seen p is more lawful becomes =
    let e = entry_by p (Call.Limit wanted word) (replies.Busy seen) in
    let stays : next ≡ state = becomes ∙ refused_keeps state (Call.Limit wanted word) (ap is_refusal (sym lawful)) in
    let same : (run_of cpus limit (calls_of (l.history ++ e ∷ []))).limit ≡ (run_of cpus limit (calls_of l.history)).limit =
    ap (λ (d : Domain). d.limit) (sym (run_grows cpus limit l.history e state next is.run becomes) ∙ stays ∙ is.run) in
    let limited : HasItsLimit (book_of cpus limit workers left (record l { history = l.history ++ e ∷ [] }) s) = record {
      first = subst (λ (n : ℕ). IfNone left (n ≡ limit)) (sym same) is.limited.first;
      since = subst (λ (n : ℕ). IfSome left (λ word. cap_of word ≡ cap cpus n)) (sym same) is.limited.since;
    } in
    book_goes_on cpus limit workers left left l grown s s state next e is more refl (subst (λ (d : Domain). IsLimit d.limit) (sym stays) is.machine.1) limited (ap Some lawful) becomes (is.held ∙ ap (λ (d : Domain). keys d.tasks) (sym stays)) (omega arith)

-- one whose limit was set, and whose word carries the new cap
pub limit_set_grows : (cpus limit workers : ℕ) (left : Option ℕ) (l grown : LedgerView) (s : StockView) (state next : Domain) (wanted word : ℕ) (p : PassView Entry) → IsBook (book_of cpus limit workers left l s) state → IsLimit wanted → cap_of word ≡ cap cpus wanted
    → grown ≡ record l { history = l.history ++ entry_by p (Call.Limit wanted None) replies.Set ∷ [] } → limit_reply state wanted None ≡ replies.Set → next ≡ with_limit wanted state
    → IsBook (book_of cpus limit workers (Some word) grown s) next
limit_set_grows cpus limit workers left l grown s state next wanted word p is a_limit carries more lawful becomes =
    let e = entry_by p (Call.Limit wanted None) replies.Set in
    let after : next ≡ after_call state (Call.Limit wanted None) = becomes ∙ sym (set_after state wanted lawful) in
    let now : (run_of cpus limit (calls_of (l.history ++ e ∷ []))).limit ≡ wanted =
    ap (λ (d : Domain). d.limit) (sym (run_grows cpus limit l.history e state next is.run after) ∙ becomes) in
    let limited : HasItsLimit (book_of cpus limit workers (Some word) (record l { history = l.history ++ e ∷ [] }) s) = record {
      first = tt;
      since = carries ∙ ap (cap cpus) (sym now);
    } in
    book_goes_on cpus limit workers left (Some word) l grown s s state next e is more refl (subst (λ (d : Domain). IsLimit d.limit) (sym becomes) a_limit) limited (ap Some (sym lawful)) after (is.held ∙ ap (λ (d : Domain). keys d.tasks) (sym becomes)) (omega arith)

-- the call has a spelling, since 64 CPUs have 2^26
pub limit_spelled : (cpus limit workers : ℕ) (left : Option ℕ) (l : LedgerView) (s : StockView) (state : Domain) (wanted : ℕ) (blank back : BlankView) (word : Option ℕ) → IsBook (book_of cpus limit workers left l s) state → IsLimit wanted → IsLimitAsked state s.gate s.domain wanted blank back word → IsCall (Call.Limit wanted word)
limit_spelled cpus limit workers left l s state wanted blank back None is a_limit asked = (a_limit.0, a_limit.1, tt)
limit_spelled cpus limit workers left l s state wanted blank back (Some used) is a_limit (inl a) =
    let capped = is.capped in
    let few = is.few in
    let within = a.2 in
    (a_limit.0, a_limit.1, omega (arith, within, capped, few))
limit_spelled cpus limit workers left l s state wanted blank back (Some used) is a_limit (inr a) = absurd (let e = a.1 in cc)

-- ---- what is answered

pub limit_set_answer : (b : BookView) (cpus limit workers : ℕ) (left : Option ℕ) (l grown : LedgerView) (s : StockView) (state next : Domain) (wanted : ℕ) (blank back : BlankView) (p q : PassView Entry) → book_of cpus limit workers left l s ≡ b → IsBook (book_of cpus limit workers left l s) state → IsLimit wanted → length l.history < l.room
    → grown ≡ record l { history = l.history ++ entry_by p (Call.Limit wanted None) replies.Set ∷ [] } → q ≡ with_entry p (Call.Limit wanted None) replies.Set → limit_reply state wanted None ≡ replies.Set → AsksForLimit state.cpus s.domain wanted blank back None → next ≡ with_limit wanted state
    → IsLimitSet b (book_of cpus limit workers (Some (word_of_blank back)) grown s) p q wanted blank back
limit_set_answer b cpus limit workers left l grown s state next wanted blank back p q view is a_limit room more made lawful asked becomes =
    let old = book_of cpus limit workers left l s in
    let new = book_of cpus limit workers (Some (word_of_blank back)) grown s in
    let mine : AsksForLimit cpus s.domain wanted blank back None = subst (λ (n : ℕ). AsksForLimit n s.domain wanted blank back None) is.machine.0 asked in
    let after = limit_set_grows cpus limit workers left l grown s state next wanted (word_of_blank back) p is a_limit mine.answer.0 more lawful becomes in
    let sum : sum_of state.tasks ≤ cap cpus wanted = subst (λ (n : ℕ). sum_of state.tasks ≤ cap n wanted) is.machine.0 (fits state wanted lawful) in
    let whole : IsLimitSet old new p q wanted blank back = record {
      free = room;
      fits = subst (λ (d : Domain). sum_of d.tasks ≤ cap cpus wanted) is.run sum;
      lawful = sym lawful ∙ ap (λ (d : Domain). limit_reply d wanted None) is.run;
      asked = mine;
      book = ap (λ (x : LedgerView). book_of cpus limit workers (Some (word_of_blank back)) x s) more;
      pass = made;
      state = sym after.run ∙ becomes ∙ ap (with_limit wanted) is.run;
    } in
    subst (λ (x : BookView). IsLimitSet x new p q wanted blank back) view whole

-- what the book is after a refusal, beside what it was
refused_alone : (cpus limit workers : ℕ) (left : Option ℕ) (l grown : LedgerView) (s : StockView) (state next : Domain) (wanted : ℕ) (word : Option ℕ) (seen : ℕ) (p q : PassView Entry) → IsBook (book_of cpus limit workers left l s) state → length l.history < l.room
    → grown ≡ record l { history = l.history ++ entry_by p (Call.Limit wanted word) (replies.Busy seen) ∷ [] } → q ≡ with_entry p (Call.Limit wanted word) (replies.Busy seen) → replies.Busy seen ≡ limit_reply state wanted word → next ≡ after_call state (Call.Limit wanted word)
    → EntersAlone (book_of cpus limit workers left l s) (book_of cpus limit workers left grown s) p q (Call.Limit wanted word) (replies.Busy seen) × (state_of (book_of cpus limit workers left grown s) ≡ state_of (book_of cpus limit workers left l s))
refused_alone cpus limit workers left l grown s state next wanted word seen p q is room more made lawful becomes =
    let after = limit_refused_grows cpus limit workers left l grown s state next wanted word seen p is more lawful becomes in
    let stays : next ≡ state = becomes ∙ refused_keeps state (Call.Limit wanted word) (ap is_refusal (sym lawful)) in
    (enters_alone (book_of cpus limit workers left l s) cpus limit workers left l grown s state p q (Call.Limit wanted word) (replies.Busy seen) refl is room more made (sym lawful), sym after.run ∙ stays ∙ is.run)

by_the_word : (cpus limit workers : ℕ) (left : Option ℕ) (l grown : LedgerView) (s : StockView) (state next : Domain) (wanted : ℕ) (blank back : BlankView) (used : ℕ) (p q : PassView Entry) → IsBook (book_of cpus limit workers left l s) state → length l.history < l.room
    → grown ≡ record l { history = l.history ++ entry_by p (Call.Limit wanted (Some used)) (replies.Busy used) ∷ [] } → q ≡ with_entry p (Call.Limit wanted (Some used)) (replies.Busy used)
    → limit_reply state wanted None ≡ replies.Set → AsksForLimit state.cpus s.domain wanted blank back (Some used) → next ≡ after_call state (Call.Limit wanted (Some used))
    → IsBusyByWord (book_of cpus limit workers left l s) (book_of cpus limit workers left grown s) p q wanted blank back used
by_the_word cpus limit workers left l grown s state next wanted blank back used p q is room more made own asked becomes =
    let alone = refused_alone cpus limit workers left l grown s state next wanted (Some used) used p q is room more made (sym (by_word state wanted (Some used) own)) becomes in
    let sum : sum_of state.tasks ≤ cap cpus wanted = subst (λ (n : ℕ). sum_of state.tasks ≤ cap n wanted) is.machine.0 (fits state wanted own) in
    record {
      entered = alone.0;
      fits = subst (λ (d : Domain). sum_of d.tasks ≤ cap cpus wanted) is.run sum;
      asked = subst (λ (n : ℕ). AsksForLimit n s.domain wanted blank back (Some used)) is.machine.0 asked;
      state = alone.1;
    }

by_the_sum : (cpus limit workers : ℕ) (left : Option ℕ) (l grown : LedgerView) (s : StockView) (state next : Domain) (wanted : ℕ) (blank back : BlankView) (seen : ℕ) (p q : PassView Entry) → IsBook (book_of cpus limit workers left l s) state → length l.history < l.room
    → grown ≡ record l { history = l.history ++ entry_by p (Call.Limit wanted None) (replies.Busy seen) ∷ [] } → q ≡ with_entry p (Call.Limit wanted None) (replies.Busy seen)
    → limit_reply state wanted None ≢ replies.Set → back ≡ blank → replies.Busy seen ≡ limit_reply state wanted None → next ≡ after_call state (Call.Limit wanted None)
    → IsBusyBySum (book_of cpus limit workers left l s) (book_of cpus limit workers left grown s) p q wanted blank back seen
by_the_sum cpus limit workers left l grown s state next wanted blank back seen p q is room more made own same lawful becomes =
    let alone = refused_alone cpus limit workers left l grown s state next wanted None seen p q is room more made lawful becomes in
    let above = by_sum state wanted own in
    let number : seen ≡ sum_of state.tasks = same_number seen (sum_of state.tasks) (lawful ∙ above.0) in
    record {
      entered = alone.0;
      sum = number ∙ ap (λ (d : Domain). sum_of d.tasks) is.run;
      above = subst (λ (n : ℕ). cap n wanted < seen) is.machine.0 (subst (λ (n : ℕ). cap state.cpus wanted < n) (sym number) above.1);
      same = same;
      state = alone.1;
    }

pub limit_busy_answer : (b : BookView) (cpus limit workers : ℕ) (left : Option ℕ) (l grown : LedgerView) (s : StockView) (state next : Domain) (wanted : ℕ) (blank back : BlankView) (word : Option ℕ) (seen : ℕ) (p q : PassView Entry) → book_of cpus limit workers left l s ≡ b → IsBook (book_of cpus limit workers left l s) state → length l.history < l.room
    → grown ≡ record l { history = l.history ++ entry_by p (Call.Limit wanted word) (replies.Busy seen) ∷ [] } → q ≡ with_entry p (Call.Limit wanted word) (replies.Busy seen)
    → IsLimitAsked state s.gate s.domain wanted blank back word → replies.Busy seen ≡ limit_reply state wanted word → next ≡ after_call state (Call.Limit wanted word)
    → IsBusyBySum b (book_of cpus limit workers left grown s) p q wanted blank back seen ⊎ IsBusyByWord b (book_of cpus limit workers left grown s) p q wanted blank back seen
limit_busy_answer b cpus limit workers left l grown s state next wanted blank back None seen p q view is room more made (inl a) lawful becomes = absurd (set_not_busy seen (sym a.0 ∙ sym lawful))
limit_busy_answer b cpus limit workers left l grown s state next wanted blank back (Some used) seen p q view is room more made (inl a) lawful becomes =
    let new = book_of cpus limit workers left grown s in
    let same : seen ≡ used = same_number seen used (lawful ∙ by_word state wanted (Some used) a.0) in
    let more_used = more ∙ ap (λ (n : ℕ). record l { history = l.history ++ entry_by p (Call.Limit wanted (Some used)) (replies.Busy n) ∷ [] }) same in
    let made_used = made ∙ ap (λ (n : ℕ). with_entry p (Call.Limit wanted (Some used)) (replies.Busy n)) same in
    let whole = by_the_word cpus limit workers left l grown s state next wanted blank back used p q is room more_used made_used a.0 a.1 becomes in
    let logged : IsBusyByWord (book_of cpus limit workers left l s) new p q wanted blank back seen = subst (λ (n : ℕ). IsBusyByWord (book_of cpus limit workers left l s) new p q wanted blank back n) (sym same) whole in
    inr (subst (λ (x : BookView). IsBusyByWord x new p q wanted blank back seen) view logged)
limit_busy_answer b cpus limit workers left l grown s state next wanted blank back (Some used) seen p q view is room more made (inr a) lawful becomes = absurd (let e = a.1 in cc)
limit_busy_answer b cpus limit workers left l grown s state next wanted blank back None seen p q view is room more made (inr a) lawful becomes =
    let new = book_of cpus limit workers left grown s in
    inl (subst (λ (x : BookView). IsBusyBySum x new p q wanted blank back seen) view (by_the_sum cpus limit workers left l grown s state next wanted blank back seen p q is room more made a.0 a.2 lawful becomes))

-- the entry of a limit that was set, by what its word and its reply are
pub set_entry : (l grown : LedgerView) (p : PassView Entry) (wanted : ℕ) (word : Option ℕ) (reply : Reply) → grown ≡ record l { history = l.history ++ entry_by p (Call.Limit wanted word) reply ∷ [] } → word ≡ None → reply ≡ replies.Set → grown ≡ record l { history = l.history ++ entry_by p (Call.Limit wanted None) replies.Set ∷ [] }
set_entry l grown p wanted word reply more none set =
    more ∙ ap (λ (w : Option ℕ). record l { history = l.history ++ entry_by p (Call.Limit wanted w) reply ∷ [] }) none ∙ ap (λ (r : Reply). record l { history = l.history ++ entry_by p (Call.Limit wanted None) r ∷ [] }) set

pub set_pass : (p q : PassView Entry) (wanted : ℕ) (word : Option ℕ) (reply : Reply) → q ≡ with_entry p (Call.Limit wanted word) reply → word ≡ None → reply ≡ replies.Set → q ≡ with_entry p (Call.Limit wanted None) replies.Set
set_pass p q wanted word reply made none set =
    made ∙ ap (λ (w : Option ℕ). with_entry p (Call.Limit wanted w) reply) none ∙ ap (λ (r : Reply). with_entry p (Call.Limit wanted None) r) set

-- the state of a limit that was set
pub set_state : (state next : Domain) (wanted : ℕ) (word : Option ℕ) → next ≡ after_call state (Call.Limit wanted word) → limit_reply state wanted word ≡ replies.Set → next ≡ with_limit wanted state
set_state state next wanted word becomes set = becomes ∙ ap (λ (r : Reply). cond (is_refusal r) state (with_limit wanted state)) set

-- ---- the domain is one of the gate's

-- what a blank was logged of the domain of a book's own gate
pub asked_of_book : (state : Domain) (id own : GateId) (domain place wanted : ℕ) (blank back : BlankView) (word : Option ℕ) → id ≡ own → domain ≡ place → IsLimitAsked state id domain wanted blank back word → IsLimitAsked state own place wanted blank back word
asked_of_book state id own domain place wanted blank back word same there asked =
    subst (λ (d : ℕ). IsLimitAsked state own d wanted blank back word) there (subst (λ (i : GateId). IsLimitAsked state i domain wanted blank back word) same asked)

-- a domain that has CPUs is one of them
pub inside : (cpus : List ℕ) (d n : ℕ) → 0 < n → slice_index cpus d ≡ n → d < length cpus
inside cpus d n some is = elim (cases_lt d (length cpus)) [
  | inl less ↦ less
  | inr past ↦ absurd (let none = get_or_past cpus d 0 past in omega (arith, some, is, none))
]
