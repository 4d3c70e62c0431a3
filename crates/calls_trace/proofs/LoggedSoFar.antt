-- What a domain logged in a run under way: what has a line of it, and what of it is still to be
-- logged.
use Rattle.std.proofs.Common.{◌≡◌, ◌≢◌, ℕ, zero, suc, ◌+◌, ◌<◌, ◌≤◌, Bool, true, false, cond, eqb, ltb, ◌&&◌, ◌||◌, List, [], ◌∷◌, ◌++◌, map, take, drop, filter, get_or, refl, sym, ap, subst, ◌∙◌, append_assoc, append-nil, inl, inr, arith}
use Rattle.std.specs.Prelude.{All, AllPairs, IsTrue, ◌⊎◌}
use Rattle.std.proofs.lemmas.Bool.{cases_lt}
use Rattle.std.proofs.lemmas.Bool.Decides.{nat_tests}
use Rattle.std.proofs.lemmas.List.{take-append-drop}
use Rattle.std.proofs.lemmas.List.Elements.{All-nil, All-head, All-tail, All-append, All-filter, All-weaker, filter-append, filter_passes}
use Rattle.std.proofs.lemmas.List.Kept.{AllPairs-filter}
use Rattle.domain_run.specs.declared.happened.What.{What}
use Rattle.domain_run.specs.declared.happened.What.TheVariants.{JobEnds, NextReleased, Spent, Cut, Replenished, Released, WokenSpent}
use Rattle.domain_run.specs.declared.happened.Happened.{Happened}
use Rattle.domain_run.specs.declared.task.Task.{Task}
use Rattle.domain_run.specs.declared.call.Call.{Call}
use Rattle.domain_run.specs.declared.call.Call.TheVariants.{Admit, Regrade, Wake, Leave, Advance, Limit, Depart, Arrive}
use Rattle.domain_run.specs.Domain.{Domain, empty_domain}
use Rattle.domain_run.specs.Calls.{reply_to, is_refusal, after_call}
use Rattle.domain_run.specs.Happened.{kind_rank, happened_to, logged_by_beginning, logged_by_end, logged_by_tick, logged_by_ticks, logged_by_cut, logged_by_call, logged_by_calls}
use Rattle.domain_run.specs.LoggedRun.{LoggedRunView, IsLoggedUntil, IsLoggedFrom}
use Rattle.domain_run.specs.Passing.{without_front, without_switches}
use Rattle.domain_run.specs.Run.{after_calls, run_of}
use Rattle.domain_run.specs.Sound.{IsAdmitted}
use Rattle.domain_run.specs.Tick.{with_tick_begun, ticks}
use Rattle.domain_run.proofs.CallerLemmas.{after_call_after, ticks_then, ticks_time, call_time, pairs_rest, IsBeginning, IsEnd, beginning_is, ending_is, IsSoonerUnlessCut, IsLoggedIn, run_logs, run_rises}
use Rattle.calls_text.specs.Limits.{IsSection}
use Rattle.calls_text.specs.SectionView.{SectionView}
use Rattle.switch_text.specs.SlicedEvents.{is_logged_by}
use Rattle.switch_text.specs.EventLines.{is_sooner_unless_cut}
use Rattle.switch_text.specs.LoggedLine.{has_line}
use Rattle.calls_trace.specs.DomainEvents.{logged_of}
use Rattle.calls_trace.specs.private.Calls.{ticks_given}
use Rattle.calls_trace.specs.private.Kept.{IsBegunBy}
use Rattle.calls_trace.specs.private.LoggedSoFar.{with_lines, lines_logged_by, made_at_once, IsLoggedSoFar}
use Rattle.calls_trace.proofs.StreamedCalls.{entries_after}
use Rattle.calls_trace.proofs.Pieces.{restored}
use Rattle.calls_trace.proofs.ReadRuns.{after_push}
use Rattle.calls_trace.proofs.Ready.{same_ticks}
use Rattle.calls_trace.proofs.LoggedLines.{unless_cut}

abbrev shows : Happened → Bool
shows h = has_line h.what

-- ---- WHAT HAS A LINE

line_unless_cut : (w : What) → kind_rank w ≢ 3 → has_line w ≡ true
line_unless_cut JobEnds isnt = refl
line_unless_cut (NextReleased deadline) isnt = refl
line_unless_cut (Spent deadline) isnt = refl
line_unless_cut Cut isnt = absurd (isnt refl)
line_unless_cut (Replenished deadline) isnt = refl
line_unless_cut (Released deadline) isnt = refl
line_unless_cut (WokenSpent deadline) isnt = refl

all_lines : (hs : List Happened) → All (λ h. has_line h.what ≡ true) hs → with_lines hs ≡ hs
all_lines [] all = refl
all_lines (h ∷ hs) all =
    ap (λ (b : Bool). cond b (h ∷ with_lines hs) (with_lines hs)) (All-head (λ h. has_line h.what ≡ true) h hs all)
    ∙ ap (λ (gs : List Happened). h ∷ gs) (all_lines hs (All-tail (λ h. has_line h.what ≡ true) h hs all))

-- what has a line has it still
pub lines_twice : (hs : List Happened) → with_lines (with_lines hs) ≡ with_lines hs
lines_twice hs = all_lines (with_lines hs) (filter_passes shows hs)

-- ticks tell no cut
abbrev Shows : Happened → Type 0
Shows h = has_line h.what ≡ true

tick_shows : (d : Domain) → All Shows (logged_by_tick d)
tick_shows d =
    let b = with_tick_begun d in
    All-append Shows (logged_by_beginning d) (logged_by_end b)
    (All-weaker (IsBeginning d.time) Shows (λ h is. line_unless_cut h.what (λ e. absurd (omega (arith, e, is.1)))) (logged_by_beginning d) (beginning_is d))
    (All-weaker (IsEnd (d.time + 1)) Shows (λ h is. line_unless_cut h.what (λ e. absurd (omega (arith, e, is.1)))) (logged_by_end b) (ending_is b))

ticks_show : (n : ℕ) (d : Domain) → All Shows (logged_by_ticks n d)
ticks_show zero d = All-nil Shows
ticks_show (suc n) d = All-append Shows (logged_by_ticks n d) (logged_by_tick (ticks n d)) (ticks_show n d) (tick_shows (ticks n d))

pub ticks_lines : (n : ℕ) (d : Domain) → with_lines (logged_by_ticks n d) ≡ logged_by_ticks n d
ticks_lines n d = all_lines (logged_by_ticks n d) (ticks_show n d)

cuts_silent : (time : ℕ) (ts : List Task) → with_lines (map (λ t. happened_to time t Cut) ts) ≡ []
cuts_silent time [] = refl
cuts_silent time (t ∷ ts) = cuts_silent time ts

cut_silent : (d : Domain) (number : ℕ) → with_lines (logged_by_cut d number) ≡ []
cut_silent d number = cuts_silent d.time (filter (λ t. eqb t.number number) d.tasks)

either_silent : (b : Bool) (hs : List Happened) → with_lines hs ≡ [] → with_lines (cond b [] hs) ≡ []
either_silent true hs none = refl
either_silent false hs none = none

-- a call that makes no tick logs nothing that has a line
pub call_silent : (d : Domain) (c : Call) → ticks_given c ≡ 0 → with_lines (logged_by_call d c) ≡ []
call_silent d (Admit number name params delay script) none = either_silent (is_refusal (reply_to d (Admit number name params delay script))) [] refl
call_silent d (Regrade number params word) none = either_silent (is_refusal (reply_to d (Regrade number params word))) [] refl
call_silent d (Wake number) none = either_silent (is_refusal (reply_to d (Wake number))) [] refl
call_silent d (Leave number) none = either_silent (is_refusal (reply_to d (Leave number))) (logged_by_cut d number) (cut_silent d number)
call_silent d (Advance k) none = ap (λ (n : ℕ). with_lines (logged_by_ticks n d)) none
call_silent d (Limit limit word) none = either_silent (is_refusal (reply_to d (Limit limit word))) [] refl
call_silent d (Depart number) none = either_silent (is_refusal (reply_to d (Depart number))) (logged_by_cut d number) (cut_silent d number)
call_silent d (Arrive number name params script) none = either_silent (is_refusal (reply_to d (Arrive number name params script))) [] refl

-- ---- call by call

pub lines_cons : (d : Domain) (c : Call) (cs : List Call) → lines_logged_by d (c ∷ cs) ≡ with_lines (logged_by_call d c) ++ lines_logged_by (after_call d c) cs
lines_cons d c cs = filter-append shows (logged_by_call d c) (logged_by_calls (after_call d c) cs)

pub lines_append : (d : Domain) (xs ys : List Call) → lines_logged_by d (xs ++ ys) ≡ lines_logged_by d xs ++ lines_logged_by (after_calls d xs) ys
lines_append d [] ys = refl
lines_append d (c ∷ xs) ys =
    let e = after_call d c in
    lines_cons d c (xs ++ ys)
    ∙ ap (λ (hs : List Happened). with_lines (logged_by_call d c) ++ hs) (lines_append e xs ys)
    ∙ sym (append_assoc (with_lines (logged_by_call d c)) (lines_logged_by e xs) (lines_logged_by (after_calls e xs) ys))
    ∙ ap (λ (hs : List Happened). hs ++ lines_logged_by (after_calls e xs) ys) (sym (lines_cons d c xs))

pub calls_silent : (d : Domain) (cs : List Call) → All (λ c. ticks_given c ≡ 0) cs → lines_logged_by d cs ≡ []
calls_silent d [] still = refl
calls_silent d (c ∷ cs) still =
    lines_cons d c cs
    ∙ ap (λ (hs : List Happened). hs ++ lines_logged_by (after_call d c) cs) (call_silent d c (All-head (λ c. ticks_given c ≡ 0) c cs still))
    ∙ calls_silent (after_call d c) cs (All-tail (λ c. ticks_given c ≡ 0) c cs still)

-- ---- switches change nothing of it

call_bare : (d : Domain) (c : Call) → without_switches (after_call d c) ≡ without_switches (after_call (without_switches d) c)
call_bare d c =
    ap (λ (e : Domain). without_switches (after_call e c)) (sym (restored d)) ∙ ap without_switches (after_call_after d.switches (without_switches d) c)

logged_bare : (d : Domain) (c : Call) → logged_by_call (without_switches d) c ≡ logged_by_call d c
logged_bare d c = sym (entries_after d.switches (without_switches d) c) ∙ ap (λ (e : Domain). logged_by_call e c) (restored d)

same_after : (d e : Domain) (c : Call) → without_switches d ≡ without_switches e → without_switches (after_call d c) ≡ without_switches (after_call e c)
same_after d e c same = call_bare d c ∙ ap (λ (x : Domain). without_switches (after_call x c)) same ∙ sym (call_bare e c)

same_call : (d e : Domain) (c : Call) → without_switches d ≡ without_switches e → logged_by_call d c ≡ logged_by_call e c
same_call d e c same = sym (logged_bare d c) ∙ ap (λ (x : Domain). logged_by_call x c) same ∙ logged_bare e c

pub same_lines : (d e : Domain) (cs : List Call) → without_switches d ≡ without_switches e → lines_logged_by d cs ≡ lines_logged_by e cs
same_lines d e [] same = refl
same_lines d e (c ∷ cs) same =
    lines_cons d c cs
    ∙ ap (λ (hs : List Happened). with_lines hs ++ lines_logged_by (after_call d c) cs) (same_call d e c same)
    ∙ ap (λ (hs : List Happened). with_lines (logged_by_call e c) ++ hs) (same_lines (after_call d c) (after_call e c) cs (same_after d e c same))
    ∙ sym (lines_cons e c cs)

-- ---- a piece of an advance

-- ticks, and then more
logged_then : (m k : ℕ) (d : Domain) → logged_by_ticks m d ++ logged_by_ticks k (ticks m d) ≡ logged_by_ticks (m + k) d
logged_then m zero d = append-nil (logged_by_ticks m d) ∙ (let same : m ≡ m + 0 = omega arith in ap (λ n. logged_by_ticks n d) same)
logged_then m (suc k) d =
    let next : suc (m + k) ≡ m + suc k = omega arith in
    sym (append_assoc (logged_by_ticks m d) (logged_by_ticks k (ticks m d)) (logged_by_tick (ticks k (ticks m d))))
    ∙ ap (λ (hs : List Happened). hs ++ logged_by_tick (ticks k (ticks m d))) (logged_then m k d)
    ∙ ap (λ (e : Domain). logged_by_ticks (m + k) d ++ logged_by_tick e) (ticks_then m k d)
    ∙ ap (λ n. logged_by_ticks n d) next

advanced : (made left : ℕ) (d : Domain) (cs : List Call) → logged_by_calls d (Advance (made + left) ∷ cs) ≡ logged_by_ticks made d ++ logged_by_calls (ticks made d) (Advance left ∷ cs)
advanced made left d cs =
    let e = ticks made d in
    ap (λ (hs : List Happened). hs ++ logged_by_calls (ticks (made + left) d) cs) (sym (logged_then made left d))
    ∙ ap (λ (x : Domain). (logged_by_ticks made d ++ logged_by_ticks left e) ++ logged_by_calls x cs) (sym (ticks_then made left d))
    ∙ append_assoc (logged_by_ticks made d) (logged_by_ticks left e) (logged_by_calls (ticks left e) cs)

pub lines_advanced : (d e : Domain) (made left all : ℕ) (cs : List Call) (was now : List Happened) → e ≡ ticks made d → made + left ≡ all → now ≡ was ++ logged_by_ticks made d → now ++ lines_logged_by e (Advance left ∷ cs) ≡ was ++ lines_logged_by d (Advance all ∷ cs)
lines_advanced d e made left all cs was now is sum logged =
    let rest = lines_logged_by (ticks made d) (Advance left ∷ cs) in
    let whole : lines_logged_by d (Advance (made + left) ∷ cs) ≡ logged_by_ticks made d ++ rest =
    ap with_lines (advanced made left d cs) ∙ filter-append shows (logged_by_ticks made d) (logged_by_calls (ticks made d) (Advance left ∷ cs)) ∙ ap (λ (hs : List Happened). hs ++ rest) (ticks_lines made d) in
    ap (λ (hs : List Happened). hs ++ lines_logged_by e (Advance left ∷ cs)) logged
    ∙ ap (λ (x : Domain). (was ++ logged_by_ticks made d) ++ lines_logged_by x (Advance left ∷ cs)) is
    ∙ append_assoc was (logged_by_ticks made d) rest
    ∙ ap (λ (hs : List Happened). was ++ hs) (sym whole ∙ ap (λ (n : ℕ). lines_logged_by d (Advance n ∷ cs)) sum)

-- ---- the next call

begun_still : (d e : Domain) (c : Call) (left : ℕ) (cs : List Call) → ticks_given c ≡ 0 → e ≡ after_call d c → left ≡ 0 → lines_logged_by e (Advance left ∷ cs) ≡ lines_logged_by d (c ∷ cs)
begun_still d e c left cs none made all =
    ap (λ (n : ℕ). lines_logged_by e (Advance n ∷ cs)) all
    ∙ ap (λ (x : Domain). lines_logged_by x cs) made
    ∙ ap (λ (hs : List Happened). hs ++ lines_logged_by (after_call d c) cs) (sym (call_silent d c none))
    ∙ sym (lines_cons d c cs)

pub lines_begun : (d e : Domain) (c : Call) (left : ℕ) (cs : List Call) → e ≡ after_calls d (made_at_once c) → left ≡ ticks_given c → lines_logged_by e (Advance left ∷ cs) ≡ lines_logged_by d (c ∷ cs)
lines_begun d e (Admit number name params delay script) left cs made all = begun_still d e (Admit number name params delay script) left cs refl made all
lines_begun d e (Regrade number params word) left cs made all = begun_still d e (Regrade number params word) left cs refl made all
lines_begun d e (Wake number) left cs made all = begun_still d e (Wake number) left cs refl made all
lines_begun d e (Leave number) left cs made all = begun_still d e (Leave number) left cs refl made all
lines_begun d e (Advance n) left cs made all = ap (λ (k : ℕ). lines_logged_by e (Advance k ∷ cs)) all ∙ ap (λ (x : Domain). lines_logged_by x (Advance n ∷ cs)) made
lines_begun d e (Limit limit word) left cs made all = begun_still d e (Limit limit word) left cs refl made all
lines_begun d e (Depart number) left cs made all = begun_still d e (Depart number) left cs refl made all
lines_begun d e (Arrive number name params script) left cs made all = begun_still d e (Arrive number name params script) left cs refl made all

left_still : (d e : Domain) (c : Call) (left : ℕ) → e ≡ after_call d c → left ≡ 0 → ticks left e ≡ after_call d c
left_still d e c left made all = ap (λ (n : ℕ). ticks n e) all ∙ made

-- once the ticks of a call are made that are left of it
pub begun_left : (d e : Domain) (c : Call) (left : ℕ) → e ≡ after_calls d (made_at_once c) → left ≡ ticks_given c → ticks left e ≡ after_call d c
begun_left d e (Admit number name params delay script) left made all = left_still d e (Admit number name params delay script) left made all
begun_left d e (Regrade number params word) left made all = left_still d e (Regrade number params word) left made all
begun_left d e (Wake number) left made all = left_still d e (Wake number) left made all
begun_left d e (Leave number) left made all = left_still d e (Leave number) left made all
begun_left d e (Advance n) left made all = ap (λ (k : ℕ). ticks k e) all ∙ ap (ticks n) made
begun_left d e (Limit limit word) left made all = left_still d e (Limit limit word) left made all
begun_left d e (Depart number) left made all = left_still d e (Depart number) left made all
begun_left d e (Arrive number name params script) left made all = left_still d e (Arrive number name params script) left made all

-- it takes no time yet
pub begun_time : (d e : Domain) (c : Call) (left : ℕ) → e ≡ after_calls d (made_at_once c) → left ≡ ticks_given c → e.time ≡ d.time
begun_time d e c left made all =
    let last = call_time d c in
    let then : (ticks left e).time ≡ (after_call d c).time = ap (λ (x : Domain). x.time) (begun_left d e c left made all) in
    omega (arith, last, then, ticks_time left e, same_ticks c, all)

-- nothing is left
pub no_lines_left : (d : Domain) (left : ℕ) (cs : List Call) → left ≡ 0 → cs ≡ [] → lines_logged_by d (Advance left ∷ cs) ≡ []
no_lines_left d left cs none last = ap (λ (n : ℕ). lines_logged_by d (Advance n ∷ cs)) none ∙ ap (λ (xs : List Call). lines_logged_by d xs) last

-- ---- Logged BY A TIME, and from then on

from_earlier : (t u : ℕ) (h : Happened) → t ≤ u → IsLoggedFrom u h → IsLoggedFrom t h
from_earlier t u h le is = record {
  shown = is.shown;
  later = elim is.later [ inl less ↦ by_time (omega (arith, less, le)) | inr at ↦ by_beginning at.0 at.1 ];
}
  where
    by_time : t < h.time → (t < h.time) ⊎ ((h.time ≡ t) × (3 < kind_rank h.what))
    by_time less = inl less

    by_beginning : h.time ≡ u → 3 < kind_rank h.what → (t < h.time) ⊎ ((h.time ≡ t) × (3 < kind_rank h.what))
    by_beginning at high = elim (cases_lt t u) [ inl less ↦ inl (omega (arith, at, less)) | inr more ↦ inr (omega (arith, at, le, more), high) ]

beginning_from : (low t : ℕ) (h : Happened) → low ≤ t → IsBeginning t h → IsLoggedFrom low h
beginning_from low t h le is = record {
  shown = λ e. absurd (omega (arith, e, is.1));
  later = elim (cases_lt low t) [ inl less ↦ inl (omega (arith, is.0, less)) | inr more ↦ inr (omega (arith, is.0, le, more), is.1) ];
}

end_from : (low t : ℕ) (h : Happened) → low < t → IsEnd t h → IsLoggedFrom low h
end_from low t h less is = record { shown = λ e. absurd (omega (arith, e, is.1)); later = inl (omega (arith, is.0, less)) }

tick_from : (low : ℕ) (d : Domain) → low ≤ d.time → All (IsLoggedFrom low) (logged_by_tick d)
tick_from low d le =
    let b = with_tick_begun d in
    All-append (IsLoggedFrom low) (logged_by_beginning d) (logged_by_end b)
    (All-weaker (IsBeginning d.time) (IsLoggedFrom low) (λ h is. beginning_from low d.time h le is) (logged_by_beginning d) (beginning_is d))
    (All-weaker (IsEnd (d.time + 1)) (IsLoggedFrom low) (λ h is. end_from low (d.time + 1) h (omega (arith, le)) is) (logged_by_end b) (ending_is b))

logged_from : (n : ℕ) (d : Domain) → All (IsLoggedFrom d.time) (logged_by_ticks n d)
logged_from zero d = All-nil (IsLoggedFrom d.time)
logged_from (suc n) d = All-append (IsLoggedFrom d.time) (logged_by_ticks n d) (logged_by_tick (ticks n d)) (logged_from n d) (tick_from d.time (ticks n d) (omega (arith, ticks_time n d)))

from_none : (d : Domain) (c : Call) → ticks_given c ≡ 0 → All (IsLoggedFrom d.time) (with_lines (logged_by_call d c))
from_none d c none = subst (All (IsLoggedFrom d.time)) (sym (call_silent d c none)) (All-nil (IsLoggedFrom d.time))

call_from : (d : Domain) (c : Call) → All (IsLoggedFrom d.time) (with_lines (logged_by_call d c))
call_from d (Admit number name params delay script) = from_none d (Admit number name params delay script) refl
call_from d (Regrade number params word) = from_none d (Regrade number params word) refl
call_from d (Wake number) = from_none d (Wake number) refl
call_from d (Leave number) = from_none d (Leave number) refl
call_from d (Advance n) = All-filter shows (IsLoggedFrom d.time) (logged_by_ticks n d) (logged_from n d)
call_from d (Limit limit word) = from_none d (Limit limit word) refl
call_from d (Depart number) = from_none d (Depart number) refl
call_from d (Arrive number name params script) = from_none d (Arrive number name params script) refl

pub lines_from : (d : Domain) (cs : List Call) → All (IsLoggedFrom d.time) (lines_logged_by d cs)
lines_from d [] = All-nil (IsLoggedFrom d.time)
lines_from d (c ∷ cs) =
    let e = after_call d c in
    let later : d.time ≤ e.time = omega (arith, call_time d c) in
    subst (All (IsLoggedFrom d.time)) (sym (lines_cons d c cs))
    (All-append (IsLoggedFrom d.time) (with_lines (logged_by_call d c)) (lines_logged_by e cs) (call_from d c)
    (All-weaker (IsLoggedFrom e.time) (IsLoggedFrom d.time) (λ h is. from_earlier d.time e.time h later is) (lines_logged_by e cs) (lines_from e cs)))

earlier_logged : (a time rank : ℕ) → a < time → (ltb a time || (eqb a time && ltb rank 4)) ≡ true
earlier_logged a time rank less = grind (arith, nat_tests)

end_logged : (a time rank : ℕ) → a ≡ time → rank < 3 → (ltb a time || (eqb a time && ltb rank 4)) ≡ true
end_logged a time rank at low = grind (arith, nat_tests)

later_unlogged : (a time rank : ℕ) → time < a → (ltb a time || (eqb a time && ltb rank 4)) ≡ false
later_unlogged a time rank less = grind (arith, nat_tests)

beginning_unlogged : (a time rank : ℕ) → a ≡ time → 3 < rank → (ltb a time || (eqb a time && ltb rank 4)) ≡ false
beginning_unlogged a time rank at high = grind (arith, nat_tests)

pub logged_until_is : (time : ℕ) (h : Happened) → IsLoggedUntil time h → IsTrue (is_logged_by time h)
logged_until_is time h is = elim is.past [ inl less ↦ earlier_logged h.time time (kind_rank h.what) less | inr at ↦ end_logged h.time time (kind_rank h.what) at.0 at.1 ]

pub logged_from_isnt : (time : ℕ) (h : Happened) → IsLoggedFrom time h → is_logged_by time h ≡ false
logged_from_isnt time h is = elim is.later [ inl less ↦ later_unlogged h.time time (kind_rank h.what) less | inr at ↦ beginning_unlogged h.time time (kind_rank h.what) at.0 at.1 ]

-- ---- A RUN UNDER WAY

-- one call more
so_far_call : (v w : LoggedRunView) (c : Call) → w.domain ≡ after_call v.domain c → w.logged ≡ v.logged ++ with_lines (logged_by_call v.domain c) → IsLoggedSoFar v → IsLoggedSoFar w
so_far_call v w c made logged s =
    let start = empty_domain s.cpus s.limit in
    let r = run_of s.cpus s.limit s.made in
    let one : lines_logged_by r (c ∷ []) ≡ with_lines (logged_by_call v.domain c) =
    ap with_lines (append-nil (logged_by_call r c)) ∙ ap with_lines (same_call r v.domain c (sym s.domain)) in
    record {
      cpus = s.cpus;
      limit = s.limit;
      some = s.some;
      made = s.made ++ c ∷ [];
      gone = s.gone;
      domain = ap without_switches made ∙ same_after v.domain r c s.domain ∙ ap without_switches (sym (after_push start s.made c));
      logged = lines_append start s.made (c ∷ [])
          ∙ ap (λ (hs : List Happened). hs ++ lines_logged_by r (c ∷ [])) s.logged
          ∙ append_assoc s.gone v.logged (lines_logged_by r (c ∷ []))
          ∙ ap (λ (hs : List Happened). s.gone ++ (v.logged ++ hs)) one
          ∙ ap (λ (hs : List Happened). s.gone ++ hs) (sym logged);
    }

pub so_far_ticks : (v w : LoggedRunView) (k : ℕ) → w.domain ≡ ticks k v.domain → w.logged ≡ v.logged ++ logged_by_ticks k v.domain → IsLoggedSoFar v → IsLoggedSoFar w
so_far_ticks v w k made logged s = so_far_call v w (Advance k) made (logged ∙ ap (λ (hs : List Happened). v.logged ++ hs) (sym (ticks_lines k v.domain))) s

so_far_still : (v w : LoggedRunView) (c : Call) → ticks_given c ≡ 0 → w.domain ≡ after_call v.domain c → w.logged ≡ v.logged → IsLoggedSoFar v → IsLoggedSoFar w
so_far_still v w c none made logged s =
    so_far_call v w c made (logged ∙ sym (append-nil v.logged) ∙ ap (λ (hs : List Happened). v.logged ++ hs) (sym (call_silent v.domain c none))) s

so_far_same : (v w : LoggedRunView) → w.domain ≡ v.domain → w.logged ≡ v.logged → IsLoggedSoFar v → IsLoggedSoFar w
so_far_same v w same logged s = record {
  cpus = s.cpus;
  limit = s.limit;
  some = s.some;
  made = s.made;
  gone = s.gone;
  domain = ap without_switches same ∙ s.domain;
  logged = s.logged ∙ ap (λ (hs : List Happened). s.gone ++ hs) (sym logged);
}

pub so_far_begun : (v w : LoggedRunView) (c : Call) → w.domain ≡ after_calls v.domain (made_at_once c) → w.logged ≡ v.logged → IsLoggedSoFar v → IsLoggedSoFar w
so_far_begun v w (Admit number name params delay script) made logged s = so_far_still v w (Admit number name params delay script) refl made logged s
so_far_begun v w (Regrade number params word) made logged s = so_far_still v w (Regrade number params word) refl made logged s
so_far_begun v w (Wake number) made logged s = so_far_still v w (Wake number) refl made logged s
so_far_begun v w (Leave number) made logged s = so_far_still v w (Leave number) refl made logged s
so_far_begun v w (Advance n) made logged s = so_far_same v w made logged s
so_far_begun v w (Limit limit word) made logged s = so_far_still v w (Limit limit word) refl made logged s
so_far_begun v w (Depart number) made logged s = so_far_still v w (Depart number) refl made logged s
so_far_begun v w (Arrive number name params script) made logged s = so_far_still v w (Arrive number name params script) refl made logged s

pub so_far_front : (v w : LoggedRunView) (k m : ℕ) → w.domain ≡ without_front k v.domain → w.logged ≡ drop m v.logged → IsLoggedSoFar v → IsLoggedSoFar w
so_far_front v w k m left logged s = record {
  cpus = s.cpus;
  limit = s.limit;
  some = s.some;
  made = s.made;
  gone = s.gone ++ take m v.logged;
  domain = ap without_switches left ∙ s.domain;
  logged = s.logged
      ∙ ap (λ (hs : List Happened). s.gone ++ hs) (sym (take-append-drop m v.logged))
      ∙ sym (append_assoc s.gone (take m v.logged) (drop m v.logged))
      ∙ ap (λ (hs : List Happened). (s.gone ++ take m v.logged) ++ hs) (sym logged);
}

-- a section whose first calls are made
pub so_far_opened : (s : SectionView) (left : List Call) (d : Domain) (w : LoggedRunView) → IsSection s → IsBegunBy s left d → w.domain ≡ d → w.logged ≡ [] → IsLoggedSoFar w
so_far_opened s left d w is b same none = record {
  cpus = s.cpus;
  limit = s.limit;
  some = is.some_cpus;
  made = b.made;
  gone = [];
  domain = ap without_switches (same ∙ b.domain);
  logged = calls_silent (empty_domain s.cpus s.limit) b.made b.still ∙ sym none;
}

-- and what it logs is what the others log
pub lines_opened : (s : SectionView) (left : List Call) (d : Domain) → IsBegunBy s left d → lines_logged_by d left ≡ with_lines (logged_of s)
lines_opened s left d b =
    let start = empty_domain s.cpus s.limit in
    ap (λ (x : Domain). lines_logged_by x left) b.domain
    ∙ ap (λ (hs : List Happened). hs ++ lines_logged_by (after_calls start b.made) left) (sym (calls_silent start b.made b.still))
    ∙ sym (lines_append start b.made left)
    ∙ ap (lines_logged_by start) (sym b.calls)

-- ---- WHAT WAITS

all_after : {X : Type 0} (P : X → Type 0) (xs ys : List X) → All P (xs ++ ys) → All P ys
all_after P [] ys all = all
all_after P (x ∷ xs) ys all = all_after P xs ys (All-tail P x (xs ++ ys) all)

pairs_after : {X : Type 0} (R : X → X → Type 0) (xs ys : List X) → AllPairs R (xs ++ ys) → AllPairs R ys
pairs_after R [] ys all = all
pairs_after R (x ∷ xs) ys all = pairs_after R xs ys (pairs_rest R x (xs ++ ys) all)

-- each is of a task that was admitted, on a CPU of the domain, until now
pub waiting_in : (v : LoggedRunView) → IsLoggedSoFar v → All (IsLoggedIn v.domain) v.logged
waiting_in v s =
    let r = run_of s.cpus s.limit s.made in
    let hs = logged_by_calls (empty_domain s.cpus s.limit) s.made in
    let all : All (IsLoggedIn r) (with_lines hs) = All-filter shows (IsLoggedIn r) hs (run_logs s.cpus s.limit s.made s.some) in
    let time : v.domain.time ≡ r.time = ap (λ (x : Domain). x.time) s.domain in
    let cpus : v.domain.cpus ≡ r.cpus = ap (λ (x : Domain). x.cpus) s.domain in
    let used : r.used ≡ v.domain.used = ap (λ (x : Domain). x.used) (sym s.domain) in
    All-weaker (IsLoggedIn r) (IsLoggedIn v.domain) (λ h is. record { past = omega (arith, is.past, time); inside = omega (arith, is.inside, cpus); admitted = subst (λ (ns : List ℕ). IsAdmitted ns h.number) used is.admitted })
    v.logged (all_after (IsLoggedIn r) s.gone v.logged (subst (All (IsLoggedIn r)) s.logged all))

-- it rises
pub waiting_rises : (v : LoggedRunView) → IsLoggedSoFar v → AllPairs (λ a b. IsTrue (is_sooner_unless_cut a b)) v.logged
waiting_rises v s i j d less within =
    let hs = logged_by_calls (empty_domain s.cpus s.limit) s.made in
    let all : AllPairs IsSoonerUnlessCut (with_lines hs) = AllPairs-filter IsSoonerUnlessCut shows hs (run_rises s.cpus s.limit s.made s.some) in
    let here : AllPairs IsSoonerUnlessCut v.logged = pairs_after IsSoonerUnlessCut s.gone v.logged (subst (AllPairs IsSoonerUnlessCut) s.logged all) in
    unless_cut (get_or v.logged i d) (get_or v.logged j d) (here i j d less within)

-- and has a line
pub waiting_lines : (time : ℕ) (hs : List Happened) → All (IsLoggedUntil time) hs → All (λ h. IsTrue (has_line h.what)) hs
waiting_lines time hs all = All-weaker (IsLoggedUntil time) (λ h. IsTrue (has_line h.what)) (λ h is. line_unless_cut h.what is.shown) hs all
