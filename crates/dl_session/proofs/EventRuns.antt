-- Books whose advance is made while what happens in it is written.
use Rattle.std.proofs.Common.{◌≡◌, ◌≢◌, ℕ, zero, suc, ◌+◌, ◌-◌, ◌*◌, ◌^◌, ◌≤◌, arith, Bool, true, false, cond, ◌&&◌, ◌||◌, List, [], ◌∷◌, ◌++◌, length, map, drop, refl, sym, ap, subst, ◌∙◌, append-nil, length-append, inl, inr}
use Rattle.std.specs.Prelude.{All, AllPairs, IsTrue, filter, ◌⊎◌}
use Rattle.std.specs.List.{AllByRecursion, flat_map}
use Rattle.std.proofs.lemmas.List.{append_assoc, length-map}
use Rattle.std.proofs.lemmas.List.Elements.{All-append, All-nil, All-cons, All-head, All-tail, All-weaker}
use Rattle.std.proofs.lemmas.List.Kept.{AllPairs-cons}
use Rattle.domain_run.specs.declared.happened.What.{What}
use Rattle.domain_run.specs.declared.happened.What.TheVariants.{JobEnds, NextReleased, Spent, Cut, Replenished, Released, WokenSpent}
use Rattle.domain_run.specs.declared.happened.Happened.{Happened}
use Rattle.domain_run.specs.Domain.{Domain}
use Rattle.domain_run.specs.Happened.{kind_rank, logged_by_beginning, logged_by_end, logged_by_tick, logged_by_ticks}
use Rattle.domain_run.specs.Passing.{with_past, without_switches}
use Rattle.domain_run.specs.Sound.{IsDomain}
use Rattle.domain_run.specs.Switch.{Switch}
use Rattle.domain_run.specs.Tick.{with_tick_begun, ticks}
use Rattle.domain_run.proofs.CallerLemmas.{IsBeginning, IsEnd, beginning_is, ending_is, pairs_first, pairs_rest, ticks_then, logged_few, logged_by_ticks_after}
use Rattle.calls_text.specs.SectionView.{SectionView}
use Rattle.calls_text.specs.Limits.{IsSection}
use Rattle.switch_text.specs.Names.{Names, name_of_task}
use Rattle.switch_text.specs.SlicedEvents.{EventRun, whole_logged_run, logged_runs, events_in}
use Rattle.switch_text.specs.SlicedTrace.{wholes}
use Rattle.switch_text.specs.EventLines.{HasLoggedLine, is_sooner_unless_cut}
use Rattle.switch_text.specs.LoggedLine.{has_line}
use Rattle.switch_text.specs.Trace.{SwitchesView, trace_of}
use Rattle.switch_text.specs.Events.{LoggedView, logged_event, logged_events, switch_event, switch_events, events_of}
use Rattle.call_book.specs.Playing.{PlayingView, IsFurther, all_logged, logged_ahead, logged_if}
use Rattle.calls_trace.specs.Replay.{run_view, runs_from}
use Rattle.calls_trace.specs.DomainEvents.{logged_from}
use Rattle.calls_trace.proofs.CallerLemmas.{logged_lines, logged_rises, switches_few}
use Rattle.session.specs.Begun.{section_of}
use Rattle.dl_session.specs.declared.played.PlayedRun.{PlayedRun}
use Rattle.dl_session.specs.declared.streaming.Streaming.{Streaming}
use Rattle.dl_session.specs.declared.streaming.Streaming.TheVariants as streams
use Rattle.dl_session.specs.private.PlayedBooks.{played_slices, played_events, played_histories, logged_at, IsNamedBook, LogsAll}
use Rattle.dl_session.specs.private.Streaming.{streamed_text, runs_text}
use Rattle.dl_session.specs.private.Tellable.{IsTellable}

-- ---- a part of what can be written

all_front : {X : Type 0} (P : X → Type 0) (xs ys : List X) → All P (xs ++ ys) → All P xs
all_front P [] ys all = All-nil P
all_front P (x ∷ xs) ys all = All-cons P x xs (All-head P x (xs ++ ys) all) (all_front P xs ys (All-tail P x (xs ++ ys) all))

pairs_none : {X : Type 0} (R : X → X → Type 0) → AllPairs R []
pairs_none R i j d less within = absurd (omega (arith, within))

pairs_front : {X : Type 0} (R : X → X → Type 0) (xs ys : List X) → AllPairs R (xs ++ ys) → AllPairs R xs
pairs_front R [] ys pairs = pairs_none R
pairs_front R (x ∷ xs) ys pairs =
    AllPairs-cons R x xs (all_front (R x) xs ys (pairs_first R x (xs ++ ys) pairs)) (pairs_front R xs ys (pairs_rest R x (xs ++ ys) pairs))

log_none : (base : ℕ) (names : Names) → IsTellable base names []
log_none base names = record {
  lines = All-nil (HasLoggedLine names base);
  rising = pairs_none (λ a b. IsTrue (is_sooner_unless_cut a b));
  few = omega arith;
  shown = All-nil (λ h. IsTrue (has_line h.what));
}

log_tail : (base : ℕ) (names : Names) (h : Happened) (hs : List Happened) → IsTellable base names (h ∷ hs) → IsTellable base names hs
log_tail base names h hs is = record {
  lines = All-tail (HasLoggedLine names base) h hs is.lines;
  rising = pairs_rest (λ a b. IsTrue (is_sooner_unless_cut a b)) h hs is.rising;
  few = omega (arith, is.few);
  shown = All-tail (λ x. IsTrue (has_line x.what)) h hs is.shown;
}

log_rest : (base : ℕ) (names : Names) (gs hs : List Happened) → IsTellable base names (gs ++ hs) → IsTellable base names hs
log_rest base names [] hs is = is
log_rest base names (g ∷ gs) hs is = log_rest base names gs hs (log_tail base names g (gs ++ hs) is)

pub log_front : (base : ℕ) (names : Names) (gs hs : List Happened) → IsTellable base names (gs ++ hs) → IsTellable base names gs
log_front base names gs hs is = record {
  lines = all_front (HasLoggedLine names base) gs hs is.lines;
  rising = pairs_front (λ a b. IsTrue (is_sooner_unless_cut a b)) gs hs is.rising;
  few = omega (arith, is.few, length-append gs hs);
  shown = all_front (λ h. IsTrue (has_line h.what)) gs hs is.shown;
}

-- the first so many are forgotten
pub log_less : (base : ℕ) (names : Names) (n : ℕ) (gs hs : List Happened) → IsTellable base names (gs ++ hs) → IsTellable base names (drop n gs ++ hs)
log_less base names zero gs hs is = is
log_less base names (suc n) [] hs is = is
log_less base names (suc n) (g ∷ gs) hs is = log_less base names n gs hs (log_tail base names g (gs ++ hs) is)

-- ---- what ticks log

shows : (w : What) → kind_rank w ≢ 3 → IsTrue (has_line w)
shows JobEnds isnt = refl
shows (NextReleased deadline) isnt = refl
shows (Spent deadline) isnt = refl
shows Cut isnt = absurd (isnt refl)
shows (Replenished deadline) isnt = refl
shows (Released deadline) isnt = refl
shows (WokenSpent deadline) isnt = refl

tick_shown : (d : Domain) → All (λ h. IsTrue (has_line h.what)) (logged_by_tick d)
tick_shown d =
    let Shown : Happened → Type 0 = λ h. IsTrue (has_line h.what) in
    All-append Shown (logged_by_beginning d) (logged_by_end (with_tick_begun d))
    (All-weaker (IsBeginning d.time) Shown (λ h is. shows h.what (λ e. absurd (omega (arith, e, is.1)))) (logged_by_beginning d) (beginning_is d))
    (All-weaker (IsEnd (d.time + 1)) Shown (λ h is. shows h.what (λ e. absurd (omega (arith, e, is.1)))) (logged_by_end (with_tick_begun d)) (ending_is (with_tick_begun d)))

ticks_shown : (n : ℕ) (d : Domain) → All (λ h. IsTrue (has_line h.what)) (logged_by_ticks n d)
ticks_shown zero d = All-nil (λ h. IsTrue (has_line h.what))
ticks_shown (suc n) d = All-append (λ h. IsTrue (has_line h.what)) (logged_by_ticks n d) (logged_by_tick (ticks n d)) (ticks_shown n d) (tick_shown (ticks n d))

-- m ticks, and then k more
logged_then : (m k : ℕ) (d : Domain) → logged_by_ticks m d ++ logged_by_ticks k (ticks m d) ≡ logged_by_ticks (m + k) d
logged_then m zero d = append-nil (logged_by_ticks m d) ∙ (let same : m ≡ m + 0 = omega arith in ap (λ (n : ℕ). logged_by_ticks n d) same)
logged_then m (suc k) d =
    let next : suc (m + k) ≡ m + suc k = omega arith in
    sym (append_assoc (logged_by_ticks m d) (logged_by_ticks k (ticks m d)) (logged_by_tick (ticks k (ticks m d))))
    ∙ ap (λ (hs : List Happened). hs ++ logged_by_tick (ticks k (ticks m d))) (logged_then m k d)
    ∙ ap (λ (e : Domain). logged_by_ticks (m + k) d ++ logged_by_tick e) (ticks_then m k d)
    ∙ ap (λ (n : ℕ). logged_by_ticks n d) next

logged_bare : (n : ℕ) (d : Domain) → logged_by_ticks n d ≡ logged_by_ticks n (without_switches d)
logged_bare n d =
    let past : with_past d.switches (without_switches d) ≡ d = ap (λ (ss : List Switch). record d { switches = ss }) (append-nil d.switches) in
    ap (logged_by_ticks n) (sym past) ∙ logged_by_ticks_after n d.switches (without_switches d)

-- whichever switches are forgotten
pub logged_alike : (logs : Bool) (n : ℕ) (d e : Domain) → without_switches d ≡ without_switches e → logged_if logs n d ≡ logged_if logs n e
logged_alike true n d e alike = logged_bare n d ∙ ap (logged_by_ticks n) alike ∙ sym (logged_bare n e)
logged_alike false n d e alike = refl

-- ---- a book

-- what its history logs can be written
pub history_tellable : (p : PlayingView) (base : ℕ) (names : Names) → IsDomain p.at → p.logged ≡ [] → LogsAll p → IsSection (section_of p.book) → IsNamedBook p.book names → base + p.book.cpus ≤ 512 → IsTellable base names (all_logged p)
history_tellable p base names domain none has_logged section named inside = subst (λ (hs : List Happened). IsTellable base names (hs ++ logged_ahead p)) (sym none) (by p.logs)
  where
    by : (b : Bool) → IsTellable base names (logged_if b p.left p.at)
    by true = record {
      lines = subst (All (HasLoggedLine names base)) (sym has_logged.all) (logged_lines (section_of p.book) base names section named.all_named inside);
      rising = subst (AllPairs (λ a b. IsTrue (is_sooner_unless_cut a b))) (sym has_logged.all) (logged_rises (section_of p.book) section);
      few = omega (arith, logged_few p.left p.at domain.steady.listed, has_logged.few);
      shown = ticks_shown p.left p.at;
    }
    by false = log_none base names

-- and it is what it logs
pub history_logged : (p : PlayingView) (base : ℕ) (names : Names) (logged : LoggedView) → logged ≡ record { base = base; names = name_of_task names; happened = all_logged p }
    → p.logged ≡ [] → LogsAll p → IsNamedBook p.book names → logged ≡ logged_at p.logs base (section_of p.book)
history_logged p base names logged is none has_logged named =
    let all : all_logged p ≡ logged_if p.logs p.left p.at = ap (λ (hs : List Happened). hs ++ logged_ahead p) none in
    let same = all ∙ ap (λ (hs : List Happened). cond p.logs hs []) has_logged.all in
    is ∙ (λ i. record { base = base; names = named.given i; happened = same i })

-- some ticks were made, and what they logged is forgotten
pub further_tellable : (base : ℕ) (names : Names) (p q : PlayingView) → IsFurther p q → q.logged ≡ [] → IsTellable base names (all_logged p) → IsTellable base names (all_logged q)
further_tellable base names p q further none is =
    subst (λ (hs : List Happened). IsTellable base names (hs ++ logged_ahead q)) (sym none)
    (subst (λ (x : PlayingView). IsTellable base names (logged_ahead x)) (sym further.play) (by p.logs (log_rest base names p.logged (logged_ahead p) is)))
  where
    by : (b : Bool) → IsTellable base names (logged_if b p.left p.at) → IsTellable base names (logged_if b (p.left - further.made) (ticks further.made p.at))
    by true was =
        let sum : further.made + (p.left - further.made) ≡ p.left = omega (arith, further.most) in
        let parts = logged_then further.made (p.left - further.made) p.at ∙ ap (λ (n : ℕ). logged_by_ticks n p.at) sum in
        log_rest base names (logged_by_ticks further.made p.at) (logged_by_ticks (p.left - further.made) (ticks further.made p.at)) (subst (IsTellable base names) (sym parts) was)
    by false was = was

-- ---- what is logged by a time

neither : (a b c : Bool) → a ≡ false → (b ≡ false) ⊎ (c ≡ false) → (a || (b && c)) ≡ false
neither a b c isnt (inl e) = ap (λ (x : Bool). x || (b && c)) isnt ∙ ap (λ (x : Bool). x && c) e
neither a true c isnt (inr e) = ap (λ (x : Bool). x || (true && c)) isnt ∙ e
neither a false c isnt (inr e) = ap (λ (x : Bool). x || (false && c)) isnt

-- ---- all books

-- what is logged of each run
abbrev pub logged_parts : List PlayedRun → List LoggedView
logged_parts runs = map (λ (r : EventRun). r.logged) (logged_runs (map played_events runs))

push_logged : (runs : List PlayedRun) (r : PlayedRun) (vs : List LoggedView) → logged_parts (runs ++ r ∷ []) ++ vs ≡ logged_parts runs ++ (whole_logged_run (played_events r)).logged ∷ vs
push_logged [] r vs = refl
push_logged (x ∷ runs) r vs = ap (λ (ws : List LoggedView). (whole_logged_run (played_events x)).logged ∷ ws) (push_logged runs r vs)

-- one book more
pub logged_more : (base next : ℕ) (runs after : List PlayedRun) (r : PlayedRun) (rest left : List PlayingView) (p : PlayingView) (total : List LoggedView) → after ≡ runs ++ r ∷ [] → rest ≡ p ∷ left → next ≡ base + p.book.cpus
    → (whole_logged_run (played_events r)).logged ≡ logged_at true base (section_of p.book) → logged_parts runs ++ logged_from base (played_histories rest) ≡ total
    → logged_parts after ++ logged_from next (played_histories left) ≡ total
logged_more base next runs after r rest left p total after_is rest_is step same sum =
    ap (λ (n : ℕ). logged_parts after ++ logged_from n (played_histories left)) step
    ∙ ap (λ (rs : List PlayedRun). logged_parts rs ++ logged_from (base + p.book.cpus) (played_histories left)) after_is
    ∙ push_logged runs r (logged_from (base + p.book.cpus) (played_histories left))
    ∙ ap (λ (v : LoggedView). logged_parts runs ++ v ∷ logged_from (base + p.book.cpus) (played_histories left)) same
    ∙ ap (λ (ps : List PlayingView). logged_parts runs ++ logged_from base (played_histories ps)) (sym rest_is) ∙ sum

-- ---- their text

run_parts : (runs : List PlayedRun) → map (λ (r : EventRun). r.run) (logged_runs (map played_events runs)) ≡ wholes (map played_slices runs)
run_parts [] = refl
run_parts (r ∷ runs) = ap (λ (vs : List SwitchesView). (whole_logged_run (played_events r)).run ∷ vs) (run_parts runs)

pub text_streamed : (streaming : Streaming) (runs : List PlayedRun) (hs : List SectionView) → wholes (map played_slices runs) ≡ runs_from 0 hs → (streaming ≡ streams.Events → logged_parts runs ≡ logged_from 0 hs)
    → runs_text streaming runs ≡ streamed_text streaming hs
text_streamed streams.Trace runs hs whole logged = ap trace_of whole
text_streamed streams.Events runs hs whole logged =
    ap (λ (vs : List SwitchesView). events_of vs (logged_parts runs)) (run_parts runs ∙ whole) ∙ ap (events_of (runs_from 0 hs)) (logged refl)

-- ---- their events can be counted

fewer : (p : Happened → Bool) (hs : List Happened) → length (filter p hs) ≤ length hs
fewer p [] = omega arith
fewer p (h ∷ hs) = elim (p h) as (λ b. length (cond b (h ∷ filter p hs) (filter p hs)) ≤ suc (length hs)) [ true ↦ omega (arith, fewer p hs) | false ↦ omega (arith, fewer p hs) ]

one_logged_few : (r : PlayedRun) → length (logged_events (whole_logged_run (played_events r)).logged) ≤ 2 ^ 50
one_logged_few r =
    let logged = (whole_logged_run (played_events r)).logged in
    let shown = filter (λ h. has_line h.what) logged.happened in
    omega (arith, length-map shown (logged_event logged), fewer (λ h. has_line h.what) logged.happened, r.tellable.few)

all_logged_few : (runs : List PlayedRun) → length (flat_map logged_events (logged_parts runs)) ≤ length runs * 2 ^ 50
all_logged_few [] = omega arith
all_logged_few (r ∷ runs) =
    omega (arith, length-append (logged_events (whole_logged_run (played_events r)).logged) (flat_map logged_events (logged_parts runs)), one_logged_few r, all_logged_few runs)

all_switches_few : (base : ℕ) (hs : List SectionView) → AllByRecursion IsSection hs → length (flat_map switch_events (runs_from base hs)) ≤ length hs * 2 ^ 48
all_switches_few base [] are = omega arith
all_switches_few base (s ∷ hs) are =
    let r = run_view base s in
    omega (arith, length-append (switch_events r) (flat_map switch_events (runs_from (base + s.cpus) hs)), length-map r.switches (switch_event r), switches_few s are.0, all_switches_few (base + s.cpus) hs are.1)

pub events_few : (runs : List PlayedRun) (hs : List SectionView) → length runs ≤ 8 → length hs ≤ 8 → AllByRecursion IsSection hs → wholes (map played_slices runs) ≡ runs_from 0 hs → length (events_in (logged_runs (map played_events runs))) ≤ 2 ^ 54
events_few runs hs few many are whole =
    let rs = logged_runs (map played_events runs) in
    let switches = ap (λ (vs : List SwitchesView). length (flat_map switch_events vs)) (run_parts runs ∙ whole) in
    omega (arith, length-append (flat_map logged_events (logged_parts runs)) (flat_map switch_events (map (λ (r : EventRun). r.run) rs)), all_logged_few runs, switches, all_switches_few 0 hs are, few, many)
