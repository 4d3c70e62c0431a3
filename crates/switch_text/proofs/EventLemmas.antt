-- Laws of the events text that callers may cite: where nothing happens it is the trace, and its
-- switches are those of the trace, in the trace's order.
use Rattle.std.proofs.Common.{◌≡◌, ◌≢◌, ℕ, ◌<◌, inl, inr, Bool, true, false, cond, List, [], ◌∷◌, ◌++◌, map, refl, sym, ap, ◌∙◌, arith}
use Rattle.std.specs.Prelude.{filter, ◌==◌, ◌&&◌, ◌||◌, nat_lt}
use Rattle.std.specs.List.{AllByRecursion, flat_map}
use Rattle.std.proofs.lemmas.Bool.Decides.{nat_tests}
use Rattle.domain_run.specs.declared.happened.What.{What}
use Rattle.domain_run.specs.declared.happened.What.TheVariants.{JobEnds, NextReleased, Spent, Cut, Replenished, Released, WokenSpent}
use Rattle.domain_run.specs.declared.happened.Happened.{Happened}
use Rattle.domain_run.specs.Happened.{kind_rank}
use Rattle.domain_run.specs.LoggedRun.{IsLoggedUntil, IsLoggedFrom}
use Rattle.switch_text.specs.Trace.{SwitchesView, Entry, entries_of, is_earlier, placed_in, entries_in_order, header, text_of_entries, trace_of}
use Rattle.switch_text.specs.Events.{LoggedView, Event, logged_event, logged_events, switch_events, all_events, comes_before, with_event, in_sequence, lines_of_events, events_of}
use Rattle.switch_text.specs.SlicedEvents.{is_logged_by}
use Rattle.switch_text.specs.LoggedLine.{has_line}
use Rattle.switch_text.specs.private.LoggedMerging.{is_line_logged}
use Rattle.switch_text.specs.private.EventMerging.{of_entry}
use Rattle.switch_text.proofs.Order.{AllByRecursion-append}
use Rattle.switch_text.proofs.EventsUnderWay.{all_switches-are}

same_order : (e f : Entry) → comes_before (of_entry e) (of_entry f) ≡ is_earlier e f
same_order e f = grind (arith, nat_tests)

with_event-of_entry : (e : Entry) (es : List Entry) → with_event (of_entry e) (map of_entry es) ≡ map of_entry (placed_in e es)
with_event-of_entry e [] = refl
with_event-of_entry e (f ∷ fs) =
    let more = with_event-of_entry e fs in
    ap (λ (b : Bool). cond b (of_entry f ∷ with_event (of_entry e) (map of_entry fs)) (of_entry e ∷ of_entry f ∷ map of_entry fs)) (same_order f e)
    ∙ elim (is_earlier f e) as (λ b. cond b (of_entry f ∷ with_event (of_entry e) (map of_entry fs)) (of_entry e ∷ of_entry f ∷ map of_entry fs) ≡ map of_entry (cond b (f ∷ placed_in e fs) (e ∷ f ∷ fs))) [
      | true ↦ ap (λ (es : List Event). of_entry f ∷ es) more
      | false ↦ refl
    ]

-- the switches alone stand in the order of the trace
in_sequence-of_entry : (es : List Entry) → in_sequence (map of_entry es) ≡ map of_entry (entries_in_order es)
unfolding in_sequence entries_in_order
in_sequence-of_entry [] = refl
in_sequence-of_entry (e ∷ es) = ap (with_event (of_entry e)) (in_sequence-of_entry es) ∙ with_event-of_entry e (entries_in_order es)

lines_of_events-of_entry : (es : List Entry) → lines_of_events (map of_entry es) ≡ text_of_entries es
unfolding lines_of_events text_of_entries
lines_of_events-of_entry [] = refl
lines_of_events-of_entry (e ∷ es) = ap (λ (more : _). e.line ++ more) (lines_of_events-of_entry es)

-- where nothing happens the events are the trace
pub events_of-nothing : (runs : List SwitchesView) → events_of runs [] ≡ trace_of runs
unfolding events_of trace_of
events_of-nothing runs =
    ap (λ (es : List Event). header ++ lines_of_events (in_sequence es)) (sym (all_switches-are runs))
    ∙ ap (λ (es : List Event). header ++ lines_of_events es) (in_sequence-of_entry (flat_map entries_of runs))
    ∙ ap (λ (text : _). header ++ text) (lines_of_events-of_entry (entries_in_order (flat_map entries_of runs)))

abbrev pub is_switch : Event → Bool
is_switch e = e.rank == 7

filter-with_other : (e : Event) (es : List Event) → is_switch e ≡ false → filter is_switch (with_event e es) ≡ filter is_switch es
filter-with_other e [] other = rw other refl
filter-with_other e (f ∷ fs) other = by_order (comes_before f e) (filter-with_other e fs other)
  where
    by_order : (b : Bool) → filter is_switch (with_event e fs) ≡ filter is_switch fs → filter is_switch (cond b (f ∷ with_event e fs) (e ∷ f ∷ fs)) ≡ filter is_switch (f ∷ fs)
    by_order true more = ap (λ (es : List Event). cond (is_switch f) (f ∷ es) es) more
    by_order false more = rw other refl

filter-among : (logged es : List Event) → AllByRecursion (λ e. is_switch e ≡ false) logged → filter is_switch (in_sequence (logged ++ es)) ≡ filter is_switch (in_sequence es)
unfolding in_sequence
filter-among [] es none = refl
filter-among (t ∷ ts) es none = filter-with_other t (in_sequence (ts ++ es)) none.0 ∙ filter-among ts es none.1

not_seven : (what : What) → (kind_rank what == 7) ≡ false
not_seven JobEnds = refl
not_seven (NextReleased d) = refl
not_seven (Spent d) = refl
not_seven Cut = refl
not_seven (Replenished d) = refl
not_seven (Released d) = refl
not_seven (WokenSpent d) = refl

no_switch_in : (t : LoggedView) (hs : List Happened) → AllByRecursion (λ e. is_switch e ≡ false) (map (logged_event t) hs)
no_switch_in t [] = tt
no_switch_in t (h ∷ hs) = (not_seven h.what, no_switch_in t hs)

no_switch : (logged : List LoggedView) → AllByRecursion (λ e. is_switch e ≡ false) (flat_map logged_events logged)
no_switch [] = tt
no_switch (t ∷ ts) = AllByRecursion-append (λ e. is_switch e ≡ false) (logged_events t) (flat_map logged_events ts) (no_switch_in t (filter is_line_logged t.happened)) (no_switch ts)

filter-of_entry : (es : List Entry) → filter is_switch (map of_entry es) ≡ map of_entry es
filter-of_entry [] = refl
filter-of_entry (e ∷ es) = ap (λ (more : List Event). of_entry e ∷ more) (filter-of_entry es)

-- the switches among the events stand as they do where nothing happens, which is in the order of
-- the trace
pub filter-all_events : (runs : List SwitchesView) (logged : List LoggedView) → filter is_switch (in_sequence (all_events runs logged)) ≡ in_sequence (all_events runs [])
filter-all_events runs logged =
    let switches = flat_map entries_of runs in
    let alone : in_sequence (flat_map switch_events runs) ≡ map of_entry (entries_in_order switches) = ap in_sequence (sym (all_switches-are runs)) ∙ in_sequence-of_entry switches in
    filter-among (flat_map logged_events logged) (flat_map switch_events runs) (no_switch logged) ∙ ap (filter is_switch) alone ∙ filter-of_entry (entries_in_order switches) ∙ sym alone

-- ---- a cut has no line, so the text is that of what has one

abbrev pub shown : LoggedView → LoggedView
shown t = record { base = t.base; names = t.names; happened = filter is_line_logged t.happened }

twice_by_line : (h : Happened) (hs : List Happened) (b : Bool) → is_line_logged h ≡ b → filter is_line_logged (filter is_line_logged hs) ≡ filter is_line_logged hs
    → filter is_line_logged (cond b (h ∷ filter is_line_logged hs) (filter is_line_logged hs)) ≡ cond b (h ∷ filter is_line_logged hs) (filter is_line_logged hs)
twice_by_line h hs true is more = rw is (ap (λ (gs : List Happened). h ∷ gs) more)
twice_by_line h hs false is more = more

filter_twice : (hs : List Happened) → filter is_line_logged (filter is_line_logged hs) ≡ filter is_line_logged hs
filter_twice [] = refl
filter_twice (h ∷ hs) = twice_by_line h hs (is_line_logged h) refl (filter_twice hs)

logged_shown : (logged : List LoggedView) → flat_map logged_events (map shown logged) ≡ flat_map logged_events logged
logged_shown [] = refl
logged_shown (t ∷ ts) =
    ap (λ (hs : List Happened). map (logged_event t) hs ++ flat_map logged_events (map shown ts)) (filter_twice t.happened)
    ∙ ap (λ (es : List Event). logged_events t ++ es) (logged_shown ts)

pub events_shown : (runs : List SwitchesView) (logged : List LoggedView) → events_of runs (map shown logged) ≡ events_of runs logged
unfolding events_of
events_shown runs logged = ap (λ (es : List Event). header ++ lines_of_events (in_sequence (es ++ flat_map switch_events runs))) (logged_shown logged)

-- ---- what a `LoggedRun` of domain_run logs until its time is logged by that time, and what it
-- logs from then on is not

by_time : (t time rank : ℕ) → time < t → (nat_lt time t || (time == t && nat_lt rank 4)) ≡ true
by_time t time rank less = grind (arith, nat_tests)

by_end : (t time rank : ℕ) → time ≡ t → rank < 3 → (nat_lt time t || (time == t && nat_lt rank 4)) ≡ true
by_end t time rank at low = grind (arith, nat_tests)

after_time : (t time rank : ℕ) → t < time → (nat_lt time t || (time == t && nat_lt rank 4)) ≡ false
after_time t time rank less = grind (arith, nat_tests)

after_end : (t time rank : ℕ) → time ≡ t → 3 < rank → (nat_lt time t || (time == t && nat_lt rank 4)) ≡ false
after_end t time rank at high = grind (arith, nat_tests)

pub logged_by-until : (t : ℕ) (h : Happened) → IsLoggedUntil t h → is_logged_by t h ≡ true
logged_by-until t h is = elim is.past [ inl less ↦ by_time t h.time (kind_rank h.what) less | inr at ↦ by_end t h.time (kind_rank h.what) at.0 at.1 ]

pub unlogged_by-from : (t : ℕ) (h : Happened) → IsLoggedFrom t h → is_logged_by t h ≡ false
unlogged_by-from t h is = elim is.later [ inl less ↦ after_time t h.time (kind_rank h.what) less | inr at ↦ after_end t h.time (kind_rank h.what) at.0 at.1 ]

pub line-unless_cut : (what : What) → kind_rank what ≢ 3 → has_line what ≡ true
line-unless_cut JobEnds other = refl
line-unless_cut (NextReleased d) other = refl
line-unless_cut (Spent d) other = refl
line-unless_cut Cut other = absurd (other refl)
line-unless_cut (Replenished d) other = refl
line-unless_cut (Released d) other = refl
line-unless_cut (WokenSpent d) other = refl
