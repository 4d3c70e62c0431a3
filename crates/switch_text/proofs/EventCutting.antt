-- THE CUT IN TIME, of events: those before it are in order by themselves, and the others after
-- them.
use Rattle.std.proofs.Common.{◌≡◌, ℕ, ◌+◌, Bool, true, false, cond, not, Option, Some, None, List, [], ◌∷◌, ◌++◌, length, map, refl, sym, ap, ◌∙◌, append-nil, arith}
use Rattle.std.specs.Prelude.{filter}
use Rattle.std.specs.List.{AllByRecursion, flat_map}
use Rattle.std.proofs.lemmas.Bool.{true≢false}
use Rattle.std.proofs.lemmas.Bool.Decides.{nat_tests}
use Rattle.std.proofs.lemmas.Grind.{flat_map-append}
use Rattle.std.proofs.lemmas.List.{length-append}
use Rattle.std.proofs.lemmas.List.Elements.{filter-append}
use Rattle.domain_run.specs.Switch.{Switch}
use Rattle.domain_run.specs.declared.happened.Happened.{Happened}
use Rattle.switch_text.specs.Trace.{SwitchesView}
use Rattle.switch_text.specs.Events.{LoggedView, Event, logged_event, logged_events, switch_event, switch_events, all_events, comes_before, with_event, in_sequence, lines_of_events}
use Rattle.switch_text.specs.SlicedEvents.{SlicedEventsView, EventRun, whole_logged_run, logged_runs, events_in}
use Rattle.switch_text.specs.private.LoggedMerging.{is_line_logged}
use Rattle.switch_text.specs.private.Sliced.{is_before_cut}
use Rattle.switch_text.specs.private.EventSlicing.{sequence_lines, is_event_before, is_logged_before, logged_run_before, logged_runs_before, logged_run_from_cut, logged_runs_from_cut, AreEventsFinal}
use Rattle.switch_text.proofs.Order.{AllByRecursion-weaker}
use Rattle.switch_text.proofs.Cutting.{filter_holds, filter_none, filter_every, not_true, not_false}
use Rattle.switch_text.proofs.EventOrder.{AllByRecursion-in_sequence, with_event-first, not_later-from_earlier, length-in_sequence}

-- ---- events

before_comes_first : (cut : Option ℕ) (e f : Event) → is_event_before cut e ≡ true → is_event_before cut f ≡ false → comes_before e f ≡ true
before_comes_first None e f p q = absurd (true≢false q)
before_comes_first (Some t) e f p q = grind (arith, nat_tests)

abbrev early : Option ℕ → List Event → List Event
early cut es = filter (is_event_before cut) es

abbrev late : Option ℕ → List Event → List Event
late cut es = filter (λ e. not (is_event_before cut e)) es

-- one before the cut goes among those before it, and another among the others
placed_early : (cut : Option ℕ) (e : Event) (firsts lasts : List Event) → is_event_before cut e ≡ true → AllByRecursion (λ x. is_event_before cut x ≡ false) lasts
    → with_event e (firsts ++ lasts) ≡ with_event e firsts ++ lasts
placed_early cut e [] lasts is all =
    with_event-first e lasts (AllByRecursion-weaker (λ x. is_event_before cut x ≡ false) (λ x. comes_before x e ≡ false) lasts (λ x q. not_later-from_earlier e x (before_comes_first cut e x is q)) all)
placed_early cut e (f ∷ firsts) lasts is all =
    let more = placed_early cut e firsts lasts is all in
    elim (comes_before f e) as (λ b. cond b (f ∷ with_event e (firsts ++ lasts)) (e ∷ f ∷ firsts ++ lasts) ≡ cond b (f ∷ with_event e firsts) (e ∷ f ∷ firsts) ++ lasts) [ true ↦ ap (λ (es : List Event). f ∷ es) more | false ↦ refl ]

placed_late : (cut : Option ℕ) (e : Event) (firsts lasts : List Event) → is_event_before cut e ≡ false → AllByRecursion (λ x. is_event_before cut x ≡ true) firsts
    → with_event e (firsts ++ lasts) ≡ firsts ++ with_event e lasts
placed_late cut e [] lasts is all = refl
placed_late cut e (f ∷ firsts) lasts is all = rw (before_comes_first cut f e all.0 is) (ap (λ (es : List Event). f ∷ es) (placed_late cut e firsts lasts is all.1))

early_in_sequence : (cut : Option ℕ) (es : List Event) → AllByRecursion (λ x. is_event_before cut x ≡ true) (in_sequence (early cut es))
early_in_sequence cut es = AllByRecursion-in_sequence (λ x. is_event_before cut x ≡ true) (early cut es) (filter_holds (is_event_before cut) es)

late_in_sequence : (cut : Option ℕ) (es : List Event) → AllByRecursion (λ x. is_event_before cut x ≡ false) (in_sequence (late cut es))
late_in_sequence cut es =
    AllByRecursion-in_sequence (λ x. is_event_before cut x ≡ false) (late cut es)
    (AllByRecursion-weaker (λ x. not (is_event_before cut x) ≡ true) (λ x. is_event_before cut x ≡ false) (late cut es) (λ x q. not_true (is_event_before cut x) q) (filter_holds (λ e. not (is_event_before cut e)) es))

cut_at : (cut : Option ℕ) (e : Event) (es : List Event) (b : Bool) → is_event_before cut e ≡ b → in_sequence es ≡ in_sequence (early cut es) ++ in_sequence (late cut es)
    → with_event e (in_sequence es) ≡ in_sequence (cond b (e ∷ early cut es) (early cut es)) ++ in_sequence (cond (not b) (e ∷ late cut es) (late cut es))
unfolding in_sequence
cut_at cut e es true is so_far = ap (with_event e) so_far ∙ placed_early cut e (in_sequence (early cut es)) (in_sequence (late cut es)) is (late_in_sequence cut es)
cut_at cut e es false is so_far = ap (with_event e) so_far ∙ placed_late cut e (in_sequence (early cut es)) (in_sequence (late cut es)) is (early_in_sequence cut es)

pub in_sequence-cut : (cut : Option ℕ) (es : List Event) → in_sequence es ≡ in_sequence (early cut es) ++ in_sequence (late cut es)
unfolding in_sequence
in_sequence-cut cut [] = refl
in_sequence-cut cut (e ∷ es) = cut_at cut e es (is_event_before cut e) refl (in_sequence-cut cut es)

-- ---- switches and what happens, by their own tests

switch_before : (cut : Option ℕ) (v : SwitchesView) (s : Switch) → is_event_before cut (switch_event v s) ≡ is_before_cut cut s.time
switch_before None v s = refl
switch_before (Some t) v s = grind (arith, nat_tests)

logged_is_before : (cut : Option ℕ) (v : LoggedView) (h : Happened) → is_event_before cut (logged_event v h) ≡ is_logged_before cut h
logged_is_before None v h = refl
logged_is_before (Some t) v h = refl

-- a test of events that is one of switches
filter_switches : (p : Event → Bool) (q : Switch → Bool) (v : SwitchesView) → ((s : Switch) → p (switch_event v s) ≡ q s) → (ss : List Switch) → filter p (map (switch_event v) ss) ≡ map (switch_event v) (filter q ss)
filter_switches p q v same [] = refl
filter_switches p q v same (s ∷ ss) =
    let more = filter_switches p q v same ss in
    ap (λ (b : Bool). cond b (switch_event v s ∷ filter p (map (switch_event v) ss)) (filter p (map (switch_event v) ss))) (same s)
    ∙ elim (q s) as (λ b. cond b (switch_event v s ∷ filter p (map (switch_event v) ss)) (filter p (map (switch_event v) ss)) ≡ map (switch_event v) (cond b (s ∷ filter q ss) (filter q ss)))
    [ true ↦ ap (λ (es : List Event). switch_event v s ∷ es) more | false ↦ more ]

-- and one of what happens: whether a line is there is asked first or last
abbrev shown_of : List Happened → List Happened
shown_of hs = filter is_line_logged hs

logged_kept : (p : Event → Bool) (q : Happened → Bool) (v : LoggedView) (h : Happened) (hs : List Happened) (b : Bool) → q h ≡ b → is_line_logged h ≡ true → filter p (map (logged_event v) (shown_of hs)) ≡ map (logged_event v) (shown_of (filter q hs))
    → cond b (logged_event v h ∷ filter p (map (logged_event v) (shown_of hs))) (filter p (map (logged_event v) (shown_of hs))) ≡ map (logged_event v) (shown_of (cond b (h ∷ filter q hs) (filter q hs)))
logged_kept p q v h hs true is line more = rw line (ap (λ (es : List Event). logged_event v h ∷ es) more)
logged_kept p q v h hs false is line more = more

logged_hidden : (q : Happened → Bool) (v : LoggedView) (h : Happened) (hs : List Happened) (b : Bool) → is_line_logged h ≡ false → map (logged_event v) (shown_of (filter q hs)) ≡ map (logged_event v) (shown_of (cond b (h ∷ filter q hs) (filter q hs)))
logged_hidden q v h hs true none = rw none refl
logged_hidden q v h hs false none = refl

logged_by_line : (p : Event → Bool) (q : Happened → Bool) (v : LoggedView) → ((h : Happened) → p (logged_event v h) ≡ q h) → (h : Happened) (hs : List Happened) (b : Bool) → is_line_logged h ≡ b → filter p (map (logged_event v) (shown_of hs)) ≡ map (logged_event v) (shown_of (filter q hs))
    → filter p (map (logged_event v) (cond b (h ∷ shown_of hs) (shown_of hs))) ≡ map (logged_event v) (shown_of (cond (q h) (h ∷ filter q hs) (filter q hs)))
logged_by_line p q v same h hs true line more =
    ap (λ (b : Bool). cond b (logged_event v h ∷ filter p (map (logged_event v) (shown_of hs))) (filter p (map (logged_event v) (shown_of hs)))) (same h) ∙ logged_kept p q v h hs (q h) refl line more
logged_by_line p q v same h hs false none more = more ∙ logged_hidden q v h hs (q h) none

filter_logged : (p : Event → Bool) (q : Happened → Bool) (v : LoggedView) → ((h : Happened) → p (logged_event v h) ≡ q h) → (hs : List Happened) → filter p (map (logged_event v) (shown_of hs)) ≡ map (logged_event v) (shown_of (filter q hs))
filter_logged p q v same [] = refl
filter_logged p q v same (h ∷ hs) = logged_by_line p q v same h hs (is_line_logged h) refl (filter_logged p q v same hs)

-- ---- runs

abbrev base_names_run : SlicedEventsView → List Switch → SwitchesView
base_names_run v ss = record { base = v.base; names = v.names; switches = ss }

abbrev base_names_logged : SlicedEventsView → List Happened → LoggedView
base_names_logged v hs = record { base = v.base; names = v.names; happened = hs }

early_switches : (cut : Option ℕ) (v : SlicedEventsView) → AreEventsFinal cut v → early cut (switch_events (whole_logged_run v).run) ≡ switch_events (logged_run_before cut v).run
early_switches cut v final =
    let p : Switch → Bool = λ s. is_before_cut cut s.time in
    let r = (whole_logged_run v).run in
    filter_switches (is_event_before cut) p r (switch_before cut r) (v.at_hand ++ v.to_come)
    ∙ ap (map (switch_event r)) (filter-append p v.at_hand v.to_come ∙ ap (λ (ss : List Switch). filter p v.at_hand ++ ss) (filter_none p v.to_come final.switches) ∙ append-nil (filter p v.at_hand))

late_switches : (cut : Option ℕ) (v : SlicedEventsView) → AreEventsFinal cut v → late cut (switch_events (whole_logged_run v).run) ≡ switch_events (whole_logged_run (logged_run_from_cut cut v)).run
late_switches cut v final =
    let p : Switch → Bool = λ s. not (is_before_cut cut s.time) in
    let r = (whole_logged_run v).run in
    let all = AllByRecursion-weaker (λ (s : Switch). is_before_cut cut s.time ≡ false) (λ s. p s ≡ true) v.to_come (λ s q. not_false (is_before_cut cut s.time) q) final.switches in
    filter_switches (λ e. not (is_event_before cut e)) p r (λ s. ap not (switch_before cut r s)) (v.at_hand ++ v.to_come)
    ∙ ap (map (switch_event r)) (filter-append p v.at_hand v.to_come ∙ ap (λ (ss : List Switch). filter p v.at_hand ++ ss) (filter_every p v.to_come all))

early_logged : (cut : Option ℕ) (v : SlicedEventsView) → AreEventsFinal cut v → early cut (logged_events (whole_logged_run v).logged) ≡ logged_events (logged_run_before cut v).logged
early_logged cut v final =
    let p : Happened → Bool = is_logged_before cut in
    let r = (whole_logged_run v).logged in
    filter_logged (is_event_before cut) p r (logged_is_before cut r) (v.logged ++ v.to_log)
    ∙ ap (λ (hs : List Happened). map (logged_event r) (shown_of hs)) (filter-append p v.logged v.to_log ∙ ap (λ (hs : List Happened). filter p v.logged ++ hs) (filter_none p v.to_log final.logged) ∙ append-nil (filter p v.logged))

late_logged : (cut : Option ℕ) (v : SlicedEventsView) → AreEventsFinal cut v → late cut (logged_events (whole_logged_run v).logged) ≡ logged_events (whole_logged_run (logged_run_from_cut cut v)).logged
late_logged cut v final =
    let p : Happened → Bool = λ h. not (is_logged_before cut h) in
    let r = (whole_logged_run v).logged in
    let all = AllByRecursion-weaker (λ (h : Happened). is_logged_before cut h ≡ false) (λ h. p h ≡ true) v.to_log (λ h q. not_false (is_logged_before cut h) q) final.logged in
    filter_logged (λ e. not (is_event_before cut e)) p r (λ h. ap not (logged_is_before cut r h)) (v.logged ++ v.to_log)
    ∙ ap (λ (hs : List Happened). map (logged_event r) (shown_of hs)) (filter-append p v.logged v.to_log ∙ ap (λ (hs : List Happened). filter p v.logged ++ hs) (filter_every p v.to_log all))

-- ---- several runs

abbrev switches_of : List EventRun → List Event
switches_of rs = flat_map switch_events (map (λ r. r.run) rs)

abbrev logged_of : List EventRun → List Event
logged_of rs = flat_map logged_events (map (λ r. r.logged) rs)

early_switches_of : (cut : Option ℕ) (vs : List SlicedEventsView) → AllByRecursion (AreEventsFinal cut) vs → early cut (switches_of (logged_runs vs)) ≡ switches_of (logged_runs_before cut vs)
early_switches_of cut [] final = refl
early_switches_of cut (v ∷ vs) final =
    filter-append (is_event_before cut) (switch_events (whole_logged_run v).run) (switches_of (logged_runs vs))
    ∙ ap (λ (es : List Event). es ++ early cut (switches_of (logged_runs vs))) (early_switches cut v final.0)
    ∙ ap (λ (es : List Event). switch_events (logged_run_before cut v).run ++ es) (early_switches_of cut vs final.1)

late_switches_of : (cut : Option ℕ) (vs : List SlicedEventsView) → AllByRecursion (AreEventsFinal cut) vs → late cut (switches_of (logged_runs vs)) ≡ switches_of (logged_runs (logged_runs_from_cut cut vs))
late_switches_of cut [] final = refl
late_switches_of cut (v ∷ vs) final =
    filter-append (λ e. not (is_event_before cut e)) (switch_events (whole_logged_run v).run) (switches_of (logged_runs vs))
    ∙ ap (λ (es : List Event). es ++ late cut (switches_of (logged_runs vs))) (late_switches cut v final.0)
    ∙ ap (λ (es : List Event). switch_events (whole_logged_run (logged_run_from_cut cut v)).run ++ es) (late_switches_of cut vs final.1)

early_logged_of : (cut : Option ℕ) (vs : List SlicedEventsView) → AllByRecursion (AreEventsFinal cut) vs → early cut (logged_of (logged_runs vs)) ≡ logged_of (logged_runs_before cut vs)
early_logged_of cut [] final = refl
early_logged_of cut (v ∷ vs) final =
    filter-append (is_event_before cut) (logged_events (whole_logged_run v).logged) (logged_of (logged_runs vs))
    ∙ ap (λ (es : List Event). es ++ early cut (logged_of (logged_runs vs))) (early_logged cut v final.0)
    ∙ ap (λ (es : List Event). logged_events (logged_run_before cut v).logged ++ es) (early_logged_of cut vs final.1)

late_logged_of : (cut : Option ℕ) (vs : List SlicedEventsView) → AllByRecursion (AreEventsFinal cut) vs → late cut (logged_of (logged_runs vs)) ≡ logged_of (logged_runs (logged_runs_from_cut cut vs))
late_logged_of cut [] final = refl
late_logged_of cut (v ∷ vs) final =
    filter-append (λ e. not (is_event_before cut e)) (logged_events (whole_logged_run v).logged) (logged_of (logged_runs vs))
    ∙ ap (λ (es : List Event). es ++ late cut (logged_of (logged_runs vs))) (late_logged cut v final.0)
    ∙ ap (λ (es : List Event). logged_events (whole_logged_run (logged_run_from_cut cut v)).logged ++ es) (late_logged_of cut vs final.1)

early_all : (cut : Option ℕ) (vs : List SlicedEventsView) → AllByRecursion (AreEventsFinal cut) vs → early cut (events_in (logged_runs vs)) ≡ events_in (logged_runs_before cut vs)
early_all cut vs final =
    filter-append (is_event_before cut) (logged_of (logged_runs vs)) (switches_of (logged_runs vs))
    ∙ ap (λ (es : List Event). es ++ early cut (switches_of (logged_runs vs))) (early_logged_of cut vs final)
    ∙ ap (λ (es : List Event). logged_of (logged_runs_before cut vs) ++ es) (early_switches_of cut vs final)

late_all : (cut : Option ℕ) (vs : List SlicedEventsView) → AllByRecursion (AreEventsFinal cut) vs → late cut (events_in (logged_runs vs)) ≡ events_in (logged_runs (logged_runs_from_cut cut vs))
late_all cut vs final =
    filter-append (λ e. not (is_event_before cut e)) (logged_of (logged_runs vs)) (switches_of (logged_runs vs))
    ∙ ap (λ (es : List Event). es ++ late cut (switches_of (logged_runs vs))) (late_logged_of cut vs final)
    ∙ ap (λ (es : List Event). logged_of (logged_runs (logged_runs_from_cut cut vs)) ++ es) (late_switches_of cut vs final)

-- THE LAW: the events of the whole runs in order are those before the cut in order, and then those
-- of what is left
events_cut : (cut : Option ℕ) (vs : List SlicedEventsView) → AllByRecursion (AreEventsFinal cut) vs
    → in_sequence (events_in (logged_runs vs)) ≡ in_sequence (events_in (logged_runs_before cut vs)) ++ in_sequence (events_in (logged_runs (logged_runs_from_cut cut vs)))
events_cut cut vs final =
    in_sequence-cut cut (events_in (logged_runs vs))
    ∙ ap (λ (es : List Event). in_sequence es ++ in_sequence (late cut (events_in (logged_runs vs)))) (early_all cut vs final)
    ∙ ap (λ (es : List Event). in_sequence (events_in (logged_runs_before cut vs)) ++ in_sequence es) (late_all cut vs final)

-- so are their lines
pub sequence_cut : (cut : Option ℕ) (vs : List SlicedEventsView) → AllByRecursion (AreEventsFinal cut) vs
    → sequence_lines (events_in (logged_runs vs)) ≡ sequence_lines (events_in (logged_runs_before cut vs)) ++ sequence_lines (events_in (logged_runs (logged_runs_from_cut cut vs)))
unfolding lines_of_events
sequence_cut cut vs final =
    ap lines_of_events (events_cut cut vs final)
    ∙ flat_map-append (λ (e : Event). e.line) (in_sequence (events_in (logged_runs_before cut vs))) (in_sequence (events_in (logged_runs (logged_runs_from_cut cut vs))))

pub count_cut : (cut : Option ℕ) (vs : List SlicedEventsView) → AllByRecursion (AreEventsFinal cut) vs
    → length (events_in (logged_runs vs)) ≡ length (events_in (logged_runs_before cut vs)) + length (events_in (logged_runs (logged_runs_from_cut cut vs)))
count_cut cut vs final =
    let firsts = events_in (logged_runs_before cut vs) in
    let lasts = events_in (logged_runs (logged_runs_from_cut cut vs)) in
    omega (arith, length-in_sequence (events_in (logged_runs vs)), ap length (events_cut cut vs final), length-append (in_sequence firsts) (in_sequence lasts), length-in_sequence firsts, length-in_sequence lasts)
