-- The runs under way of the sections that were read so far for their events, and what they lead to.
use Rattle.std.proofs.Common.{◌≡◌, ℕ, ◌+◌, ◌-◌, ◌*◌, ◌^◌, ◌<◌, ◌≤◌, List, [], ◌∷◌, ◌++◌, length, map, refl, sym, ap, ◌∙◌, length-append, arith}
use Rattle.std.specs.Prelude.{sum_by}
use Rattle.std.specs.List.{flat_map, AllByRecursion}
use Rattle.std.proofs.lemmas.List.{map-append, length_push, length-map}
use Rattle.std.proofs.lemmas.List.Elements.{recursion_from_All}
use Rattle.std.proofs.lemmas.List.Sums.{sum_by-cons, sum_by_push}
use Rattle.domain_run.specs.declared.happened.Happened.{Happened}
use Rattle.calls_text.specs.SectionView.{SectionView}
use Rattle.calls_text.specs.Limits.{IsSection}
use Rattle.switch_text.specs.Events.{Event, logged_event, logged_events, switch_event, switch_events, in_sequence, lines_of_events, events_of}
use Rattle.switch_text.specs.SlicedEvents.{EventRun, whole_logged_run, logged_runs, events_in, logged_runs_text}
use Rattle.switch_text.specs.Trace.{SwitchesView, header}
use Rattle.calls_trace.specs.declared.playing_events.PlayingEvents.{PlayingEvents}
use Rattle.calls_trace.specs.declared.events_so_far.EventsSoFar.{EventsSoFar}
use Rattle.calls_trace.specs.declared.run_text.RunText.TheVariants.{Events}
use Rattle.run_options.specs.declared.replay_print.ReplayPrint.TheVariants as prints
use Rattle.calls_trace.specs.Replay.{run_view, runs_from}
use Rattle.calls_trace.specs.DomainEvents.{domain_of, names_in, logged_of, logged_from}
use Rattle.calls_trace.specs.private.PlayingEvents.{sliced_events_of}
use Rattle.calls_trace.specs.private.ReadEvents.{logged_run_at, logged_runs_from, AreEventsFor, AreEventsOf}
use Rattle.calls_trace.specs.private.RunTexts.{text_of_all}
use Rattle.calls_trace.specs.private.LoggedSoFar.{with_lines}
use Rattle.calls_trace.proofs.Rising.{section_trace}
use Rattle.calls_trace.proofs.Texts.{text_is}
use Rattle.calls_trace.proofs.LoggedCount.{section_logged_few}
use Rattle.calls_trace.proofs.LoggedLines.{section_time}
use Rattle.calls_trace.proofs.LoggedSoFar.{lines_twice}

logged_runs_push : (base : ℕ) (done : List SectionView) (s : SectionView) → logged_runs_from base (done ++ s ∷ []) ≡ logged_runs_from base done ++ logged_run_at (base + sum_by (λ (t : SectionView). t.cpus) done) s ∷ []
logged_runs_push base [] s = ap (λ (b : ℕ). logged_run_at b s ∷ []) (omega arith)
logged_runs_push base (t ∷ done) s =
    let sum = sum_by-cons (λ (x : SectionView). x.cpus) t done in
    ap (λ (rs : List EventRun). logged_run_at base t ∷ rs)
    (logged_runs_push (base + t.cpus) done s ∙ ap (λ (b : ℕ). logged_runs_from (base + t.cpus) done ++ logged_run_at b s ∷ []) (omega (arith, sum)))

wholes_push : (runs : List PlayingEvents) (p : PlayingEvents) → logged_runs (map sliced_events_of (runs ++ p ∷ [])) ≡ logged_runs (map sliced_events_of runs) ++ whole_logged_run (sliced_events_of p) ∷ []
wholes_push runs p = ap logged_runs (map-append sliced_events_of runs (p ∷ [])) ∙ map-append whole_logged_run (map sliced_events_of runs) (sliced_events_of p ∷ [])

-- one run more
pub one_more_logged : (done : List SectionView) (s : SectionView) (was is : EventsSoFar) (p : PlayingEvents) → AreEventsFor done was → is.runs.items ≡ was.runs.items ++ p ∷ [] → is.base ≡ was.base + s.cpus → IsSection s
    → whole_logged_run (sliced_events_of p) ≡ logged_run_at was.base s → AreEventsFor (done ++ s ∷ []) is
one_more_logged done s was is p so_far items base section whole =
    let few = section.most_cpus in
    let long = length_push done s in
    let more = ap length items in
    let from : was.base ≡ 0 + sum_by (λ (t : SectionView). t.cpus) done = omega (arith, so_far.base_is) in
    record {
      lead = ap (λ (runs : List PlayingEvents). logged_runs (map sliced_events_of runs)) items
          ∙ wholes_push was.runs.items p
          ∙ ap (λ (rs : List EventRun). rs ++ whole_logged_run (sliced_events_of p) ∷ []) so_far.lead
          ∙ ap (λ (r : EventRun). logged_runs_from 0 done ++ r ∷ []) (whole ∙ ap (λ (b : ℕ). logged_run_at b s) from)
          ∙ sym (logged_runs_push 0 done s);
      count = omega (arith, so_far.count, long, more, length_push was.runs.items p);
      base_is = omega (arith, base, so_far.base_is, sum_by_push (λ (t : SectionView). t.cpus) done s);
      inside = omega (arith, base, so_far.inside, few, long);
    }

-- ---- they are few enough to be counted

switches_few : (base : ℕ) (s : SectionView) → IsSection s → length (switch_events (run_view base s)) ≤ 64 * (2 ^ 42 - 1)
switches_few base s is = omega (arith, length-map (domain_of s).switches (switch_event (run_view base s)), (section_trace s is).few, section_time s is)

logged_few : (base : ℕ) (s : SectionView) → IsSection s → length (logged_events (logged_run_at base s).logged) ≤ 960 * (2 ^ 42 - 1)
logged_few base s is =
    let same = ap (λ (hs : List Happened). length hs) (lines_twice (logged_of s)) in
    omega (arith, length-map (with_lines (with_lines (logged_of s))) (logged_event (logged_run_at base s).logged), same, section_logged_few s is)

all_switches_few : (base : ℕ) (ss : List SectionView) → AllByRecursion IsSection ss → length (flat_map switch_events (map (λ r. r.run) (logged_runs_from base ss))) ≤ length ss * (64 * (2 ^ 42 - 1))
all_switches_few base [] are = omega arith
all_switches_few base (s ∷ ss) are =
    let next = base + s.cpus in
    omega (arith, length-append (switch_events (run_view base s)) (flat_map switch_events (map (λ r. r.run) (logged_runs_from next ss))), switches_few base s are.0, all_switches_few next ss are.1)

all_logged_few : (base : ℕ) (ss : List SectionView) → AllByRecursion IsSection ss → length (flat_map logged_events (map (λ r. r.logged) (logged_runs_from base ss))) ≤ length ss * (960 * (2 ^ 42 - 1))
all_logged_few base [] are = omega arith
all_logged_few base (s ∷ ss) are =
    let next = base + s.cpus in
    omega (arith, length-append (logged_events (logged_run_at base s).logged) (flat_map logged_events (map (λ r. r.logged) (logged_runs_from next ss))), logged_few base s are.0, all_logged_few next ss are.1)

pub events_few : (text : List ℕ) (runs : List PlayingEvents) → AreEventsOf text runs → length (events_in (logged_runs (map sliced_events_of runs))) < 2 ^ 55
events_few text runs r =
    let most = r.read.within.most in
    let each = recursion_from_All IsSection r.sections r.read.within.each in
    let rs = logged_runs_from 0 r.sections in
    let parts = length-append (flat_map logged_events (map (λ r. r.logged) rs)) (flat_map switch_events (map (λ r. r.run) rs)) in
    omega (arith, ap (λ (rs : List EventRun). length (events_in rs)) r.lead, parts, all_logged_few 0 r.sections each, all_switches_few 0 r.sections each, most)

-- ---- what is written of them

runs_as_before : (base : ℕ) (ss : List SectionView) → map (λ r. r.run) (logged_runs_from base ss) ≡ runs_from base ss
runs_as_before base [] = refl
runs_as_before base (s ∷ ss) = ap (λ (rs : List SwitchesView). run_view base s ∷ rs) (runs_as_before (base + s.cpus) ss)

-- a cut is no event
same_events : (base : ℕ) (s : SectionView) → logged_events (logged_run_at base s).logged ≡ logged_events (record { base = base; names = names_in s; happened = logged_of s })
same_events base s = ap (map (logged_event (logged_run_at base s).logged)) (lines_twice (logged_of s))

events_as_before : (base : ℕ) (ss : List SectionView) → flat_map logged_events (map (λ r. r.logged) (logged_runs_from base ss)) ≡ flat_map logged_events (logged_from base ss)
events_as_before base [] = refl
events_as_before base (s ∷ ss) =
    let next = base + s.cpus in
    ap (λ (es : List Event). es ++ flat_map logged_events (map (λ r. r.logged) (logged_runs_from next ss))) (same_events base s)
    ∙ ap (λ (es : List Event). logged_events (record { base = base; names = names_in s; happened = logged_of s }) ++ es) (events_as_before next ss)

text_as_before : (ss : List SectionView) → logged_runs_text (logged_runs_from 0 ss) ≡ events_of (runs_from 0 ss) (logged_from 0 ss)
unfolding events_of
text_as_before ss =
    ap (λ (rs : List SwitchesView). header ++ lines_of_events (in_sequence (flat_map logged_events (map (λ r. r.logged) (logged_runs_from 0 ss)) ++ flat_map switch_events rs))) (runs_as_before 0 ss)
    ∙ ap (λ (es : List Event). header ++ lines_of_events (in_sequence (es ++ flat_map switch_events (runs_from 0 ss)))) (events_as_before 0 ss)

pub events_text : (text : List ℕ) (runs : List PlayingEvents) → (r : AreEventsOf text runs) → logged_runs_text (logged_runs (map sliced_events_of runs)) ≡ text_of_all Events r.sections
events_text text runs r = ap logged_runs_text r.lead ∙ text_as_before r.sections ∙ sym (text_is Events prints.Events refl r.sections)
