-- The events text that goes out line by line.
use Rattle.std.proofs.Common.{◌≡◌, ℕ, zero, suc, ◌+◌, ◌*◌, ◌<◌, ◌≤◌, ◌^◌, true, false, cond, List, [], ◌∷◌, ◌++◌, length, map, replicate, Option, refl, sym, ap, subst, ◌∙◌, append-nil, arith}
use Rattle.std.specs.Prelude.{All, filter}
use Rattle.std.specs.List.{AllByRecursion, flat_map}
use Rattle.std.proofs.KnownBytes.{Appends-nil}
use Rattle.std.proofs.lemmas.List.{length-append, length-map, map-append}
use Rattle.std.proofs.lemmas.List.Elements.{recursion_from_All}
use Rattle.domain_run.specs.declared.happened.Happened.{Happened}
use Rattle.domain_run.specs.Switch.{Switch}
use Rattle.counted_io.specs.Faults.{TakesFront}
use Rattle.switch_text.specs.declared.run.Run.{Run}
use Rattle.switch_text.specs.declared.logged.DomainEvents.{DomainEvents}
use Rattle.switch_text.specs.Trace.{SwitchesView, entry_of, entries_of, header}
use Rattle.switch_text.specs.Runs.{switches_view_of, views, IsPrintable}
use Rattle.switch_text.specs.Events.{LoggedView, Event, logged_event, logged_events, switch_event, switch_events, all_events, in_sequence, lines_of_events, events_of}
use Rattle.switch_text.specs.EventLines.{logged_view, logged_views, IsLogged}
use Rattle.switch_text.specs.private.Merging.{entries_left}
use Rattle.switch_text.specs.private.Sending.{Sends}
use Rattle.switch_text.specs.private.LoggedMerging.{is_line_logged, left_logged}
use Rattle.switch_text.specs.private.EventMerging.{of_entry, left_events, IsEventStep}
use Rattle.switch_text.proofs.Few.{few}
use Rattle.switch_text.proofs.UnderWay.{sends_on, length-sent, left_of-start}
use Rattle.switch_text.proofs.Sliced.{stops_all, front_more}
use Rattle.switch_text.specs.private.EventSlicing.{sequence_lines}

-- after a first text the lines of events go out: so many bytes did, these wait, and the others are
-- still to be made
pub record AreUnderWay (before after : Option (List ℕ)) (first : List ℕ) (all left : List Event) (sent : ℕ) (waiting : List ℕ) : Type 0 where
  pub sends : Sends before after (first ++ sequence_lines all) sent (waiting ++ sequence_lines left)
  pub bound : sent + length waiting + 512 * length left ≤ length first + 512 * length all

pub AreUnderWay-start : (before : Option (List ℕ)) (first : List ℕ) (all left : List Event) → left ≡ all → AreUnderWay before before first all left 0 first
AreUnderWay-start before first all left start =
    record {
      sends = record {
        gone = [];
        taken = Appends-nil before;
        count = refl;
        whole = ap (λ (es : List Event). first ++ sequence_lines es) (sym start);
      };
      bound = omega (arith, ap length start);
    }

pub AreUnderWay-next : (before mid after : Option (List ℕ)) (first : List ℕ) (all left left' : List Event) (sent n : ℕ) (waiting rest line : List ℕ) → AreUnderWay before mid first all left sent waiting
    → IsEventStep left left' line → Sends mid after (waiting ++ line) n rest → length line ≤ 512 → AreUnderWay before after first all left' (sent + n) rest
AreUnderWay-next before mid after first all left left' sent n waiting rest line u step s short =
    let text = first ++ sequence_lines all in
    let sends = subst (λ (xs : List ℕ). Sends before mid text sent (waiting ++ xs)) step.lines u.sends in
    let bound = u.bound in
    record {
      sends = sends_on before mid after text waiting line (sequence_lines left') rest sent n sends s;
      bound = omega (arith, length-sent mid after (waiting ++ line) rest n s, length-append waiting line, step.count short, bound);
    }

pub AreUnderWay-stops : (before mid after : Option (List ℕ)) (first : List ℕ) (all left : List Event) (sent n : ℕ) (waiting : List ℕ) → AreUnderWay before mid first all left sent waiting → TakesFront mid after waiting n
    → TakesFront before after (first ++ sequence_lines all) (sent + n)
AreUnderWay-stops before mid after first all left sent n waiting u t =
    stops_all before mid after (first ++ sequence_lines all) (waiting ++ sequence_lines left) sent n u.sends (front_more mid after waiting (sequence_lines left) n t)

-- nothing is left: all that did not go out waits
pub AreUnderWay-ends : (before after : Option (List ℕ)) (first : List ℕ) (all left : List Event) (sent : ℕ) (waiting : List ℕ) → AreUnderWay before after first all left sent waiting → left ≡ []
    → Sends before after (first ++ sequence_lines all) sent waiting
unfolding lines_of_events in_sequence
AreUnderWay-ends before after first all left sent waiting u none =
    let made : sequence_lines left ≡ [] = ap (λ (es : List Event). lines_of_events (in_sequence es)) none in
    subst (λ (xs : List ℕ). Sends before after (first ++ sequence_lines all) sent xs) (ap (λ (xs : List ℕ). waiting ++ xs) made ∙ append-nil waiting) u.sends

-- what is counted stays below 2^64
pub events_fit : (before after : Option (List ℕ)) (first : List ℕ) (all left : List Event) (sent n : ℕ) (waiting : List ℕ) → AreUnderWay before after first all left sent waiting
    → length first ≤ 65536 → length all ≤ 2 ^ 53 + 2 ^ 54 → n ≤ length waiting → sent + n < 2 ^ 64
events_fit before after first all left sent n waiting u short few le = let bound = u.bound in omega (arith, bound, short, few, le)

-- the events text is the header, and then the lines
pub events_are : (first : List ℕ) (runs : List SwitchesView) (logged : List LoggedView) → first ≡ header → first ++ sequence_lines (all_events runs logged) ≡ events_of runs logged
unfolding events_of
events_are first runs logged is = ap (λ (xs : List ℕ). xs ++ sequence_lines (all_events runs logged)) is

-- ---- at first all is left

left_logged-start : (logged : List LoggedView) (n : ℕ) → length logged ≤ n → left_logged logged (replicate n 0) ≡ flat_map logged_events logged
left_logged-start [] n h = refl
left_logged-start (t ∷ ts) zero h = absurd (omega arith)
left_logged-start (t ∷ ts) (suc n) h = ap (λ (es : List Event). logged_events t ++ es) (left_logged-start ts n (omega arith))

switch_events-is : (r : SwitchesView) (ss : List Switch) → map of_entry (map (entry_of r) ss) ≡ map (switch_event r) ss
switch_events-is r [] = refl
switch_events-is r (s ∷ ss) = ap (λ (es : List Event). switch_event r s ∷ es) (switch_events-is r ss)

pub all_switches-are : (runs : List SwitchesView) → map of_entry (flat_map entries_of runs) ≡ flat_map switch_events runs
all_switches-are [] = refl
all_switches-are (r ∷ rs) =
    map-append of_entry (entries_of r) (flat_map entries_of rs) ∙ ap (λ (es : List Event). es ++ map of_entry (flat_map entries_of rs)) (switch_events-is r r.switches)
    ∙ ap (λ (es : List Event). switch_events r ++ es) (all_switches-are rs)

pub left_events-start : (runs : List Run) (logged : List DomainEvents) → length runs ≤ 8 → length logged ≤ 8
    → left_events runs logged (record { switches = replicate 8 0; logged = replicate 8 0 }) ≡ all_events (views runs) (logged_views logged)
left_events-start runs logged few_runs few_logged =
    ap (λ (es : List Event). es ++ map of_entry (entries_left (views runs) (replicate 8 0))) (left_logged-start (logged_views logged) 8 (omega (arith, length-map logged logged_view)))
    ∙ ap (λ (es : List Event). flat_map logged_events (logged_views logged) ++ es) (ap (map of_entry) (left_of-start (views runs) 8 (omega (arith, length-map runs switches_view_of))) ∙ all_switches-are (views runs))

-- ---- they are few enough to be counted

length-shown : (hs : List Happened) → length (filter is_line_logged hs) ≤ length hs
length-shown [] = omega arith
length-shown (h ∷ hs) =
    let more = length-shown hs in
    elim (is_line_logged h) as (λ b. length (cond b (h ∷ filter is_line_logged hs) (filter is_line_logged hs)) ≤ length (h ∷ hs)) [ true ↦ omega arith | false ↦ omega arith ]

few_logged : (t : DomainEvents) → IsLogged t → length (logged_events (logged_view t)) ≤ 2 ^ 50
few_logged t good =
    let few : length t.happened.now ≤ 2 ^ 50 = good.few in
    omega (arith, length-map (filter is_line_logged t.happened.now) (logged_event (logged_view t)), length-shown t.happened.now, few)

logged_in : (logged : List DomainEvents) → AllByRecursion IsLogged logged → length (flat_map logged_events (logged_views logged)) ≤ length logged * 2 ^ 50
logged_in [] all = omega arith
logged_in (t ∷ ts) all =
    let more = logged_in ts all.1 in
    let here = few_logged t all.0 in
    omega (arith, length-append (logged_events (logged_view t)) (flat_map logged_events (logged_views ts)), more, here)

pub few_events : (runs : List Run) (logged : List DomainEvents) → length runs ≤ 8 → length logged ≤ 8 → All IsPrintable runs → All IsLogged logged → length (all_events (views runs) (logged_views logged)) ≤ 2 ^ 53 + 2 ^ 54
few_events runs logged few_runs few_tolds are_runs are_logged =
    let logged_bound = logged_in logged (recursion_from_All IsLogged logged are_logged) in
    let run_bound = few runs few_runs are_runs in
    let same : length (flat_map switch_events (views runs)) ≡ length (flat_map entries_of (views runs)) = sym (ap length (all_switches-are (views runs))) ∙ length-map (flat_map entries_of (views runs)) of_entry in
    omega (arith, length-append (flat_map logged_events (logged_views logged)) (flat_map switch_events (views runs)), logged_bound, run_bound, same)
