-- The events text of runs that goes out slice by slice.
use Rattle.std.proofs.Common.{◌≡◌, ℕ, zero, suc, ◌+◌, ◌*◌, ◌<◌, ◌≤◌, ◌^◌, Bool, true, false, cond, ltb, Option, Some, None, List, [], ◌∷◌, ◌++◌, length, map, refl, sym, ap, subst, ◌∙◌, append_assoc, append-nil, arith}
use Rattle.std.specs.Prelude.{All, IsTrue, IfNone, IfSome, is_some, filter}
use Rattle.std.specs.List.{AllByRecursion, flat_map}
use Rattle.std.proofs.KnownBytes.{Appends-nil}
use Rattle.std.proofs.lemmas.Bool.{ltb-true, ltb-false, true≢false}
use Rattle.std.proofs.lemmas.Bool.Decides.{nat_tests}
use Rattle.std.proofs.lemmas.List.{length-append, length-map}
use Rattle.std.proofs.lemmas.List.Elements.{recursion_from_All}
use Rattle.domain_run.specs.Switch.{Switch}
use Rattle.domain_run.specs.declared.happened.Happened.{Happened}
use Rattle.counted_io.specs.Faults.{TakesFront}
use Rattle.switch_text.specs.LoggedLine.{has_line}
use Rattle.switch_text.specs.Trace.{SwitchesView, header}
use Rattle.switch_text.specs.Events.{Event, logged_event, logged_events, switch_event, switch_events, in_sequence, lines_of_events}
use Rattle.switch_text.specs.SlicedEvents.{SlicedEventsView, EventRun, whole_logged_run, logged_runs, events_in, logged_runs_text, is_logged_by, IsAllAtHand}
use Rattle.switch_text.specs.private.Sending.{Sends}
use Rattle.switch_text.specs.private.Sliced.{is_before_cut, switches_before, switches_from_cut, earlier_of}
use Rattle.switch_text.specs.private.LoggedMerging.{is_line_logged}
use Rattle.switch_text.specs.private.EventSlicing.{sequence_lines, is_logged_before, logged_before, logged_from_cut, logged_run_before, logged_runs_before, logged_run_from_cut, logged_runs_from_cut, names_logged_by, AreEventsFinal, AreEventsCutAt, IsSlicingEvents}
use Rattle.switch_text.proofs.Cutting.{filter_every}
use Rattle.switch_text.proofs.Order.{AllByRecursion-weaker, AllByRecursion-append}
use Rattle.switch_text.proofs.UnderWay.{sends_on, length-header}
use Rattle.switch_text.proofs.Sliced.{front_more, stops_all}
use Rattle.switch_text.proofs.EventsUnderWay.{events_are}
use Rattle.switch_text.proofs.EventCutting.{sequence_cut, count_cut}

-- ---- what goes out

text_is : (first : List ℕ) (rs : List EventRun) → first ≡ header → first ++ sequence_lines (events_in rs) ≡ logged_runs_text rs
text_is first rs is = events_are first (map (λ r. r.run) rs) (map (λ r. r.logged) rs) is

-- at first the header waits
pub IsSlicingEvents-start : (before : Option (List ℕ)) (all : List EventRun) (waiting : List ℕ) → waiting ≡ header → IsSlicingEvents before before all all 0 waiting
IsSlicingEvents-start before all waiting is = record {
  sends = record {
    gone = [];
    taken = Appends-nil before;
    count = refl;
    whole = sym (text_is waiting all is);
  };
  bound = omega (arith, ap length is, length-header);
}

-- the lines before the cut go out after what waits
pub IsSlicingEvents-next : (before mid after : Option (List ℕ)) (all : List EventRun) (cut : Option ℕ) (vs : List SlicedEventsView) (sent n : ℕ) (waiting left : List ℕ) → IsSlicingEvents before mid all (logged_runs vs) sent waiting
    → AllByRecursion (AreEventsFinal cut) vs → Sends mid after (waiting ++ sequence_lines (events_in (logged_runs_before cut vs))) n left → n + length left ≤ length waiting + 512 * length (events_in (logged_runs_before cut vs))
    → IsSlicingEvents before after all (logged_runs (logged_runs_from_cut cut vs)) (sent + n) left
IsSlicingEvents-next before mid after all cut vs sent n waiting left u final s short =
    let sends = subst (λ (xs : List ℕ). Sends before mid (logged_runs_text all) sent (waiting ++ xs)) (sequence_cut cut vs final) u.sends in
    let bound = u.bound in
    record {
      sends = sends_on before mid after (logged_runs_text all) waiting (sequence_lines (events_in (logged_runs_before cut vs))) (sequence_lines (events_in (logged_runs (logged_runs_from_cut cut vs)))) left sent n sends s;
      bound = omega (arith, count_cut cut vs final, bound, short);
    }

-- the writer fails in them
pub IsSlicingEvents-stops : (before mid after : Option (List ℕ)) (all : List EventRun) (cut : Option ℕ) (vs : List SlicedEventsView) (sent n : ℕ) (waiting : List ℕ) → IsSlicingEvents before mid all (logged_runs vs) sent waiting
    → AllByRecursion (AreEventsFinal cut) vs → TakesFront mid after (waiting ++ sequence_lines (events_in (logged_runs_before cut vs))) n → TakesFront before after (logged_runs_text all) (sent + n)
IsSlicingEvents-stops before mid after all cut vs sent n waiting u final t =
    let here = sequence_lines (events_in (logged_runs_before cut vs)) in
    let more = sequence_lines (events_in (logged_runs (logged_runs_from_cut cut vs))) in
    let whole : (waiting ++ here) ++ more ≡ waiting ++ sequence_lines (events_in (logged_runs vs))
    = append_assoc waiting here more ∙ ap (λ (xs : List ℕ). waiting ++ xs) (sym (sequence_cut cut vs final)) in
    stops_all before mid after (logged_runs_text all) (waiting ++ sequence_lines (events_in (logged_runs vs))) sent n u.sends
    (subst (λ (xs : List ℕ). TakesFront mid after xs n) whole (front_more mid after (waiting ++ here) more n t))

-- what goes out is counted below 2^64, also if the writer fails
pub slicing_events_fit : (before after : Option (List ℕ)) (all : List EventRun) (cut : Option ℕ) (vs : List SlicedEventsView) (sent n : ℕ) (waiting : List ℕ) → IsSlicingEvents before after all (logged_runs vs) sent waiting
    → AllByRecursion (AreEventsFinal cut) vs → length (events_in all) < 2 ^ 55 → n ≤ length waiting + 512 * length (events_in (logged_runs_before cut vs)) → sent + n < 2 ^ 64
slicing_events_fit before after all cut vs sent n waiting u final few le = let bound = u.bound in omega (arith, count_cut cut vs final, bound, few, le)

-- no event is left: all that did not go out waits
pub IsSlicingEvents-ends : (before after : Option (List ℕ)) (all left : List EventRun) (sent : ℕ) (waiting : List ℕ) → IsSlicingEvents before after all left sent waiting → events_in left ≡ [] → Sends before after (logged_runs_text all) sent waiting
unfolding lines_of_events in_sequence
IsSlicingEvents-ends before after all left sent waiting u none =
    let lines : sequence_lines (events_in left) ≡ [] = ap (λ (es : List Event). lines_of_events (in_sequence es)) none in
    subst (λ (xs : List ℕ). Sends before after (logged_runs_text all) sent xs) (ap (λ (xs : List ℕ). waiting ++ xs) lines ∙ append-nil waiting) u.sends

-- ---- the names stay

abbrev run_views : List EventRun → List SwitchesView
run_views rs = map (λ r. r.run) rs

names_same : (cut : Option ℕ) (vs : List SlicedEventsView) (i : ℕ) → names_logged_by (logged_runs (logged_runs_from_cut cut vs)) i ≡ names_logged_by (logged_runs vs) i
names_same cut [] i = refl
names_same cut (v ∷ vs) zero = refl
names_same cut (v ∷ vs) (suc i) = names_same cut vs i

pub names_logged_cut : (cut : Option ℕ) (vs : List SlicedEventsView) → names_logged_by (logged_runs (logged_runs_from_cut cut vs)) ≡ names_logged_by (logged_runs vs)
names_logged_cut cut vs = λ k i. names_same cut vs i k

-- ---- the cut of some runs, and of one more

abbrev logged_of : List EventRun → List Event
logged_of rs = flat_map logged_events (map (λ r. r.logged) rs)

abbrev switches_of : List EventRun → List Event
switches_of rs = flat_map switch_events (map (λ r. r.run) rs)

logged_more : (cut : Option ℕ) (done : List SlicedEventsView) (v : SlicedEventsView) → length (logged_of (logged_runs_before cut (done ++ v ∷ []))) ≡ length (logged_of (logged_runs_before cut done)) + length (logged_events (logged_run_before cut v).logged)
logged_more cut [] v = omega (arith, length-append (logged_events (logged_run_before cut v).logged) [])
logged_more cut (q ∷ done) v =
    omega (arith, logged_more cut done v, length-append (logged_events (logged_run_before cut q).logged) (logged_of (logged_runs_before cut (done ++ v ∷ []))), length-append (logged_events (logged_run_before cut q).logged) (logged_of (logged_runs_before cut done)))

switches_more : (cut : Option ℕ) (done : List SlicedEventsView) (v : SlicedEventsView) → length (switches_of (logged_runs_before cut (done ++ v ∷ []))) ≡ length (switches_of (logged_runs_before cut done)) + length (switch_events (logged_run_before cut v).run)
switches_more cut [] v = omega (arith, length-append (switch_events (logged_run_before cut v).run) [])
switches_more cut (q ∷ done) v =
    omega (
      arith,
      switches_more cut done v,
      length-append (switch_events (logged_run_before cut q).run) (switches_of (logged_runs_before cut (done ++ v ∷ []))),
      length-append (switch_events (logged_run_before cut q).run) (switches_of (logged_runs_before cut done)),
    )

count_of : (rs : List EventRun) → length (events_in rs) ≡ length (logged_of rs) + length (switches_of rs)
count_of rs = length-append (logged_of rs) (switches_of rs)

count_more : (cut : Option ℕ) (done : List SlicedEventsView) (v : SlicedEventsView)
    → length (events_in (logged_runs_before cut (done ++ v ∷ []))) ≡ length (events_in (logged_runs_before cut done)) + (length (logged_events (logged_run_before cut v).logged) + length (switch_events (logged_run_before cut v).run))
count_more cut done v = omega (arith, count_of (logged_runs_before cut (done ++ v ∷ [])), count_of (logged_runs_before cut done), logged_more cut done v, switches_more cut done v)

late_time : (t time : ℕ) → t ≤ time → is_before_cut (Some t) time ≡ false
late_time t time h = grind (arith, nat_tests)

early_time : (t time : ℕ) → time < t → is_before_cut (Some t) time ≡ true
early_time t time h = grind (arith, nat_tests)

earlier_cut : (t u time : ℕ) → u ≤ t → is_before_cut (Some t) time ≡ false → is_before_cut (Some u) time ≡ false
earlier_cut t u time h late = grind (arith, nat_tests)

earlier_unlogged : (t u : ℕ) (h : Happened) → u ≤ t → is_logged_by t h ≡ false → is_logged_by u h ≡ false
earlier_unlogged t u h le late = grind (arith, nat_tests)

-- what a run logs when it has made more
pub record IsFilledUp (next : Option ℕ) (v : SlicedEventsView) : Type 0 where
  pub none : IfNone next (IsAllAtHand v)
  pub some : IfSome next (λ t. 0 < length v.at_hand + length v.logged)
  pub past : IfSome next (λ t. All (λ s. s.time < t) v.at_hand)
  pub logged : IfSome next (λ t. All (λ h. IsTrue (is_logged_by t h)) v.logged)
  pub later : IfSome next (λ t. All (λ s. t ≤ s.time) v.to_come)
  pub unlogged : IfSome next (λ t. All (λ h. is_logged_by t h ≡ false) v.to_log)
  pub lines : All (λ h. IsTrue (has_line h.what)) v.logged

final_none : (cut : Option ℕ) (v : SlicedEventsView) → IsAllAtHand v → AreEventsFinal cut v
final_none cut v none = record {
  switches = subst (λ (ss : List Switch). AllByRecursion (λ s. is_before_cut cut s.time ≡ false) ss) (sym none.switches) tt;
  logged = subst (λ (hs : List Happened). AllByRecursion (λ h. is_logged_before cut h ≡ false) hs) (sym none.logged) tt;
}

final_later : (t u : ℕ) (v : SlicedEventsView) → u ≤ t → All (λ s. t ≤ s.time) v.to_come → All (λ h. is_logged_by t h ≡ false) v.to_log → AreEventsFinal (Some u) v
final_later t u v h later unlogged = record {
  switches = AllByRecursion-weaker (λ (s : Switch). t ≤ s.time) (λ s. is_before_cut (Some u) s.time ≡ false) v.to_come (λ s q. late_time u s.time (omega (arith, h, q))) (recursion_from_All (λ (s : Switch). t ≤ s.time) v.to_come later);
  logged = AllByRecursion-weaker (λ (x : Happened). is_logged_by t x ≡ false) (λ x. is_logged_before (Some u) x ≡ false) v.to_log (λ x q. earlier_unlogged t u x h q) (recursion_from_All (λ (x : Happened). is_logged_by t x ≡ false) v.to_log unlogged);
}

final_earlier : (t u : ℕ) (done : List SlicedEventsView) → u ≤ t → AllByRecursion (AreEventsFinal (Some t)) done → AllByRecursion (AreEventsFinal (Some u)) done
final_earlier t u done h final =
    AllByRecursion-weaker (AreEventsFinal (Some t)) (AreEventsFinal (Some u)) done (λ v is. record {
      switches = AllByRecursion-weaker (λ (s : Switch). is_before_cut (Some t) s.time ≡ false) (λ s. is_before_cut (Some u) s.time ≡ false) v.to_come (λ s q. earlier_cut t u s.time h q) is.switches;
      logged = AllByRecursion-weaker (λ (x : Happened). is_logged_before (Some t) x ≡ false) (λ x. is_logged_before (Some u) x ≡ false) v.to_log (λ x q. earlier_unlogged t u x h q) is.logged;
    }) final

final_any : (u : ℕ) (done : List SlicedEventsView) → AllByRecursion (AreEventsFinal None) done → AllByRecursion (AreEventsFinal (Some u)) done
final_any u done final =
    AllByRecursion-weaker (AreEventsFinal None) (AreEventsFinal (Some u)) done (λ v is. record {
      switches = AllByRecursion-weaker (λ (s : Switch). true ≡ false) (λ s. is_before_cut (Some u) s.time ≡ false) v.to_come (λ s q. absurd (true≢false q)) is.switches;
      logged = AllByRecursion-weaker (λ (x : Happened). true ≡ false) (λ x. is_logged_before (Some u) x ≡ false) v.to_log (λ x q. absurd (true≢false q)) is.logged;
    }) final

-- all at hand is before the cut
hand_before : (t : ℕ) (v : SlicedEventsView) → 0 < length v.at_hand + length v.logged → All (λ s. s.time < t) v.at_hand → All (λ h. IsTrue (is_logged_by t h)) v.logged → All (λ h. IsTrue (has_line h.what)) v.logged
    → 0 < length (logged_events (logged_run_before (Some t) v).logged) + length (switch_events (logged_run_before (Some t) v).run)
hand_before t v some past logged lines =
    let switches = AllByRecursion-weaker (λ (s : Switch). s.time < t) (λ s. is_before_cut (Some t) s.time ≡ true) v.at_hand (λ s q. early_time t s.time q) (recursion_from_All (λ (s : Switch). s.time < t) v.at_hand past) in
    let before = recursion_from_All (λ (h : Happened). is_logged_by t h ≡ true) v.logged logged in
    let shown = recursion_from_All (λ (h : Happened). is_line_logged h ≡ true) v.logged lines in
    let all_logged : filter (is_logged_before (Some t)) v.logged ≡ v.logged = filter_every (is_logged_before (Some t)) v.logged before in
    let all_shown : filter is_line_logged (filter (is_logged_before (Some t)) v.logged) ≡ v.logged = ap (filter is_line_logged) all_logged ∙ filter_every is_line_logged v.logged shown in
    omega (
      arith,
      some,
      length-map (filter is_line_logged (filter (is_logged_before (Some t)) v.logged)) (logged_event (logged_run_before (Some t) v).logged),
      ap length all_shown,
      length-map (switches_before (Some t) v.at_hand) (switch_event (logged_run_before (Some t) v).run),
      ap length (filter_every (λ (s : Switch). is_before_cut (Some t) s.time) v.at_hand switches),
    )

pub AreEventsCutAt-start : AreEventsCutAt None []
AreEventsCutAt-start = record { final = tt; some = tt }

one_more : (cut : Option ℕ) (done : List SlicedEventsView) (v : SlicedEventsView) → AllByRecursion (AreEventsFinal cut) done → AreEventsFinal cut v → AllByRecursion (AreEventsFinal cut) (done ++ v ∷ [])
one_more cut done v final is = AllByRecursion-append (AreEventsFinal cut) done (v ∷ []) final (is, tt)

both_cut : (a b : ℕ) (c : Bool) (done : List SlicedEventsView) (v : SlicedEventsView) → ltb b a ≡ c → AreEventsCutAt (Some a) done → IsFilledUp (Some b) v → AreEventsCutAt (cond c (Some b) (Some a)) (done ++ v ∷ [])
both_cut a b true done v is so_far more =
    let less : b < a = ltb-true b a is in
    record {
      final = one_more (Some b) done v (final_earlier a b done (omega (arith, less)) so_far.final) (final_later b b v (omega arith) more.later more.unlogged);
      some = omega (arith, count_more (Some b) done v, hand_before b v more.some more.past more.logged more.lines);
    }
both_cut a b false done v is so_far more =
    let not_less : a ≤ b = ltb-false b a is in
    record {
      final = one_more (Some a) done v so_far.final (final_later b a v not_less more.later more.unlogged);
      some = omega (arith, count_more (Some a) done v, so_far.some);
    }

pub AreEventsCutAt-more : (cut next : Option ℕ) (done : List SlicedEventsView) (v : SlicedEventsView) → AreEventsCutAt cut done → IsFilledUp next v → AreEventsCutAt (earlier_of cut next) (done ++ v ∷ [])
AreEventsCutAt-more None None done v so_far more = record { final = one_more None done v so_far.final (final_none None v more.none); some = tt }
AreEventsCutAt-more None (Some b) done v so_far more = record {
  final = one_more (Some b) done v (final_any b done so_far.final) (final_later b b v (omega arith) more.later more.unlogged);
  some = omega (arith, count_more (Some b) done v, hand_before b v more.some more.past more.logged more.lines);
}
AreEventsCutAt-more (Some a) None done v so_far more = record {
  final = one_more (Some a) done v so_far.final (final_none (Some a) v more.none);
  some = omega (arith, count_more (Some a) done v, so_far.some);
}
AreEventsCutAt-more (Some a) (Some b) done v so_far more = both_cut a b (ltb b a) done v refl so_far more

-- ---- if there is no cut, all is at hand, and nothing is left after it

from_no_cut : (ss : List Switch) → switches_from_cut None ss ≡ []
from_no_cut [] = refl
from_no_cut (s ∷ ss) = from_no_cut ss

logged_no_cut : (hs : List Happened) → logged_from_cut None hs ≡ []
logged_no_cut [] = refl
logged_no_cut (h ∷ hs) = logged_no_cut hs

no_time : (ss : List Switch) → AllByRecursion (λ s. is_before_cut None s.time ≡ false) ss → ss ≡ []
no_time [] all = refl
no_time (s ∷ ss) all = absurd (true≢false all.0)

none_logged : (hs : List Happened) → AllByRecursion (λ h. is_logged_before None h ≡ false) hs → hs ≡ []
none_logged [] all = refl
none_logged (h ∷ hs) all = absurd (true≢false all.0)

no_switch_left : (vs : List SlicedEventsView) → AllByRecursion (AreEventsFinal None) vs → switches_of (logged_runs (logged_runs_from_cut None vs)) ≡ []
no_switch_left [] final = refl
no_switch_left (v ∷ vs) final =
    let here : switches_from_cut None v.at_hand ++ v.to_come ≡ [] = ap (λ (ss : List Switch). ss ++ v.to_come) (from_no_cut v.at_hand) ∙ no_time v.to_come final.0.switches in
    ap (λ (ss : List Switch). map (switch_event (whole_logged_run (logged_run_from_cut None v)).run) ss ++ switches_of (logged_runs (logged_runs_from_cut None vs))) here ∙ no_switch_left vs final.1

none_logged_left : (vs : List SlicedEventsView) → AllByRecursion (AreEventsFinal None) vs → logged_of (logged_runs (logged_runs_from_cut None vs)) ≡ []
none_logged_left [] final = refl
none_logged_left (v ∷ vs) final =
    let here : logged_from_cut None v.logged ++ v.to_log ≡ [] = ap (λ (hs : List Happened). hs ++ v.to_log) (logged_no_cut v.logged) ∙ none_logged v.to_log final.0.logged in
    ap (λ (hs : List Happened). map (logged_event (whole_logged_run (logged_run_from_cut None v)).logged) (filter is_line_logged hs) ++ logged_of (logged_runs (logged_runs_from_cut None vs))) here ∙ none_logged_left vs final.1

nothing_left : (vs : List SlicedEventsView) → AllByRecursion (AreEventsFinal None) vs → events_in (logged_runs (logged_runs_from_cut None vs)) ≡ []
nothing_left vs final =
    ap (λ (es : List Event). es ++ switches_of (logged_runs (logged_runs_from_cut None vs))) (none_logged_left vs final) ∙ no_switch_left vs final

-- ---- one round

-- fewer events are left, or it was the last one
pub events_smaller : (cut : Option ℕ) (has : Bool) (was : List EventRun) (full left : List SlicedEventsView) → AreEventsCutAt cut full → logged_runs full ≡ was → left ≡ logged_runs_from_cut cut full → has ≡ is_some cut
    → length (events_in (logged_runs left)) + cond {A = ℕ} has 1 0 < length (events_in was) + 1
events_smaller None has was full left at same is last =
    let flag : cond {A = ℕ} has 1 0 ≡ 0 = ap (λ (b : Bool). cond {A = ℕ} b 1 0) last in
    omega (arith, flag, count_cut None full at.final, ap (λ (rs : List EventRun). length (events_in rs)) same, ap (λ (rs : List SlicedEventsView). length (events_in (logged_runs rs))) is)
events_smaller (Some t) has was full left at same is last =
    let flag : cond {A = ℕ} has 1 0 ≡ 1 = ap (λ (b : Bool). cond {A = ℕ} b 1 0) last in
    omega (arith, flag, at.some, count_cut (Some t) full at.final, ap (λ (rs : List EventRun). length (events_in rs)) same, ap (λ (rs : List SlicedEventsView). length (events_in (logged_runs rs))) is)

pub events_last : (cut : Option ℕ) (has : Bool) (full left : List SlicedEventsView) → AllByRecursion (AreEventsFinal cut) full → left ≡ logged_runs_from_cut cut full → has ≡ is_some cut → has ≡ false → events_in (logged_runs left) ≡ []
events_last None has full left final is last none = ap (λ (vs : List SlicedEventsView). events_in (logged_runs vs)) is ∙ nothing_left full final
events_last (Some t) has full left final is last none = absurd (true≢false (sym last ∙ none))
