-- The trace of runs that goes out slice by slice.
use Rattle.std.proofs.Common.{◌≡◌, ℕ, zero, suc, ◌+◌, ◌*◌, ◌<◌, ◌≤◌, ◌^◌, Bool, true, false, cond, ltb, Option, Some, None, List, [], ◌∷◌, ◌++◌, length, map, refl, sym, ap, subst, ◌∙◌, append_assoc, append-nil, arith}
use Rattle.std.specs.Prelude.{All, IfNone, IfSome, is_some}
use Rattle.std.specs.List.{AllByRecursion}
use Rattle.std.proofs.KnownBytes.{Appends-nil}
use Rattle.std.proofs.lemmas.Bool.{ltb-true, ltb-false, true≢false}
use Rattle.std.proofs.lemmas.Bool.Decides.{nat_tests}
use Rattle.std.proofs.lemmas.Grind.{flat_map-append}
use Rattle.std.proofs.lemmas.List.{length-append, length-map, map-append}
use Rattle.std.proofs.lemmas.List.Elements.{recursion_from_All}
use Rattle.domain_run.specs.Switch.{Switch}
use Rattle.counted_io.specs.Faults.{TakesFront}
use Rattle.switch_text.specs.SlicedTrace.{SlicedView, whole_of, wholes, all_entries, with_gone, gone_of, AreEndsOf, IsStopped}
use Rattle.switch_text.specs.Trace.{SwitchesView, Entry, entry_of, entries_of, is_earlier, placed_in, entries_in_order, header, text_of_entries, trace_of}
use Rattle.switch_text.specs.private.Sending.{Sends}
use Rattle.switch_text.specs.private.Sliced.{lines_in, is_before_cut, switches_before, switches_from_cut, run_before, runs_before, run_from_cut, runs_from_cut, earlier_of, names_by, IsSplit, IsFinal, AreCutAt, IsSlicing}
use Rattle.switch_text.proofs.Cutting.{filter_every, lines_cut, count_cut}
use Rattle.switch_text.proofs.Order.{AllByRecursion-weaker, AllByRecursion-append}
use Rattle.switch_text.proofs.UnderWay.{sends_on, length-sent, length-header}
use Rattle.switch_text.proofs.Sliced.{front_more, stops_all, trace_is}

-- ---- what goes out

-- at first the header waits
pub IsSlicing-start : (before : Option (List ℕ)) (all : List SwitchesView) (waiting : List ℕ) → waiting ≡ header → IsSlicing before before all all 0 waiting
IsSlicing-start before all waiting is = record {
  sends = record {
    gone = [];
    taken = Appends-nil before;
    count = refl;
    whole = sym (trace_is waiting all is);
  };
  bound = omega (arith, ap length is, length-header);
}

-- the lines before the cut go out after what waits
pub IsSlicing-next : (before mid after : Option (List ℕ)) (all : List SwitchesView) (cut : Option ℕ) (rs : List SlicedView) (sent n : ℕ) (waiting left : List ℕ) → IsSlicing before mid all (wholes rs) sent waiting
    → AllByRecursion (IsFinal cut) rs → Sends mid after (waiting ++ lines_in (runs_before cut rs)) n left → n + length left ≤ length waiting + 512 * length (all_entries (runs_before cut rs))
    → IsSlicing before after all (wholes (runs_from_cut cut rs)) (sent + n) left
IsSlicing-next before mid after all cut rs sent n waiting left u final s short =
    let sends = subst (λ (xs : List ℕ). Sends before mid (trace_of all) sent (waiting ++ xs)) (lines_cut cut rs final) u.sends in
    let bound = u.bound in
    record {
      sends = sends_on before mid after (trace_of all) waiting (lines_in (runs_before cut rs)) (lines_in (wholes (runs_from_cut cut rs))) left sent n sends s;
      bound = omega (arith, count_cut cut rs final, bound, short);
    }

-- the writer fails in them
pub IsSlicing-stops : (before mid after : Option (List ℕ)) (all : List SwitchesView) (cut : Option ℕ) (rs : List SlicedView) (sent n : ℕ) (waiting : List ℕ) → IsSlicing before mid all (wholes rs) sent waiting
    → AllByRecursion (IsFinal cut) rs → TakesFront mid after (waiting ++ lines_in (runs_before cut rs)) n → TakesFront before after (trace_of all) (sent + n)
IsSlicing-stops before mid after all cut rs sent n waiting u final t =
    let here = lines_in (runs_before cut rs) in
    let more = lines_in (wholes (runs_from_cut cut rs)) in
    let whole : (waiting ++ here) ++ more ≡ waiting ++ lines_in (wholes rs)
    = append_assoc waiting here more ∙ ap (λ (xs : List ℕ). waiting ++ xs) (sym (lines_cut cut rs final)) in
    stops_all before mid after (trace_of all) (waiting ++ lines_in (wholes rs)) sent n u.sends
    (subst (λ (xs : List ℕ). TakesFront mid after xs n) whole (front_more mid after (waiting ++ here) more n t))

-- what goes out is counted below 2^64, also where the writer fails
pub slicing_fits : (before after : Option (List ℕ)) (all : List SwitchesView) (cut : Option ℕ) (rs : List SlicedView) (sent n : ℕ) (waiting : List ℕ) → IsSlicing before after all (wholes rs) sent waiting
    → AllByRecursion (IsFinal cut) rs → length (all_entries all) ≤ 2 ^ 54 → n ≤ length waiting + 512 * length (all_entries (runs_before cut rs)) → sent + n < 2 ^ 64
slicing_fits before after all cut rs sent n waiting u final few le = let bound = u.bound in omega (arith, count_cut cut rs final, bound, few, le)

-- no entry is left: all that did not go out waits
pub IsSlicing-ends : (before after : Option (List ℕ)) (all left : List SwitchesView) (sent : ℕ) (waiting : List ℕ) → IsSlicing before after all left sent waiting → all_entries left ≡ [] → Sends before after (trace_of all) sent waiting
unfolding text_of_entries entries_in_order
IsSlicing-ends before after all left sent waiting u none =
    let lines : lines_in left ≡ [] = ap (λ (es : List Entry). text_of_entries (entries_in_order es)) none in
    subst (λ (xs : List ℕ). Sends before after (trace_of all) sent xs) (ap (λ (xs : List ℕ). waiting ++ xs) lines ∙ append-nil waiting) u.sends

-- ---- how much is gone

text_more : (e : Entry) (es : List Entry) → length (text_of_entries (e ∷ es)) ≡ length e.line + length (text_of_entries es)
unfolding text_of_entries
text_more e es = length-append e.line (text_of_entries es)

text_placed : (e : Entry) (es : List Entry) → length (text_of_entries (placed_in e es)) ≡ length e.line + length (text_of_entries es)
text_placed e [] = text_more e []
text_placed e (f ∷ fs) =
    let more = text_placed e fs in
    elim (is_earlier f e) as (λ b. length (text_of_entries (cond b (f ∷ placed_in e fs) (e ∷ f ∷ fs))) ≡ length e.line + length (text_of_entries (f ∷ fs)))
    [ true ↦ omega (arith, text_more f (placed_in e fs), text_more f fs, more) | false ↦ text_more e (f ∷ fs) ]

-- the order does not change how long the text is
text_in_order : (es : List Entry) → length (text_of_entries (entries_in_order es)) ≡ length (text_of_entries es)
unfolding entries_in_order
text_in_order [] = refl
text_in_order (e ∷ es) = omega (arith, text_placed e (entries_in_order es), text_in_order es, text_more e es)

text_both : (es fs : List Entry) → length (text_of_entries (es ++ fs)) ≡ length (text_of_entries es) + length (text_of_entries fs)
unfolding text_of_entries
text_both es fs = ap length (flat_map-append (λ (e : Entry). e.line) es fs) ∙ length-append (text_of_entries es) (text_of_entries fs)

text_of_none : length (text_of_entries []) ≡ 0
unfolding text_of_entries
text_of_none = refl

-- the entries of a run with more switches before its own
entries_both : (r : SwitchesView) (g : List Switch) → entries_of (record { base = r.base; names = r.names; switches = g ++ r.switches }) ≡ map (entry_of r) g ++ entries_of r
entries_both r g = map-append (entry_of r) g r.switches

gone_and_left : (gone : List (List Switch)) (left : List SwitchesView)
    → length (text_of_entries (all_entries (with_gone gone left))) ≡ length (text_of_entries (all_entries (gone_of gone left))) + length (text_of_entries (all_entries left))
gone_and_left [] left = omega (arith, text_of_none)
gone_and_left (g ∷ gone) [] = omega (arith, text_of_none)
gone_and_left (g ∷ gone) (r ∷ rs) =
    let here = map (entry_of r) g in
    let whole : entries_of (record { base = r.base; names = r.names; switches = g ++ r.switches }) ≡ here ++ entries_of r = entries_both r g in
    let first = ap (λ (es : List Entry). length (text_of_entries es)) whole in
    omega (
      arith,
      text_both (entries_of (record { base = r.base; names = r.names; switches = g ++ r.switches })) (all_entries (with_gone gone rs)),
      first,
      text_both here (entries_of r),
      text_both here (all_entries (gone_of gone rs)),
      text_both (entries_of r) (all_entries rs),
      gone_and_left gone rs,
    )

trace_length : (rs : List SwitchesView) → length (trace_of rs) ≡ 14 + length (text_of_entries (all_entries rs))
trace_length rs = omega (arith, ap length (trace_is header rs refl), length-append header (lines_in rs), length-header, text_in_order (all_entries rs))

-- at a fault the runs are made no further
pub IsStopped-here : (before after : Option (List ℕ)) (all left : List SwitchesView) (sent n written : ℕ) (waiting : List ℕ) → IsSlicing before after all left sent waiting
    → AreEndsOf all left → length waiting ≤ 65536 → written ≡ sent + n → IsStopped all left written
IsStopped-here before after all left sent n written waiting u ends room is =
    let text = length-sent before after (trace_of all) (waiting ++ lines_in left) sent u.sends in
    let whole = ap (λ (rs : List SwitchesView). length (text_of_entries (all_entries rs))) ends.is in
    record {
      ends = ends;
      near = omega (
        arith,
        text,
        length-append waiting (lines_in left),
        text_in_order (all_entries left),
        trace_length all,
        whole,
        gone_and_left ends.gone left,
        trace_length (gone_of ends.gone left),
        room,
        is,
      );
    }

-- ---- what is left is an end of each run

-- with more that is gone
abbrev more_gone : List (List Switch) → List (List Switch) → List (List Switch)
more_gone [] more = more
more_gone (g ∷ gone) [] = g ∷ gone
more_gone (g ∷ gone) (m ∷ more) = (g ++ m) ∷ more_gone gone more

abbrev hands_before : Option ℕ → List SlicedView → List (List Switch)
hands_before cut rs = map (λ r. switches_before cut r.at_hand) rs

whole_split : (cut : Option ℕ) (r : SlicedView) → IsSplit cut r → r.at_hand ++ r.to_come ≡ switches_before cut r.at_hand ++ (switches_from_cut cut r.at_hand ++ r.to_come)
whole_split cut r is = ap (λ (ss : List Switch). ss ++ r.to_come) is ∙ append_assoc (switches_before cut r.at_hand) (switches_from_cut cut r.at_hand) r.to_come

abbrev run_with : ℕ → (ℕ → List ℕ) → List Switch → SwitchesView
run_with base names switches = record { base = base; names = names; switches = switches }

gone_on : (cut : Option ℕ) (gone : List (List Switch)) (rs : List SlicedView) → AllByRecursion (IsSplit cut) rs → with_gone gone (wholes rs) ≡ with_gone (more_gone gone (hands_before cut rs)) (wholes (runs_from_cut cut rs))
gone_on cut [] [] split = refl
gone_on cut [] (r ∷ rs) split =
    ap (λ (ss : List Switch). run_with r.base r.names ss ∷ wholes rs) (whole_split cut r split.0)
    ∙ ap (λ (more : List SwitchesView). run_with r.base r.names (switches_before cut r.at_hand ++ (switches_from_cut cut r.at_hand ++ r.to_come)) ∷ more) (gone_on cut [] rs split.1)
gone_on cut (g ∷ gone) [] split = refl
gone_on cut (g ∷ gone) (r ∷ rs) split =
    let front = switches_before cut r.at_hand in
    let back = switches_from_cut cut r.at_hand ++ r.to_come in
    ap (λ (ss : List Switch). run_with r.base r.names ss ∷ with_gone gone (wholes rs)) (ap (λ (ss : List Switch). g ++ ss) (whole_split cut r split.0) ∙ sym (append_assoc g front back))
    ∙ ap (λ (more : List SwitchesView). run_with r.base r.names ((g ++ front) ++ back) ∷ more) (gone_on cut gone rs split.1)

pub AreEndsOf-all : (all : List SwitchesView) → AreEndsOf all all
AreEndsOf-all all = record { gone = []; is = refl }

pub AreEndsOf-next : (cut : Option ℕ) (all : List SwitchesView) (rs : List SlicedView) → AllByRecursion (IsSplit cut) rs → AreEndsOf all (wholes rs) → AreEndsOf all (wholes (runs_from_cut cut rs))
AreEndsOf-next cut all rs split ends = record { gone = more_gone ends.gone (hands_before cut rs); is = ends.is ∙ gone_on cut ends.gone rs split }

-- ---- the names stay

names_same : (cut : Option ℕ) (rs : List SlicedView) (i : ℕ) → names_by (wholes (runs_from_cut cut rs)) i ≡ names_by (wholes rs) i
names_same cut [] i = refl
names_same cut (r ∷ rs) zero = refl
names_same cut (r ∷ rs) (suc i) = names_same cut rs i

pub names_cut : (cut : Option ℕ) (rs : List SlicedView) → names_by (wholes (runs_from_cut cut rs)) ≡ names_by (wholes rs)
names_cut cut rs = λ k i. names_same cut rs i k

-- ---- the cut of some runs, and of one more

count_more : (cut : Option ℕ) (done : List SlicedView) (r : SlicedView) → length (all_entries (runs_before cut (done ++ r ∷ []))) ≡ length (all_entries (runs_before cut done)) + length (switches_before cut r.at_hand)
count_more cut [] r = omega (arith, length-append (entries_of (run_before cut r)) [], length-map (switches_before cut r.at_hand) (entry_of (run_before cut r)))
count_more cut (q ∷ done) r =
    omega (arith, count_more cut done r, length-append (entries_of (run_before cut q)) (all_entries (runs_before cut (done ++ r ∷ []))), length-append (entries_of (run_before cut q)) (all_entries (runs_before cut done)))

late_time : (t time : ℕ) → t ≤ time → is_before_cut (Some t) time ≡ false
late_time t time h = grind (arith, nat_tests)

early_time : (t time : ℕ) → time < t → is_before_cut (Some t) time ≡ true
early_time t time h = grind (arith, nat_tests)

earlier_cut : (t u time : ℕ) → u ≤ t → is_before_cut (Some t) time ≡ false → is_before_cut (Some u) time ≡ false
earlier_cut t u time h late = grind (arith, nat_tests)

final_none : (cut : Option ℕ) (r : SlicedView) → r.to_come ≡ [] → IsFinal cut r
final_none cut r none = subst (λ (ss : List Switch). AllByRecursion (λ s. is_before_cut cut s.time ≡ false) ss) (sym none) tt

final_later : (t u : ℕ) (r : SlicedView) → u ≤ t → All (λ s. t ≤ s.time) r.to_come → IsFinal (Some u) r
final_later t u r h later = AllByRecursion-weaker (λ (s : Switch). t ≤ s.time) (λ s. is_before_cut (Some u) s.time ≡ false) r.to_come (λ s q. late_time u s.time (omega (arith, h, q))) (recursion_from_All (λ (s : Switch). t ≤ s.time) r.to_come later)

final_earlier : (t u : ℕ) (done : List SlicedView) → u ≤ t → AllByRecursion (IsFinal (Some t)) done → AllByRecursion (IsFinal (Some u)) done
final_earlier t u done h final =
    AllByRecursion-weaker (IsFinal (Some t)) (IsFinal (Some u)) done
    (λ r is. AllByRecursion-weaker (λ (s : Switch). is_before_cut (Some t) s.time ≡ false) (λ s. is_before_cut (Some u) s.time ≡ false) r.to_come (λ s q. earlier_cut t u s.time h q) is) final

final_any : (u : ℕ) (done : List SlicedView) → AllByRecursion (IsFinal None) done → AllByRecursion (IsFinal (Some u)) done
final_any u done final =
    AllByRecursion-weaker (IsFinal None) (IsFinal (Some u)) done
    (λ r is. AllByRecursion-weaker (λ (s : Switch). true ≡ false) (λ s. is_before_cut (Some u) s.time ≡ false) r.to_come (λ s q. absurd (true≢false q)) is) final

-- all at hand is before the cut
hand_before : (t : ℕ) (r : SlicedView) → 0 < length r.at_hand → All (λ s. s.time < t) r.at_hand → 0 < length (switches_before (Some t) r.at_hand)
hand_before t r some past =
    let all = AllByRecursion-weaker (λ (s : Switch). s.time < t) (λ s. is_before_cut (Some t) s.time ≡ true) r.at_hand (λ s q. early_time t s.time q) (recursion_from_All (λ (s : Switch). s.time < t) r.at_hand past) in
    omega (arith, some, ap length (filter_every (λ (s : Switch). is_before_cut (Some t) s.time) r.at_hand all))

-- what a run logs when it has made more
pub record IsFilled (next : Option ℕ) (r : SlicedView) : Type 0 where
  pub none : IfNone next (r.to_come ≡ [])
  pub some : IfSome next (λ t. 0 < length r.at_hand)
  pub past : IfSome next (λ t. All (λ s. s.time < t) r.at_hand)
  pub later : IfSome next (λ t. All (λ s. t ≤ s.time) r.to_come)

pub AreCutAt-start : AreCutAt None []
AreCutAt-start = record { final = tt; some = tt }

one_more : (cut : Option ℕ) (done : List SlicedView) (r : SlicedView) → AllByRecursion (IsFinal cut) done → IsFinal cut r → AllByRecursion (IsFinal cut) (done ++ r ∷ [])
one_more cut done r final is = AllByRecursion-append (IsFinal cut) done (r ∷ []) final (is, tt)

both_cut : (a b : ℕ) (c : Bool) (done : List SlicedView) (r : SlicedView) → ltb b a ≡ c → AreCutAt (Some a) done → IsFilled (Some b) r → AreCutAt (cond c (Some b) (Some a)) (done ++ r ∷ [])
both_cut a b true done r is so_far more =
    let less : b < a = ltb-true b a is in
    record {
      final = one_more (Some b) done r (final_earlier a b done (omega (arith, less)) so_far.final) (final_later b b r (omega arith) more.later);
      some = omega (arith, count_more (Some b) done r, hand_before b r more.some more.past);
    }
both_cut a b false done r is so_far more =
    let not_less : a ≤ b = ltb-false b a is in
    record {
      final = one_more (Some a) done r so_far.final (final_later b a r not_less more.later);
      some = omega (arith, count_more (Some a) done r, so_far.some);
    }

pub AreCutAt-more : (cut next : Option ℕ) (done : List SlicedView) (r : SlicedView) → AreCutAt cut done → IsFilled next r → AreCutAt (earlier_of cut next) (done ++ r ∷ [])
AreCutAt-more None None done r so_far more = record { final = one_more None done r so_far.final (final_none None r more.none); some = tt }
AreCutAt-more None (Some b) done r so_far more = record {
  final = one_more (Some b) done r (final_any b done so_far.final) (final_later b b r (omega arith) more.later);
  some = omega (arith, count_more (Some b) done r, hand_before b r more.some more.past);
}
AreCutAt-more (Some a) None done r so_far more = record {
  final = one_more (Some a) done r so_far.final (final_none (Some a) r more.none);
  some = omega (arith, count_more (Some a) done r, so_far.some);
}
AreCutAt-more (Some a) (Some b) done r so_far more = both_cut a b (ltb b a) done r refl so_far more

-- ---- where there is no cut, all is at hand, and nothing is left after it

from_no_cut : (ss : List Switch) → switches_from_cut None ss ≡ []
from_no_cut [] = refl
from_no_cut (s ∷ ss) = from_no_cut ss

no_time : (ss : List Switch) → AllByRecursion (λ s. is_before_cut None s.time ≡ false) ss → ss ≡ []
no_time [] all = refl
no_time (s ∷ ss) all = absurd (true≢false all.0)

pub nothing_left : (rs : List SlicedView) → AllByRecursion (IsFinal None) rs → all_entries (wholes (runs_from_cut None rs)) ≡ []
nothing_left [] final = refl
nothing_left (r ∷ rs) final =
    let here : switches_from_cut None r.at_hand ++ r.to_come ≡ [] = ap (λ (ss : List Switch). ss ++ r.to_come) (from_no_cut r.at_hand) ∙ no_time r.to_come final.0 in
    ap (λ (ss : List Switch). map (entry_of (whole_of (run_from_cut None r))) ss ++ all_entries (wholes (runs_from_cut None rs))) here ∙ nothing_left rs final.1

-- ---- one round

-- fewer entries are left, or it was the last one
pub round_smaller : (cut : Option ℕ) (has : Bool) (was : List SwitchesView) (full left : List SlicedView) → AreCutAt cut full → wholes full ≡ was → left ≡ runs_from_cut cut full → has ≡ is_some cut
    → length (all_entries (wholes left)) + cond {A = ℕ} has 1 0 < length (all_entries was) + 1
round_smaller None has was full left at same is last =
    let flag : cond {A = ℕ} has 1 0 ≡ 0 = ap (λ (b : Bool). cond {A = ℕ} b 1 0) last in
    omega (arith, flag, count_cut None full at.final, ap (λ (rs : List SwitchesView). length (all_entries rs)) same, ap (λ (rs : List SlicedView). length (all_entries (wholes rs))) is)
round_smaller (Some t) has was full left at same is last =
    let flag : cond {A = ℕ} has 1 0 ≡ 1 = ap (λ (b : Bool). cond {A = ℕ} b 1 0) last in
    omega (arith, flag, at.some, count_cut (Some t) full at.final, ap (λ (rs : List SwitchesView). length (all_entries rs)) same, ap (λ (rs : List SlicedView). length (all_entries (wholes rs))) is)

pub round_last : (cut : Option ℕ) (has : Bool) (full left : List SlicedView) → AllByRecursion (IsFinal cut) full → left ≡ runs_from_cut cut full → has ≡ is_some cut → has ≡ false → all_entries (wholes left) ≡ []
round_last None has full left final is last none = ap (λ (rs : List SlicedView). all_entries (wholes rs)) is ∙ nothing_left full final
round_last (Some t) has full left final is last none = absurd (true≢false (sym last ∙ none))
