-- Several runs at once: what is left of each, and that its first entry comes next where its head
-- wins.
use Rattle.std.proofs.Common.{◌≡◌, ◌≢◌, ℕ, zero, suc, ◌+◌, ◌-◌, ◌^◌, ◌<◌, ◌≤◌, true, false, List, [], ◌∷◌, ◌++◌, length, map, drop, replicate, set, get_or, refl, sym, ap, subst, ◌∙◌, append_assoc, arith, inl, inr}
use Rattle.std.specs.Prelude.{All}
use Rattle.std.specs.List.{AllByRecursion}
use Rattle.std.proofs.lemmas.Bool.{cases_lt, cases_eq}
use Rattle.std.proofs.lemmas.Bool.Decides.{nat_tests}
use Rattle.std.proofs.lemmas.List.{length-map, length-set, get_or-map, get_or-replicate, get_or-set_same, drop-map, drop_more, drop_all}
use Rattle.std.proofs.lemmas.List.Elements.{recursion_from_All}
use Rattle.domain_run.specs.Switch.{Switch}
use Rattle.switch_text.specs.declared.run.Run.{Run}
use Rattle.switch_text.specs.declared.merge.Next.{Next}
use Rattle.switch_text.specs.declared.merge.Merge.{Merge}
use Rattle.switch_text.specs.declared.heads.Head.{Head}
use Rattle.switch_text.specs.Names.{HasLine}
use Rattle.switch_text.specs.Trace.{SwitchesView, Entry, entry_of, entries_of, is_earlier, entries_in_order}
use Rattle.switch_text.specs.Runs.{switches_view_of, views, IsPrintable}
use Rattle.switch_text.specs.private.Merging.{entries_left, places_stepped, IsEntryAhead, IsNextOf, next_entry}
use Rattle.switch_text.specs.private.Winning.{no_head, head_of, is_head_sooner, head_in, Wins, left_at, AreHeads, IsMerge}
use Rattle.switch_text.proofs.CallerLemmas.{IsRising, IsRising-map}
use Rattle.switch_text.proofs.Order.{AllByRecursion-weaker, AllByRecursion-append, earlier_trans, not_later_trans, not_later-from_earlier, in_order-first}
use Rattle.switch_text.proofs.Winning.{head_set_same, head_set_other}

-- ---- what is left of each run

-- the first entry from a place on, and the others
entries_from : (r : SwitchesView) (p : ℕ) (s : Switch) → p < length r.switches → s ≡ get_or r.switches p s → drop p (entries_of r) ≡ entry_of r s ∷ drop (p + 1) (entries_of r)
entries_from r p s lt is =
    let here : drop p r.switches ≡ s ∷ drop (p + 1) r.switches = drop_more r.switches p s lt ∙ ap (λ (x : Switch). x ∷ drop (p + 1) r.switches) (sym is) in
    drop-map (entry_of r) p r.switches ∙ ap (map (entry_of r)) here ∙ ap (λ (es : List Entry). entry_of r s ∷ es) (sym (drop-map (entry_of r) (p + 1) r.switches))

pub none_from : (r : SwitchesView) (p : ℕ) → length r.switches ≤ p → drop p (entries_of r) ≡ []
none_from r p le = drop_all p (entries_of r) (omega (arith, length-map r.switches (entry_of r)))

pub left_at-is : (runs : List SwitchesView) (places : List ℕ) (i : ℕ) (r : SwitchesView) → i < length runs → i < length places → r ≡ get_or runs i r → left_at runs places i ≡ drop (get_or places i 0) (entries_of r)
left_at-is [] places i r h h' is = absurd (omega arith)
left_at-is (x ∷ xs) [] i r h h' is = absurd (omega arith)
left_at-is (x ∷ xs) (p ∷ ps) zero r h h' is = ap (λ (v : SwitchesView). drop p (entries_of v)) (sym is)
left_at-is (x ∷ xs) (p ∷ ps) (suc i) r h h' is = left_at-is xs ps i r (omega arith) (omega arith) is

pub left_at-past : (runs : List SwitchesView) (places : List ℕ) (i : ℕ) → length runs ≤ i → left_at runs places i ≡ []
left_at-past [] places i h = refl
left_at-past (x ∷ xs) [] i h = refl
left_at-past (x ∷ xs) (p ∷ ps) zero h = absurd (omega arith)
left_at-past (x ∷ xs) (p ∷ ps) (suc i) h = left_at-past xs ps i (omega arith)

pub left_at-set_other : (runs : List SwitchesView) (places : List ℕ) (i v j : ℕ) → j ≢ i → left_at runs (set places i v) j ≡ left_at runs places j
left_at-set_other [] places i v j apart = refl
left_at-set_other (x ∷ xs) [] i v j apart = refl
left_at-set_other (x ∷ xs) (p ∷ ps) zero v zero apart = absurd (apart refl)
left_at-set_other (x ∷ xs) (p ∷ ps) zero v (suc j) apart = refl
left_at-set_other (x ∷ xs) (p ∷ ps) (suc i) v zero apart = refl
left_at-set_other (x ∷ xs) (p ∷ ps) (suc i) v (suc j) apart = left_at-set_other xs ps i v j (λ e. apart (ap suc e))

all_left : (P : Entry → Type 0) (runs : List SwitchesView) (places : List ℕ) → ((j : ℕ) → AllByRecursion P (left_at runs places j)) → AllByRecursion P (entries_left runs places)
all_left P [] places h = tt
all_left P (r ∷ rs) [] h = tt
all_left P (r ∷ rs) (p ∷ ps) h = AllByRecursion-append P (drop p (entries_of r)) (entries_left rs ps) (h 0) (all_left P rs ps (λ j. h (suc j)))

none_left : (runs : List SwitchesView) (places : List ℕ) → ((j : ℕ) → left_at runs places j ≡ []) → entries_left runs places ≡ []
none_left [] places h = refl
none_left (r ∷ rs) [] h = refl
none_left (r ∷ rs) (p ∷ ps) h = ap (λ (es : List Entry). es ++ entries_left rs ps) (h 0) ∙ none_left rs ps (λ j. h (suc j))

-- the first entry that is left of a run is the next of all, where it is earlier than all that is
-- left of the runs before it, and not later than what is left of those after it
ahead_at : (runs : List SwitchesView) (places : List ℕ) (i : ℕ) (e : Entry) (rest : List Entry) → left_at runs places i ≡ e ∷ rest → left_at runs (places_stepped places i) i ≡ rest → AllByRecursion (λ x. is_earlier x e ≡ false) rest
    → ((j : ℕ) → j < i → AllByRecursion (λ x. is_earlier e x ≡ true) (left_at runs places j)) → ((j : ℕ) → i < j → AllByRecursion (λ x. is_earlier x e ≡ false) (left_at runs places j)) → IsEntryAhead runs places i e
ahead_at [] places i e rest here next not_later before following = absurd cc
ahead_at (r ∷ rs) [] i e rest here next not_later before following = absurd cc
ahead_at (r ∷ rs) (p ∷ ps) zero e rest here next not_later before following =
    let others = all_left (λ x. is_earlier x e ≡ false) rs ps (λ j. following (suc j) (omega arith)) in
    record {
      before = [];
      after = rest ++ entries_left rs ps;
      inside = omega arith;
      split = ap (λ (es : List Entry). es ++ entries_left rs ps) here;
      moved = ap (λ (es : List Entry). es ++ entries_left rs ps) next;
      earlier = tt;
      not_later = AllByRecursion-append (λ x. is_earlier x e ≡ false) rest (entries_left rs ps) not_later others;
    }
ahead_at (r ∷ rs) (p ∷ ps) (suc i) e rest here next not_later before following =
    let a = ahead_at rs ps i e rest here next not_later (λ j lt. before (suc j) (omega (arith, lt))) (λ j gt. following (suc j) (omega (arith, gt))) in
    let front = drop p (entries_of r) in
    let inside : i < length rs = a.inside in
    record {
      before = front ++ a.before;
      after = a.after;
      inside = omega (arith, inside);
      split = ap (λ (es : List Entry). front ++ es) a.split ∙ sym (append_assoc front a.before (e ∷ a.after));
      moved = ap (λ (es : List Entry). front ++ es) a.moved ∙ sym (append_assoc front a.before a.after);
      earlier = AllByRecursion-append (λ x. is_earlier e x ≡ true) front a.before (before 0 (omega arith)) a.earlier;
      not_later = a.not_later;
    }

-- ---- what is left rises, and is early

IsRising-drop : (n : ℕ) (es : List Entry) → IsRising es → IsRising (drop n es)
IsRising-drop zero es h = h
IsRising-drop (suc n) [] h = h
IsRising-drop (suc n) (e ∷ es) h = IsRising-drop n es h.1

rising_at : (runs : List Run) (places : List ℕ) (i : ℕ) → AllByRecursion IsPrintable runs → IsRising (left_at (views runs) places i)
rising_at [] places i all = tt
rising_at (r ∷ rs) [] i all = tt
rising_at (r ∷ rs) (p ∷ ps) zero all = IsRising-drop p (entries_of (switches_view_of r)) (IsRising-map (switches_view_of r) r.switches.now all.0.rising)
rising_at (r ∷ rs) (p ∷ ps) (suc i) all = rising_at rs ps i all.1

abbrev IsEarly : Entry → Type 0
IsEarly e = e.time < 2 ^ 42

early_map : (r : Run) (ss : List Switch) → AllByRecursion (HasLine r.names.now r.base) ss → AllByRecursion IsEarly (map (entry_of (switches_view_of r)) ss)
early_map r [] all = tt
early_map r (s ∷ ss) all = (all.0.time, early_map r ss all.1)

early_drop : (n : ℕ) (es : List Entry) → AllByRecursion IsEarly es → AllByRecursion IsEarly (drop n es)
early_drop zero es h = h
early_drop (suc n) [] h = h
early_drop (suc n) (e ∷ es) h = early_drop n es h.1

early_run : (r : Run) → IsPrintable r → AllByRecursion IsEarly (entries_of (switches_view_of r))
early_run r run = early_map r r.switches.now (recursion_from_All (HasLine r.names.now r.base) r.switches.now run.lines)

early_at : (runs : List Run) (places : List ℕ) (i : ℕ) → AllByRecursion IsPrintable runs → AllByRecursion IsEarly (left_at (views runs) places i)
early_at [] places i all = tt
early_at (r ∷ rs) [] i all = tt
early_at (r ∷ rs) (p ∷ ps) zero all = early_drop p (entries_of (switches_view_of r)) (early_run r all.0)
early_at (r ∷ rs) (p ∷ ps) (suc i) all = early_at rs ps i all.1

-- ---- what heads say of entries

-- where the first of a run is not earlier, none of it is
run_not_earlier : (e h : Entry) (rest : List Entry) → is_earlier h e ≡ false → AllByRecursion (λ x. is_earlier h x ≡ true) rest → AllByRecursion (λ x. is_earlier x e ≡ false) (h ∷ rest)
run_not_earlier e h rest le rising = (le, AllByRecursion-weaker (λ x. is_earlier h x ≡ true) (λ x. is_earlier x e ≡ false) rest (λ x q. not_later_trans e h x le q) rising)

-- where the winner is so late, nothing is left of a run before it
none_before : (es : List Entry) (h : Head) → AllByRecursion IsEarly es → h.time ≡ 2 ^ 64 - 1 → is_head_sooner h (head_of es) ≡ true → es ≡ []
none_before [] h all late s = refl
none_before (e ∷ es) h all late s =
    let early : e.time < 2 ^ 42 = all.0 in
    let no : is_head_sooner h (record { time = e.time; cpu = e.cpu }) ≡ false = grind (arith, nat_tests) in
    absurd cc

none_later : (es : List Entry) (h : Head) → AllByRecursion IsEarly es → h.time ≡ 2 ^ 64 - 1 → is_head_sooner (head_of es) h ≡ false → es ≡ []
none_later [] h all late s = refl
none_later (e ∷ es) h all late s =
    let early : e.time < 2 ^ 42 = all.0 in
    let yes : is_head_sooner (record { time = e.time; cpu = e.cpu }) h ≡ true = grind (arith, nat_tests) in
    absurd cc

earlier_by_head : (e : Entry) (es : List Entry) → IsRising es → is_head_sooner (record { time = e.time; cpu = e.cpu }) (head_of es) ≡ true → AllByRecursion (λ x. is_earlier e x ≡ true) es
earlier_by_head e [] rise s = tt
earlier_by_head e (x ∷ xs) rise s = (s, AllByRecursion-weaker (λ y. is_earlier x y ≡ true) (λ y. is_earlier e y ≡ true) xs (λ y q. earlier_trans e x y s q) rise.0)

not_later_by_head : (e : Entry) (es : List Entry) → IsRising es → is_head_sooner (head_of es) (record { time = e.time; cpu = e.cpu }) ≡ false → AllByRecursion (λ x. is_earlier x e ≡ false) es
not_later_by_head e [] rise s = tt
not_later_by_head e (x ∷ xs) rise s = run_not_earlier e x xs s rise.0

-- ---- the winner

none_at : (runs : List Run) (m : Merge) → length runs ≤ 8 → All IsPrintable runs → AreHeads (views runs) m → left_at (views runs) m.places m.heads.first ≡ [] → (j : ℕ) → left_at (views runs) m.places j ≡ []
none_at runs m few all are none j = elim (cases_lt j 8) [
  | inr past ↦ left_at-past (views runs) m.places j (omega (arith, length-map runs switches_view_of, few, past))
  | inl inside ↦
      let w = are.tree.first in
      let top = head_in m.heads.heads m.heads.first in
      let late : top.time ≡ 2 ^ 64 - 1 = ap (λ (h : Head). h.time) (are.heads m.heads.first w.high ∙ ap head_of none) in
      let es = left_at (views runs) m.places j in
      let early = early_at runs m.places j (recursion_from_All IsPrintable runs all) in
      elim (cases_lt j m.heads.first) [
        | inl less ↦ none_before es top early late (subst (λ (h : Head). is_head_sooner top h ≡ true) (are.heads j inside) (w.before j (omega arith) less))
        | inr more ↦ none_later es top early late (subst (λ (h : Head). is_head_sooner h top ≡ false) (are.heads j inside) (w.following j more inside))
      ]
]

-- of one run alone
none_alone : (runs : List Run) (places : List ℕ) → length runs ≤ 1 → left_at (views runs) places 0 ≡ [] → (j : ℕ) → left_at (views runs) places j ≡ []
none_alone runs places one none j = elim (cases_lt 0 j) [
  | inl later ↦ left_at-past (views runs) places j (omega (arith, length-map runs switches_view_of, one, later))
  | inr first ↦
      let same : 0 ≡ j = omega (arith, first) in
      subst (λ (k : ℕ). left_at (views runs) places k ≡ []) same none
]

-- nothing is left where nothing is left of the winner
pub found_none : (runs : List Run) (m : Merge) → length runs ≤ 8 → All IsPrintable runs → IsMerge (views runs) m → left_at (views runs) m.places m.heads.first ≡ [] → entries_left (views runs) m.places ≡ []
found_none runs m few all merge none = elim (cases_lt 1 (length runs)) [
  | inl several ↦ none_left (views runs) m.places (none_at runs m few all (merge.several (omega (arith, length-map runs switches_view_of, several))) none)
  | inr one ↦
      let zero_is = merge.alone (omega (arith, length-map runs switches_view_of, one)) in
      none_left (views runs) m.places (none_alone runs m.places one (subst (λ (k : ℕ). left_at (views runs) m.places k ≡ []) zero_is none))
]

-- a run among the runs, and its place
pub record IsPlaced (runs : List Run) (places : List ℕ) (i : ℕ) (run : Run) : Type 0 where
  pub inside : i < length runs
  pub room : i < length places
  pub is : run ≡ get_or runs i run

pub left_placed : (runs : List Run) (places : List ℕ) (i : ℕ) (run : Run) → IsPlaced runs places i run → left_at (views runs) places i ≡ drop (get_or places i 0) (entries_of (switches_view_of run))
left_placed runs places i run at =
    let inside : i < length runs = at.inside in
    left_at-is (views runs) places i (switches_view_of run) (omega (arith, length-map runs switches_view_of, inside)) at.room (ap switches_view_of at.is ∙ sym (get_or-map switches_view_of runs i run (switches_view_of run) inside))

-- the places after the next
pub left_stepped : (runs : List Run) (places : List ℕ) (i : ℕ) (run : Run) → IsPlaced runs places i run → left_at (views runs) (places_stepped places i) i ≡ drop (get_or places i 0 + 1) (entries_of (switches_view_of run))
left_stepped runs places i run at =
    let v = get_or places i 0 + 1 in
    let room : i < length places = at.room in
    let moved : IsPlaced runs (set places i v) i run = record { inside = at.inside; room = omega (arith, length-set places i v, room); is = at.is } in
    left_placed runs (set places i v) i run moved ∙ ap (λ (k : ℕ). drop k (entries_of (switches_view_of run))) (get_or-set_same places i v 0 room)

-- all that is left before the winner is later, and none that is left after it is earlier
pub record GoesFirst (runs : List SwitchesView) (places : List ℕ) (i : ℕ) (e : Entry) : Type 0 where
  pub before : (j : ℕ) → j < i → AllByRecursion (λ x. is_earlier e x ≡ true) (left_at runs places j)
  pub following : (j : ℕ) → i < j → AllByRecursion (λ x. is_earlier x e ≡ false) (left_at runs places j)

later_first : (runs : List Run) (m : Merge) (e : Entry) (i : ℕ) → length runs ≤ 8 → AllByRecursion IsPrintable runs → AreHeads (views runs) m → Wins m.heads.heads 0 8 i → head_in m.heads.heads i ≡ record { time = e.time; cpu = e.cpu }
    → (j : ℕ) → i < j → AllByRecursion (λ x. is_earlier x e ≡ false) (left_at (views runs) m.places j)
later_first runs m e i few are heads w top j gt = elim (cases_lt j 8) [
  | inl inside ↦
      not_later_by_head e (left_at (views runs) m.places j) (rising_at runs m.places j are)
      (subst (λ (h : Head). is_head_sooner (head_of (left_at (views runs) m.places j)) h ≡ false) top (subst (λ (h : Head). is_head_sooner h (head_in m.heads.heads i) ≡ false) (heads.heads j inside) (w.following j (omega (arith, gt)) inside)))
  | inr past ↦ subst (λ (es : List Entry). AllByRecursion (λ x. is_earlier x e ≡ false) es) (sym (left_at-past (views runs) m.places j (omega (arith, length-map runs switches_view_of, few, past)))) tt
]

first_of_several : (runs : List Run) (m : Merge) (e : Entry) (rest : List Entry) → length runs ≤ 8 → All IsPrintable runs → AreHeads (views runs) m → left_at (views runs) m.places m.heads.first ≡ e ∷ rest → GoesFirst (views runs) m.places m.heads.first e
first_of_several runs m e rest few all heads here =
    let i = m.heads.first in
    let are = recursion_from_All IsPrintable runs all in
    let w = heads.tree.first in
    let high = w.high in
    let top : head_in m.heads.heads i ≡ record { time = e.time; cpu = e.cpu } = heads.heads i high ∙ ap head_of here in
    record {
      before = λ j lt.
          let inside : j < 8 = omega (arith, lt, high) in
          earlier_by_head e (left_at (views runs) m.places j) (rising_at runs m.places j are)
          (subst (λ (h : Head). is_head_sooner h (head_of (left_at (views runs) m.places j)) ≡ true) top (subst (λ (h : Head). is_head_sooner (head_in m.heads.heads i) h ≡ true) (heads.heads j inside) (w.before j (omega arith) lt)));
      following = later_first runs m e i few are heads w top;
    }

first_alone : (runs : List Run) (places : List ℕ) (e : Entry) (i : ℕ) → length runs ≤ 1 → i ≡ 0 → GoesFirst (views runs) places i e
first_alone runs places e i one is = record {
  before = λ j lt. absurd (omega (arith, lt, is));
  following = λ j gt. subst (λ (es : List Entry). AllByRecursion (λ x. is_earlier x e ≡ false) es) (sym (left_at-past (views runs) places j (omega (arith, length-map runs switches_view_of, one, gt)))) tt;
}

goes_first : (runs : List Run) (m : Merge) (e : Entry) (rest : List Entry) → length runs ≤ 8 → All IsPrintable runs → IsMerge (views runs) m → left_at (views runs) m.places m.heads.first ≡ e ∷ rest → GoesFirst (views runs) m.places m.heads.first e
goes_first runs m e rest few all merge here = elim (cases_lt 1 (length runs)) [
  | inl several ↦ first_of_several runs m e rest few all (merge.several (omega (arith, length-map runs switches_view_of, several))) here
  | inr one ↦ first_alone runs m.places e m.heads.first one (merge.alone (omega (arith, length-map runs switches_view_of, one)))
]

line_at : (runs : List Run) (places : List ℕ) (i : ℕ) (run : Run) → All IsPrintable runs → IsPlaced runs places i run → get_or places i 0 < length run.switches.now → (s : Switch) → HasLine run.names.now run.base (get_or run.switches.now (get_or places i 0) s)
line_at runs places i run all at inside s =
    let good : IsPrintable run = subst IsPrintable (sym at.is) (all i run at.inside) in
    good.lines (get_or places i 0) s inside

found_some : (runs : List Run) (m : Merge) (n : Next) → length runs ≤ 8 → All IsPrintable runs → IsMerge (views runs) m → n.index ≡ m.heads.first → IsPlaced runs m.places n.index n.run.now → get_or m.places n.index 0 < length n.run.now.switches.now
    → n.switch.now ≡ get_or n.run.now.switches.now (get_or m.places n.index 0) n.switch.now → get_or m.places n.index 0 + 1 < 2 ^ 64 → IsNextOf runs m.places n
found_some runs m n few all merge is at place_in switch_is small =
    let places = m.places in
    let i = n.index in
    let run = n.run.now in
    let e = next_entry n in
    let p = get_or places i 0 in
    let rest = drop (p + 1) (entries_of (switches_view_of run)) in
    let here : left_at (views runs) places i ≡ e ∷ rest = left_placed runs places i run at ∙ entries_from (switches_view_of run) p n.switch.now place_in switch_is in
    let rise : IsRising (e ∷ rest) = subst IsRising here (rising_at runs places i (recursion_from_All IsPrintable runs all)) in
    let first : GoesFirst (views runs) places i e = subst (λ (k : ℕ). GoesFirst (views runs) places k e) (sym is) (goes_first runs m e rest few all merge (subst (λ (k : ℕ). left_at (views runs) places k ≡ e ∷ rest) is here)) in
    record {
      ahead = ahead_at (views runs) places i e rest here (left_stepped runs places i run at)
          (AllByRecursion-weaker (λ x. is_earlier e x ≡ true) (λ x. is_earlier x e ≡ false) rest (λ x q. not_later-from_earlier e x q) rise.0) first.before first.following;
      printed = subst (λ (s : Switch). HasLine run.names.now run.base s) (sym switch_is) (line_at runs places i run all at place_in n.switch.now);
      run = record { inside = at.inside; is = at.is };
      among = record { place = p; inside = place_in; is = switch_is };
      place = small;
    }

-- the same, known by equations
pub found_by : (runs : List Run) (m : Merge) (run : Run) (n : Next) → length runs ≤ 8 → All IsPrintable runs → IsMerge (views runs) m → IsPlaced runs m.places m.heads.first run → get_or m.places m.heads.first 0 < length run.switches.now
    → n.index ≡ m.heads.first → n.run.now ≡ run → n.switch.now ≡ get_or run.switches.now (get_or m.places m.heads.first 0) n.switch.now → get_or m.places m.heads.first 0 + 1 < 2 ^ 64 → IsNextOf runs m.places n
found_by runs m run n few all merge at place_in index_is run_is switch_is small =
    let places = m.places in
    let at' : IsPlaced runs places n.index n.run.now = subst (λ (k : ℕ). IsPlaced runs places k n.run.now) (sym index_is) (subst (λ (r : Run). IsPlaced runs places m.heads.first r) (sym run_is) at) in
    let place_in' : get_or places n.index 0 < length n.run.now.switches.now = subst (λ (k : ℕ). get_or places k 0 < length n.run.now.switches.now) (sym index_is) (subst (λ (r : Run). get_or places m.heads.first 0 < length r.switches.now) (sym run_is) place_in) in
    let switch_is' : n.switch.now ≡ get_or n.run.now.switches.now (get_or places n.index 0) n.switch.now
    = subst (λ (k : ℕ). n.switch.now ≡ get_or n.run.now.switches.now (get_or places k 0) n.switch.now) (sym index_is) (subst (λ (r : Run). n.switch.now ≡ get_or r.switches.now (get_or places m.heads.first 0) n.switch.now) (sym run_is) switch_is) in
    found_some runs m n few all merge index_is at' place_in' switch_is' (subst (λ (k : ℕ). get_or places k 0 + 1 < 2 ^ 64) (sym index_is) small)

-- ---- the head of a run

pub head_from : (r : SwitchesView) (p : ℕ) (d : Switch) → p < length r.switches → head_of (drop p (entries_of r)) ≡ record { time = (get_or r.switches p d).time; cpu = r.base + (get_or r.switches p d).cpu }
head_from r p d lt = ap head_of (drop-map (entry_of r) p r.switches ∙ ap (map (entry_of r)) (drop_more r.switches p d lt))

-- the heads of so many runs are known, and the others are none
pub record AreStarted (runs : List Run) (heads : List Head) (i : ℕ) : Type 0 where
  pub long : length heads ≡ 8
  pub seen : (j : ℕ) → j < i → head_in heads j ≡ head_of (left_at (views runs) (replicate 8 0) j)
  pub others : (j : ℕ) → i ≤ j → j < 8 → head_in heads j ≡ no_head

pub AreStarted-more : (runs : List Run) (heads : List Head) (i : ℕ) (run : Run) (head : Head) → i < 8 → IsPlaced runs (replicate 8 0) i run → head ≡ head_of (drop 0 (entries_of (switches_view_of run)))
    → AreStarted runs heads i → AreStarted runs (set heads i head) (i + 1)
AreStarted-more runs heads i run head few at is before =
    let long = before.long in
    record {
      long = omega (arith, length-set heads i head, long);
      seen = λ j lt. elim (cases_eq j i) [
        | inl same ↦
            let here : left_at (views runs) (replicate 8 0) i ≡ drop 0 (entries_of (switches_view_of run)) = left_placed runs (replicate 8 0) i run at ∙ ap (λ (k : ℕ). drop k (entries_of (switches_view_of run))) (get_or-replicate 8 i 0 0 few) in
            head_set_same heads i head j same (omega (arith, few, long)) ∙ is ∙ sym (ap head_of here) ∙ ap (λ (k : ℕ). head_of (left_at (views runs) (replicate 8 0) k)) (sym same)
        | inr apart ↦ head_set_other heads i head j apart ∙ before.seen j (omega (arith, lt, apart))
      ];
      others = λ j ge lt. head_set_other heads i head j (omega (arith, ge)) ∙ before.others j (omega (arith, ge)) lt;
    }

pub AreStarted-all : (runs : List Run) (heads : List Head) (i : ℕ) → length runs ≤ i → AreStarted runs heads i → (j : ℕ) → j < 8 → head_in heads j ≡ head_of (left_at (views runs) (replicate 8 0) j)
AreStarted-all runs heads i all are j lt = elim (cases_lt j i) [
  | inl inside ↦ are.seen j inside
  | inr past ↦ are.others j past lt ∙ sym (ap head_of (left_at-past (views runs) (replicate 8 0) j (omega (arith, length-map runs switches_view_of, all, past))))
]

-- the heads after the next
pub heads_stepped : (runs : List Run) (m : Merge) (i : ℕ) (run : Run) (head : Head) (heads : List Head) → AreHeads (views runs) m → IsPlaced runs m.places i run → i < length m.heads.heads
    → head ≡ head_of (drop (get_or m.places i 0 + 1) (entries_of (switches_view_of run))) → heads ≡ set m.heads.heads i head → (j : ℕ) → j < 8 → head_in heads j ≡ head_of (left_at (views runs) (places_stepped m.places i) j)
heads_stepped runs m i run head heads are at inside is here j lt =
    ap (λ (hs : List Head). head_in hs j) here ∙ elim (cases_eq j i) [
      | inl same ↦
          head_set_same m.heads.heads i head j same inside ∙ is ∙ sym (ap head_of (left_stepped runs m.places i run at)) ∙ ap (λ (n : ℕ). head_of (left_at (views runs) (places_stepped m.places i) n)) (sym same)
      | inr apart ↦ head_set_other m.heads.heads i head j apart ∙ are.heads j lt ∙ sym (ap head_of (left_at-set_other (views runs) m.places i (get_or m.places i 0 + 1) j apart))
    ]

-- in the order of the trace the next entry comes first
pub in_order-next : (runs : List Run) (places : List ℕ) (n : Next) → IsNextOf runs places n
    → entries_in_order (entries_left (views runs) places) ≡ next_entry n ∷ entries_in_order (entries_left (views runs) (places_stepped places n.index))
in_order-next runs places n next =
    let a = next.ahead in
    let e = next_entry n in
    ap entries_in_order a.split ∙ in_order-first a.before e a.after a.earlier a.not_later ∙ ap (λ (es : List Entry). e ∷ entries_in_order es) (sym a.moved)
