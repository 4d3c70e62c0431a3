-- The times of a list, each at its leaf of a timer tree.
use Rattle.std.proofs.Common.{◌≡◌, ◌≢◌, ℕ, zero, suc, ◌+◌, ◌-◌, ◌^◌, ◌<◌, ◌≤◌, List, [], ◌∷◌, ◌++◌, length, get_or, set, replicate, All, refl, sym, ap, ◌∙◌, subst, arith, inl, inr}
use Rattle.std.specs.Prelude.{◌⊎◌}
use Rattle.std.specs.List.{AllPairs, remove}
use Rattle.std.proofs.lemmas.Bool.{cases_eq, cases_lt}
use Rattle.std.proofs.lemmas.Grind.{same_number_lists, get_or-set_at}
use Rattle.std.proofs.lemmas.List.{get_or_default, length-map, length-set, length-append, length-replicate, get_or-map, get_or-replicate, get_or-append_right, get_or-set_other, get_or-set_same, get_or_append_left, map-append}
use Rattle.std.proofs.lemmas.List.Edits.{length-remove, get_or-remove_below, get_or-remove_above}
use Rattle.std.proofs.lemmas.List.Elements.{All-push}
use Rattle.std.proofs.lemmas.List.Quantifiers.{all_pairs_push, all_pairs_remove}
use Rattle.due_times.specs.Timers.{least, times_by_place, AreLater, AreTimers, IsSize}
use Rattle.due_times.specs.private.Leaves.{ArePacked, IsFirstFrom}
use Rattle.due_times.proofs.Rooted.{least_le, le_least}

-- there are as many times as leaves in the order
pub count_is : (leaves order : List ℕ) → length (times_by_place leaves order) ≡ length order
count_is leaves order = simp length-map

-- a time is what its leaf has
pub time_is : (leaves order : List ℕ) (k : ℕ) → k < length order → get_or (times_by_place leaves order) k 0 ≡ get_or leaves (get_or order k 0) 0
time_is leaves order k h = get_or-map (λ leaf. get_or leaves leaf 0) order k 0 0 h

-- lists whose leaves have the same times
same_times : (old new before after : List ℕ) → length after ≡ length before → ((k : ℕ) → k < length before → get_or new (get_or after k 0) 0 ≡ get_or old (get_or before k 0) 0) → times_by_place new after ≡ times_by_place old before
same_times old new before after long each = same_number_lists (times_by_place new after) (times_by_place old before) (count_is new after ∙ long ∙ sym (count_is old before))
    (λ k h. let within : k < length before = omega (arith, h, count_is new after, long) in
    time_is new after k (omega (arith, within, long)) ∙ each k within ∙ sym (time_is old before k within))

-- the leaves of two places are two
pub apart : (order : List ℕ) (i k : ℕ) → AllPairs (λ a b. a < b) order → i < length order → k < length order → k ≢ i → get_or order k 0 ≢ get_or order i 0
apart order i k rising here there other same = elim (cases_lt i k) [
  | inl less ↦ let up = rising i k 0 less there in absurd (omega (arith, up, same))
  | inr not_less ↦ elim (cases_lt k i) [
    | inl more ↦ let up = rising k i 0 more here in absurd (omega (arith, up, same))
    | inr not_more ↦ other (omega (arith, not_less, not_more))
  ]
]

-- where a leaf is in the order
record HasLeaf (order : List ℕ) (leaf : ℕ) : Type 0 where
  place : ℕ
  within : place < length order
  same : get_or order place 0 ≡ leaf

find_leaf : (order : List ℕ) (leaf : ℕ) → HasLeaf order leaf ⊎ All (λ other. other ≢ leaf) order
find_leaf [] leaf = inr (λ k d h. absurd (omega (arith, h)))
find_leaf (first ∷ order) leaf = elim (cases_eq first leaf) [
  | inl here ↦ inl (record { place = 0; within = omega arith; same = here })
  | inr other ↦ elim (find_leaf order leaf) [
    | inl there ↦ inl (record { place = suc there.place; within = omega (arith, there.within); same = there.same })
    | inr none ↦ inr (each first leaf order none other)
  ]
]
  where
    each : (first leaf : ℕ) (order : List ℕ) → All (λ other. other ≢ leaf) order → first ≢ leaf → All (λ other. other ≢ leaf) (first ∷ order)
    each first leaf order none other zero d h = other
    each first leaf order none other (suc k) d h = none k d (omega (arith, h))

-- A TIME IS ANOTHER
pub set_kept : (leaves order : List ℕ) (capacity place due : ℕ) → AreTimers leaves order capacity → place < length order → AreTimers (set leaves (get_or order place 0) due) order capacity
set_kept leaves order capacity place due is there =
    let leaf = get_or order place 0 in
    let long = length-set leaves leaf due in
    record {
      size = subst IsSize (sym long) is.size;
      few = is.few;
      rising = is.rising;
      there = λ k d h. let within = is.there k d h in omega (arith, within, long);
      others = λ other within none. get_or-set_other leaves leaf other due 0 (λ e. none place 0 there (sym e)) ∙ is.others other (omega (arith, within, long)) none;
      room = is.room;
    }

pub set_times : (leaves order : List ℕ) (capacity place due : ℕ) → AreTimers leaves order capacity → place < length order → times_by_place (set leaves (get_or order place 0) due) order ≡ set (times_by_place leaves order) place due
set_times leaves order capacity place due is there =
    let leaf = get_or order place 0 in
    let new = set leaves leaf due in
    same_number_lists (times_by_place new order) (set (times_by_place leaves order) place due)
    (count_is new order ∙ sym (length-set (times_by_place leaves order) place due ∙ count_is leaves order))
    (λ k h. let within : k < length order = omega (arith, h, count_is new order) in
    time_is new order k within ∙ elim (cases_eq k place) [
      | inl here ↦
          get_or-set_at leaves leaf (get_or order k 0) due 0 (ap (λ n. get_or order n 0) here) (is.there place 0 there)
          ∙ sym (get_or-set_at (times_by_place leaves order) place k due 0 here (omega (arith, there, count_is leaves order)))
      | inr other ↦
          get_or-set_other leaves leaf (get_or order k 0) due 0 (apart order place k is.rising there within other)
          ∙ sym (get_or-set_other (times_by_place leaves order) place k due 0 other ∙ time_is leaves order k within)
    ])

-- ONE MORE
pub pushed_kept : (leaves order : List ℕ) (capacity leaf due : ℕ) → AreTimers leaves order capacity → length order < 256 → All (λ other. other < leaf) order → leaf < length leaves → AreTimers (set leaves leaf due) (order ++ leaf ∷ []) capacity
pushed_kept leaves order capacity leaf due is few before within =
    let long = length-set leaves leaf due in
    let more : length (order ++ leaf ∷ []) ≡ length order + 1 = length-append order (leaf ∷ []) in
    record {
      size = subst IsSize (sym long) is.size;
      few = omega (arith, more, few);
      rising = all_pairs_push (λ a b. a < b) order leaf is.rising before;
      there = All-push (λ n. n < length (set leaves leaf due)) order leaf
          (λ k d h. let less = is.there k d h in omega (arith, less, long)) (omega (arith, within, long));
      others = λ other inside none.
          let last : leaf ≢ other = subst (λ (n : ℕ). n ≢ other) (last_is order leaf) (none (length order) 0 (omega (arith, more))) in
          get_or-set_other leaves leaf other due 0 (λ e. last (sym e))
          ∙ is.others other (omega (arith, inside, long)) (λ k d h. subst (λ (n : ℕ). n ≢ other) (get_or_append_left order (leaf ∷ []) d k h) (none k d (omega (arith, h, more))));
      room = is.room;
    }
  where
    last_is : (xs : List ℕ) (x : ℕ) → get_or (xs ++ x ∷ []) (length xs) 0 ≡ x
    last_is [] x = refl
    last_is (y ∷ xs) x = last_is xs x

pub pushed_times : (leaves order : List ℕ) (leaf due : ℕ) → All (λ other. other < leaf) order → leaf < length leaves → times_by_place (set leaves leaf due) (order ++ leaf ∷ []) ≡ times_by_place leaves order ++ due ∷ []
pushed_times leaves order leaf due before within =
    let new = set leaves leaf due in
    map-append (λ n. get_or new n 0) order (leaf ∷ [])
    ∙ ap (λ ts. ts ++ get_or new leaf 0 ∷ []) (same_times leaves new order order refl (λ k h. get_or-set_other leaves leaf (get_or order k 0) due 0 (λ e. let less = before k 0 h in absurd (omega (arith, less, e)))))
    ∙ ap (λ t. times_by_place leaves order ++ t ∷ []) (get_or-set_same leaves leaf due 0 within)

-- ONE LESS
pub removed_kept : (leaves order : List ℕ) (capacity place : ℕ) → AreTimers leaves order capacity → place < length order → AreTimers (set leaves (get_or order place 0) (2 ^ 64 - 1)) (remove order place) capacity
removed_kept leaves order capacity place is there =
    let leaf = get_or order place 0 in
    let long = length-set leaves leaf (2 ^ 64 - 1) in
    let fewer = length-remove order place there in
    record {
      size = subst IsSize (sym long) is.size;
      few = omega (arith, fewer, is.few);
      rising = all_pairs_remove (λ a b. a < b) order place there is.rising;
      there = λ k d h. let less = left_there k d (omega (arith, h, fewer)) in omega (arith, less, long);
      others = λ other within none. elim (cases_eq other leaf) [
        | inl here ↦ get_or-set_at leaves leaf other (2 ^ 64 - 1) 0 here (is.there place 0 there)
        | inr differs ↦ get_or-set_other leaves leaf other (2 ^ 64 - 1) 0 differs ∙ is.others other (omega (arith, within, long)) (all_others other none differs)
      ];
      room = is.room;
    }
  where
    left_there : (k d : ℕ) → k + 1 < length order → get_or (remove order place) k d < length leaves
    left_there k d h = elim (cases_lt k place) [
      | inl below ↦ subst (λ (n : ℕ). n < length leaves) (sym (get_or-remove_below order place d k below there)) (is.there k d (omega (arith, h)))
      | inr above ↦ subst (λ (n : ℕ). n < length leaves) (sym (get_or-remove_above order place d k above there)) (is.there (k + 1) d h)
    ]

    all_others : (other : ℕ) → All (λ n. n ≢ other) (remove order place) → other ≢ get_or order place 0 → All (λ n. n ≢ other) order
    all_others other none differs k d h = elim (cases_lt k place) [
      | inl below ↦ subst (λ (n : ℕ). n ≢ other) (get_or-remove_below order place d k below there) (none k d (omega (arith, below, there, length-remove order place there)))
      | inr from ↦ elim (cases_eq k place) [
        | inl here ↦ λ same. differs (sym same ∙ ap (λ n. get_or order n d) here ∙ get_or_default order place d 0 there)
        | inr past ↦
            let back : k - 1 + 1 ≡ k = omega (arith, from, past) in
            subst (λ (n : ℕ). n ≢ other) (get_or-remove_above order place d (k - 1) (omega (arith, from, past)) there ∙ ap (λ n. get_or order n d) back) (none (k - 1) d (omega (arith, from, past, h, length-remove order place there)))
      ]
    ]

pub removed_times : (leaves order : List ℕ) (capacity place : ℕ) → AreTimers leaves order capacity → place < length order → times_by_place (set leaves (get_or order place 0) (2 ^ 64 - 1)) (remove order place) ≡ remove (times_by_place leaves order) place
removed_times leaves order capacity place is there =
    let leaf = get_or order place 0 in
    let new = set leaves leaf (2 ^ 64 - 1) in
    let old = times_by_place leaves order in
    let inside : place < length old = omega (arith, there, count_is leaves order) in
    let fewer = length-remove order place there in
    let fewer_times = length-remove old place inside in
    let read = λ (k : ℕ) (h : k < length order) (other : k ≢ place). get_or-set_other leaves leaf (get_or order k 0) (2 ^ 64 - 1) 0 (apart order place k is.rising there h other) ∙ sym (time_is leaves order k h) in
    same_number_lists (times_by_place new (remove order place)) (remove old place)
    (omega (arith, count_is new (remove order place), fewer, fewer_times, count_is leaves order))
    (λ k h. let within : k + 1 < length order = omega (arith, h, count_is new (remove order place), fewer) in
    time_is new (remove order place) k (omega (arith, within, fewer)) ∙ elim (cases_lt k place) [
      | inl below ↦
          ap (λ n. get_or new n 0) (get_or-remove_below order place 0 k below there)
          ∙ read k (omega (arith, within)) (λ e. absurd (omega (arith, e, below)))
          ∙ sym (get_or-remove_below old place 0 k below inside)
      | inr above ↦
          ap (λ n. get_or new n 0) (get_or-remove_above order place 0 k above there)
          ∙ read (k + 1) within (λ e. absurd (omega (arith, e, above)))
          ∙ sym (get_or-remove_above old place 0 k above inside)
    ])

-- PACKED
-- a leaf is not before its place
not_before : (order : List ℕ) (place : ℕ) → AllPairs (λ a b. a < b) order → ArePacked order place → place < length order → place ≤ get_or order place 0
not_before order zero rising packed there = omega arith
not_before order (suc place) rising packed there =
    let before = packed place (omega arith) in
    let less = rising place (suc place) 0 (omega arith) there in
    omega (arith, before, less)

module _ (leaves order : List ℕ) (capacity place : ℕ) (is : AreTimers leaves order capacity) (packed : ArePacked order place) (there : place < length order) (other : get_or order place 0 ≢ place) where
  abbrev leaf : ℕ
  leaf = get_or order place 0

  high : place < leaf
  high = let from = not_before order place is.rising packed there in omega (arith, from, other)

  abbrev free : List ℕ
  free = set leaves leaf (2 ^ 64 - 1)

  abbrev pub moved : List ℕ
  moved = set free place (get_or leaves leaf 0)

  abbrev pub packed_order : List ℕ
  packed_order = set order place place

  long : length moved ≡ length leaves
  long = length-set free place (get_or leaves leaf 0) ∙ length-set leaves leaf (2 ^ 64 - 1)

  count : length packed_order ≡ length order
  count = length-set order place place

  pub inside : place < length leaves
  inside = let within = is.there place 0 there in omega (arith, within, high)

  own : get_or packed_order place 0 ≡ place
  own = get_or-set_same order place place 0 there

  others : (k d : ℕ) → k ≢ place → get_or packed_order k d ≡ get_or order k d
  others k d differs = get_or-set_other order place k place d differs

  -- another leaf is neither that to which the time moves nor that which it leaves
  deferring : (k : ℕ) → k < length order → k ≢ place → get_or order k 0 ≢ place
  deferring k h differs = elim (cases_lt k place) [
    | inl before ↦ let own_place = packed k before in λ e. absurd (omega (arith, own_place, e, before))
    | inr past ↦ let up = is.rising place k 0 (omega (arith, past, differs)) h in λ e. absurd (omega (arith, up, e, high))
  ]

  packed_rising : AllPairs (λ a b. a < b) packed_order
  packed_rising i j d less h = elim (cases_eq i place) [
    | inl here ↦
        let second : get_or packed_order j d ≡ get_or order j d = others j d (λ e. absurd (omega (arith, e, here, less))) in
        let up = is.rising i j d less (omega (arith, h, count)) in
        let first : get_or packed_order i d ≡ place = ap (λ n. get_or packed_order n d) here ∙ get_or_default packed_order place d 0 (omega (arith, there, count)) ∙ own in
        let was : get_or order i d ≡ leaf = ap (λ n. get_or order n d) here ∙ get_or_default order place d 0 there in
        omega (arith, first, second, up, was, high)
    | inr first_other ↦ elim (cases_eq j place) [
      | inl last ↦
          let before : get_or order i 0 ≡ i = packed i (omega (arith, less, last)) in
          let first : get_or packed_order i d ≡ i = others i d first_other ∙ get_or_default order i d 0 (omega (arith, less, last, there)) ∙ before in
          let second : get_or packed_order j d ≡ place = ap (λ n. get_or packed_order n d) last ∙ get_or_default packed_order place d 0 (omega (arith, there, count)) ∙ own in
          omega (arith, first, second, less, last)
      | inr second_other ↦
          let first = others i d first_other in
          let second = others j d second_other in
          let up = is.rising i j d less (omega (arith, h, count)) in
          omega (arith, first, second, up)
    ]
  ]

  packed_there : All (λ n. n < length moved) packed_order
  packed_there k d h = elim (cases_eq k place) [
    | inl here ↦
        let at : get_or packed_order k d ≡ place = ap (λ n. get_or packed_order n d) here ∙ get_or_default packed_order place d 0 (omega (arith, there, count)) ∙ own in
        omega (arith, at, inside, long)
    | inr differs ↦
        let same = others k d differs in
        let within = is.there k d (omega (arith, h, count)) in
        omega (arith, same, within, long)
  ]

  packed_others : (n : ℕ) → n < length moved → All (λ o. o ≢ n) packed_order → get_or moved n 0 ≡ 2 ^ 64 - 1
  packed_others n within none =
      let not_place : n ≢ place = λ e. none place 0 (omega (arith, there, count)) (own ∙ sym e) in
      get_or-set_other free place n (get_or leaves leaf 0) 0 not_place ∙ elim (cases_eq n leaf) [
        | inl here ↦ get_or-set_at leaves leaf n (2 ^ 64 - 1) 0 here (is.there place 0 there)
        | inr differs ↦
            get_or-set_other leaves leaf n (2 ^ 64 - 1) 0 differs
            ∙ is.others n (omega (arith, within, long)) (λ k d h. elim (cases_eq k place) [
              | inl here ↦ λ e. differs (sym e ∙ ap (λ m. get_or order m d) here ∙ get_or_default order place d 0 there)
              | inr not_here ↦ λ e. none k d (omega (arith, h, count)) (others k d not_here ∙ e)
            ])
      ]

  pub packed_kept : AreTimers moved packed_order capacity
  packed_kept = record {
    size = subst IsSize (sym long) is.size;
    few = omega (arith, count, is.few);
    rising = packed_rising;
    there = packed_there;
    others = packed_others;
    room = is.room;
  }

  pub packed_more : ArePacked packed_order (place + 1)
  packed_more k h = elim (cases_eq k place) [
    | inl here ↦ ap (λ n. get_or packed_order n 0) here ∙ own ∙ sym here
    | inr differs ↦ others k 0 differs ∙ packed k (omega (arith, h, differs))
  ]

  pub packed_times : times_by_place moved packed_order ≡ times_by_place leaves order
  packed_times = same_times leaves moved order packed_order count (λ k h. elim (cases_eq k place) [
    | inl here ↦
        ap (λ n. get_or moved (get_or packed_order n 0) 0) here ∙ ap (λ n. get_or moved n 0) own
        ∙ get_or-set_same free place (get_or leaves leaf 0) 0 (omega (arith, inside, length-set leaves leaf (2 ^ 64 - 1)))
        ∙ ap (λ n. get_or leaves (get_or order n 0) 0) (sym here)
    | inr differs ↦
        ap (λ n. get_or moved n 0) (others k 0 differs)
        ∙ get_or-set_other free place (get_or order k 0) (get_or leaves leaf 0) 0 (deferring k h differs)
        ∙ get_or-set_other leaves leaf (get_or order k 0) (2 ^ 64 - 1) 0 (apart order place k is.rising there h differs)
  ])

-- the time is at the leaf of its place already
pub packed_already : (order : List ℕ) (place : ℕ) → ArePacked order place → get_or order place 0 ≡ place → ArePacked order (place + 1)
packed_already order place packed same k h = elim (cases_eq k place) [
  | inl here ↦ ap (λ n. get_or order n 0) here ∙ same ∙ sym here
  | inr differs ↦ packed k (omega (arith, h, differs))
]

-- WIDER
pub wider_kept : (leaves order : List ℕ) (capacity more : ℕ) → AreTimers leaves order capacity → IsSize (length leaves + more) → AreTimers (leaves ++ replicate more (2 ^ 64 - 1)) order capacity
wider_kept leaves order capacity more is size =
    let never = replicate more (2 ^ 64 - 1) in
    let long : length (leaves ++ never) ≡ length leaves + more = omega (arith, length-append leaves never, length-replicate more (2 ^ 64 - 1)) in
    record {
      size = subst IsSize (sym long) size;
      few = is.few;
      rising = is.rising;
      there = λ k d h. let within = is.there k d h in omega (arith, within, long);
      others = λ leaf within none. elim (cases_lt leaf (length leaves)) [
        | inl old ↦ get_or_append_left leaves never 0 leaf old ∙ is.others leaf old none
        | inr past ↦ get_or-append_right leaves never (length leaves) leaf 0 refl past ∙ get_or-replicate more (leaf - length leaves) (2 ^ 64 - 1) 0 (omega (arith, within, long, past))
      ];
      room = is.room;
    }

pub wider_times : (leaves order : List ℕ) (capacity more : ℕ) → AreTimers leaves order capacity → times_by_place (leaves ++ replicate more (2 ^ 64 - 1)) order ≡ times_by_place leaves order
wider_times leaves order capacity more is = same_times leaves (leaves ++ replicate more (2 ^ 64 - 1)) order order refl
    (λ k h. get_or_append_left leaves (replicate more (2 ^ 64 - 1)) 0 (get_or order k 0) (is.there k 0 h))

-- THE FIRST TIME
least_top : (xs : List ℕ) → least xs ≤ 2 ^ 64 - 1
least_top [] = omega arith
least_top (x ∷ xs) = omega (arith, least_top xs)

pub least_kept : (leaves order : List ℕ) (capacity : ℕ) → AreTimers leaves order capacity → least leaves ≡ least (times_by_place leaves order)
least_kept leaves order capacity is =
    let times = times_by_place leaves order in
    let down = le_least times (least leaves) (least_top leaves) (λ k h.
    let within : k < length order = omega (arith, h, count_is leaves order) in
    let leaf = is.there k 0 within in
    omega (arith, time_is leaves order k within, least_le leaves (get_or order k 0) leaf)) in
    let up = le_least leaves (least times) (least_top times) (λ n h. elim (find_leaf order n) [
      | inl at ↦
          let least_is = least_le times at.place (omega (arith, at.within, count_is leaves order)) in
          let read : get_or times at.place 0 ≡ get_or leaves n 0 = time_is leaves order at.place at.within ∙ ap (λ m. get_or leaves m 0) at.same in
          omega (arith, least_is, read)
      | inr none ↦ let never = is.others n h none in omega (arith, never, least_top times)
    ]) in
    omega (arith, down, up)

-- none of the leaves up to one has come, so none of the times before its place
pub later_from : (leaves order : List ℕ) (time place leaf first : ℕ) → AllPairs (λ a b. a < b) order → All (λ n. n < length leaves) order → IsFirstFrom order leaf first → place < length order → AreLater leaves time (get_or order place 0) leaf → AreLater (times_by_place leaves order) time place first
later_from leaves order time place leaf first rising there is here later k from before h =
    let within : k < length order = omega (arith, h, count_is leaves order) in
    let high : get_or order place 0 ≤ get_or order k 0 = elim (cases_lt place k) [
      | inl less ↦ let up = rising place k 0 less within in omega (arith, up)
      | inr not_less ↦ let same : place ≡ k = omega (arith, not_less, from) in subst (λ n. get_or order place 0 ≤ get_or order n 0) same (omega arith)
    ] in
    let come = later (get_or order k 0) high (is.before k before) (there k 0 within) in
    subst (λ (n : ℕ). time < n) (sym (time_is leaves order k within)) come

pub later_all : (leaves order : List ℕ) (time leaf first : ℕ) → All (λ n. n < length leaves) order → IsFirstFrom order leaf first → AreLater leaves time 0 leaf → AreLater (times_by_place leaves order) time 0 first
later_all leaves order time leaf first there is later k from before h =
    let within : k < length order = omega (arith, h, count_is leaves order) in
    subst (λ (n : ℕ). time < n) (sym (time_is leaves order k within)) (later (get_or order k 0) (omega arith) (is.before k before) (there k 0 within))

-- where a leaf has come, that of its place has, or all have
pub come_first : (leaves order : List ℕ) (capacity time leaf first : ℕ) → AreTimers leaves order capacity → All (λ t. t ≤ 2 ^ 64 - 1) leaves → IsFirstFrom order leaf first → leaf < length leaves → get_or leaves leaf 0 ≤ time → first < length order → get_or (times_by_place leaves order) first 0 ≤ time
come_first leaves order capacity time leaf first is high from within come there =
    let read = time_is leaves order first there in
    let at_least = from.following first (omega arith) there in
    elim (find_leaf order leaf) [
      | inl at ↦
          let here : at.place ≡ first = elim (cases_lt at.place first) [
            | inl before ↦ let less = from.before at.place before in absurd (omega (arith, less, at.same))
            | inr past ↦ elim (cases_lt first at.place) [
              | inl more ↦ let up = is.rising first at.place 0 more at.within in absurd (omega (arith, up, at.same, at_least))
              | inr done ↦ omega (arith, past, done)
            ]
          ] in
          let same : get_or order first 0 ≡ leaf = ap (λ n. get_or order n 0) (sym here) ∙ at.same in
          let time_of : get_or leaves (get_or order first 0) 0 ≡ get_or leaves leaf 0 = ap (λ n. get_or leaves n 0) same in
          omega (arith, read, time_of, come)
      | inr none ↦
          let never = is.others leaf within none in
          let top = high (get_or order first 0) 0 (is.there first 0 there) in
          omega (arith, read, never, top, come)
    ]

-- THE PLACE OF A LEAF
pub at_leaf : (order : List ℕ) (leaf : ℕ) → AllPairs (λ a b. a < b) order → leaf < length order → get_or order leaf 0 ≡ leaf → IsFirstFrom order leaf leaf
at_leaf order leaf rising there same = record {
  within = omega (arith, there);
  before = λ k less. let up = rising k leaf 0 less there in omega (arith, up, same);
  following = λ k from h. elim (cases_lt leaf k) [
    | inl less ↦ let up = rising leaf k 0 less h in omega (arith, up, same)
    | inr not_less ↦ let here : leaf ≡ k = omega (arith, from, not_less) in subst (λ n. leaf ≤ get_or order n 0) here (omega (arith, same))
  ];
}

-- THE LAST LEAF
pub before_next : (order : List ℕ) (last : ℕ) → AllPairs (λ a b. a < b) order → last + 1 ≡ length order → All (λ leaf. leaf < get_or order last 0 + 1) order
before_next order last rising is k d h = elim (cases_lt k last) [
  | inl less ↦ let up = rising k last d less (omega (arith, is)) in let same = get_or_default order last d 0 (omega (arith, is)) in omega (arith, up, same)
  | inr past ↦
      let here : k ≡ last = omega (arith, past, is, h) in
      let same : get_or order k d ≡ get_or order last 0 = ap (λ n. get_or order n d) here ∙ get_or_default order last d 0 (omega (arith, is)) in
      omega (arith, same)
]

-- LEAVES AND PLACES
-- a leaf is not before its place
pub rise_low : (order : List ℕ) (k : ℕ) → AllPairs (λ a b. a < b) order → k < length order → k ≤ get_or order k 0
rise_low order zero rising within = omega arith
rise_low order (suc k) rising within =
    let below = rise_low order k rising (omega (arith, within)) in
    let up = rising k (suc k) 0 (omega arith) within in
    omega (arith, below, up)

-- and so many places further it is at least as many further
pub rise_high : (order : List ℕ) (k j : ℕ) → AllPairs (λ a b. a < b) order → k + j < length order → get_or order k 0 + j ≤ get_or order (k + j) 0
rise_high order k zero rising within = let same : get_or order k 0 ≡ get_or order (k + 0) 0 = ap (λ n. get_or order n 0) (omega arith) in omega (arith, same)
rise_high order k (suc j) rising within =
    let below = rise_high order k j rising (omega (arith, within)) in
    let up = rising (k + j) (k + suc j) 0 (omega arith) within in
    omega (arith, below, up)

-- as many leaves have no time as the last leaf is further than the last place: so far before the
-- number of a leaf, each leaf is before that one
pub before_low : (order : List ℕ) (leaf k : ℕ) → AllPairs (λ a b. a < b) order → k < length order → k < leaf - (get_or order (length order - 1) 0 - (length order - 1)) → get_or order k 0 < leaf
before_low order leaf k rising within low =
    let last = length order - 1 in
    let far = rise_high order k (last - k) rising (omega (arith, within)) in
    let there : get_or order (k + (last - k)) 0 ≡ get_or order last 0 = ap (λ n. get_or order n 0) (omega (arith, within)) in
    let most = rise_low order last rising (omega (arith, within)) in
    omega (arith, far, there, most, low, within)
