-- A search in the order of the choice.
use Rattle.std.proofs.Common.{◌≡◌, ◌<◌, ◌≤◌, ◌+◌, ◌-◌, ◌*◌, ℕ, true, false, List, length, get_or, sym, ap, subst, inl, inr, arith}
use Rattle.std.proofs.lemmas.Bool.{both_ways, false_from_ne_true, cases_lt}
use Rattle.std.proofs.lemmas.List.{get_or_default}
use Rattle.std.proofs.lemmas.List.Sums.{prefix_len_is}
use Rattle.edf_pick.specs.declared.candidate.Candidate.{Candidate}
use Rattle.edf_pick.specs.Choice.{is_before}
use Rattle.edf_pick.specs.Order.{IsRising}
use Rattle.edf_pick.specs.private.Search.{IsSearched, IsOneBefore}
use Rattle.edf_pick.proofs.Rising.{place, rising_parted}

module _ (c : Candidate) (queue : List Candidate) (at width : ℕ) (rising : IsRising queue) (is : IsSearched c queue at width) where
  -- one further on is before c
  up : (to rest : ℕ) → to < length queue → to + rest ≡ at + width → is_before (get_or queue to c) c ≡ true → IsSearched c queue to rest
  up to rest within same early =
      record {
        bound = omega (arith, same, is.bound);
        below = λ k e h. rising_parted c queue rising k to e (omega (arith, h)) within (middle e);
        above = λ k e h l. is.above k e (omega (arith, same, h)) l;
      }
    where
      middle : (e : Candidate) → is_before (get_or queue to e) c ≡ true
      middle e = subst (λ (x : Candidate). is_before x c ≡ true) (get_or_default queue to c e within) early

  -- one within reach is not
  down : (to rest : ℕ) → to < length queue → rest ≤ width → to ≤ at + rest → is_before (get_or queue to c) c ≡ false → IsSearched c queue at rest
  down to rest within less upto late =
      record {
        bound = omega (arith, less, is.bound);
        below = is.below;
        above = λ k e h l.
            false_from_ne_true (is_before (get_or queue k e) c)
            (λ early. both_ways (is_before (get_or queue to e) c) (middle e) (rising_parted c queue rising to k e (omega (arith, upto, h)) l early));
      }
    where
      middle : (e : Candidate) → is_before (get_or queue to e) c ≡ false
      middle e = subst (λ (x : Candidate). is_before x c ≡ false) (get_or_default queue to c e within) late

  pub search_half : (half n : ℕ) → half + half ≤ width → at + half < length queue → IsOneBefore c queue (at + half) n → IsSearched c queue (at + half * n) (width - half)
  search_half half n fits within one =
      elim (cases_lt 0 n) [
        | inl some ↦
            let all : n ≡ 1 = omega (arith, one.most, some) in
            let to : at + half * n ≡ at + half = omega (arith, ap (λ (k : ℕ). half * k) all) in
            subst (λ (k : ℕ). IsSearched c queue k (width - half)) (sym to)
            (up (at + half) (width - half) within (omega (arith, fits)) (one.early some))
        | inr none ↦
            let zero_of : n ≡ 0 = omega (arith, none) in
            let to : at + half * n ≡ at = omega (arith, ap (λ (k : ℕ). half * k) zero_of) in
            subst (λ (k : ℕ). IsSearched c queue k (width - half)) (sym to)
            (down (at + half) (width - half) within (omega arith) (omega (arith, fits)) (one.late zero_of))
      ]

-- where a later task is before c, an earlier one is
before_too : (c : Candidate) (queue : List Candidate) (j k n m : ℕ) → IsRising queue → j ≤ k → k < length queue → IsOneBefore c queue j n → IsOneBefore c queue k m → 0 < m → 0 < n
before_too c queue j k n m rising less within one other some = elim (cases_lt 0 n) [
  | inl h ↦ h
  | inr none ↦ absurd (both_ways (is_before (get_or queue j c) c) (one.late (omega (arith, none))) (rising_parted c queue rising j k c less within (other.early some)))
]

module _ (c : Candidate) (queue : List Candidate) (at width part : ℕ) (rising : IsRising queue) (is : IsSearched c queue at width) (fits : 4 * part ≤ width) (within : at + 3 * part < length queue) where
  -- from a place on, where the one a part after it is not before c
  stays : (from left sum next : ℕ) → at + part * sum ≡ from → from + left ≡ at + width → left ≤ width → next ≡ from + part → next ≤ at + 3 * part → IsSearched c queue from left → is_before (get_or queue next c) c ≡ false → IsSearched c queue (at + part * sum) (width - 3 * part)
  stays from left sum next to same less after upto here late =
      subst (λ (k : ℕ). IsSearched c queue k (width - 3 * part)) (sym to)
      (down c queue from left rising here next (width - 3 * part) (omega (arith, within, upto)) (omega (arith, fits, same, after, upto)) (omega (arith, fits, after)) late)

  pub search_parts : (first second third : ℕ) → IsOneBefore c queue (at + part) first → IsOneBefore c queue (at + 2 * part) second → IsOneBefore c queue (at + 3 * part) third → IsSearched c queue (at + part * (first + second + third)) (width - 3 * part)
  search_parts first second third one two three =
      let sum = first + second + third in
      let of_two = before_too c queue (at + part) (at + 2 * part) first second rising (omega arith) (omega (arith, within)) one two in
      let of_three = before_too c queue (at + 2 * part) (at + 3 * part) second third rising (omega arith) within two three in
      let moved = λ (n : ℕ) (e : first + second + third ≡ n). ap (λ (k : ℕ). part * k) e in
      elim (cases_lt 0 third) [
        | inl some ↦
            let all : sum ≡ 3 = omega (arith, one.most, two.most, three.most, some, of_three some, of_two (of_three some)) in
            let to : at + part * sum ≡ at + 3 * part = omega (arith, moved 3 all) in
            subst (λ (k : ℕ). IsSearched c queue k (width - 3 * part)) (sym to)
            (up c queue at width rising is (at + 3 * part) (width - 3 * part) within (omega (arith, fits)) (three.early some))
        | inr past ↦ elim (cases_lt 0 second) [
          | inl some ↦
              let both : sum ≡ 2 = omega (arith, one.most, two.most, past, some, of_two some) in
              stays (at + 2 * part) (width - 2 * part) sum (at + 3 * part) (omega (arith, moved 2 both)) (omega (arith, fits)) (omega arith) (omega arith) (omega arith)
              (up c queue at width rising is (at + 2 * part) (width - 2 * part) (omega (arith, within)) (omega (arith, fits)) (two.early some))
              (three.late (omega (arith, past)))
          | inr neither ↦ elim (cases_lt 0 first) [
            | inl some ↦
                let alone : sum ≡ 1 = omega (arith, one.most, past, neither, some) in
                stays (at + part) (width - part) sum (at + 2 * part) (omega (arith, moved 1 alone)) (omega (arith, fits)) (omega arith) (omega arith) (omega arith)
                (up c queue at width rising is (at + part) (width - part) (omega (arith, within)) (omega (arith, fits)) (one.early some))
                (two.late (omega (arith, neither)))
            | inr none ↦
                let nobody : sum ≡ 0 = omega (arith, past, neither, none) in
                stays at width sum (at + part) (omega (arith, moved 0 nobody)) (omega arith) (omega arith) (omega arith) (omega arith) is (one.late (omega (arith, none)))
          ]
        ]
      ]

-- where one is left, it is looked at
pub search_last : (c : Candidate) (queue : List Candidate) (at width n : ℕ) → width ≡ 1 → IsSearched c queue at width → IsOneBefore c queue at n → at + n ≡ place c queue
search_last c queue at width n last is one = sym (prefix_len_is (λ a. is_before a c) queue (at + n) c (omega (arith, is.bound, last, one.most)) early late)
  where
    early : (k : ℕ) → k < at + n → is_before (get_or queue k c) c ≡ true
    early k h = elim (cases_lt k at) [
      | inl less ↦ is.below k c less
      | inr more ↦
          let same : k ≡ at = omega (arith, h, more, one.most) in
          subst (λ (j : ℕ). is_before (get_or queue j c) c ≡ true) (sym same) (one.early (omega (arith, h, more)))
    ]

    late : at + n < length queue → is_before (get_or queue (at + n) c) c ≡ false
    late h = elim (cases_lt 0 n) [
      | inl some ↦ is.above (at + n) c (omega (arith, last, some)) h
      | inr none ↦
          let same : at + n ≡ at = omega (arith, none) in
          subst (λ (j : ℕ). is_before (get_or queue j c) c ≡ false) (sym same) (one.late (omega (arith, none)))
    ]
