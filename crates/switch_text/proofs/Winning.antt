-- The tree of winners over heads.
use Rattle.std.proofs.Common.{◌≡◌, ◌≢◌, ℕ, ◌+◌, ◌*◌, ◌<◌, ◌≤◌, true, false, cond, Bool, List, length, set, get_or, sym, subst, arith, inl, inr}
use Rattle.std.proofs.lemmas.Bool.{cases_lt, cases_eq}
use Rattle.std.proofs.lemmas.Bool.Decides.{nat_tests}
use Rattle.std.proofs.lemmas.List.{get_or-set_other}
use Rattle.std.proofs.lemmas.Grind.{get_or-set_at}
use Rattle.switch_text.specs.declared.heads.Head.{Head}
use Rattle.switch_text.specs.private.Winning.{is_head_sooner, head_in, Wins}

-- ---- the order of heads

sooner_trans : (a b c : Head) → is_head_sooner a b ≡ true → is_head_sooner b c ≡ true → is_head_sooner a c ≡ true
sooner_trans a b c p q = grind (arith, nat_tests)

-- a is sooner than b, and b is not after c
sooner_then : (a b c : Head) → is_head_sooner a b ≡ true → is_head_sooner c b ≡ false → is_head_sooner a c ≡ true
sooner_then a b c p q = grind (arith, nat_tests)

-- a is not after b, and b is sooner than c
not_after_trans : (a b c : Head) → is_head_sooner b a ≡ false → is_head_sooner b c ≡ true → is_head_sooner c a ≡ false
not_after_trans a b c p q = grind (arith, nat_tests)

-- a is not after b, and b is not after c
not_after_twice : (a b c : Head) → is_head_sooner b a ≡ false → is_head_sooner c b ≡ false → is_head_sooner c a ≡ false
not_after_twice a b c p q = grind (arith, nat_tests)

not_sooner_self : (a : Head) → is_head_sooner a a ≡ false
not_sooner_self a = grind (arith, nat_tests)

-- ---- the winner of two ranges, one after the other

second_before : (heads : List Head) (from mid to a b : ℕ) → Wins heads from mid a → Wins heads mid to b → is_head_sooner (head_in heads b) (head_in heads a) ≡ true
    → (j : ℕ) → from ≤ j → j < b → is_head_sooner (head_in heads b) (head_in heads j) ≡ true
second_before heads from mid to a b wa wb s j ge lt = elim (cases_lt j mid) [
  | inr far ↦ wb.before j far lt
  | inl near ↦ elim (cases_lt j a) [
    | inl less ↦ sooner_trans (head_in heads b) (head_in heads a) (head_in heads j) s (wa.before j ge less)
    | inr more ↦ sooner_then (head_in heads b) (head_in heads a) (head_in heads j) s (wa.following j more near)
  ]
]

Wins-second : (heads : List Head) (from mid to a b : ℕ) → Wins heads from mid a → Wins heads mid to b → is_head_sooner (head_in heads b) (head_in heads a) ≡ true → Wins heads from to b
Wins-second heads from mid to a b wa wb s =
    let low = wa.low in
    let high = wa.high in
    let next = wb.low in
    record {
      low = omega (arith, low, high, next);
      high = wb.high;
      before = second_before heads from mid to a b wa wb s;
      following = wb.following;
    }

first_after : (heads : List Head) (from mid to a b : ℕ) → Wins heads from mid a → Wins heads mid to b → is_head_sooner (head_in heads b) (head_in heads a) ≡ false
    → (j : ℕ) → a ≤ j → j < to → is_head_sooner (head_in heads j) (head_in heads a) ≡ false
first_after heads from mid to a b wa wb s j ge lt = elim (cases_lt j mid) [
  | inl near ↦ wa.following j ge near
  | inr far ↦ elim (cases_lt j b) [
    | inl less ↦ not_after_trans (head_in heads a) (head_in heads b) (head_in heads j) s (wb.before j far less)
    | inr more ↦ not_after_twice (head_in heads a) (head_in heads b) (head_in heads j) s (wb.following j more lt)
  ]
]

Wins-first : (heads : List Head) (from mid to a b : ℕ) → Wins heads from mid a → Wins heads mid to b → is_head_sooner (head_in heads b) (head_in heads a) ≡ false → Wins heads from to a
Wins-first heads from mid to a b wa wb s =
    let high = wa.high in
    let low = wb.low in
    let last = wb.high in
    record {
      low = wa.low;
      high = omega (arith, high, low, last);
      before = wa.before;
      following = first_after heads from mid to a b wa wb s;
    }

pub Wins-of_two : (heads : List Head) (a b : ℕ) (test : Bool) → test ≡ is_head_sooner (head_in heads b) (head_in heads a) → (from mid to : ℕ) → Wins heads from mid a → Wins heads mid to b → Wins heads from to (cond test b a)
Wins-of_two heads a b true is from mid to wa wb = Wins-second heads from mid to a b wa wb (sym is)
Wins-of_two heads a b false is from mid to wa wb = Wins-first heads from mid to a b wa wb (sym is)

-- a place alone
pub Wins-alone : (heads : List Head) (i to : ℕ) → to ≡ i + 1 → Wins heads i to i
Wins-alone heads i to is = record {
  low = omega arith;
  high = omega (arith, is);
  before = λ j ge lt. absurd (omega (arith, ge, lt));
  following = λ j ge lt.
      let same : i ≡ j = omega (arith, ge, lt, is) in
      subst (λ (k : ℕ). is_head_sooner (head_in heads k) (head_in heads i) ≡ false) same (not_sooner_self (head_in heads i));
}

pub Wins-range : (heads : List Head) (from from' to to' i : ℕ) → from ≡ from' → to ≡ to' → Wins heads from to i → Wins heads from' to' i
Wins-range heads from from' to to' i is is' w = subst (λ (k : ℕ). Wins heads from' k i) is' (subst (λ (k : ℕ). Wins heads k to i) is w)

-- ---- a row of nodes, each of which stands for so many heads

pub nodes_played : (heads : List Head) (nodes : List ℕ) (n wide k winner : ℕ) → length nodes ≡ n → k < n → ((p : ℕ) → p < n → p ≢ k → Wins heads (wide * p) (wide * p + wide) (get_or nodes p 0))
    → Wins heads (wide * k) (wide * k + wide) winner → (p : ℕ) → p < n → Wins heads (wide * p) (wide * p + wide) (get_or (set nodes k winner) p 0)
nodes_played heads nodes n wide k winner long inside others new p lt = elim (cases_eq p k) [
  | inl same ↦
      let at : get_or (set nodes k winner) p 0 ≡ winner = get_or-set_at nodes k p winner 0 same (omega (arith, long, inside)) in
      subst (λ (i : ℕ). Wins heads (wide * p) (wide * p + wide) i) (sym at) (subst (λ (q : ℕ). Wins heads (wide * q) (wide * q + wide) winner) (sym same) new)
  | inr apart ↦
      let at : get_or (set nodes k winner) p 0 ≡ get_or nodes p 0 = get_or-set_other nodes k p winner 0 apart in
      subst (λ (i : ℕ). Wins heads (wide * p) (wide * p + wide) i) (sym at) (others p lt apart)
]

-- ---- another head at a place

pub head_set_other : (heads : List Head) (place : ℕ) (head : Head) (i : ℕ) → i ≢ place → head_in (set heads place head) i ≡ head_in heads i
head_set_other heads place head i apart = get_or-set_other heads place i head (record { time = 0; cpu = 0 }) apart

pub head_set_same : (heads : List Head) (place : ℕ) (head : Head) (i : ℕ) → i ≡ place → place < length heads → head_in (set heads place head) i ≡ head
head_set_same heads place head i same inside = get_or-set_at heads place i head (record { time = 0; cpu = 0 }) same inside

-- a range without the place doesn't change
pub Wins-set_other : (heads : List Head) (place : ℕ) (head : Head) (from to i : ℕ) → ((j : ℕ) → from ≤ j → j < to → j ≢ place) → Wins heads from to i → Wins (set heads place head) from to i
Wins-set_other heads place head from to i apart w =
    let low = w.low in
    let high = w.high in
    let own = head_set_other heads place head i (apart i low high) in
    record {
      low = w.low;
      high = w.high;
      before = λ j ge lt. rw (own, head_set_other heads place head j (apart j ge (omega (arith, lt, high)))) (w.before j ge lt);
      following = λ j ge lt. rw (own, head_set_other heads place head j (apart j (omega (arith, low, ge)) lt)) (w.following j ge lt);
    }
