-- Going through two lists of runs side by side finds what the definitions say.
use Rattle.std.proofs.Common.{◌≡◌, ℕ, zero, suc, ◌+◌, ◌<◌, ◌≤◌, ◌⊎◌, inl, inr, Bool, true, false, ◌&&◌, List, [], ◌∷◌, ◌++◌, take, Option, Some, None, refl, ap, arith}
use Rattle.std.specs.Option.{option_map, option_map_or}
use Rattle.std.specs.List.{AllByRecursion}
use Rattle.std.proofs.lemmas.Bool.Decides.{nat_tests}
use Rattle.trace_compare.specs.declared.clock.ClockShift.{ClockShift}
use Rattle.trace_compare.specs.declared.run.Run.{Run}
use Rattle.trace_compare.specs.Runs.{InTurn}
use Rattle.trace_compare.specs.Pairs.{is_near, fits, Split, later_by, split_at, partners, left_over, count_matched}
use Rattle.trace_compare.specs.private.Meetings.{IsTooEarly, IsLate}

-- ---- one after the other

later_all : (m : Run) (ms : List Run) → m.start ≤ m.«end» → AllByRecursion (λ q. m.«end» ≤ q.start) ms → InTurn ms → AllByRecursion (λ q. (m.start ≤ q.start) × (m.«end» ≤ q.«end»)) ms
unfolding InTurn
later_all m [] le h t = tt
later_all m (q ∷ qs) le h t = ((omega (arith, le, h.0), omega (arith, h.0, t.0)), later_all m qs le h.1 t.2)

in_turn_all : (m : Run) (ms : List Run) → InTurn (m ∷ ms) → AllByRecursion (λ q. (m.start ≤ q.start) × (m.«end» ≤ q.«end»)) (m ∷ ms)
unfolding InTurn
in_turn_all m ms t = ((omega arith, omega arith), later_all m ms t.0 t.1 t.2)

pub rest_in_turn : (m : Run) (ms : List Run) → InTurn (m ∷ ms) → InTurn ms
unfolding InTurn
rest_in_turn m ms t = t.2

all_taken : (P : Run → Type 0) (n : ℕ) (rs : List Run) → AllByRecursion P rs → AllByRecursion P (take n rs)
all_taken P zero rs h = tt
all_taken P (suc n) [] h = tt
all_taken P (suc n) (r ∷ rs) h = (h.0, all_taken P n rs h.1)

pub take_in_turn : (n : ℕ) (rs : List Run) → InTurn rs → InTurn (take n rs)
unfolding InTurn
take_in_turn zero rs t = tt
take_in_turn (suc n) [] t = tt
take_in_turn (suc n) (r ∷ rs) t = (t.0, all_taken (λ q. r.«end» ≤ q.start) n rs t.1, take_in_turn n rs t.2)

-- ---- what is too early or too late does not fit

far_fails : (within a b : ℕ) → (b + within < a) ⊎ (a + within < b) → is_near within a b ≡ false
far_fails within a b (inl h) = grind (arith, nat_tests)
far_fails within a b (inr h) = grind (arith, nat_tests)

no_and : (x y : Bool) → (x ≡ false) ⊎ (y ≡ false) → (x && y) ≡ false
no_and true y (inl h) = absurd cc
no_and true y (inr h) = h
no_and false y h = refl

early_fails : (within : ℕ) (shift : ClockShift) (m q r : Run) → IsTooEarly within shift m r → (m.start ≤ q.start) × (m.«end» ≤ q.«end») → fits within shift q r ≡ false
early_fails within shift m q r (inl h) le = no_and _ _ (inl (far_fails within (q.start + shift.ahead) (r.start + shift.behind) (inl (omega (arith, h, le.0)))))
early_fails within shift m q r (inr h) le = no_and _ _ (inr (far_fails within (q.«end» + shift.ahead) (r.«end» + shift.behind) (inl (omega (arith, h, le.1)))))

late_fails : (within : ℕ) (shift : ClockShift) (m r q : Run) → IsLate within shift m r → (r.start ≤ q.start) × (r.«end» ≤ q.«end») → fits within shift m q ≡ false
late_fails within shift m r q (inl h) le = no_and _ _ (inl (far_fails within (m.start + shift.ahead) (q.start + shift.behind) (inr (omega (arith, h, le.0)))))
late_fails within shift m r q (inr h) le = no_and _ _ (inr (far_fails within (m.«end» + shift.ahead) (q.«end» + shift.behind) (inr (omega (arith, h, le.1)))))

all_early : (within : ℕ) (shift : ClockShift) (m r : Run) (qs : List Run) → IsTooEarly within shift m r → AllByRecursion (λ q. (m.start ≤ q.start) × (m.«end» ≤ q.«end»)) qs → AllByRecursion (λ q. fits within shift q r ≡ false) qs
all_early within shift m r [] h all = tt
all_early within shift m r (q ∷ qs) h all = (early_fails within shift m q r h all.0, all_early within shift m r qs h all.1)

all_late : (within : ℕ) (shift : ClockShift) (m r : Run) (qs : List Run) → IsLate within shift m r → AllByRecursion (λ q. (r.start ≤ q.start) × (r.«end» ≤ q.«end»)) qs → AllByRecursion (λ q. fits within shift m q ≡ false) qs
all_late within shift m r [] h all = tt
all_late within shift m r (q ∷ qs) h all = (late_fails within shift m r q h all.0, all_late within shift m r qs h all.1)

-- ---- a step

module _ (fit : Run → Run → Bool) where
  split_none : (m : Run) (rs : List Run) → AllByRecursion (λ q. fit m q ≡ false) rs → split_at (fit m) rs ≡ None
  unfolding split_at
  split_none m [] h = refl
  split_none m (r ∷ rs) h = rw (h.0, split_none m rs h.1) refl

  partners_skip : (ms : List Run) (r : Run) (rs : List Run) → AllByRecursion (λ q. fit q r ≡ false) ms → partners fit ms (r ∷ rs) ≡ partners fit ms rs
  unfolding partners split_at
  partners_skip [] r rs h = refl
  partners_skip (m ∷ ms) r rs h =
      let same : (o : Option Split) → option_map_or (λ s. Some s.found ∷ partners fit ms s.after) (option_map (later_by r) o) (None ∷ partners fit ms (r ∷ rs)) ≡ option_map_or (λ s. Some s.found ∷ partners fit ms s.after) o (None ∷ partners fit ms rs) =
      λ o. elim o as (λ o. option_map_or (λ s. Some s.found ∷ partners fit ms s.after) (option_map (later_by r) o) (None ∷ partners fit ms (r ∷ rs)) ≡ option_map_or (λ s. Some s.found ∷ partners fit ms s.after) o (None ∷ partners fit ms rs)) [ None ↦ ap (λ ps. None ∷ ps) (partners_skip ms r rs h.1) | Some s ↦ refl ] in
      rw h.0 (same (split_at (fit m) rs))

  left_skip : (ms : List Run) (r : Run) (rs : List Run) → AllByRecursion (λ q. fit q r ≡ false) ms → left_over fit ms (r ∷ rs) ≡ r ∷ left_over fit ms rs
  unfolding left_over split_at
  left_skip [] r rs h = refl
  left_skip (m ∷ ms) r rs h =
      let same : (o : Option Split) → option_map_or (λ s. s.before ++ left_over fit ms s.after) (option_map (later_by r) o) (left_over fit ms (r ∷ rs)) ≡ r ∷ option_map_or (λ s. s.before ++ left_over fit ms s.after) o (left_over fit ms rs) =
      λ o. elim o as (λ o. option_map_or (λ s. s.before ++ left_over fit ms s.after) (option_map (later_by r) o) (left_over fit ms (r ∷ rs)) ≡ r ∷ option_map_or (λ s. s.before ++ left_over fit ms s.after) o (left_over fit ms rs)) [ None ↦ left_skip ms r rs h.1 | Some s ↦ refl ] in
      rw h.0 (same (split_at (fit m) rs))

  partners_fit : (m : Run) (ms : List Run) (r : Run) (rs : List Run) → fit m r ≡ true → partners fit (m ∷ ms) (r ∷ rs) ≡ Some r ∷ partners fit ms rs
  unfolding partners split_at
  partners_fit m ms r rs h = rw h refl

  left_fit : (m : Run) (ms : List Run) (r : Run) (rs : List Run) → fit m r ≡ true → left_over fit (m ∷ ms) (r ∷ rs) ≡ left_over fit ms rs
  unfolding left_over split_at
  left_fit m ms r rs h = rw h refl

  partners_late : (m : Run) (ms rs : List Run) → AllByRecursion (λ q. fit m q ≡ false) rs → partners fit (m ∷ ms) rs ≡ None ∷ partners fit ms rs
  unfolding partners
  partners_late m ms rs h = rw (split_none m rs h) refl

  left_late : (m : Run) (ms rs : List Run) → AllByRecursion (λ q. fit m q ≡ false) rs → left_over fit (m ∷ ms) rs ≡ left_over fit ms rs
  unfolding left_over
  left_late m ms rs h = rw (split_none m rs h) refl

  -- ---- at the end of one of the lists

  pub partners_end : (ms : List Run) → count_matched (partners fit ms []) ≡ 0
  unfolding partners split_at
  partners_end [] = refl
  partners_end (m ∷ ms) = partners_end ms

  pub partners_rest : (m : Run) (ms : List Run) → partners fit (m ∷ ms) [] ≡ None ∷ partners fit ms []
  unfolding partners split_at
  partners_rest m ms = refl

  pub left_end : (ms : List Run) → left_over fit ms [] ≡ []
  unfolding left_over split_at
  left_end [] = refl
  left_end (m ∷ ms) = left_end ms

  pub no_partners : (rs : List Run) → partners fit [] rs ≡ []
  unfolding partners
  no_partners rs = refl

  pub all_left : (rs : List Run) → left_over fit [] rs ≡ rs
  unfolding left_over
  all_left rs = refl

-- ---- the three steps on runs in turn

module _ (within : ℕ) (shift : ClockShift) where
  pub partners_early : (m : Run) (ms : List Run) (r : Run) (rs : List Run) → InTurn (m ∷ ms) → IsTooEarly within shift m r → partners (fits within shift) (m ∷ ms) (r ∷ rs) ≡ partners (fits within shift) (m ∷ ms) rs
  partners_early m ms r rs t h = partners_skip (fits within shift) (m ∷ ms) r rs (all_early within shift m r (m ∷ ms) h (in_turn_all m ms t))

  pub left_early : (m : Run) (ms : List Run) (r : Run) (rs : List Run) → InTurn (m ∷ ms) → IsTooEarly within shift m r → left_over (fits within shift) (m ∷ ms) (r ∷ rs) ≡ r ∷ left_over (fits within shift) (m ∷ ms) rs
  left_early m ms r rs t h = left_skip (fits within shift) (m ∷ ms) r rs (all_early within shift m r (m ∷ ms) h (in_turn_all m ms t))

  pub partners_past : (m : Run) (ms : List Run) (r : Run) (rs : List Run) → InTurn (r ∷ rs) → IsLate within shift m r → partners (fits within shift) (m ∷ ms) (r ∷ rs) ≡ None ∷ partners (fits within shift) ms (r ∷ rs)
  partners_past m ms r rs t h = partners_late (fits within shift) m ms (r ∷ rs) (all_late within shift m r (r ∷ rs) h (in_turn_all r rs t))

  pub left_past : (m : Run) (ms : List Run) (r : Run) (rs : List Run) → InTurn (r ∷ rs) → IsLate within shift m r → left_over (fits within shift) (m ∷ ms) (r ∷ rs) ≡ left_over (fits within shift) ms (r ∷ rs)
  left_past m ms r rs t h = left_late (fits within shift) m ms (r ∷ rs) (all_late within shift m r (r ∷ rs) h (in_turn_all r rs t))

  pub partners_both : (m : Run) (ms : List Run) (r : Run) (rs : List Run) → fits within shift m r ≡ true → partners (fits within shift) (m ∷ ms) (r ∷ rs) ≡ Some r ∷ partners (fits within shift) ms rs
  partners_both = partners_fit (fits within shift)

  pub left_both : (m : Run) (ms : List Run) (r : Run) (rs : List Run) → fits within shift m r ≡ true → left_over (fits within shift) (m ∷ ms) (r ∷ rs) ≡ left_over (fits within shift) ms rs
  left_both = left_fit (fits within shift)
