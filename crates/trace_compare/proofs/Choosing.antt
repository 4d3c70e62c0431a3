-- Which of the shifts is the best.
use Rattle.std.proofs.Common.{◌≡◌, ℕ, ◌+◌, ◌<◌, ◌≤◌, ⊎_elim, List, [], ◌∷◌, ◌++◌, length, get_or, take, sym, ap, ◌∙◌, arith, subst, map, append_assoc, All, Contains}
use Rattle.std.proofs.lemmas.Bool.{cases_lt}
use Rattle.std.proofs.lemmas.List.{take_more, map-append, get_or_default}
use Rattle.std.proofs.lemmas.List.Elements.{All-append, All-cons, All-nil}
use Rattle.trace_compare.specs.declared.clock.ClockShift.{ClockShift}
use Rattle.trace_compare.specs.declared.shift.Choice.{Choice}
use Rattle.trace_compare.specs.Clocks.{IsShiftUpTo, IsSmallShift}
use Rattle.trace_compare.specs.Shift.{IsBestOf}
use Rattle.trace_compare.specs.private.Choices.{IsBetter, IsBestSoFar}

-- one more element is told
pub map_told : {A B : Type 0} (f : A → B) (old before after : List B) (xs : List A) (i : ℕ) (d : A) → i < length xs → before ≡ old ++ map f (take i xs) → after ≡ before ++ f (get_or xs i d) ∷ [] → after ≡ old ++ map f (take (i + 1) xs)
map_told f old before after xs i d l b a =
    a ∙ ap (λ ys. ys ++ f (get_or xs i d) ∷ []) b ∙ append_assoc old (map f (take i xs)) (f (get_or xs i d) ∷ [])
    ∙ ap (λ ys. old ++ ys) (sym (map-append f (take i xs) (get_or xs i d ∷ [])) ∙ ap (map f) (sym (take_more xs i d l)))

pub better_step : (f : ClockShift → ℕ) (xs : List ClockShift) (i : ℕ) (e0 : ClockShift) (a b r : Choice) → i < length xs → IsBestSoFar f xs i a → b.shift ≡ get_or xs i e0 → b.score ≡ f b.shift → IsBetter a b r → IsBestSoFar f xs (i + 1) r
better_step f xs i e0 a b r l h here score better =
    let within : Contains xs b.shift = (i, l, get_or_default xs i b.shift e0 l ∙ sym here) in
    let at : (k : ℕ) (d : ClockShift) → k < i + 1 → i ≤ k → get_or xs k d ≡ b.shift = λ k d lt last. ap (λ (n : ℕ). get_or xs n d) (omega (arith, last, lt)) ∙ get_or_default xs i d e0 l ∙ sym here in
    record {
      among = ⊎_elim (λ e. subst (λ (c : Choice). Contains xs c.shift) (sym e) h.among) (λ e. subst (λ (c : Choice). Contains xs c.shift) (sym e) within) better.one;
      value = ⊎_elim (λ e. subst (λ (c : Choice). c.score ≡ f c.shift) (sym e) h.value) (λ e. subst (λ (c : Choice). c.score ≡ f c.shift) (sym e) score) better.one;
      most = λ k d lt. ⊎_elim
          (λ before. omega (arith, h.most k d before, better.most_a))
          (λ last. let same : f (get_or xs k d) ≡ f b.shift = ap f (at k d lt last) in omega (arith, same, score, better.most_b))
          (cases_lt k i);
      smallest = λ k d lt e. ⊎_elim
          (λ before. let low = h.most k d before in let eq : a.score ≡ r.score = omega (arith, low, e, better.most_a) in let one = better.least_a eq in let two = h.smallest k d before (omega (arith, e, eq)) in omega (arith, one, two))
          (λ last. let there = at k d lt last in let same : f (get_or xs k d) ≡ f b.shift = ap f there in subst (λ (s : ClockShift). IsShiftUpTo s r.shift) (sym there) (better.least_b (omega (arith, same, score, e))))
          (cases_lt k i);
    }

pub better_small : (a b r : Choice) → IsBetter a b r → IsSmallShift a.shift → IsSmallShift b.shift → IsSmallShift r.shift
better_small a b r better first second = ⊎_elim (λ e. subst (λ (c : Choice). IsSmallShift c.shift) (sym e) first) (λ e. subst (λ (c : Choice). IsSmallShift c.shift) (sym e) second) better.one

pub best_in_all : (f : ClockShift → ℕ) (xs : List ClockShift) (i : ℕ) (best : Choice) → length xs ≤ i → IsBestSoFar f xs i best → IsBestOf f xs best.shift
best_in_all f xs i best l h =
    record {
      among = h.among;
      most = λ k d lt. let m = h.most k d (omega (arith, l, lt)) in omega (arith, m, h.value);
      smallest = λ k d lt e. h.smallest k d (omega (arith, l, lt)) (omega (arith, e, h.value));
    }

pub all_pushed : {X : Type 0} (P : X → Type 0) (xs ys : List X) (x : X) → All P xs → P x → ys ≡ xs ++ x ∷ [] → All P ys
all_pushed P xs ys x all one e = subst (All P) (sym e) (All-append P xs (x ∷ []) all (All-cons P x [] one (All-nil P)))
