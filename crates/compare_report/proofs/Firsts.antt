-- The earliest of some times, one after another.
use Rattle.std.proofs.Common.{◌≡◌, ℕ, ◌+◌, ◌<◌, ◌≤◌, ⊎_elim, List, length, get_or, sym, ap, ◌∙◌, subst, arith, Option, Some, None, is_some, true≢false, unwrap_or}
use Rattle.std.proofs.lemmas.Bool.{cases_lt}
use Rattle.std.proofs.Math.ListN.{get_or-eq_default}
use Rattle.compare_report.specs.First.{IsFirstStart}
use Rattle.compare_report.specs.private.SoFar.{IsLeastSoFar, IsFirstSoFar}

some_same : (a b : ℕ) → Some a ≡ Some b → a ≡ b
some_same a b e = ap (λ o. unwrap_or o a) e

-- what holds before a place and at it holds up to behind it
up_to : (P : ℕ → Type 0) (i : ℕ) → ((k : ℕ) → k < i → P k) → P i → (k : ℕ) → k < i + 1 → P k
up_to P i before here k lt =
    ⊎_elim (λ less. before k less) (λ more. let same : i ≡ k = omega (arith, more, lt) in subst P same here) (cases_lt k i)

-- no time at the place
pub none_here : (starts : List (Option ℕ)) (i : ℕ) (found : Option (ℕ × ℕ)) → get_or starts i None ≡ None → IsFirstSoFar starts i found → IsFirstSoFar starts (i + 1) found
none_here starts i None none was = up_to (λ k. get_or starts k None ≡ None) i was none
none_here starts i (Some f) none was = record {
  within = omega (arith, was.within);
  is = was.is;
  least = λ k other lt. up_to (λ k. get_or starts k None ≡ Some other → f.1 ≤ other) i (λ k less. was.least k other less)
      (λ e. absurd (true≢false (sym (ap is_some e) ∙ ap is_some none))) k lt;
  first = was.first;
}

-- the first time
pub first_here : (starts : List (Option ℕ)) (i at : ℕ) → get_or starts i None ≡ Some at → IsFirstSoFar starts i None → IsFirstSoFar starts (i + 1) (Some (i, at))
first_here starts i at here was =
    let nothing : (k other : ℕ) → k < i → get_or starts k None ≡ Some other → ⊥ = λ k other less e. true≢false (sym (ap is_some e) ∙ ap is_some (was k less)) in
    record {
      within = omega arith;
      is = here;
      least = λ k other lt. up_to (λ k. get_or starts k None ≡ Some other → at ≤ other) i (λ k less e. absurd (nothing k other less e))
          (λ e. let same = some_same at other (sym here ∙ e) in omega (arith, same)) k lt;
      first = λ k other less e. absurd (nothing k other less e);
    }

-- a time that is no earlier
pub later_here : (starts : List (Option ℕ)) (i at : ℕ) (f : ℕ × ℕ) → get_or starts i None ≡ Some at → f.1 ≤ at → IsLeastSoFar starts i f → IsLeastSoFar starts (i + 1) f
later_here starts i at f here le was = record {
  within = omega (arith, was.within);
  is = was.is;
  least = λ k other lt. up_to (λ k. get_or starts k None ≡ Some other → f.1 ≤ other) i (λ k less. was.least k other less)
      (λ e. let same = some_same at other (sym here ∙ e) in omega (arith, same, le)) k lt;
  first = was.first;
}

-- and one that is
pub earlier_here : (starts : List (Option ℕ)) (i at : ℕ) (f : ℕ × ℕ) → get_or starts i None ≡ Some at → at < f.1 → IsLeastSoFar starts i f → IsLeastSoFar starts (i + 1) (i, at)
earlier_here starts i at f here less was =
    let before : (k other : ℕ) → k < i → get_or starts k None ≡ Some other → at < other = λ k other lt e. let le = was.least k other lt e in omega (arith, le, less) in
    record {
      within = omega arith;
      is = here;
      least = λ k other lt. up_to (λ k. get_or starts k None ≡ Some other → at ≤ other) i (λ k lt e. let b = before k other lt e in omega (arith, b))
          (λ e. let same = some_same at other (sym here ∙ e) in omega (arith, same)) k lt;
      first = before;
    }

beyond : (starts : List (Option ℕ)) (k other : ℕ) → get_or starts k None ≡ Some other → k < length starts
beyond starts k other e = ⊎_elim (λ lt. lt) (λ past. absurd (true≢false (sym (ap is_some e) ∙ ap is_some (get_or-eq_default starts None past)))) (cases_lt k (length starts))

-- of all
pub of_all : (starts : List (Option ℕ)) (f : ℕ × ℕ) → IsLeastSoFar starts (length starts) f → IsFirstStart starts (Some f.0)
of_all starts f is = (
  f.1,
  record {
    within = is.within;
    is = is.is;
    least = λ k other e. is.least k other (beyond starts k other e) e;
    first = is.first;
  },
)

pub of_none : (starts : List (Option ℕ)) → IsFirstSoFar starts (length starts) None → IsFirstStart starts None
of_none starts none k = ⊎_elim (λ lt. none k lt) (λ past. get_or-eq_default starts None past) (cases_lt k (length starts))
