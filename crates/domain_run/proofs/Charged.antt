-- What one tick leaves of the budgets of the running tasks, one after another.
use Rattle.std.proofs.Common.{◌≡◌, ℕ, ◌+◌, ◌-◌, ◌*◌, ◌<◌, ◌≤◌, Some, None, List, length, get_or, set, take, sym, ap, subst, ◌∙◌, arith, inl, inr}
use Rattle.std.specs.Prelude.{ℤ, pos, ◌-ℤ◌, ◌<ℤ◌, ◌⊎◌}
use Rattle.std.proofs.lemmas.Bool.{cases_lt}
use Rattle.std.proofs.lemmas.List.{get_or-set_same, get_or-set_other, get_or-take, length-take-le}
use Rattle.std.proofs.lemmas.Option.{same_Some, slice_get_past}
use Rattle.domain_run.specs.Domain.{Domain}
use Rattle.domain_run.specs.declared.running.Running.{Running}
use Rattle.domain_run.specs.Jump.{running_numbers, running_if, running, rate_for, IsCharged, AreCharged}

-- the first so many are charged
abbrev pub AreFirst : Domain → ℕ → List ℤ → Type 0
AreFirst d count budgets = (k : ℕ) (r : Running) → k < count → running d k ≡ Some r → IsCharged d 1 r (get_or budgets k (pos 0))

pub one_tick : (d : Domain) (r : Running) (rate : ℕ) (left : ℤ) → 0 < r.work → pos 0 <ℤ r.left → rate ≡ rate_for d r → left ≡ r.left -ℤ pos rate → IsCharged d 1 r left
one_tick d r rate left some lifted rate-is left-is =
    let none : rate_for d r * (1 - 1) ≡ 0 = omega arith in
    let once : rate_for d r * 1 ≡ rate_for d r = omega arith in
    record {
      worked = some;
      lasted = rw none lifted;
      charged = left-is ∙ ap (λ (n : ℕ). r.left -ℤ pos n) (rate-is ∙ sym once);
    }

pub charged_push : (d : Domain) (i : ℕ) (budgets : List ℤ) (r : Running) (left : ℤ) → i < length budgets → running d i ≡ Some r → IsCharged d 1 r left → AreFirst d i budgets → AreFirst d (i + 1) (set budgets i left)
charged_push d i budgets r left inside at is are k q within at-k =
    elim (cases_lt k i) [
      | inl before ↦ subst (IsCharged d 1 q) (sym (get_or-set_other budgets i k left (pos 0) (λ e. absurd (omega (arith, e, before))))) (are k q before at-k)
      | inr following ↦
          let same : i ≡ k = omega (arith, within, following) in
          let task : r ≡ q = same_Some r q (sym at ∙ ap (running d) same ∙ at-k) in
          let here : get_or (set budgets i left) k (pos 0) ≡ left = ap (λ (n : ℕ). get_or (set budgets i left) n (pos 0)) (sym same) ∙ get_or-set_same budgets i left (pos 0) inside in
          subst (IsCharged d 1 q) (sym here) (subst (λ (x : Running). IsCharged d 1 x left) task is)
    ]

running_within : (d : Domain) (i : ℕ) (r : Running) → running d i ≡ Some r → i < length (running_numbers d.curr)
running_within d i r e =
    elim (cases_lt i (length (running_numbers d.curr))) [
      | inl h ↦ h
      | inr past ↦ let none : None ≡ Some r = sym (ap (running_if d) (slice_get_past (running_numbers d.curr) i past)) ∙ e in absurd cc
    ]

pub charged_whole : (d : Domain) (count : ℕ) (budgets : List ℤ) → AreFirst d count budgets → count ≡ length (running_numbers d.curr) → count ≤ length budgets → AreCharged d 1 (take count budgets)
charged_whole d count budgets are many room = record {
  many = length-take-le count budgets room ∙ many;
  each = λ i r is.
      let within : i < count = omega (arith, running_within d i r is, many) in
      subst (IsCharged d 1 r) (sym (get_or-take count budgets i (pos 0) within)) (are i r within is);
}

-- the next is nobody, so these are all
pub charged_all_now : (d : Domain) (count : ℕ) (budgets : List ℤ) → AreFirst d count budgets → count ≤ length (running_numbers d.curr) → (count < length (running_numbers d.curr) → ⊥) → count ≤ length budgets → AreCharged d 1 (take count budgets)
charged_all_now d count budgets are few past room = charged_whole d count budgets are (by_cases (cases_lt count (length (running_numbers d.curr)))) room
  where
    by_cases : (count < length (running_numbers d.curr)) ⊎ (length (running_numbers d.curr) ≤ count) → count ≡ length (running_numbers d.curr)
    by_cases (inl less) = absurd (past less)
    by_cases (inr most) = omega (arith, few, most)
