-- What is gathered of the running tasks, one after another.
use Rattle.std.proofs.Common.{◌≡◌, ◌≢◌, ℕ, ◌+◌, ◌-◌, ◌*◌, ◌^◌, ◌<◌, ◌≤◌, Some, None, List, length, get_or, set, take, sym, ap, subst, ◌∙◌, arith, inl, inr}
use Rattle.std.specs.Prelude.{ℤ, pos, ◌-ℤ◌, ◌<ℤ◌, slice_index, slice_index_or}
use Rattle.std.proofs.Math.Nat.{mul-le-mul_left}
use Rattle.std.proofs.lemmas.Int.{ints}
use Rattle.std.proofs.lemmas.Bool.{cases_lt}
use Rattle.std.proofs.lemmas.List.{get_or-set_same, get_or-set_other, get_or-take, length-take-le}
use Rattle.std.proofs.lemmas.Option.{same_Some, slice_get_past}
use Rattle.domain_run.specs.Domain.{Domain}
use Rattle.domain_run.specs.declared.running.Running.{Running}
use Rattle.domain_run.specs.Jump.{running_numbers, running_if, running, rate_for, AreCharged}
use Rattle.jump_run.specs.Plan.{IsGathered, AreGathered}

-- what holds for so many ticks holds for fewer
fewer : (rate ticks next left : ℕ) → next ≤ ticks → rate * (ticks - 1) < left → rate * (next - 1) < left
fewer rate ticks next left less lasted =
    let least : next - 1 ≤ ticks - 1 = omega (arith, less) in
    let most = mul-le-mul_left rate least in
    omega (arith, lasted, most)

-- the next running task
pub record IsNext (d : Domain) (ticks i : ℕ) (r : Running) (left rate : ℕ) : Type 0 where
  pub is : running d i ≡ Some r
  pub gathered : IsGathered d ticks r left rate
  pub slow : rate ≤ 2 ^ 27
  pub high : left ≤ 2 ^ 52

pub gathered_push : (d : Domain) (ticks next i : ℕ) (lefts rates : List ℕ) (r : Running) (left rate : ℕ) → next ≤ ticks → IsNext d next i r left rate → i < length lefts → i < length rates
    → AreGathered d ticks i lefts rates → AreGathered d next (i + 1) (set lefts i left) (set rates i rate)
gathered_push d ticks next i lefts rates r left rate less at here there are = record {
  each = λ j q within is.
      elim (cases_lt j i) [
        | inl before ↦
            let other : j ≢ i = λ e. absurd (omega (arith, e, before)) in
            let was : IsGathered d ticks q (get_or lefts j 0) (get_or rates j 0) = are.each j q before is in
            let now : IsGathered d next q (get_or lefts j 0) (get_or rates j 0) = record {
              left_is = was.left_is;
              rate_is = was.rate_is;
              worked = omega (arith, less, was.worked);
              lasted = fewer (get_or rates j 0) ticks next (get_or lefts j 0) less was.lasted;
            } in
            rw (get_or-set_other lefts i j left 0 other, get_or-set_other rates i j rate 0 other) now
        | inr following ↦
            let same : i ≡ j = omega (arith, within, following) in
            let task : r ≡ q = same_Some r q (sym at.is ∙ ap (running d) same ∙ is) in
            let now : IsGathered d next r (get_or (set lefts i left) i 0) (get_or (set rates i rate) i 0) = rw (get_or-set_same lefts i left 0 here, get_or-set_same rates i rate 0 there) at.gathered in
            subst (λ (x : Running). IsGathered d next x (get_or (set lefts i left) j 0) (get_or (set rates i rate) j 0)) task (subst (λ (k : ℕ). IsGathered d next r (get_or (set lefts i left) k 0) (get_or (set rates i rate) k 0)) same now)
      ];
  slow = λ j within.
      elim (cases_lt j i) [
        | inl before ↦ rw (get_or-set_other rates i j rate 0 (λ e. absurd (omega (arith, e, before)))) (are.slow j before)
        | inr following ↦ let same : j ≡ i = omega (arith, within, following) in rw (same, get_or-set_same rates i rate 0 there) at.slow
      ];
  high = λ j within.
      elim (cases_lt j i) [
        | inl before ↦ rw (get_or-set_other lefts i j left 0 (λ e. absurd (omega (arith, e, before)))) (are.high j before)
        | inr following ↦ let same : j ≡ i = omega (arith, within, following) in rw (same, get_or-set_same lefts i left 0 here) at.high
      ];
}

-- one budget more
pub left_push : (lefts rates : List ℕ) (ticks i : ℕ) (budgets : List ℤ) (z : ℤ) → i < length budgets → z ≡ pos (slice_index lefts i) -ℤ pos (slice_index rates i * ticks)
    → ((j : ℕ) → j < i → slice_index_or budgets j (pos 0) ≡ pos (slice_index lefts j) -ℤ pos (slice_index rates j * ticks))
    → (j : ℕ) → j < i + 1 → slice_index_or (set budgets i z) j (pos 0) ≡ pos (slice_index lefts j) -ℤ pos (slice_index rates j * ticks)
left_push lefts rates ticks i budgets z here is before j within =
    elim (cases_lt j i) [
      | inl less ↦ get_or-set_other budgets i j z (pos 0) (λ e. absurd (omega (arith, e, less))) ∙ before j less
      | inr following ↦
          let same : i ≡ j = omega (arith, within, following) in
          subst (λ (k : ℕ). get_or (set budgets i z) k (pos 0) ≡ pos (slice_index lefts k) -ℤ pos (slice_index rates k * ticks)) same (get_or-set_same budgets i z (pos 0) here ∙ is)
    ]

-- a running task is one of those that run
pub running_within : (d : Domain) (i : ℕ) (r : Running) → running d i ≡ Some r → i < length (running_numbers d.curr)
running_within d i r e =
    elim (cases_lt i (length (running_numbers d.curr))) [
      | inl h ↦ h
      | inr past ↦ let no : None ≡ Some r = sym (ap (running_if d) (slice_get_past (running_numbers d.curr) i past)) ∙ e in absurd cc
    ]

-- what the ticks leave of the budgets
pub charged_all : (d : Domain) (ticks count : ℕ) (lefts rates : List ℕ) (budgets : List ℤ) → AreGathered d ticks count lefts rates → count ≡ length (running_numbers d.curr) → count ≤ length budgets
    → ((i : ℕ) → i < count → slice_index_or budgets i (pos 0) ≡ pos (slice_index lefts i) -ℤ pos (slice_index rates i * ticks)) → AreCharged d ticks (take count budgets)
charged_all d ticks count lefts rates budgets are many room each = record {
  many = length-take-le count budgets room ∙ many;
  each = λ i r is.
      let within : i < count = omega (arith, running_within d i r is, many) in
      let g = are.each i r within is in
      let at : get_or (take count budgets) i (pos 0) ≡ get_or budgets i (pos 0) = get_or-take count budgets i (pos 0) within in
      let lasted : pos (slice_index rates i * (ticks - 1)) <ℤ pos (slice_index lefts i) = omega (arith, ints, g.lasted) in
      record {
        worked = g.worked;
        lasted = subst (λ (z : ℤ). pos (rate_for d r * (ticks - 1)) <ℤ z) g.left_is (subst (λ (n : ℕ). pos (n * (ticks - 1)) <ℤ pos (slice_index lefts i)) g.rate_is lasted);
        charged = at ∙ each i within ∙ (λ k. g.left_is k -ℤ pos (g.rate_is k * ticks));
      };
}
