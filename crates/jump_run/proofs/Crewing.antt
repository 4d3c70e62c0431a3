-- Plans of the running tasks, worked out all at once, and what they leave of the budgets.
use Rattle.std.proofs.Common.{◌≡◌, ℕ, ◌-◌, ◌*◌, ◌^◌, ◌<◌, ◌≤◌, Some, false, List, [], ◌∷◌, ◌++◌, length, get_or, map, All, sym, ap, subst, ◌∙◌, arith, inl, inr}
use Rattle.std.specs.Prelude.{ℤ, pos, ◌-ℤ◌, ◌<ℤ◌, ◌≤ℤ◌}
use Rattle.std.specs.List.{AllZip}
use Rattle.std.proofs.Math.Nat.{mul-le-mul}
use Rattle.std.proofs.lemmas.Int.{ints}
use Rattle.std.proofs.lemmas.Bool.{cases_lt}
use Rattle.std.proofs.lemmas.List.{length_push, get_or_append_left, get_or_push, get_or-map, length-map}
use Rattle.std.proofs.lemmas.List.Elements.{All-push, All-get_or, AllZip-get_or, length_all_zip}
use Rattle.std.proofs.lemmas.Option.{same_Some}
use Rattle.domain_run.specs.Domain.{Domain}
use Rattle.domain_run.specs.declared.running.Running.{Running}
use Rattle.domain_run.specs.Jump.{running_numbers, running, rate_for, IsCharged, AreCharged}
use Rattle.tick_split.specs.declared.element.Plan.{Plan}
use Rattle.tick_split.specs.declared.element.Slice.{Slice}
use Rattle.tick_split.specs.Planning.{IsPlanned}
use Rattle.tick_split.specs.Charging.{IsChargeable, charged_slice}
use Rattle.tick_split.proofs.CallerLemmas.{slow_plan, left_before}
use Rattle.jump_run.specs.Plans.{plan_of, IsSoundPlan, ArePlans, slice_of, IsSmall}
use Rattle.jump_run.proofs.Gathering.{running_within}

-- one plan more
pub plans_push : (d : Domain) (ticks next i : ℕ) (plans : List Plan) (r : Running) (p : Plan) → next ≤ ticks → next ≤ r.work → running d i ≡ Some r → length plans ≡ i → p ≡ plan_of d r → IsSoundPlan p
    → ArePlans d ticks plans → ArePlans d next (plans ++ p ∷ [])
plans_push d ticks next i plans r p less work at long is fit are =
    let last : (j : ℕ) → j < length (plans ++ p ∷ []) → i ≤ j → i ≡ j = λ j within following. (let more = length_push plans p in omega (arith, more, long, within, following)) in
    let same : (q : Running) (j : ℕ) → i ≡ j → running d j ≡ Some q → r ≡ q = λ q j e h. same_Some r q (sym at ∙ ap (running d) e ∙ h) in
    record {
      each = λ j q x within h.
          elim (cases_lt j i) [
            | inl before ↦ get_or_append_left plans (p ∷ []) x j (omega (arith, before, long)) ∙ are.each j q x (omega (arith, before, long)) h
            | inr following ↦ let e = last j within following in get_or_push plans p x j (long ∙ e) ∙ is ∙ ap (plan_of d) (same q j e h)
          ];
      worked = λ j q within h.
          elim (cases_lt j i) [
            | inl before ↦ let w = are.worked j q (omega (arith, before, long)) h in omega (arith, w, less)
            | inr following ↦ subst (λ (x : Running). next ≤ x.work) (same q j (last j within following) h) work
          ];
      fit = All-push IsSoundPlan plans p are.fit fit;
    }

-- a task that runs for so many ticks by its plan
one_charged : (d : Domain) (next : ℕ) (r : Running) (p q : Plan) → IsSoundPlan p → IsPlanned p q → p ≡ plan_of d r → 0 < next → next ≤ q.spent → next ≤ r.work → IsCharged d next r (charged_slice (slice_of next q)).left
one_charged d next r p q fit is e some spent worked =
    let rate_is : q.rate ≡ rate_for d r = (subst (λ (x : Plan). IsPlanned x q) e is).rate in
    let left_is : p.left ≡ r.left = ap (λ (x : Plan). x.left) e in
    let kept : q.left ≡ p.left = ap (λ (x : Plan). x.left) is.others in
    let before = left_before p q fit.can is (next - 1) (omega (arith, some, spent)) in
    let lasted : pos (q.rate * (next - 1)) <ℤ r.left = omega (arith, ints, before, left_is) in
    record {
      worked = worked;
      lasted = subst (λ (n : ℕ). pos (n * (next - 1)) <ℤ r.left) rate_is lasted;
      charged = λ k. (kept ∙ left_is) k -ℤ pos (rate_is k * next);
    }

-- what is worked out keeps within bounds
record IsFitted (q : Plan) : Type 0 where
  pub slow : q.rate ≤ 2 ^ 27
  pub low : pos 0 <ℤ q.left
  pub high : q.left ≤ℤ pos (2 ^ 52)

fitted : (p q : Plan) → IsSoundPlan p → IsPlanned p q → IsFitted q
fitted p q fit is =
    let kept : q.left ≡ p.left = ap (λ (x : Plan). x.left) is.others in
    record {
      slow = slow_plan p q fit.ordered fit.can fit.within is;
      low = subst (λ (z : ℤ). pos 0 <ℤ z) (sym kept) fit.can.some_left;
      high = subst (λ (z : ℤ). z ≤ℤ pos (2 ^ 52)) (sym kept) fit.high;
    }

-- the plans, one by one
abbrev blank : Plan
blank = record { params = record { runtime = 0; deadline = 0; period = 0; reclaim = false; bw = 0 }; uinact = 0; sum = 0; cpus = 0; limit = 0; left = pos 0; rate = 0; spent = 0 }

module _ (plans after : List Plan) (planned : AllZip IsPlanned plans after) where
  pub all_from_one : All (λ (q : Plan). 1 ≤ q.spent) after
  all_from_one i d within = (AllZip-get_or IsPlanned plans after i d d planned (omega (arith, within, length_all_zip IsPlanned plans after planned))).from_one

  fitted_at : All IsSoundPlan plans → (i : ℕ) → i < length after → IsFitted (get_or after i blank)
  fitted_at fit i within =
      let there : i < length plans = omega (arith, within, length_all_zip IsPlanned plans after planned) in
      fitted (get_or plans i blank) (get_or after i blank) (All-get_or IsSoundPlan plans i blank there fit) (AllZip-get_or IsPlanned plans after i blank blank planned there)

  pub all_chargeable : (next : ℕ) → All IsSoundPlan plans → next ≤ 2 ^ 42 → All IsChargeable (map (slice_of next) after)
  all_chargeable next fit short i d within =
      let there : i < length after = omega (arith, within, length-map after (slice_of next)) in
      let f = fitted_at fit i there in
      rw (get_or-map (slice_of next) after i blank d there) (record {
        slow = let s = f.slow in omega (arith, s);
        few = short;
        low = let l = f.low in omega (arith, ints, l);
        high = let h = f.high in omega (arith, ints, h);
      })

  pub all_small : (next : ℕ) → All IsSoundPlan plans → next ≤ 2 ^ 42 → All IsSmall (map charged_slice (map (slice_of next) after))
  all_small next fit short i d within =
      let slices = map (slice_of next) after in
      let long : length (map charged_slice slices) ≡ length after = length-map slices charged_slice ∙ length-map after (slice_of next) in
      let there : i < length after = omega (arith, within, long) in
      let here : i < length slices = omega (arith, there, length-map after (slice_of next)) in
      let f = fitted_at fit i there in
      let product : (get_or after i blank).rate * next ≤ 2 ^ 27 * 2 ^ 42 = mul-le-mul f.slow short in
      rw (get_or-map charged_slice slices i (slice_of next blank) d here, get_or-map (slice_of next) after i blank (slice_of next blank) there) (record {
        low = let l = f.low in omega (arith, ints, l, product);
        high = let h = f.high in omega (arith, ints, h);
      })

  -- what the ticks leave of the budgets
  pub charged_by : (d : Domain) (ticks next : ℕ) → ArePlans d ticks plans → length plans ≡ length (running_numbers d.curr) → 0 < next → next ≤ ticks → All (λ (q : Plan). next ≤ q.spent) after
      → AreCharged d next (map (λ (s : Slice). s.left) (map charged_slice (map (slice_of next) after)))
  charged_by d ticks next are many some less spent =
      let slices = map (slice_of next) after in
      let same : length plans ≡ length after = length_all_zip IsPlanned plans after planned in
      let long : length (map charged_slice slices) ≡ length after = length-map slices charged_slice ∙ length-map after (slice_of next) in
      record {
        many = length-map (map charged_slice slices) (λ (s : Slice). s.left) ∙ long ∙ sym same ∙ many;
        each = λ i r h.
            let inside : i < length plans = omega (arith, running_within d i r h, many) in
            let there : i < length after = omega (arith, inside, same) in
            let here : i < length slices = omega (arith, there, length-map after (slice_of next)) in
            let last : i < length (map charged_slice slices) = omega (arith, there, long) in
            let p = get_or plans i blank in
            let q = get_or after i blank in
            let w = are.worked i r inside h in
            let one = one_charged d next r p q (All-get_or IsSoundPlan plans i blank inside are.fit) (AllZip-get_or IsPlanned plans after i blank blank planned inside) (are.each i r blank inside h) some (All-get_or (λ (x : Plan). next ≤ x.spent) after i blank there spent) (omega (arith, w, less)) in
            rw (get_or-map (λ (s : Slice). s.left) (map charged_slice slices) i (charged_slice (slice_of next blank)) (pos 0) last, get_or-map charged_slice slices i (slice_of next blank) (charged_slice (slice_of next blank)) here, get_or-map (slice_of next) after i blank (slice_of next blank) there) one;
      }
