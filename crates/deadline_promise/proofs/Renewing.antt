-- A server whose deadline has passed is renewed by a wake, and one without budget at its deadline
-- by a replenishment: a whole budget, due a period from now.
use Rattle.std.proofs.Common.{◌≡◌, ℕ, zero, suc, ◌+◌, ◌-◌, ◌*◌, ◌<◌, ◌≤◌, true, false, cond, Option, Some, None, refl, sym, ap, subst, arith}
use Rattle.std.specs.Prelude.{ℤ, pos, negsuc, int_le, IfSome}
use Rattle.std.proofs.lemmas.Bool.{le-leb}
use Rattle.std.proofs.lemmas.Int.{ints}
use Rattle.attr_check.specs.ParamsView.{ParamsView}
use Rattle.cbs_rules.specs.declared.server.Server.{Server}
use Rattle.cbs_rules.specs.Budget.{budget, above_zero}
use Rattle.cbs_rules.specs.Serving.{renewed, overflows, woken_at, woken, is_spent, postponed, replenished}
use Rattle.domain_run.specs.declared.task.Task.{Task}
use Rattle.domain_run.specs.declared.task.Condition.TheVariants.{Ready, Throttled}
use Rattle.domain_run.specs.Conditions.{has_come}
use Rattle.domain_run.specs.Parts.{enqueued}
use Rattle.deadline_promise.proofs.Kept.{IsShare, IsWhole}
use Rattle.deadline_promise.proofs.Fitting.{something_left, last_turn}
use Rattle.deadline_promise.proofs.Reaching.{keeps_facts}

-- a whole budget, due a period after a time
abbrev pub IsNew : ParamsView → ℕ → Server → Type 0
IsNew p time s = (s.deadline ≡ Some (time + p.period)) × (above_zero s.left ≡ budget p)

replenished_zero : (p : ParamsView) (d : ℕ) → IsNew p d (replenished p (record { deadline = Some d; left = pos 0 }))
replenished_zero p d =
    let s : Server = postponed p (record { deadline = Some d; left = pos 0 }) in
    subst (IsNew p d) (sym (last_turn (is_spent s) p s)) (refl, omega arith)

replenished_of : (p : ParamsView) (d : ℕ) (o : Option ℕ) (left : ℤ) → o ≡ Some d → left ≡ pos 0 → IsNew p d (replenished p (record { deadline = o; left = left }))
replenished_of p d o left due none =
    subst (λ x. IsNew p d (replenished p (record { deadline = x; left = left }))) (sym due)
    (subst (λ x. IsNew p d (replenished p (record { deadline = Some d; left = x }))) (sym none) (replenished_zero p d))

pub zero_left : (p : ParamsView) (left : ℤ) → IsWhole p left → above_zero left ≡ 0 → left ≡ pos 0
zero_left p (pos n) w e = ap pos e
zero_left p (negsuc n) w e = absurd w

-- AT ITS DEADLINE with nothing left
pub replenished_new : (p : ParamsView) (d : ℕ) (s : Server) → s.deadline ≡ Some d → IsWhole p s.left → above_zero s.left ≡ 0 → IsNew p d (replenished p s)
replenished_new p d s due w none = replenished_of p d s.deadline s.left due (zero_left p s.left w none)

budget_left : (p : ParamsView) → 0 < p.runtime → int_le (pos (budget p)) (pos 0) ≡ false
budget_left p some = something_left (pos (budget p)) (omega (arith, ints, some))

module _ (time : ℕ) (t : Task) (is : IsShare t.params) (P : Task → Type 0) (new : (s : Server) → IsNew t.params time s → P (record t { server = s; condition = Ready })) where
  by_renewal : P (enqueued time (renewed t.params time) t)
  by_renewal =
      let p = t.params in
      let s = renewed p time in
      subst (λ b. P (cond b (cond (has_come time s.deadline) (record t { server = replenished p s; condition = Ready }) (record t { server = s; condition = Throttled })) (record t { server = s; condition = Ready })))
      (sym (budget_left p is.some_budget)) (new s (ap (λ k. Some (time + k)) is.whole_period, refl))

  at_deadline : (d : ℕ) → d ≡ time → P (enqueued time (record { deadline = Some d; left = pos 0 }) t)
  at_deadline d same =
      let p = t.params in
      let s : Server = record { deadline = Some d; left = pos 0 } in
      subst (λ b. P (cond b (record t { server = replenished p s; condition = Ready }) (record t { server = s; condition = Throttled }))) (sym (le-leb d time (omega (arith, same))))
      (new (replenished p s) (subst (λ k. IsNew p k (replenished p s)) same (replenished_zero p d)))

  by_keeping : (d n : ℕ) → d ≤ time → overflows t.params time d (pos n) ≡ false → P (enqueued time (record { deadline = Some d; left = pos n }) t)
  by_keeping d n past keeps =
      let p = t.params in
      let f = keeps_facts time d n p keeps in
      let same : d ≡ time = omega (arith, past, f.0) in
      let nothing : budget p * (d - time) ≡ budget p * 0 = ap (λ k. budget p * k) (omega (arith, past)) in
      let none : n ≡ 0 = no_left n p.period is.some (omega (arith, f.1, nothing)) in
      subst (λ k. P (enqueued time (record { deadline = Some d; left = pos k }) t)) (sym none) (at_deadline d same)
    where
      no_left : (n period : ℕ) → 0 < period → n * period ≤ 0 → n ≡ 0
      no_left zero period some h = refl
      no_left (suc n) period some h = let e : suc n * period ≡ n * period + period = omega arith in absurd (omega (arith, e, h, some))

  by_wake : (o : Option ℕ) (left : ℤ) → IsWhole t.params left → IfSome o (λ d. d ≤ time) → P (enqueued time (woken_at t.params time o left) t)
  by_wake None left w past = by_renewal
  by_wake (Some d) (negsuc n) w past = absurd w
  by_wake (Some d) (pos n) w past =
      let over = overflows t.params time d (pos n) in
      elim over as (λ b. over ≡ b → P (enqueued time (cond b (renewed t.params time) (record { deadline = Some d; left = pos n })) t)) [
        | true ↦ λ e. by_renewal
        | false ↦ λ e. by_keeping d n past e
      ] refl

-- A WAKE at a deadline or after it
pub enqueued_new : (P : Task → Type 0) (time : ℕ) (t : Task) (s : Server) → IsShare t.params → IsWhole t.params s.left → IfSome s.deadline (λ d. d ≤ time)
    → ((r : Server) → IsNew t.params time r → P (record t { server = r; condition = Ready })) → P (enqueued time (woken t.params time s) t)
enqueued_new P time t s is w past new = by_wake time t is P new s.deadline s.left w past
