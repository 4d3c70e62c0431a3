-- The rules of a server, later.
use Rattle.std.proofs.Common.{◌≡◌, ℕ, zero, suc, ◌+◌, ◌-◌, ◌*◌, ◌/◌, Bool, true, false, cond, ◌||◌, leb, Option, Some, None, refl, sym, ◌∙◌, inl, inr, arith}
use Rattle.std.proofs.lemmas.Bool.{cases_lt}
use Rattle.std.specs.Prelude.{ℤ, pos, ◌+ℤ◌, ◌*ℤ◌, int_lt}
use Rattle.attr_check.specs.ParamsView.{ParamsView}
use Rattle.cbs_rules.specs.declared.server.Server.{Server}
use Rattle.cbs_rules.specs.Budget.{budget, above_zero, below_zero}
use Rattle.cbs_rules.specs.Serving.{renewed, overflows, woken_at, woken, is_spent, postponed, replenished_while, replenished}
use Rattle.grub_rules.specs.Lag.{lag_at, zero_lag}
use Rattle.domain_run.specs.Later.{later, later_server}
use Rattle.repeat_law.proofs.Lists.{choice_over, le_later, lt_later}

pub swap_add : (a b k : ℕ) → a + k + b ≡ a + b + k
swap_add a b k = omega arith

overflows_later : (k : ℕ) (p : ParamsView) (time d : ℕ) (left : ℤ) → overflows p (time + k) (d + k) left ≡ overflows p time d left
overflows_later k p time d left =
    let a = lt_later d time k in
    let e : d + k - (time + k) ≡ d - time = omega arith in
    λ i. a i || int_lt (pos (budget p * e i)) (left *ℤ pos p.period)

renewed_later : (k : ℕ) (p : ParamsView) (time : ℕ) → renewed p (time + k) ≡ later_server k (renewed p time)
renewed_later k p time = let e = swap_add time p.deadline k in λ i. record { deadline = Some (e i); left = pos (budget p) }

woken_at_later : (k : ℕ) (p : ParamsView) (time : ℕ) (o : Option ℕ) (left : ℤ) → woken_at p (time + k) (later k o) left ≡ later_server k (woken_at p time o left)
woken_at_later k p time None left = renewed_later k p time
woken_at_later k p time (Some d) left =
    let a = overflows_later k p time d left in
    let b = renewed_later k p time in
    (λ i. cond (a i) (b i) (record { deadline = Some (d + k); left = left }))
    ∙ choice_over (later_server k) (overflows p time d left) (renewed p time) (record { deadline = Some d; left = left })

pub woken_later : (k : ℕ) (p : ParamsView) (time : ℕ) (s : Server) → woken p (time + k) (later_server k s) ≡ later_server k (woken p time s)
woken_later k p time s = woken_at_later k p time s.deadline s.left

later_twice : (k n : ℕ) (o : Option ℕ) → later n (later k o) ≡ later k (later n o)
later_twice k n None = refl
later_twice k n (Some d) = let e = swap_add d n k in λ i. Some (e i)

postponed_later : (k : ℕ) (p : ParamsView) (s : Server) → postponed p (later_server k s) ≡ later_server k (postponed p s)
postponed_later k p s = let e = later_twice k p.period s.deadline in λ i. record { deadline = e i; left = s.left +ℤ pos (budget p) }

replenished_while_later : (k : ℕ) (p : ParamsView) (spent : Bool) (turns : ℕ) (s : Server) → replenished_while spent turns p (later_server k s) ≡ later_server k (replenished_while spent turns p s)
replenished_while_later k p false turns s = refl
replenished_while_later k p true zero s = refl
replenished_while_later k p true (suc turns) s =
    let e = postponed_later k p s in
    (λ i. replenished_while (is_spent (e i)) turns p (e i))
    ∙ replenished_while_later k p (is_spent (postponed p s)) turns (postponed p s)

pub replenished_later : (k : ℕ) (p : ParamsView) (s : Server) → replenished p (later_server k s) ≡ later_server k (replenished p s)
replenished_later k p s = replenished_while_later k p (is_spent s) (below_zero s.left + 1) s

lag_later : (k : ℕ) (p : ParamsView) (time : ℕ) (o : Option ℕ) (left : ℤ) → lag_at p (time + k) (later k o) left ≡ later k (lag_at p time o left)
lag_later k p time None left = refl
lag_later k p time (Some d) left = by_size (above_zero left * p.period / budget p)
  where
    -- where the quotient is more than the deadline, the time has come either way
    by_size : (x : ℕ) → cond (leb (d + k - x) (time + k)) None (Some (d + k - x)) ≡ later k (cond (leb (d - x) time) None (Some (d - x)))
    by_size x = elim (cases_lt d x) [
      | inl past ↦
          let a : leb (d + k - x) (time + k) ≡ true = grind (arith, past) in
          let b : leb (d - x) time ≡ true = grind (arith, past) in
          (λ i. cond {A = Option ℕ} (a i) None (Some (d + k - x))) ∙ sym (λ i. later k (cond {A = Option ℕ} (b i) None (Some (d - x))))
      | inr ahead ↦
          let e : d + k - x ≡ d - x + k = omega (arith, ahead) in
          let a = le_later (d - x) time k in
          (λ i. cond {A = Option ℕ} (leb (e i) (time + k)) None (Some (e i)))
          ∙ (λ i. cond {A = Option ℕ} (a i) None (Some (d - x + k)))
          ∙ choice_over (later k) (leb (d - x) time) None (Some (d - x))
    ]

pub zero_lag_later : (k : ℕ) (p : ParamsView) (time : ℕ) (s : Server) → zero_lag p (time + k) (later_server k s) ≡ later k (zero_lag p time s)
zero_lag_later k p time s = lag_later k p time s.deadline s.left
