-- What a server may still take, in numbers.
use Rattle.std.proofs.Common.{◌≡◌, ℕ, ◌+◌, ◌-◌, ◌*◌, ◌<◌, ◌≤◌, Bool, true, false, ◌||◌, leb, ltb, Option, Some, None, refl, arith, ap, ◌∙◌}
use Rattle.std.specs.Prelude.{ℤ, pos, negsuc, nat_le}
use Rattle.std.proofs.lemmas.Bool.{cond_both, leb-true, leb-false, ltb-true, ltb-false}
use Rattle.std.proofs.Math.Nat.{mul-add, add-mul, mul-le-mul_left, mul-le-mul_right, mul_right_comm}
use Rattle.attr_check.specs.ParamsView.{ParamsView}
use Rattle.cbs_rules.specs.Budget.{budget}
use Rattle.cbs_rules.specs.Serving.{overflows}
use Rattle.deadline_promise.specs.Reach.{share_up, due_by, reach_from, reach_kept, reach_new, reach_resting}
use Rattle.deadline_promise.proofs.Kept.{IsShare, IsWhole}
use Rattle.limits.specs.Limits.{unit}

-- THE HEART: what is left beyond its share until the deadline, with the share of the rest of a
-- period, is a whole budget
enough : (B b P left k m : ℕ) → B ≤ b * P → B * k < left * P → P ≤ k + m → B ≤ left + b * m
enough B b P left k m share over long =
    cond_both (leb B (left + b * m)) true false (λ x. B ≤ left + b * m)
    (λ yes. leb-true B (left + b * m) yes)
    (λ no.
    let less : left + b * m < B = leb-false B (left + b * m) no in
    let one : (left + b * m + 1) * P ≤ B * P = mul-le-mul_right P (omega (arith, less)) in
    let two : B * P ≤ B * (k + m) = mul-le-mul_left B long in
    let three : B * m ≤ b * P * m = mul-le-mul_right m share in
    let four : (left + b * m + 1) * P ≡ left * P + b * m * P + P = add-mul (left + b * m) 1 P ∙ omega (arith, add-mul left (b * m) P) in
    let five : B * (k + m) ≡ B * k + B * m = mul-add B k m in
    let six : b * m * P ≡ b * P * m = mul_right_comm b m P in
    omega (arith, over, one, two, three, four, five, six))

within : (B b P left k : ℕ) → 0 < P → B ≤ b * P → left * P ≤ B * k → left ≤ b * k
within B b P left k some share in_share =
    cond_both (leb left (b * k)) true false (λ x. left ≤ b * k)
    (λ yes. leb-true left (b * k) yes)
    (λ no.
    let less : b * k < left = leb-false left (b * k) no in
    let one : (b * k + 1) * P ≤ left * P = mul-le-mul_right P (omega (arith, less)) in
    let two : B * k ≤ b * P * k = mul-le-mul_right k share in
    let three : (b * k + 1) * P ≡ b * k * P + P = add-mul (b * k) 1 P ∙ omega arith in
    let four : b * k * P ≡ b * P * k = mul_right_comm b k P in
    omega (arith, some, in_share, one, two, three, four))

pub due : (x d n : ℕ) → d ≤ x → due_by x d n ≡ n
due x d n is = cond_both (nat_le d x) n 0 (λ y. y ≡ n) (λ yes. refl) (λ no. omega (arith, is, leb-false d x no))

pub not_due : (x d n : ℕ) → x < d → due_by x d n ≡ 0
not_due x d n is = cond_both (nat_le d x) n 0 (λ y. y ≡ 0) (λ yes. omega (arith, is, leb-true d x yes)) (λ no. refl)

apart : (b x y z : ℕ) → z ≤ y → y ≤ x → b * (x - z) ≡ b * (x - y) + b * (y - z)
apart b x y z first then_y =
    let e : x - z ≡ x - y + (y - z) = omega (arith, first, then_y) in
    ap (λ n. b * n) e ∙ mul-add b (x - y) (y - z)

-- what is due is counted, and what is not is nothing
by_due : (x d : ℕ) (C : Type 0) → (d ≤ x → C) → (x < d → C) → C
by_due x d C f g = cond_both (leb d x) true false (λ y. C) (λ yes. f (leb-true d x yes)) (λ no. g (leb-false d x no))

pub nothing : (b x d : ℕ) → x ≤ d → b * (x - d) ≡ 0
nothing b x d h = let e : b * (x - d) ≡ b * 0 = ap (λ n. b * n) (omega (arith, h)) in omega (arith, e)

reached : (time x bound : ℕ) (p : ParamsView) → (time + p.period ≤ x → budget p + share_up p * (x - (time + p.period)) ≤ bound) → reach_new p time x ≤ bound
reached time x bound p f =
    cond_both (nat_le (time + p.period) x) (budget p + share_up p * (x - (time + p.period))) 0 (λ n. n ≤ bound)
    (λ yes. f (leb-true (time + p.period) x yes)) (λ no. omega arith)

outlived : (time x d n : ℕ) (p : ParamsView) → IsShare p → d ≤ time + p.period → budget p * (d - time) < n * p.period → reach_new p time x ≤ reach_from p x d n
outlived time x d n p is near over =
    reached time x (reach_from p x d n) p
    (λ fits.
    omega (
      arith,
      fits,
      near,
      due x d n (omega (arith, fits, near)),
      apart (share_up p) x (time + p.period) d near fits,
      enough (budget p) (share_up p) p.period n (d - time) (time + p.period - d) is.covers over (omega (arith, near)),
    ))

passed : (time x d n : ℕ) (p : ParamsView) → IsShare p → d ≤ time → reach_new p time x ≤ reach_from p x d n
passed time x d n p is past =
    reached time x (reach_from p x d n) p
    (λ fits.
    let near : d ≤ time + p.period = omega (arith, past) in
    let more : share_up p * p.period ≤ share_up p * (time + p.period - d) = mul-le-mul_left (share_up p) (omega (arith, past)) in
    omega (arith, fits, near, is.covers, more, apart (share_up p) x (time + p.period) d near fits))

-- a whole budget at most, so a deadline more than a period ahead is kept
far : (time d n : ℕ) (p : ParamsView) → n ≤ budget p → budget p * (d - time) < n * p.period → d ≤ time + p.period
far time d n p capped over =
    by_due (time + p.period) d (d ≤ time + p.period) (λ yes. yes)
    (λ no.
    let one : n * p.period ≤ budget p * p.period = mul-le-mul_right p.period capped in
    let two : budget p * p.period ≤ budget p * (d - time) = mul-le-mul_left (budget p) (omega (arith, no)) in
    absurd (omega (arith, over, one, two)))

kept_bound : (time x d n : ℕ) (p : ParamsView) → IsShare p → time ≤ d → n * p.period ≤ budget p * (d - time) → reach_from p x d n ≤ share_up p * (x - time)
kept_bound time x d n p is ahead in_share =
    let most : n ≤ share_up p * (d - time) = within (budget p) (share_up p) p.period n (d - time) is.some is.covers in_share in
    by_due x d (reach_from p x d n ≤ share_up p * (x - time))
    (λ come. omega (arith, most, due x d n come, apart (share_up p) x d time ahead come))
    (λ not_come. omega (arith, nothing (share_up p) x d (omega (arith, not_come)), not_due x d n not_come))

new_bound : (time x : ℕ) (p : ParamsView) → IsShare p → reach_new p time x ≤ share_up p * (x - time)
new_bound time x p is =
    reached time x (share_up p * (x - time)) p
    (λ fits.
    let e : time + p.period - time ≡ p.period = omega arith in
    omega (arith, is.covers, apart (share_up p) x (time + p.period) time (omega arith) fits, ap (λ k. share_up p * k) e))

new_later : (time x : ℕ) (p : ParamsView) → reach_new p (time + 1) x ≤ reach_new p time x
new_later time x p =
    reached (time + 1) x (reach_new p time x) p
    (λ fits.
    let down : share_up p * (x - (time + 1 + p.period)) ≤ share_up p * (x - (time + p.period)) = mul-le-mul_left (share_up p) (omega arith) in
    omega (arith, fits, down, due x (time + p.period) (budget p + share_up p * (x - (time + p.period))) (omega (arith, fits))))

pub renewed_reach : (time x : ℕ) (p : ParamsView) → IsShare p → reach_from p x (time + p.deadline) (budget p) ≤ reach_new p time x
renewed_reach time x p is =
    let e : time + p.deadline ≡ time + p.period = omega (arith, is.whole_period) in
    by_due x (time + p.period) (reach_from p x (time + p.deadline) (budget p) ≤ reach_new p time x)
    (λ come.
    omega (
      arith,
      ap (λ k. reach_from p x k (budget p)) e,
      due x (time + p.period) (budget p) come,
      due x (time + p.period) (budget p + share_up p * (x - (time + p.period))) come,
    ))
    (λ no.
    omega (
      arith,
      ap (λ k. reach_from p x k (budget p)) e,
      not_due x (time + p.period) (budget p) no,
      nothing (share_up p) x (time + p.period) (omega (arith, no)),
    ))

pub replenished_reach : (x d n : ℕ) (p : ParamsView) → IsShare p → n ≤ budget p → reach_from p x (d + p.period) n ≤ reach_from p x d 0
replenished_reach x d n p is capped =
    by_due x (d + p.period) (reach_from p x (d + p.period) n ≤ reach_from p x d 0)
    (λ come.
    let e : d + p.period - d ≡ p.period = omega arith in
    omega (arith, capped, is.covers, due x (d + p.period) n come, due x d 0 (omega (arith, come)), apart (share_up p) x (d + p.period) d (omega arith) come, ap (λ k. share_up p * k) e))
    (λ no. omega (arith, not_due x (d + p.period) n no, nothing (share_up p) x (d + p.period) (omega (arith, no))))

pub less_reach : (x d n m : ℕ) (p : ParamsView) → m ≤ n → reach_from p x d m ≤ reach_from p x d n
less_reach x d n m p h =
    by_due x d (reach_from p x d m ≤ reach_from p x d n)
    (λ come. omega (arith, h, due x d m come, due x d n come))
    (λ no. omega (arith, not_due x d m no))

pub unit_reach : (x d n : ℕ) (p : ParamsView) → d ≤ x → unit ≤ n → reach_from p x d (n - unit) + unit ≤ reach_from p x d n
unit_reach x d n p come h = omega (arith, h, due x d (n - unit) come, due x d n come)

-- ---- what a wake finds

overflows_is : (p : ParamsView) (time d n : ℕ) → overflows p time d (pos n) ≡ (ltb d time || ltb (budget p * (d - time)) (n * p.period))
overflows_is p time d n = refl

or_cases : (a b : Bool) (C : Type 0) → (a || b) ≡ true → (a ≡ true → C) → (b ≡ true → C) → C
or_cases true b C e f g = f refl
or_cases false b C e f g = g e

or_false : (a b : Bool) → (a || b) ≡ false → (a ≡ false) × (b ≡ false)
or_false true b e = absurd cc
or_false false b e = (refl, e)

over_reach : (time x d n : ℕ) (p : ParamsView) → IsShare p → n ≤ budget p → overflows p time d (pos n) ≡ true → reach_new p time x ≤ reach_from p x d n
over_reach time x d n p is capped over =
    or_cases (ltb d time) (ltb (budget p * (d - time)) (n * p.period)) (reach_new p time x ≤ reach_from p x d n) over
    (λ past. passed time x d n p is (omega (arith, ltb-true d time past)))
    (λ more.
    let m : budget p * (d - time) < n * p.period = ltb-true (budget p * (d - time)) (n * p.period) more in
    outlived time x d n p is (far time d n p capped m) m)

pub keeps_facts : (time d n : ℕ) (p : ParamsView) → overflows p time d (pos n) ≡ false → (time ≤ d) × (n * p.period ≤ budget p * (d - time))
keeps_facts time d n p e =
    let both = or_false (ltb d time) (ltb (budget p * (d - time)) (n * p.period)) e in
    (ltb-false d time both.0, ltb-false (budget p * (d - time)) (n * p.period) both.1)

capped : (p : ParamsView) (n : ℕ) → IsWhole p (pos n) → n ≤ budget p
capped p n (m, e, most) = omega (arith, e, most)

module _ (p : ParamsView) (is : IsShare p) where
  pub resting_kept : (time x d : ℕ) (left : ℤ) → IsWhole p left → reach_resting p time x (Some d) left ≤ reach_kept p x (Some d) left
  resting_kept time x d (pos n) w =
      cond_both (overflows p time d (pos n)) (reach_new p time x) (reach_from p x d n) (λ y. y ≤ reach_from p x d n)
      (λ yes. over_reach time x d n p is (capped p n w) yes) (λ no. omega arith)
  resting_kept time x d (negsuc n) w = absurd w

  pub resting_bound : (time x : ℕ) (o : Option ℕ) (left : ℤ) → IsWhole p left → reach_resting p time x o left ≤ share_up p * (x - time)
  resting_bound time x None left w = new_bound time x p is
  resting_bound time x (Some d) (negsuc n) w = absurd w
  resting_bound time x (Some d) (pos n) w =
      cond_both (overflows p time d (pos n)) (reach_new p time x) (reach_from p x d n) (λ y. y ≤ share_up p * (x - time))
      (λ yes. new_bound time x p is) (λ no. let f = keeps_facts time d n p no in kept_bound time x d n p is f.0 f.1)

  pub resting_later : (time x : ℕ) (o : Option ℕ) (left : ℤ) → IsWhole p left → reach_resting p (time + 1) x o left ≤ reach_resting p time x o left
  resting_later time x None left w = new_later time x p
  resting_later time x (Some d) (negsuc n) w = absurd w
  resting_later time x (Some d) (pos n) w =
      cond_both (overflows p (time + 1) d (pos n)) (reach_new p (time + 1) x) (reach_from p x d n) (λ y. y ≤ reach_resting p time x (Some d) (pos n))
      (λ yes.
      cond_both (overflows p time d (pos n)) (reach_new p time x) (reach_from p x d n) (λ y. reach_new p (time + 1) x ≤ y)
      (λ also. new_later time x p) (λ no. over_reach (time + 1) x d n p is (capped p n w) yes))
      (λ keeps.
      let f = keeps_facts (time + 1) d n p keeps in
      cond_both (overflows p time d (pos n)) (reach_new p time x) (reach_from p x d n) (λ y. reach_from p x d n ≤ y)
      (λ over.
      or_cases (ltb d time) (ltb (budget p * (d - time)) (n * p.period)) (reach_from p x d n ≤ reach_new p time x) over
      (λ past. absurd (omega (arith, ltb-true d time past, f.0)))
      (λ more.
      let m : budget p * (d - time) < n * p.period = ltb-true (budget p * (d - time)) (n * p.period) more in
      let up : budget p * (d - (time + 1)) ≤ budget p * (d - time) = mul-le-mul_left (budget p) (omega arith) in
      absurd (omega (arith, m, f.1, up))))
      (λ no. omega arith))
