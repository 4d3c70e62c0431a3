-- After which tick nothing is left of a budget is a quotient, rounded up.
use Rattle.std.proofs.Common.{ℕ, zero, suc, ◌+◌, ◌*◌, ◌<◌, ◌≤◌, max, Bool, true, false, cond, List, [], ◌∷◌, map, All, refl, arith}
use Rattle.std.specs.Prelude.{ℤ, pos, negsuc, ◌-ℤ◌, ◌<ℤ◌, ◌≤ℤ◌, unsigned_abs}
use Rattle.std.specs.Int.{div_ceil}
use Rattle.std.specs.List.{AllZip}
use Rattle.std.proofs.lemmas.Int.{ints}
use Rattle.std.proofs.lemmas.Grind.{div_ceil_times}
use Rattle.std.proofs.lemmas.List.Elements.{All-head, All-tail}
use Rattle.std.proofs.Math.Nat.{mul-le-mul_left}
use Rattle.cbs_rules.specs.Budget.{above_zero}
use Rattle.grub_rules.specs.Rate.{div_up, charged_bw}
use Rattle.tick_split.specs.declared.element.Plan.{Plan}
use Rattle.tick_split.specs.Planning.{IsPlannable, IsPlanned}
use Rattle.tick_split.specs.private.Planned.{rate_in_plan, planned}
use Rattle.limits.specs.Limits.{unit}

from_one : (q r a : ℕ) → 0 < a → a ≤ q * r → 1 ≤ q
from_one zero r a some h = omega (arith, some, h)
from_one (suc q) r a some h = omega arith

-- q is the least number of rates that reach a
reached : (a r q : ℕ) → 0 < a → a ≤ q * r → q * r < a + r → (1 ≤ q) × (a ≤ r * q) × ((k : ℕ) → k < q → r * k < a)
reached a r q some enough close = (
  from_one q r a some enough,
  omega (arith, enough),
  λ k h. let m : r * (k + 1) ≤ r * q = mul-le-mul_left r (omega arith) in omega (arith, m, close),
)

-- a budget above zero, as ticks at a rate use it up
pub used_up : (z : ℤ) (r : ℕ) → pos 0 <ℤ z → 0 < r → let q = div_ceil (above_zero z) r in (1 ≤ q) × ((z -ℤ pos (r * q)) ≤ℤ pos 0) × ((k : ℕ) → k < q → pos 0 <ℤ (z -ℤ pos (r * k)))
used_up (pos a) r some turns =
    let t = div_ceil_times a r turns in
    let q = div_ceil a r in
    let l = reached a r q (omega (arith, ints, some)) t.0 t.1 in (
      l.0,
      (let h : a ≤ r * q = l.1 in omega (arith, ints, h)),
      λ k h. let m : r * k < a = l.2 k h in omega (arith, ints, m),
    )
used_up (negsuc n) r some turns = absurd (omega (arith, ints, some))

some_of : (b : Bool) (x : ℕ) → 0 < cond b (max 1 x) unit
some_of true x = omega arith
some_of false x = omega arith

-- every rate uses something up
pub some_rate : (p : Plan) → 0 < rate_in_plan p
some_rate p = some_of p.params.reclaim (div_up (unsigned_abs (charged_bw p.params p.uinact p.sum p.cpus p.limit) * unit) p.limit)

-- what the code works out is the definition's
pub planned_is : (p : Plan) → IsPlannable p → IsPlanned p (planned p)
planned_is p is =
    let u = used_up p.left (rate_in_plan p) is.some_left (some_rate p) in
    record {
      rate = refl;
      from_one = u.0;
      spent = u.1;
      first = λ k low h. u.2 k h;
      others = refl;
    }

-- and so of each element
pub all_planned : (ps : List Plan) → All IsPlannable ps → AllZip IsPlanned ps (map planned ps)
all_planned [] all = tt
all_planned (p ∷ ps) all = (planned_is p (All-head IsPlannable p ps all), all_planned ps (All-tail IsPlannable p ps all))
