-- Laws of plans, for the proofs of callers.
use Rattle.std.proofs.Common.{◌≡◌, ℕ, zero, suc, ◌-◌, ◌*◌, ◌/◌, ◌^◌, ◌<◌, ◌≤◌, max, Bool, true, false, refl, sym, subst, arith}
use Rattle.std.specs.Prelude.{pos, ◌-ℤ◌, ◌<ℤ◌}
use Rattle.std.proofs.lemmas.Int.{ints}
use Rattle.attr_check.specs.Ratio.{cap}
use Rattle.attr_check.specs.ParamsView.{ParamsView, IsOrdered}
use Rattle.grub_rules.specs.Rate.{rate}
use Rattle.grub_rules.proofs.CallerLemmas.{rounded, rate_is, slow}
use Rattle.tick_split.specs.declared.element.Plan.{Plan}
use Rattle.tick_split.specs.Planning.{IsPlannable, IsPlanned}
use Rattle.tick_split.proofs.Spending.{some_rate}

-- each tick uses something up
pub planned_rate : (before after : Plan) → IsPlanned before after → 0 < after.rate
planned_rate before after is = subst (λ r. 0 < r) (sym is.rate) (some_rate before)

slow_of : (p : ParamsView) (inactive sum cpus limit : ℕ) (b : Bool) → p.reclaim ≡ b → IsOrdered p → 10485 ≤ limit → limit ≤ 1048576 → sum ≤ cap cpus limit → rate p inactive sum cpus limit ≤ 2 ^ 27
slow_of p inactive sum cpus limit true reclaims is low high within =
    let t = max p.bw (sum / cpus - inactive) in
    subst (λ r. r ≤ 2 ^ 27) (rate_is p inactive sum cpus limit t (rounded t limit) reclaims refl refl) (slow p inactive sum cpus limit t (rounded t limit) is low high refl refl within)
slow_of p inactive sum cpus limit false none is low high within = rw none (omega arith)

-- within the cap of its domain a task may be charged at its rate for as long as a jump may last
pub slow_plan : (before after : Plan) → IsOrdered before.params → IsPlannable before → before.sum ≤ cap before.cpus before.limit → IsPlanned before after → after.rate ≤ 2 ^ 27
slow_plan before after ordered can within is =
    subst (λ r. r ≤ 2 ^ 27) (sym is.rate) (slow_of before.params before.uinact before.sum before.cpus before.limit before.params.reclaim refl ordered can.least_limit can.most_limit within)

-- something is left before the tick that spends the last
pub left_before : (before after : Plan) → IsPlannable before → IsPlanned before after → (k : ℕ) → k < after.spent → pos 0 <ℤ (before.left -ℤ pos (after.rate * k))
left_before before after can is zero h = let some = can.some_left in omega (arith, ints, some)
left_before before after can is (suc k) h = is.first (suc k) (omega arith) h
