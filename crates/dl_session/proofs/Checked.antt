-- Parameters that the check gives for their own times are in their order.
use Rattle.std.proofs.Common.{◌≡◌, ◌*◌, ◌/◌, ◌^◌, ◌≤◌, Bool, true, false, not, ◌&&◌, cond, leb, Option, Some, None, Ok, refl, sym, ap, ◌∙◌, arith}
use Rattle.std.proofs.lemmas.Bool.{leb-true}
use Rattle.std.proofs.Math.Nat.{mul-div_cancel}
use Rattle.attr_check.specs.declared.attr.SchedAttr.{SchedAttr}
use Rattle.attr_check.specs.declared.refusal.AttrRefusal.{AttrRefusal}
use Rattle.attr_check.specs.declared.refusal.AttrRefusal.TheVariants.{NotDeadline, UnknownFlag, TopBit, Small, Order, Grain, Long}
use Rattle.attr_check.specs.ParamsView.{ParamsView, IsOrdered}
use Rattle.attr_check.specs.Ratio.{ratio}
use Rattle.attr_check.specs.Accepted.{period_of, passes, first_refusal, params_of, unless_refused}
use Rattle.calls_text.specs.Limits.{attr_of, IsChecked}

past : (b : Bool) (x : AttrRefusal) (o : Option AttrRefusal) → cond (not b) (Some x) o ≡ None → (b ≡ true) × (o ≡ None)
past true x o e = (refl, e)
past false x o e = absurd cc

both : (x y : Bool) → (x && y) ≡ true → (x ≡ true) × (y ≡ true)
both true y e = (refl, e)
both false y e = absurd cc

by_refusal : (a : SchedAttr) (p : ParamsView) (o : Option AttrRefusal) → unless_refused a o ≡ Ok p → (o ≡ None) × (params_of a ≡ p)
by_refusal a p None e = (refl, cc)
by_refusal a p (Some r) e = absurd cc

pub checked_ordered : (p : ParamsView) → IsChecked p → IsOrdered p
checked_ordered p is =
    let a = attr_of p in
    let o = by_refusal a p (first_refusal a) is in
    let t1 = past (passes a NotDeadline) NotDeadline _ o.0 in
    let t2 = past (passes a UnknownFlag) UnknownFlag _ t1.1 in
    let t3 = past (passes a TopBit) TopBit _ t2.1 in
    let t4 = past (passes a Small) Small _ t3.1 in
    let t5 = past (passes a Order) Order _ t4.1 in
    let t6 = past (passes a Grain) Grain _ t5.1 in
    let t7 = past (passes a Long) Long _ t6.1 in
    let order = both (leb a.runtime a.deadline) (leb a.deadline (period_of a)) t5.0 in
    let some : 1024 ≤ p.runtime * 1000 = leb-true 1024 a.runtime t4.0 in
    let first : p.runtime * 1000 ≤ p.deadline * 1000 = leb-true a.runtime a.deadline order.0 in
    let second : p.deadline * 1000 ≤ period_of a = leb-true a.deadline (period_of a) order.1 in
    let long : period_of a / 1000 ≤ 2 ^ 32 = leb-true (period_of a / 1000) (2 ^ 32) t7.0 in
    let period : period_of a / 1000 ≡ p.period = ap (λ (x : ParamsView). x.period) o.1 in
    let share : ratio (period_of a / 1000) (p.runtime * 1000 / 1000) ≡ p.bw = ap (λ (x : ParamsView). x.bw) o.1 in
    let runtime : p.runtime * 1000 / 1000 ≡ p.runtime = mul-div_cancel p.runtime {n = 1000} (omega arith) in
    let within : p.deadline ≤ period_of a / 1000 = omega (arith, second) in
    record {
      some_runtime = omega (arith, some);
      runtime_first = omega (arith, first);
      deadline_first = omega (arith, within, period);
      short = omega (arith, long, period);
      share = sym share ∙ (λ i. ratio (period i) (runtime i));
    }
