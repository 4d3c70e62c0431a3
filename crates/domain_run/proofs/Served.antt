-- What a wake leaves is in range.
use Rattle.std.proofs.Common.{ℕ, ◌+◌, ◌^◌, ◌≤◌, true, false, cond, Option, Some, None, arith}
use Rattle.std.specs.Prelude.{ℤ, pos, neg_ℤ, ◌≤ℤ◌, IfSome}
use Rattle.std.proofs.lemmas.Int.{ints}
use Rattle.attr_check.specs.ParamsView.{ParamsView, IsOrdered}
use Rattle.cbs_rules.specs.declared.server.Server.{Server}
use Rattle.cbs_rules.specs.Serving.{renewed, overflows, woken_at, woken}
use Rattle.domain_run.specs.Bounds.{IsServed}

renewed_served : (p : ParamsView) (time : ℕ) → IsOrdered p → IsServed time (renewed p time)
renewed_served p time o =
    let a = o.runtime_first in
    let b = o.deadline_first in
    let c = o.short in
    record { near = omega arith; low = omega (arith, ints); high = omega (arith, ints) }

at_served : (p : ParamsView) (time : ℕ) (d : Option ℕ) (left : ℤ) → IsOrdered p → IfSome d (λ x. x ≤ time + 2 ^ 45) → neg_ℤ (pos (2 ^ 32)) ≤ℤ left → left ≤ℤ pos (2 ^ 52) → IsServed time (woken_at p time d left)
at_served p time None left o near low high = renewed_served p time o
at_served p time (Some d) left o near low high =
    elim (overflows p time d left) as (λ b. IsServed time (cond b (renewed p time) (record { deadline = Some d; left = left }))) [
      | true ↦ renewed_served p time o
      | false ↦ record { near = near; low = low; high = high }
    ]

pub woken_served : (p : ParamsView) (time : ℕ) (s : Server) → IsOrdered p → IsServed time s → IsServed time (woken p time s)
woken_served p time s o served = at_served p time s.deadline s.left o served.near served.low served.high
