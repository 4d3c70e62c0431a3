-- What is due by a time is a part of what is reached.
use Rattle.std.proofs.Common.{ℕ, ◌-◌, ◌*◌, ◌≤◌, cond, ◌&&◌, Option, Some, None, List, [], ◌∷◌, arith}
use Rattle.std.specs.Prelude.{sum_by, ℤ}
use Rattle.std.proofs.lemmas.List.Sums.{sum_by-cons}
use Rattle.attr_check.specs.ParamsView.{ParamsView}
use Rattle.cbs_rules.specs.Budget.{above_zero}
use Rattle.domain_run.specs.declared.task.Task.{Task}
use Rattle.domain_run.specs.declared.task.Condition.TheVariants.{Ready, Throttled, Blocked, Waiting, Leaving}
use Rattle.domain_run.specs.Conditions.{is_ready, has_come}
use Rattle.domain_run.specs.Domain.{Domain}
use Rattle.domain_run.specs.Tick.{ticks}
use Rattle.deadline_promise.specs.Reach.{reach_kept, reach_in, reach}
use Rattle.deadline_promise.specs.Promise.{due_left}
use Rattle.deadline_promise.proofs.Kept.{IsCalm}
use Rattle.deadline_promise.proofs.Ticking.{ticks_calm}
use Rattle.limits.specs.Limits.{unit}

part_kept : (p : ParamsView) (x : ℕ) (o : Option ℕ) (left : ℤ) → cond (has_come x o) (above_zero left) 0 ≤ reach_kept p x o left
part_kept p x None left = omega arith
part_kept p x (Some d) left = omega arith

part : (time x : ℕ) (t : Task) → due_left x t ≤ reach time x t
part time x t =
    elim t.condition as (λ c. cond (is_ready c && has_come x t.server.deadline) (above_zero t.server.left) 0 ≤ reach_in time x t.params t.server c) [
      | Ready ↦ part_kept t.params x t.server.deadline t.server.left
      | Throttled ↦ omega arith
      | Blocked u ↦ omega arith
      | Waiting ↦ omega arith
      | Leaving ↦ omega arith
    ]

sum_part : (time x : ℕ) (ts : List Task) → sum_by (due_left x) ts ≤ sum_by (reach time x) ts
sum_part time x [] = omega arith
sum_part time x (t ∷ ts) = omega (arith, sum_by-cons (due_left x) t ts, sum_by-cons (reach time x) t ts, part time x t, sum_part time x ts)

pub demand : (n x : ℕ) (d : Domain) → IsCalm d → (ticks n d).time ≤ x → sum_by (due_left x) (ticks n d).tasks ≤ unit * (x - (ticks n d).time)
demand n x d is later = let e = ticks n d in omega (arith, sum_part e.time x e.tasks, (ticks_calm n d is).room x later)
