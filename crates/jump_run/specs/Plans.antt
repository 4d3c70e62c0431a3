-- The plans of the running tasks, for the code's own contracts.
use Rattle.std.specs.Prelude.{ℕ, pos, neg_ℤ, ◌^◌, ◌≡◌, ◌<◌, ◌≤◌, ◌≤ℤ◌, List, length, slice_index_or, All, Some}
use Rattle.attr_check.specs.Ratio.{cap}
use Rattle.attr_check.specs.ParamsView.{IsOrdered}
use Rattle.domain_run.specs.Domain.{Domain}
use Rattle.domain_run.specs.Tick.{sum_of}
use Rattle.domain_run.specs.declared.running.Running.{Running}
use Rattle.domain_run.specs.Jump.{running}
use Rattle.tick_split.specs.declared.element.Plan.{Plan}
use Rattle.tick_split.specs.declared.element.Slice.{Slice}
use Rattle.tick_split.specs.Planning.{IsPlannable}

-- the plan of a running task, before its rate is worked out
abbrev pub plan_of : Domain → Running → Plan
plan_of d r =
    record {
      params = r.params;
      uinact = r.uinact;
      sum = sum_of d.tasks;
      cpus = d.cpus;
      limit = d.limit;
      left = r.left;
      rate = 0;
      spent = 0;
    }

-- a plan that a domain within its cap gives, so that no product is out of range
pub record IsSoundPlan (p : Plan) : Type 0 where
  pub ordered : IsOrdered p.params
  pub can : IsPlannable p
  pub within : p.sum ≤ cap p.cpus p.limit
  pub high : p.left ≤ℤ pos (2 ^ 52)

-- the plans of the first running tasks, by CPU; each of these has work for so many ticks
pub record ArePlans (d : Domain) (ticks : ℕ) (plans : List Plan) : Type 0 where
  pub each : (i : ℕ) (r : Running) (p : Plan) → i < length plans → running d i ≡ Some r
      → slice_index_or plans i p ≡ plan_of d r
  pub worked : (i : ℕ) (r : Running) → i < length plans → running d i ≡ Some r → ticks ≤ r.work
  pub fit : All IsSoundPlan plans

-- what is to be charged for so many ticks, by a plan that has been worked out
abbrev pub slice_of : ℕ → Plan → Slice
slice_of ticks p = record { left = p.left; rate = p.rate; ticks = ticks }

-- what is left is a number of 128 bits
pub record IsSmall (s : Slice) : Type 0 where
  pub low : neg_ℤ (pos (2 ^ 70)) ≤ℤ s.left
  pub high : s.left ≤ℤ pos (2 ^ 70)
