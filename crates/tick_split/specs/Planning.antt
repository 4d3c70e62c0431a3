-- The rate of a running task, and when its budget ends (sched-deadline.rst, "Bandwidth
-- reclaiming").
use Rattle.std.specs.Prelude.{ℕ, pos, ◌≡◌, ◌<◌, ◌≤◌, ◌*◌, ◌^◌, ◌-ℤ◌, ◌<ℤ◌, ◌≤ℤ◌}
use Rattle.tick_split.specs.declared.element.Plan.{Plan}
use Rattle.grub_rules.specs.Rate as rates
use Rattle.limits.specs.Limits as limits
use Rattle.limits.specs.Limits.{unit}

-- within the limits that a domain keeps, with budget left
pub record IsPlannable (p : Plan) : Type 0 where
  pub uinact : p.uinact ≤ 2 ^ 26
  pub sum : p.sum ≤ 2 ^ 26
  pub some_cpu : 0 < p.cpus
  pub most_cpus : p.cpus ≤ 64
  pub least_limit : limits.least_limit ≤ p.limit
  pub most_limit : p.limit ≤ unit
  pub some_left : pos 0 <ℤ p.left
  pub most_left : p.left ≤ℤ pos (2 ^ 63)

-- a plan and what becomes of it: the rate is the reclaiming rate; `spent` is the first tick,
-- counted from 1, after which nothing is left at that rate; all else stays
pub record IsPlanned (before after : Plan) : Type 0 where
  pub rate : after.rate ≡ rates.rate before.params before.uinact before.sum before.cpus before.limit
  pub from_one : 1 ≤ after.spent
  pub spent : (before.left -ℤ pos (after.rate * after.spent)) ≤ℤ pos 0
  pub first : (k : ℕ) → 1 ≤ k → k < after.spent → pos 0 <ℤ (before.left -ℤ pos (after.rate * k))
  pub others : after ≡ record before { rate = after.rate; spent = after.spent }
