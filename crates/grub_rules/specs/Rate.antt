-- The rate at which a running task uses its budget up, in 1/2^20 (sched-deadline.rst, "Bandwidth
-- reclaiming").
use Rattle.std.specs.Prelude.{ℕ, ℤ, pos, ◌-ℤ◌, ◌+◌, ◌-◌, ◌*◌, ◌/◌, max, unsigned_abs, if◌then◌else◌}
use Rattle.std.specs.Int.{int_max}
use Rattle.attr_check.specs.ParamsView.{ParamsView}
use Rattle.limits.specs.Limits.{unit}

-- a quotient, rounded up (own)
abbrev pub div_up : ℕ → ℕ → ℕ
div_up a b = (a + b - 1) / b

-- Uextra: what the domain could still give to each CPU, below zero where its tasks have more than
-- that. Umax is the limit
abbrev pub extra : ℕ → ℕ → ℕ → ℤ
extra sum cpus limit = pos limit -ℤ pos (sum / cpus)

-- max (u, Umax - Uinact - Uextra), which is never below zero, since u is not
abbrev pub charged_bw : ParamsView → ℕ → ℕ → ℕ → ℕ → ℤ
charged_bw p inactive sum cpus limit =
    int_max (pos p.bw) (pos limit -ℤ pos inactive -ℤ extra sum cpus limit)

-- dq = -(u / Umax) dt of a task that is charged for u, rounded up and at least 1 (own)
abbrev pub rate_charged : ℕ → ℕ → ℕ
rate_charged bw limit = max 1 (div_up (bw * unit) limit)

-- dq = -(max (u, Umax - Uinact - Uextra) / Umax) dt; one where the task does not reclaim
abbrev pub rate : ParamsView → ℕ → ℕ → ℕ → ℕ → ℕ
rate p inactive sum cpus limit =
    if p.reclaim
    then rate_charged (unsigned_abs (charged_bw p inactive sum cpus limit)) limit else unit

-- the same, where the tasks of the domain have so much of each CPU: what is inactive on the task's
-- CPU is free, and it pays for the rest, or for its own bandwidth
abbrev pub rate_on : ParamsView → ℕ → ℕ → ℕ → ℕ
rate_on p inactive share limit =
    if p.reclaim then rate_charged (max p.bw (share - inactive)) limit else unit
