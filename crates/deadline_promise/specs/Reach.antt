-- How much of its CPU a task may still take until a time x, seen at a time (own; after the demand
-- of constant bandwidth servers). All of it is in 1/2^20 us.
use Rattle.std.specs.Prelude.{ℕ, ℤ, ◌+◌, ◌-◌, ◌*◌, ◌≤◌, nat_le, if◌then◌else◌, sum_by, Option, Some, None}
use Rattle.attr_check.specs.ParamsView.{ParamsView}
use Rattle.cbs_rules.specs.declared.server.Server.{Server}
use Rattle.cbs_rules.specs.Budget.{budget, above_zero}
use Rattle.cbs_rules.specs.Serving.{overflows}
use Rattle.domain_run.specs.declared.task.Task.{Task}
use Rattle.domain_run.specs.declared.task.Condition.{Condition}
use Rattle.domain_run.specs.declared.task.Condition.TheVariants.{Ready, Throttled, Blocked, Waiting, Leaving}
use Rattle.domain_run.specs.Domain.{Domain}
use Rattle.limits.specs.Limits.{unit}

-- its bandwidth, rounded up: share_up * period is at least a whole budget
abbrev pub share_up : ParamsView → ℕ
share_up p = p.bw + 1

-- so much, if it is due by x
abbrev pub due_by : ℕ → ℕ → ℕ → ℕ
due_by x deadline n = if nat_le deadline x then n else 0

-- what is left, if it is due by x, and the share after its deadline
abbrev pub reach_from : ParamsView → ℕ → ℕ → ℕ → ℕ
reach_from p x deadline left = due_by x deadline left + share_up p * (x - deadline)

-- of a server that keeps its deadline and its budget
abbrev pub reach_kept : ParamsView → ℕ → Option ℕ → ℤ → ℕ
reach_kept p x None left = 0
reach_kept p x (Some d) left = reach_from p x d (above_zero left)

-- of a server that is renewed at a time: a whole budget, due a period later, and the share after
-- that
abbrev pub reach_new : ParamsView → ℕ → ℕ → ℕ
reach_new p time x =
    due_by x (time + p.period) (budget p + share_up p * (x - (time + p.period)))

-- of a task that does not contend: what a wake at this time would give its server
abbrev pub reach_resting : ParamsView → ℕ → ℕ → Option ℕ → ℤ → ℕ
reach_resting p time x None left = reach_new p time x
reach_resting p time x (Some d) left =
    if overflows p time d left then reach_new p time x else reach_kept p x (Some d) left

-- by condition: a task that leaves takes no more
abbrev pub reach_in : ℕ → ℕ → ParamsView → Server → Condition → ℕ
reach_in time x p s Ready = reach_kept p x s.deadline s.left
reach_in time x p s Throttled = reach_kept p x s.deadline s.left
reach_in time x p s (Blocked u) = reach_resting p time x s.deadline s.left
reach_in time x p s Waiting = reach_resting p time x s.deadline s.left
reach_in time x p s Leaving = 0

abbrev pub reach : ℕ → ℕ → Task → ℕ
reach time x t = reach_in time x t.params t.server t.condition

-- UNCROWDED: whatever time x is looked at, what all tasks may take until then is no more than the
-- CPU gives until then
abbrev pub IsUncrowded : Domain → Type 0
IsUncrowded d = (x : ℕ) → d.time ≤ x → sum_by (reach d.time x) d.tasks ≤ unit * (x - d.time)
