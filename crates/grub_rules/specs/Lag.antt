-- Until when a task that stops contending keeps its bandwidth (sched-deadline.rst, "Bandwidth
-- reclaiming").
use Rattle.std.specs.Prelude.{ℕ, ℤ, ◌-◌, ◌*◌, ◌/◌, nat_le, if◌then◌else◌, Option, Some, None}
use Rattle.attr_check.specs.ParamsView.{ParamsView}
use Rattle.cbs_rules.specs.declared.server.Server.{Server}
use Rattle.cbs_rules.specs.Budget.{budget, above_zero}

-- deadline - left * period / runtime, the quotient rounded down (own): where that time has come the
-- task is inactive at once
abbrev pub lag_at : ParamsView → ℕ → Option ℕ → ℤ → Option ℕ
lag_at p time None left = None
lag_at p time (Some d) left =
    let z = d - above_zero left * p.period / budget p in if nat_le z time then None else Some z

-- the zero-lag time of a task that stops contending at a time, none where it is inactive at once
abbrev pub zero_lag : ParamsView → ℕ → Server → Option ℕ
zero_lag p time s = lag_at p time s.deadline s.left
