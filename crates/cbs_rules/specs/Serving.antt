-- The rules of a constant bandwidth server (sched-deadline.rst, "Main algorithm").
use Rattle.std.specs.Prelude.{ℕ, zero, suc, ℤ, pos, ◌+ℤ◌, ◌-ℤ◌, ◌*ℤ◌, int_lt, int_le, ◌+◌, ◌-◌, ◌*◌, Bool, true, false, ◌||◌, nat_lt, if◌then◌else◌, Option, Some, None}
use Rattle.std.specs.Option.{option_map}
use Rattle.attr_check.specs.ParamsView.{ParamsView}
use Rattle.cbs_rules.specs.declared.server.Server.{Server}
use Rattle.cbs_rules.specs.Budget.{budget, below_zero}

-- WAKE. A deadline one relative deadline from now, and a whole budget
abbrev pub renewed : ParamsView → ℕ → Server
renewed p time = record { deadline = Some (time + p.deadline); left = pos (budget p) }

-- the deadline has passed, or what is left, spent until the deadline, would be more than the task's
-- share of a CPU: left / (deadline - time) > runtime / period, multiplied out
abbrev pub overflows : ParamsView → ℕ → ℕ → ℤ → Bool
overflows p time deadline left =
    nat_lt deadline time || int_lt (pos (budget p * (deadline - time))) (left *ℤ pos p.period)

abbrev pub woken_at : ParamsView → ℕ → Option ℕ → ℤ → Server
-- the first wake (own)
woken_at p time None left = renewed p time
woken_at p time (Some d) left =
    if overflows p time d left then renewed p time else record { deadline = Some d; left = left }

-- deadline and budget after a wake: new ones where the old ones are outlived, else they stay
abbrev pub woken : ParamsView → ℕ → Server → Server
woken p time s = woken_at p time s.deadline s.left

-- CHARGE. So many ticks of running, at a rate in 1/2^20
abbrev pub charged : ℕ → ℕ → Server → Server
charged rate ticks s = record s { left = s.left -ℤ pos (rate * ticks) }

-- nothing is left
abbrev pub is_spent : Server → Bool
is_spent s = int_le s.left (pos 0)

-- REPLENISH. One postponement: the deadline a period later, and a whole budget more
abbrev pub postponed : ParamsView → Server → Server
postponed p s =
    record { deadline = option_map (λ d. d + p.period) s.deadline; left = s.left +ℤ pos (budget p) }

-- postponed again and again while nothing is left, which `spent` says of the server, in so many
-- turns at most
abbrev pub replenished_while : Bool → ℕ → ParamsView → Server → Server
replenished_while false turns p s = s
replenished_while true zero p s = s
replenished_while true (suc turns) p s =
    replenished_while (is_spent (postponed p s)) turns p (postponed p s)

-- postponed again and again while nothing is left (that it is repeated is own). A budget is at
-- least one, so that one turn more than what is missing is always enough
abbrev pub replenished : ParamsView → Server → Server
replenished p s = replenished_while (is_spent s) (below_zero s.left + 1) p s
