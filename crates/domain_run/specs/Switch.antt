-- One switch of a CPU from one occupant to another (the event sched_switch: prev_pid, next_pid and
-- prev_state).
use Rattle.std.specs.Prelude.{ℕ, ◌≡◌, ◌≢◌, Option, Some, None}
use Rattle.domain_run.specs.declared.switch.PrevState.{PrevState}
use Rattle.domain_run.specs.declared.switch.PrevState.TheVariants.{Running}

pub record Switch : Type 0 where
  -- when, in microseconds
  pub time : ℕ
  -- the numbers of the task that leaves and of the one that comes, none for idle
  pub prev : Option ℕ
  pub next : Option ℕ
  -- the CPU of the domain, from 0
  pub cpu : ℕ
  -- in which state the previous occupant leaves
  pub state : PrevState

-- idle leaves in the state Running (the event's prev_state R), and no task does: one that still
-- wants the CPU is logged as preempted (R+)
abbrev pub IsLeftIn : PrevState → Option ℕ → Type 0
IsLeftIn state None = state ≡ Running
IsLeftIn state (Some n) = state ≢ Running
