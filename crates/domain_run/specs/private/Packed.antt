-- How a switch is kept in 16 bytes.
use Rattle.std.specs.Prelude.{ℕ, ◌≡◌, ◌<◌, ◌^◌, ◌+◌, ◌*◌, ◌/◌, ◌%◌, Option, Some, None}
use Rattle.std.proofs.Common.{refl, arith}
use Rattle.domain_run.specs.declared.switch.PrevState.{PrevState}
use Rattle.domain_run.specs.declared.switch.PrevState.TheVariants.{Running, Preempted, Sleeping, Dead}
use Rattle.domain_run.specs.declared.switch.Handover.{Handover}
use Rattle.domain_run.specs.declared.switch.Handover.TheVariants.{IdleToIdle, IdleToTask, PreemptedToIdle, PreemptedToTask, SleepingToIdle, SleepingToTask, DeadToIdle, DeadToTask}

-- the state in which the previous occupant leaves
abbrev pub state_in : Handover → PrevState
state_in IdleToIdle = Running
state_in IdleToTask = Running
state_in PreemptedToIdle = Preempted
state_in PreemptedToTask = Preempted
state_in SleepingToIdle = Sleeping
state_in SleepingToTask = Sleeping
state_in DeadToIdle = Dead
state_in DeadToTask = Dead

-- who leaves, with this number where it is a task
abbrev pub prev_in : Handover → ℕ → Option ℕ
prev_in IdleToIdle n = None
prev_in IdleToTask n = None
prev_in PreemptedToIdle n = Some n
prev_in PreemptedToTask n = Some n
prev_in SleepingToIdle n = Some n
prev_in SleepingToTask n = Some n
prev_in DeadToIdle n = Some n
prev_in DeadToTask n = Some n

-- who comes, with this number where it is a task
abbrev pub next_in : Handover → ℕ → Option ℕ
next_in IdleToIdle n = None
next_in IdleToTask n = Some n
next_in PreemptedToIdle n = None
next_in PreemptedToTask n = Some n
next_in SleepingToIdle n = None
next_in SleepingToTask n = Some n
next_in DeadToIdle n = None
next_in DeadToTask n = Some n

-- how one who leaves in this state hands the CPU over to who comes
abbrev pub handover_of : PrevState → Option ℕ → Handover
handover_of Running None = IdleToIdle
handover_of Running (Some n) = IdleToTask
handover_of Preempted None = PreemptedToIdle
handover_of Preempted (Some n) = PreemptedToTask
handover_of Sleeping None = SleepingToIdle
handover_of Sleeping (Some n) = SleepingToTask
handover_of Dead None = DeadToIdle
handover_of Dead (Some n) = DeadToTask

-- the number that is kept of an occupant: 0 of idle
abbrev pub number_or_0 : Option ℕ → ℕ
number_or_0 None = 0
number_or_0 (Some n) = n

-- what the kept numbers are: the lower 32 bits of a time, and 0 where idle leaves or comes
pub record IsPacked (handover : Handover) (low leaves comes : ℕ) : Type 0 where
  pub lower : low < 2 ^ 32
  pub prev : number_or_0 (prev_in handover leaves) ≡ leaves
  pub next : number_or_0 (next_in handover comes) ≡ comes

-- nothing of a handover is lost
pub handed_over : (h : Handover) (n : ℕ) → handover_of (state_in h) (next_in h n) ≡ h
handed_over IdleToIdle n = refl
handed_over IdleToTask n = refl
handed_over PreemptedToIdle n = refl
handed_over PreemptedToTask n = refl
handed_over SleepingToIdle n = refl
handed_over SleepingToTask n = refl
handed_over DeadToIdle n = refl
handed_over DeadToTask n = refl

-- nor of a time
pub lower_of : (high low : ℕ) → low < 2 ^ 32 → (high * 2 ^ 32 + low) % 2 ^ 32 ≡ low
lower_of high low h = omega (arith, h)

pub higher_of : (high low : ℕ) → low < 2 ^ 32 → (high * 2 ^ 32 + low) / 2 ^ 32 ≡ high
higher_of high low h = omega (arith, h)
