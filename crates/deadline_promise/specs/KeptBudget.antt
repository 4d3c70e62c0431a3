-- A script that keeps a budget in a period (own).
use Rattle.std.specs.Prelude.{ℕ, ◌+◌, ◌≤◌, ◌≡◌, zero, suc, Bool, true, false, ◌⊎◌, Option, Some, None, IfSome}
use Rattle.task_script.specs.declared.phase.Event.{Event}
use Rattle.task_script.specs.declared.phase.Event.TheVariants.{Run, Sleep, Timer, Wait}
use Rattle.task_script.specs.script.ScriptView.{ScriptView}
use Rattle.task_script.specs.script.Unrolled.{event_at}

-- an event's work, with the work after it; what is not work ends the stretch
abbrev pub work_with : Option Event → ℕ → ℕ
work_with (Some (Run n)) after = n + after
work_with (Some (Sleep n)) after = 0
work_with (Some (Timer n)) after = 0
work_with (Some Wait) after = 0
work_with None after = 0

-- the stretch of work from a place of the script on, of so many events at most
abbrev pub work_from : ScriptView → ℕ → ℕ → ℕ
work_from s place zero = 0
work_from s place (suc count) = work_with (event_at s place) (work_from s (place + 1) count)

-- no stretch of work is above this
abbrev pub BoundsWork : ScriptView → ℕ → Type 0
BoundsWork s most = (place count : ℕ) → work_from s place count ≤ most

-- a timer or a sleep is at least so long
abbrev pub IsAtLeast : ℕ → Event → Type 0
IsAtLeast least (Run n) = Unit {0}
IsAtLeast least (Sleep n) = least ≤ n
IsAtLeast least (Timer n) = least ≤ n
IsAtLeast least Wait = Unit {0}

-- a fact of every event of the script
abbrev pub OfAllEvents : (Event → Type 0) → ScriptView → Type 0
OfAllEvents P s = (place : ℕ) → IfSome (event_at s place) P

abbrev pub is_timer_event : Event → Bool
is_timer_event (Timer n) = true
is_timer_event _ = false

abbrev pub is_sleep_event : Event → Bool
is_sleep_event (Sleep n) = true
is_sleep_event _ = false

abbrev pub is_wait_event : Event → Bool
is_wait_event Wait = true
is_wait_event _ = false

-- no event of the script is such a one
abbrev pub HasNone : (Event → Bool) → ScriptView → Type 0
HasNone is_such s = OfAllEvents (λ e. is_such e ≡ false) s

-- it blocks by timers alone, or by sleeps alone
abbrev pub BlocksAlike : ScriptView → Type 0
BlocksAlike s = HasNone is_wait_event s × (HasNone is_timer_event s ⊎ HasNone is_sleep_event s)

-- KEEPS A BUDGET IN A PERIOD: no stretch of work is above the budget, and what is between two
-- stretches is all timers, or all sleeps, of at least the period
pub record KeepsBudget (most period : ℕ) (s : ScriptView) : Type 0 where
  pub work : BoundsWork s most
  pub gaps : OfAllEvents (IsAtLeast period) s
  pub alike : BlocksAlike s
