-- THROTTLES AND REPLENISHMENTS: laws of what happens (own; sched-deadline.rst, "2. Task
-- scheduling").
use Rattle.std.specs.Prelude.{ℕ, ◌≡◌, ◌+◌, ◌==◌, ◌&&◌, ◌||◌, not, if◌then◌else◌, Bool, true, false, List, [], ◌∷◌, count_by, fold}
use Rattle.domain_run.specs.declared.happened.What.{What}
use Rattle.domain_run.specs.declared.happened.What.TheVariants.{JobEnds, NextReleased, Spent, Cut, Replenished, Released, WokenSpent}
use Rattle.domain_run.specs.declared.happened.Happened.{Happened}
use Rattle.domain_run.specs.declared.task.Task.{Task}
use Rattle.domain_run.specs.Conditions.{is_throttled}
use Rattle.run_figures.specs.Jobs.{of_task}
use Rattle.run_figures.specs.Throttling.{throttles, throttled_of}

abbrev pub replenishes : What → Bool
replenishes JobEnds = false
replenishes (NextReleased deadline) = false
replenishes (Spent deadline) = false
replenishes Cut = false
replenishes (Replenished deadline) = true
replenishes (Released deadline) = false
replenishes (WokenSpent deadline) = false

-- how often a task was replenished
abbrev pub replenished_of : List Happened → ℕ
replenished_of own = count_by (λ h. replenishes h.what) own

-- one where the listed task of a number is throttled, else none
abbrev pub open_of : ℕ → List Task → ℕ
open_of number tasks = count_by (λ t. t.number == number && is_throttled t.condition) tasks

-- FROM TASKS TO WHAT TIME MAKES OF THEM: each is throttled as often as it is replenished, but for
-- a throttle that is open before, or after
abbrev pub AreBalanced : List Task → List Happened → List Task → Type 0
AreBalanced before logged after = (number : ℕ)
    → open_of number before + throttled_of (of_task number logged)
    ≡ replenished_of (of_task number logged) + open_of number after

-- IN TURN: after each throttle of a task comes a replenishment before the next throttle, and after
-- each replenishment a throttle before the next one
abbrev pub come_in_turn : Bool → List Happened → Bool
come_in_turn throttled [] = true
come_in_turn throttled (h ∷ hs) =
    if throttles h.what then not throttled && come_in_turn true hs
    else (if replenishes h.what then throttled && come_in_turn false hs
    else come_in_turn throttled hs)

-- whether the last of them is a throttle: the task is throttled still, or was cut while it was
abbrev pub is_left_throttled : Bool → List Happened → Bool
is_left_throttled before own =
    fold (λ b h. throttles h.what || (not (replenishes h.what) && b)) before own
