-- The switches of a tick (the event sched_switch; own where it says more than the event's text).
use Rattle.std.specs.Prelude.{ℕ, Bool, ◌==◌, ◌&&◌, ◌||◌, nat_lt, ◌+◌, if◌then◌else◌, List, [], ◌∷◌, find, Option, Some, None}
use Rattle.edf_pick.specs.Places.{Places}
use Rattle.edf_pick.specs.Moves.{same_occupant}
use Rattle.domain_run.specs.declared.task.Task.{Task}
use Rattle.domain_run.specs.declared.task.Condition.{Condition}
use Rattle.domain_run.specs.declared.task.Condition.TheVariants.{Ready, Throttled, Blocked, Waiting, Leaving}
use Rattle.domain_run.specs.Switch.{Switch}
use Rattle.domain_run.specs.declared.switch.PrevState.{PrevState}
use Rattle.domain_run.specs.declared.switch.PrevState.TheVariants.{Running, Preempted, Sleeping, Dead}

-- an earlier time, or the same time and a lower CPU
abbrev pub is_switch_before : Switch → Switch → Bool
is_switch_before a b = nat_lt a.time b.time || (a.time == b.time && nat_lt a.cpu b.cpu)

-- a task that still wants the CPU was preempted, one that has ended is dead, any other sleeps
abbrev pub left_in : Condition → PrevState
left_in Ready = Preempted
left_in Throttled = Preempted
left_in (Blocked u) = Sleeping
left_in Waiting = Sleeping
left_in Leaving = Dead

-- a task that is off the list has ended
abbrev pub left_by : Option Task → PrevState
left_by None = Dead
left_by (Some t) = left_in t.condition

-- the state in which an occupant leaves; idle is always running
abbrev pub prev_state_of : List Task → Option ℕ → PrevState
prev_state_of tasks None = Running
prev_state_of tasks (Some n) = left_by (find (λ t. t.number == n) tasks)

-- a switch for each CPU whose occupant differs, in order, where the first of these CPUs is `cpu`
abbrev pub switches_from : ℕ → List Task → ℕ → Places → Places → List Switch
switches_from time tasks cpu [] after = []
switches_from time tasks cpu (p ∷ before) [] = []
switches_from time tasks cpu (p ∷ before) (n ∷ after) =
    if same_occupant p n then switches_from time tasks (cpu + 1) before after
    else record { time = time; prev = p; next = n; cpu = cpu; state = prev_state_of tasks p }
    ∷ switches_from time tasks (cpu + 1) before after
