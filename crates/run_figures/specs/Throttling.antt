-- Throttling, read off what happened to a task (own; sched-deadline.rst, "2. Task scheduling").
use Rattle.std.specs.Prelude.{ℕ, ◌+◌, ◌-◌, Bool, true, false, not, ◌&&◌, ◌||◌, nat_le, if◌then◌else◌, List, [], ◌∷◌, count_by, fold, take_while}
use Rattle.domain_run.specs.declared.happened.What.{What}
use Rattle.domain_run.specs.declared.happened.What.TheVariants.{JobEnds, NextReleased, Spent, Cut, Replenished, Released, WokenSpent}
use Rattle.domain_run.specs.declared.happened.Happened.{Happened}
use Rattle.domain_run.specs.Switch.{Switch}
use Rattle.domain_run.specs.declared.switch.PrevState.{PrevState}
use Rattle.domain_run.specs.declared.switch.PrevState.TheVariants.{Running, Preempted, Sleeping, Dead}
use Rattle.run_figures.specs.Jobs.{of_task}
use Rattle.edf_pick.specs.Places.{is_task}

abbrev pub throttles : What → Bool
throttles JobEnds = false
throttles (NextReleased deadline) = false
throttles (Spent deadline) = true
throttles Cut = false
throttles (Replenished deadline) = false
throttles (Released deadline) = false
throttles (WokenSpent deadline) = true

-- a replenishment frees a task, and where it is cut it is throttled no more
abbrev pub frees : What → Bool
frees JobEnds = false
frees (NextReleased deadline) = false
frees (Spent deadline) = false
frees Cut = true
frees (Replenished deadline) = true
frees (Released deadline) = false
frees (WokenSpent deadline) = false

-- how often it was throttled
abbrev pub throttled_of : List Happened → ℕ
throttled_of own = count_by (λ h. throttles h.what) own

-- until when a throttle lasts: to the next entry that frees or throttles, or to the end of the run
abbrev pub until_free : ℕ → List Happened → ℕ
until_free time [] = time
until_free time (h ∷ hs) =
    if frees h.what || throttles h.what then h.time else until_free time hs

-- how long it was throttled, in microseconds
abbrev pub throttled_us : ℕ → List Happened → ℕ
throttled_us time [] = 0
throttled_us time (h ∷ hs) =
    (if throttles h.what then until_free time hs - h.time else 0) + throttled_us time hs

-- whether it is throttled after these
abbrev pub throttled_then : Bool → What → Bool
throttled_then before what = throttles what || (not (frees what) && before)

abbrev pub is_throttled_by : List Happened → Bool
is_throttled_by own = fold (λ before h. throttled_then before h.what) false own

-- what happens at a time stands before the switches of that time
abbrev pub up_to : ℕ → List Happened → List Happened
up_to time happened = take_while (λ h. nat_le h.time time) happened

abbrev pub is_throttled_at : List Happened → ℕ → ℕ → Bool
is_throttled_at happened number time = is_throttled_by (of_task number (up_to time happened))

-- PREEMPTED: a CPU is taken from a task that wants it and has budget left. From one that is
-- throttled it is taken in the same state
abbrev pub wants_it : PrevState → Bool
wants_it Running = false
wants_it Preempted = true
wants_it Sleeping = false
wants_it Dead = false

abbrev pub preempts : List Happened → ℕ → Switch → Bool
preempts happened number s =
    is_task number s.prev && wants_it s.state && not (is_throttled_at happened number s.time)

abbrev pub preemptions : List Happened → List Switch → ℕ → ℕ
preemptions happened switches number = count_by (preempts happened number) switches
