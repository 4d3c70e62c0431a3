-- Laws of the script of jobs (own).
use Rattle.std.specs.Prelude.{◌≡◌, ℕ, zero, suc, ◌+◌, ◌<◌, ◌≤◌, List, [], ◌∷◌, All, length, slice_index_or, sum_by, IsTrue, is_some}
use Rattle.std.specs.List.{AllByRecursion}
use Rattle.std.specs.List.Sorted.{IsNonDecreasingBy}
use Rattle.task_script.specs.declared.phase.Event.{Event}
use Rattle.task_script.specs.declared.phase.Event.TheVariants.{Run, Sleep, Timer, Wait}
use Rattle.recorded_jobs.specs.declared.job.Release.{Release}
use Rattle.recorded_scripts.specs.Scripts.{events_of_jobs, first_release}

-- the work of an event
abbrev pub event_work : Event → ℕ
event_work (Run n) = n
event_work (Sleep n) = 0
event_work (Timer n) = 0
event_work Wait = 0

-- the times of the timers that stand before the work of number k, from 0
unfoldable pub timers_before : ℕ → List Event → ℕ
timers_before k [] = 0
timers_before zero (Run n ∷ events) = 0
timers_before (suc k) (Run n ∷ events) = timers_before k events
timers_before k (Sleep n ∷ events) = timers_before k events
timers_before k (Timer n ∷ events) = n + timers_before k events
timers_before k (Wait ∷ events) = timers_before k events

-- if all jobs have ends, the work of the script is the work of the jobs
abbrev pub WorkIsWritten : Type 0
WorkIsWritten =
    (jobs : List Release) → AllByRecursion (λ r. IsTrue (is_some r.job.«end»)) jobs
    → sum_by event_work (events_of_jobs jobs) ≡ sum_by (λ r. r.job.work) jobs

-- if releases do not go back, job k works after timers up to its release
abbrev pub ReleasesAreReached : Type 0
ReleasesAreReached =
    (jobs : List Release) (k : ℕ) (d : Release) → IsNonDecreasingBy (λ r. r.time) jobs
    → k < length jobs
    → first_release jobs + timers_before k (events_of_jobs jobs) ≡ (slice_index_or jobs k d).time
