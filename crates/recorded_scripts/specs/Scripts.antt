-- The script of a task whose jobs were recorded: it works as in each job, and in between waits for
-- the next release (own).
use Rattle.std.specs.Prelude.{ℕ, zero, suc, ◌-◌, ◌==◌, ◌&&◌, nat_le, Bool, true, if◌then◌else◌, List, [], ◌∷◌, ◌++◌, length, take, drop, slice_get, Option, Some, None}
use Rattle.std.specs.Option.{option_map_or}
use Rattle.task_script.specs.declared.phase.Event.{Event}
use Rattle.task_script.specs.declared.phase.Event.TheVariants.{Run, Sleep, Timer, Wait}
use Rattle.task_script.specs.script.ScriptView.{PhaseView, ScriptView}
use Rattle.recorded_jobs.specs.declared.job.Job.{Job}
use Rattle.recorded_jobs.specs.declared.job.Release.{Release}
use Rattle.limits.specs.Limits.{max_script_number}

-- a job without an end works on, for 1000 seconds
abbrev pub work_until : Option ℕ → ℕ → ℕ
work_until None work = max_script_number
work_until (Some t) work = work

abbrev pub work_written : Job → ℕ
work_written j = work_until j.«end» j.work

-- the time from one release to the next, unless there is none
abbrev pub gap_events : ℕ → List Event
gap_events gap = if gap == 0 then [] else Timer gap ∷ []

abbrev pub events_of_one : ℕ → Release → List Event
events_of_one before r = gap_events (r.time - before) ++ Run (work_written r.job) ∷ []

-- each job after the time to its release, counted from another time on
unfoldable pub events_after : ℕ → List Release → List Event
events_after before [] = []
events_after before (r ∷ rs) =
    events_of_one before r ++ events_after r.time rs

-- after its last job a task waits, unless it ended or that job has no end
abbrev pub events_at_end : Option ℕ → Bool → List Event
events_at_end None gone = []
events_at_end (Some t) gone = if gone then [] else Wait ∷ []

abbrev pub last_events : Option Release → List Event
last_events None = []
last_events (Some r) = events_at_end r.job.«end» r.job.gone

abbrev pub first_release : List Release → ℕ
first_release releases = option_map_or (λ r. r.time) (slice_get releases 0) 0

abbrev pub last_release : List Release → Option Release
last_release releases = slice_get releases (length releases - 1)

abbrev pub events_of_jobs : List Release → List Event
events_of_jobs releases =
    events_after (first_release releases) releases ++ last_events (last_release releases)

-- a phase of the first 64 events, if there are any
abbrev pub first_phase : List Event → List PhaseView
first_phase [] = []
first_phase (e ∷ es) = record { count = 1; events = take 64 (e ∷ es) } ∷ []

-- up to n phases of 64 events
unfoldable pub phases_of : ℕ → List Event → List PhaseView
phases_of zero events = []
phases_of (suc n) events = first_phase events ++ phases_of n (drop 64 events)

-- one round of 64 phases at most, which is room for 2048 jobs
abbrev pub script_of_jobs : List Release → ScriptView
script_of_jobs releases =
    record { rounds = Some 1; phases = phases_of 64 (events_of_jobs releases) }

-- a time that a script may have: 1 to 10^9 us
abbrev pub is_script_time : ℕ → Bool
is_script_time n = nat_le 1 n && nat_le n max_script_number

-- neither the work of a job nor the time to its release is longer than a script may have it
abbrev pub is_short_release : ℕ → Release → Bool
is_short_release before r =
    nat_le (r.time - before) max_script_number && is_script_time (work_written r.job)

unfoldable pub are_short_after : ℕ → List Release → Bool
are_short_after before [] = true
are_short_after before (r ∷ rs) = is_short_release before r && are_short_after r.time rs

abbrev pub are_short : List Release → Bool
are_short releases = are_short_after (first_release releases) releases
