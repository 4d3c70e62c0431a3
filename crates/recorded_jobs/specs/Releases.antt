-- When the jobs of a task were released (own).
use Rattle.std.specs.Prelude.{◌≡◌, ℕ, ◌==◌, ◌-◌, ◌&&◌, nat_le, Bool, true, false, if◌then◌else◌, List, [], ◌∷◌, length, slice_get, Option, Some, None, unwrap_or, is_some}
use Rattle.std.specs.Option.{option_map, option_map_or, option_or}
use Rattle.std.specs.List.{filter_map}
use Rattle.recorded_jobs.specs.declared.moment.What.{What}
use Rattle.recorded_jobs.specs.declared.moment.What.TheVariants.{Switch, Wake}
use Rattle.recorded_jobs.specs.declared.moment.Moment.{Moment}
use Rattle.recorded_jobs.specs.declared.job.Job.{Job}
use Rattle.recorded_jobs.specs.declared.job.Release.{Release}
use Rattle.recorded_jobs.specs.Stretches.{all_stretches, stretches_of}
use Rattle.recorded_jobs.specs.Jobs.{jobs_cut}

abbrev pub is_wake_of : ℕ → What → Bool
is_wake_of task (Switch leaves how comes) = false
is_wake_of task (Wake other) = option_map_or (λ t. t == task) other false

-- the times at which a task was woken
abbrev pub wakes_of : ℕ → List Moment → List ℕ
wakes_of task moments =
    filter_map (λ m. if is_wake_of task m.what then Some m.time else None) moments

-- the latest of these times, which are in order, from one time to another
unfoldable pub latest_between : ℕ → ℕ → List ℕ → Option ℕ
latest_between after start [] = None
latest_between after start (w ∷ ws) =
    option_or (latest_between after start ws)
    (if nat_le after w && nat_le w start then Some w else None)

abbrev pub release_by : Job → Option ℕ → Release
release_by j wake = record { time = unwrap_or wake j.start; woken = is_some wake; job = j }

-- the latest wake from the end of the job before up to the first start, or else that start
unfoldable pub releases_after : ℕ → List ℕ → List Job → List Release
releases_after after wakes [] = []
releases_after after wakes (j ∷ js) =
    release_by j (latest_between after j.start wakes)
    ∷ releases_after (unwrap_or j.«end» j.start) wakes js

-- the time of the last moment
abbrev pub time_at_end : List Moment → ℕ
time_at_end moments = option_map_or (λ m. m.time) (slice_get moments (length moments - 1)) 0

-- a task's jobs with their releases
abbrev pub jobs_of_task : List Moment → ℕ → List Release
jobs_of_task moments task =
    releases_after 0 (wakes_of task moments)
    (jobs_cut (stretches_of task (all_stretches (time_at_end moments) moments)))
