-- Jobs of a task: its stretches in the order of time, cut after each that is closed (own).
use Rattle.std.specs.Prelude.{ℕ, ◌-◌, nat_lt, Bool, true, false, not, if◌then◌else◌, List, [], ◌∷◌, map, filter, find, sum_by}
use Rattle.std.specs.Option.{option_map, option_map_or}
use Rattle.std.specs.List.{onto_first}
use Rattle.recorded_jobs.specs.declared.moment.Leave.{Leave}
use Rattle.recorded_jobs.specs.declared.moment.Leave.TheVariants.{Ready, Blocked, Gone}
use Rattle.recorded_jobs.specs.declared.stretch.Stretch.{Stretch}
use Rattle.recorded_jobs.specs.declared.job.Job.{Job}

-- the task still wants the CPU
abbrev pub is_left_open : Leave → Bool
is_left_open Ready = true
is_left_open Blocked = false
is_left_open Gone = false

abbrev pub is_end_of_task : Leave → Bool
is_end_of_task Ready = false
is_end_of_task Blocked = false
is_end_of_task Gone = true

abbrev pub is_closed : Stretch → Bool
is_closed s = not (is_left_open s.how)

-- cut after each closed one
unfoldable pub stretches_cut : List Stretch → List (List Stretch)
stretches_cut [] = []
stretches_cut (s ∷ ss) =
    if is_closed s then (s ∷ []) ∷ stretches_cut ss else onto_first s (stretches_cut ss)

abbrev pub group_start : List Stretch → ℕ
group_start [] = 0
group_start (s ∷ ss) = s.start

-- how long a job ran
abbrev pub work_of : List Stretch → ℕ
work_of stretches = sum_by (λ s. s.«end» - s.start) stretches

-- a job ends with its closed stretch, if it has one
abbrev pub job_of : List Stretch → Job
job_of stretches =
    record {
      start = group_start stretches;
      work = work_of stretches;
      «end» = option_map (λ s. s.«end») (find is_closed stretches);
      gone = option_map_or (λ s. is_end_of_task s.how) (find is_closed stretches) false;
    }

-- a job without work is none
abbrev pub jobs_cut : List Stretch → List Job
jobs_cut stretches = filter (λ j. nat_lt 0 j.work) (map job_of (stretches_cut stretches))
