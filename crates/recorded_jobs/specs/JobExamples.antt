-- A worked row: two tasks on one CPU. Task 0 is woken, preempted by task 1, goes on and blocks; it
-- is woken again, runs and blocks.
use Rattle.std.specs.Prelude.{◌≡◌, ℕ, true, false, List, [], ◌∷◌, Option, Some, None, map, refl}
use Rattle.recorded_jobs.specs.declared.moment.Leave.{Leave}
use Rattle.recorded_jobs.specs.declared.moment.Leave.TheVariants.{Ready, Blocked, Gone}
use Rattle.recorded_jobs.specs.declared.moment.What.TheVariants.{Switch, Wake}
use Rattle.recorded_jobs.specs.declared.moment.Moment.{Moment}
use Rattle.recorded_jobs.specs.declared.job.Job.{Job}
use Rattle.recorded_jobs.specs.declared.job.Release.{Release}
use Rattle.recorded_jobs.specs.Stretches.{all_stretches}
use Rattle.recorded_jobs.specs.Jobs.{stretches_cut}
use Rattle.recorded_jobs.specs.Releases.{latest_between, releases_after, jobs_of_task}
use Rattle.recorded_jobs.specs.CpusUsed.{cpus_used}

abbrev switch_at : ℕ → Option ℕ → Leave → Option ℕ → Moment
switch_at time leaves how comes = record { time = time; cpu = 0; what = Switch leaves how comes }

abbrev wake_at : ℕ → ℕ → Moment
wake_at time task = record { time = time; cpu = 0; what = Wake (Some task) }

abbrev two_tasks_recorded : List Moment
two_tasks_recorded =
    wake_at 5000000 0 ∷ switch_at 5000002 None Ready (Some 0)
    ∷ switch_at 5000042 (Some 0) Ready (Some 1) ∷ switch_at 5000072 (Some 1) Blocked (Some 0)
    ∷ switch_at 5000092 (Some 0) Blocked None ∷ wake_at 5000100 0
    ∷ switch_at 5000100 None Ready (Some 0) ∷ switch_at 5000150 (Some 0) Blocked None ∷ []

abbrev job_from : ℕ → ℕ → ℕ → Job
job_from start work ended = record { start = start; work = work; «end» = Some ended; gone = false }

first_task_jobs : jobs_of_task two_tasks_recorded 0 ≡
    record { time = 5000000; woken = true; job = job_from 5000002 60 5000092 }
    ∷ record { time = 5000100; woken = true; job = job_from 5000100 50 5000150 } ∷ []
unfolding all_stretches stretches_cut latest_between releases_after
first_task_jobs = refl

second_task_jobs : jobs_of_task two_tasks_recorded 1 ≡
    record { time = 5000042; woken = false; job = job_from 5000042 30 5000072 } ∷ []
unfolding all_stretches stretches_cut latest_between releases_after
second_task_jobs = refl

-- the first half: task 0 has no end, and the last stretch ends with the recording
cut_recording : jobs_of_task (wake_at 5000000 0 ∷ switch_at 5000002 None Ready (Some 0)
    ∷ switch_at 5000042 (Some 0) Ready (Some 1) ∷ []) 0
    ≡ record {
      time = 5000000;
      woken = true;
      job = record { start = 5000002; work = 40; «end» = None; gone = false };
    } ∷ []
unfolding all_stretches stretches_cut latest_between releases_after
cut_recording = refl

one_cpu_used : cpus_used two_tasks_recorded ≡ 1
unfolding all_stretches
one_cpu_used = refl
