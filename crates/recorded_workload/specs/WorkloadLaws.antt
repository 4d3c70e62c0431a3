-- A law of workloads (own).
use Rattle.std.specs.Prelude.{◌≡◌, ℕ, ◌+◌, ◌-◌, ◌<◌, List, length, slice_index_or}
use Rattle.recorded_jobs.specs.declared.job.Release.{Release}
use Rattle.recorded_scripts.specs.Scripts.{first_release}
use Rattle.recorded_workload.specs.Workload.{time_zero}

-- time 0 and the delay of a task with a job lead to the release of its first job
abbrev pub DelaysReach : Type 0
DelaysReach =
    (jobs : List (List Release)) (task : ℕ) (d : List Release) → task < length jobs
    → 0 < length (slice_index_or jobs task d)
    → time_zero jobs + (first_release (slice_index_or jobs task d) - time_zero jobs)
    ≡ first_release (slice_index_or jobs task d)
