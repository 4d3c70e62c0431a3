-- What was counted in a period, counted again: of a task and of a CPU.
use Rattle.std.specs.Prelude.{ℕ, ◌≡◌, ◌+◌, ◌-◌, ◌*◌, ◌<◌, ◌≤◌, ◌^◌, List, [], ◌∷◌, length, slice_index_or, Option, Some, None, IfSome, option_map}
use Rattle.domain_run.specs.Later.{later}
use Rattle.run_figures.specs.declared.job.Job.{Job}
use Rattle.run_figures.specs.declared.counting.Ended.{Ended}
use Rattle.run_figures.specs.declared.counting.Counts.{Counts}
use Rattle.run_figures.specs.declared.throttle.Throttle.{Throttle}
use Rattle.run_figures.specs.declared.logged.TaskTally.{TaskTally}
use Rattle.run_figures.specs.declared.ran.Ran.{Ran}
use Rattle.run_figures.specs.declared.ran.Cpu.{Cpu}
use Rattle.run_figures.specs.private.Logging.{IsLoggedWithin}

abbrev pub later_job : ℕ → Job → Job
later_job k j = record j {
  release = j.release + k;
  deadline = j.deadline + k;
  ended = later k j.ended;
}

-- COMES BACK: after a period of k microseconds a task and a CPU are what they were, but for their
-- counts
pub record IsLoggedBack (k : ℕ) (a b : TaskTally) : Type 0 where
  pub job : b.job ≡ option_map (later_job k) a.job
  pub since : b.throttle.since ≡ later k a.throttle.since
  pub superseded : b.superseded ≡ a.superseded

abbrev pub IsRanBack : Ran → Ran → Type 0
IsRanBack a b = b.last ≡ a.last

abbrev pub IsCpuBack : Cpu → Cpu → Type 0
IsCpuBack a b = b.task ≡ a.task

-- GROWN: a count that was `a` at the beginning of a period and `b` at its end, after m periods
-- more
abbrev pub grown_count : ℕ → ℕ → ℕ → ℕ
grown_count m a b = b + m * (b - a)

-- a time up to the end of the run, of which the rest is taken back, so it may shrink
abbrev pub grown_time : ℕ → ℕ → ℕ → ℕ
grown_time m a b = b + m * (b - a) - m * (a - b)

abbrev pub count_of : Option Ended → ℕ
count_of None = 0
count_of (Some e) = e.count

abbrev pub total_of : Option Ended → ℕ
total_of None = 0
total_of (Some e) = e.total

-- the least and the greatest of a period are those of any number of them
abbrev pub grown_ended : ℕ → Option Ended → Option Ended → Option Ended
grown_ended m a None = None
grown_ended m a (Some b) = Some (record b {
  count = grown_count m (count_of a) b.count;
  total = grown_count m (total_of a) b.total;
})

abbrev pub grown_counts : ℕ → Counts → Counts → Counts
grown_counts m a b = record {
  ended = grown_ended m a.ended b.ended;
  late = grown_count m a.late b.late;
}

abbrev pub grown_throttle : ℕ → ℕ → Throttle → Throttle → Throttle
grown_throttle shift m a b = record {
  times = grown_count m a.times b.times;
  us = grown_count m a.us b.us;
  since = later shift b.since;
}

-- m periods are `shift` microseconds
abbrev pub grown_logged : ℕ → ℕ → TaskTally → TaskTally → TaskTally
grown_logged shift m a b = record {
  number = b.number;
  job = option_map (later_job shift) b.job;
  counts = grown_counts m a.counts b.counts;
  throttle = grown_throttle shift m a.throttle b.throttle;
  preempted = grown_count m a.preempted b.preempted;
  superseded = b.superseded;
}

abbrev pub grown_ran : ℕ → Ran → Ran → Ran
grown_ran m a b = record b {
  cpu_us = grown_time m a.cpu_us b.cpu_us;
  migrated = grown_count m a.migrated b.migrated;
}

abbrev pub grown_cpu : ℕ → Cpu → Cpu → Cpu
grown_cpu m a b = record b {
  busy_us = grown_time m a.busy_us b.busy_us;
  switches = grown_count m a.switches b.switches;
}

-- ROWS of a table, one of each kind at a place
abbrev pub rows_grown : {X : Type 0} → (X → X → X) → List X → List X → List X
rows_grown f (a ∷ xs) (b ∷ ys) = f a b ∷ rows_grown f xs ys
rows_grown f _ _ = []

-- at each place the two rows are so
abbrev pub AreBoth : {X : Type 0} → (X → X → Type 0) → List X → List X → Type 0
AreBoth {X} R xs ys =
    (i : ℕ) (d e : X) → i < length ys → R (slice_index_or xs i d) (slice_index_or ys i e)

-- the times of a task have room for k microseconds more
abbrev pub IsTimeSoon : ℕ → ℕ → Type 0
IsTimeSoon shift time = time + shift < 2 ^ 64

pub record IsJobSoon (shift : ℕ) (j : Job) : Type 0 where
  pub release : IsTimeSoon shift j.release
  pub deadline : IsTimeSoon shift j.deadline
  pub going : j.ended ≡ None

pub record IsLoggedSoon (shift : ℕ) (t : TaskTally) : Type 0 where
  pub job : IfSome t.job (IsJobSoon shift)
  pub since : IfSome t.throttle.since (IsTimeSoon shift)

-- numbers hold what is counted
pub record IsLoggedCounted (t : TaskTally) : Type 0 where
  pub within : IsLoggedWithin (2 ^ 64 - 2) t
  pub preempted : t.preempted ≤ 2 ^ 64 - 2

pub record IsRanCounted (r : Ran) : Type 0 where
  pub cpu_us : r.cpu_us < 2 ^ 128
  pub migrated : r.migrated < 2 ^ 64

pub record IsCpuCounted (c : Cpu) : Type 0 where
  pub busy_us : c.busy_us < 2 ^ 128
  pub switches : c.switches < 2 ^ 64
