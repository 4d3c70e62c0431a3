-- What is logged of a task while its entries go by.
use Rattle.std.specs.Prelude.{ℕ, Bool, ◌+◌, ◌-◌, ◌*◌, ◌≡◌, ◌≤◌, ◌<◌, ◌^◌, ◌&&◌, not, is_none, min, max, fold, if◌then◌else◌, List, All, take, count_by, Option, Some, None, IfSome}
use Rattle.std.specs.Int.{int_min}
use Rattle.domain_run.specs.declared.happened.What.{What}
use Rattle.domain_run.specs.declared.happened.Happened.{Happened}
use Rattle.domain_run.specs.Switch.{Switch}
use Rattle.run_figures.specs.declared.job.Job.{Job}
use Rattle.run_figures.specs.declared.counting.Ended.{Ended}
use Rattle.run_figures.specs.declared.counting.Counts.{Counts}
use Rattle.run_figures.specs.declared.throttle.Throttle.{Throttle}
use Rattle.run_figures.specs.declared.logged.TaskTally.{TaskTally}
use Rattle.run_figures.specs.Jobs.{over_by, job_after}
use Rattle.run_figures.specs.Figures.{Outcome, outcome_at, is_late}
use Rattle.edf_pick.specs.Places.{is_task}
use Rattle.run_figures.specs.Throttling.{throttles, frees, wants_it, preempts, preemptions}
use Rattle.run_figures.specs.Places.{if_number}

-- JOBS
abbrev pub first_ended : Outcome → Ended
first_ended o = record {
  count = 1;
  total = o.response;
  least = o.response;
  most = o.response;
  slack = o.slack;
}

abbrev pub one_more : Ended → Outcome → Ended
one_more e o = record {
  count = e.count + 1;
  total = e.total + o.response;
  least = min e.least o.response;
  most = max e.most o.response;
  slack = int_min e.slack o.slack;
}

abbrev pub with_outcome : Option Ended → Outcome → Option Ended
with_outcome None o = Some (first_ended o)
with_outcome (Some e) o = Some (one_more e o)

abbrev pub with_end : Option Ended → Job → Option Ended
with_end ended job = fold with_outcome ended (outcome_at job job.ended)

abbrev pub with_job : ℕ → Counts → Job → Counts
with_job time c job = record {
  ended = with_end c.ended job;
  late = if is_late time job then c.late + 1 else c.late;
}

abbrev pub with_over : ℕ → Counts → Option Job → Counts
with_over time c None = c
with_over time c (Some job) = with_job time c job

-- a job that is over with no end and no cut: the next one was released in its place. Whether it is
-- late depends on the time at the end
abbrev pub is_superseded : Job → Bool
is_superseded job = is_none job.ended && not job.cut

abbrev pub superseded_by : Option Job → ℕ
superseded_by None = 0
superseded_by (Some job) = if is_superseded job then 1 else 0

-- THROTTLING
abbrev pub gap : Option ℕ → ℕ → ℕ
gap None time = 0
gap (Some since) time = time - since

abbrev pub throttled_from : ℕ → Throttle → Throttle
throttled_from time t =
    record { times = t.times + 1; us = t.us + gap t.since time; since = Some time }

abbrev pub freed_from : ℕ → Throttle → Throttle
freed_from time t = record { times = t.times; us = t.us + gap t.since time; since = None }

abbrev pub throttle_by : ℕ → What → Throttle → Throttle
throttle_by time what t =
    if throttles what then throttled_from time t
    else (if frees what then freed_from time t else t)

-- A TASK, where the run ends at this time
abbrev pub with_counts : Counts → ℕ → TaskTally → TaskTally
with_counts counts superseded t = record t {
  counts = counts;
  superseded = t.superseded + superseded;
}

-- with its job, where it is over by this
abbrev pub with_over_by : ℕ → Happened → TaskTally → TaskTally
with_over_by time h t = with_counts (with_over time t.counts (over_by h.time h.what t.job))
    (superseded_by (over_by h.time h.what t.job)) t

-- with an entry of its own
abbrev pub logged_after : ℕ → Happened → TaskTally → TaskTally
logged_after time h t = record t {
  job = job_after h.time h.what t.job;
  counts = with_over time t.counts (over_by h.time h.what t.job);
  throttle = throttle_by h.time h.what t.throttle;
  superseded = t.superseded + superseded_by (over_by h.time h.what t.job);
}

abbrev pub logged_to_task : ℕ → TaskTally → Happened → TaskTally
logged_to_task time t h = if_number (λ t. t.number) h.number (logged_after time h) t

abbrev pub logged_all : ℕ → List Happened → TaskTally → TaskTally
logged_all time hs t = fold (logged_to_task time) t hs

-- nothing is logged yet
abbrev pub nothing_logged : ℕ → TaskTally
nothing_logged number = record {
  number = number;
  job = None;
  counts = record { ended = None; late = 0 };
  throttle = record { times = 0; us = 0; since = None };
  preempted = 0;
  superseded = 0;
}

-- counts of at most n entries
pub record IsWithinEnded (n : ℕ) (e : Ended) : Type 0 where
  pub some : 0 < e.count
  pub count : e.count ≤ n
  pub total : e.total ≤ n * 2 ^ 64

pub record IsJobUnderWay (n : ℕ) (j : Job) : Type 0 where
  pub throttled : j.throttled ≤ n
  pub going : j.ended ≡ None

pub record IsLoggedWithin (n : ℕ) (t : TaskTally) : Type 0 where
  pub job : IfSome t.job (IsJobUnderWay n)
  pub ended : IfSome t.counts.ended (IsWithinEnded n)
  pub late : t.counts.late ≤ n
  pub times : t.throttle.times ≤ n
  pub us : t.throttle.us ≤ n * 2 ^ 64
  pub superseded : t.superseded ≤ n

-- so much more can be logged
pub record HaveRoomFor (n : ℕ) (ts : List TaskTally) : Type 0 where
  pub used : ℕ
  pub fits : used + n < 2 ^ 64
  pub within : All (IsLoggedWithin used) ts

-- A SWITCH
abbrev pub leaver_wanting : Switch → Option ℕ
leaver_wanting s = if wants_it s.state then s.prev else None

abbrev pub with_preemption : Switch → TaskTally → TaskTally
with_preemption s t =
    if is_task t.number (leaver_wanting s) && is_none t.throttle.since
    then record t { preempted = t.preempted + 1 } else t

-- what happened up to a place, and the switches up to a place
abbrev pub so_far : ℕ → List Happened → List Switch → ℕ → ℕ → ℕ → TaskTally
so_far time happened switches j k number = record
    (logged_all time (take j happened) (nothing_logged number)) {
      preempted = count_by (preempts happened number) (take k switches);
    }

-- all that happened, and all switches
abbrev pub logged_by : ℕ → List Happened → List Switch → ℕ → TaskTally
logged_by time happened switches number = record
    (logged_all time happened (nothing_logged number)) {
      preempted = preemptions happened switches number;
    }
