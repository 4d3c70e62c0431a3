-- Counts stay within the number of entries that were logged.
use Rattle.std.proofs.Common.{ℕ, pos, ◌-ℤ◌, ◌+◌, ◌-◌, ◌*◌, ◌≤◌, ◌<◌, ◌^◌, Bool, true, false, cond, Option, Some, None, refl, sym, arith, subst}
use Rattle.std.specs.Prelude.{IfSome, fold}
use Rattle.domain_run.specs.declared.happened.What.{What}
use Rattle.domain_run.specs.declared.happened.What.TheVariants.{JobEnds, NextReleased, Spent, Cut, Replenished, Released, WokenSpent}
use Rattle.domain_run.specs.declared.happened.Happened.{Happened}
use Rattle.run_figures.specs.declared.job.Job.{Job}
use Rattle.run_figures.specs.declared.counting.Ended.{Ended}
use Rattle.run_figures.specs.declared.counting.Counts.{Counts}
use Rattle.run_figures.specs.declared.throttle.Throttle.{Throttle}
use Rattle.run_figures.specs.declared.logged.TaskTally.{TaskTally}
use Rattle.run_figures.specs.Jobs.{over_by, job_after}
use Rattle.run_figures.specs.Figures.{Outcome, outcome_at, is_late}
use Rattle.run_figures.specs.private.Logging.{IsJobUnderWay, IsWithinEnded, IsLoggedWithin, with_outcome, with_over, is_superseded, superseded_by, gap, throttle_by, logged_after}

way_more : (n m : ℕ) (o : Option Job) → n ≤ m → IfSome o (IsJobUnderWay n) → IfSome o (IsJobUnderWay m)
way_more n m None l h = tt
way_more n m (Some j) l h = record { throttled = omega (arith, h.throttled); going = h.going }

job_within : (n time : ℕ) (what : What) (o : Option Job) → IfSome o (IsJobUnderWay n) → IfSome (job_after time what o) (IsJobUnderWay (n + 1))
job_within n time JobEnds o h = tt
job_within n time Cut o h = tt
job_within n time (NextReleased d) o h = record { throttled = omega arith; going = refl }
job_within n time (Released d) o h = record { throttled = omega arith; going = refl }
job_within n time (Spent d) None h = tt
job_within n time (Spent d) (Some j) h = record { throttled = omega (arith, h.throttled); going = h.going }
job_within n time (WokenSpent d) None h = tt
job_within n time (WokenSpent d) (Some j) h = record { throttled = omega (arith, h.throttled); going = h.going }
job_within n time (Replenished d) o h = way_more n (n + 1) o (omega arith) h

ended_more : (n m : ℕ) (o : Option Ended) → n ≤ m → IfSome o (IsWithinEnded n) → IfSome o (IsWithinEnded m)
ended_more n m None l h = tt
ended_more n m (Some e) l h = record { some = h.some; count = omega (arith, h.count); total = omega (arith, h.total) }

one_within : (n : ℕ) (ended : Option Ended) (o : Outcome) → o.response < 2 ^ 64 → IfSome ended (IsWithinEnded n) → IfSome (with_outcome ended o) (IsWithinEnded (n + 1))
one_within n None o small h = record { some = omega arith; count = omega arith; total = omega (arith, small) }
one_within n (Some e) o small h = record { some = omega arith; count = omega (arith, h.count); total = omega (arith, small, h.total) }

end_within : (n : ℕ) (ended : Option Ended) (j : Job) (at : Option ℕ) → IfSome at (λ e. e < 2 ^ 64) → IfSome ended (IsWithinEnded n) → IfSome (fold with_outcome ended (outcome_at j at)) (IsWithinEnded (n + 1))
end_within n ended j None small h = ended_more n (n + 1) ended (omega arith) h
end_within n ended j (Some e) small h = one_within n ended (record { response = e - j.release; slack = pos j.deadline -ℤ pos e }) (omega (arith, small)) h

-- a job that is under way did not end before
over_within : (n end time : ℕ) (what : What) (o : Option Job) (c : Counts) → time < 2 ^ 64 → IfSome o (IsJobUnderWay n) → IfSome c.ended (IsWithinEnded n) → IfSome (with_over end c (over_by time what o)).ended (IsWithinEnded (n + 1))
over_within n end time what None c small way h = ended_more n (n + 1) c.ended (omega arith) h
over_within n end time JobEnds (Some j) c small way h = end_within n c.ended (record j { ended = Some time }) (Some time) small h
over_within n end time Cut (Some j) c small way h = end_within n c.ended (record j { cut = true }) j.ended (subst (λ (at : Option ℕ). IfSome at (λ e. e < 2 ^ 64)) (sym way.going) tt) h
over_within n end time (NextReleased d) (Some j) c small way h = end_within n c.ended j j.ended (subst (λ (at : Option ℕ). IfSome at (λ e. e < 2 ^ 64)) (sym way.going) tt) h
over_within n end time (Released d) (Some j) c small way h = end_within n c.ended j j.ended (subst (λ (at : Option ℕ). IfSome at (λ e. e < 2 ^ 64)) (sym way.going) tt) h
over_within n end time (Spent d) (Some j) c small way h = ended_more n (n + 1) c.ended (omega arith) h
over_within n end time (Replenished d) (Some j) c small way h = ended_more n (n + 1) c.ended (omega arith) h
over_within n end time (WokenSpent d) (Some j) c small way h = ended_more n (n + 1) c.ended (omega arith) h

late_by : (b : Bool) (n late : ℕ) → late ≤ n → cond b (late + 1) late ≤ n + 1
late_by true n late h = omega arith
late_by false n late h = omega arith

late_within : (n end : ℕ) (c : Counts) (o : Option Job) → c.late ≤ n → (with_over end c o).late ≤ n + 1
late_within n end c None h = omega arith
late_within n end c (Some j) h = late_by (is_late end j) n c.late h

times_within : (n time : ℕ) (what : What) (t : Throttle) → t.times ≤ n → (throttle_by time what t).times ≤ n + 1
times_within n time JobEnds t h = omega arith
times_within n time (NextReleased d) t h = omega arith
times_within n time (Spent d) t h = omega arith
times_within n time Cut t h = omega arith
times_within n time (Replenished d) t h = omega arith
times_within n time (Released d) t h = omega arith
times_within n time (WokenSpent d) t h = omega arith

gap_small : (since : Option ℕ) (time : ℕ) → gap since time ≤ time
gap_small None time = omega arith
gap_small (Some s) time = omega arith

us_within : (n time : ℕ) (what : What) (t : Throttle) → time < 2 ^ 64 → t.us ≤ n * 2 ^ 64 → (throttle_by time what t).us ≤ (n + 1) * 2 ^ 64
us_within n time JobEnds t small h = omega arith
us_within n time (NextReleased d) t small h = omega arith
us_within n time (Spent d) t small h = omega (arith, gap_small t.since time)
us_within n time Cut t small h = omega (arith, gap_small t.since time)
us_within n time (Replenished d) t small h = omega (arith, gap_small t.since time)
us_within n time (Released d) t small h = omega arith
us_within n time (WokenSpent d) t small h = omega (arith, gap_small t.since time)

superseded_few : (o : Option Job) → superseded_by o ≤ 1
superseded_few None = omega arith
superseded_few (Some j) = elim (is_superseded j) as (λ b. cond b 1 0 ≤ 1) [ true ↦ omega arith | false ↦ omega arith ]

-- one entry more
pub logged_within : (n end : ℕ) (h : Happened) (t : TaskTally) → h.time < 2 ^ 64 → IsLoggedWithin n t → IsLoggedWithin (n + 1) (logged_after end h t)
logged_within n end h t small w = record {
  job = job_within n h.time h.what t.job w.job;
  ended = over_within n end h.time h.what t.job t.counts small w.job w.ended;
  late = late_within n end t.counts (over_by h.time h.what t.job) w.late;
  times = times_within n h.time h.what t.throttle w.times;
  us = us_within n h.time h.what t.throttle small w.us;
  superseded = omega (arith, w.superseded, superseded_few (over_by h.time h.what t.job));
}

pub within_more : (n m : ℕ) (t : TaskTally) → n ≤ m → IsLoggedWithin n t → IsLoggedWithin m t
within_more n m t l w = record {
  job = way_more n m t.job l w.job;
  ended = ended_more n m t.counts.ended l w.ended;
  late = omega (arith, w.late);
  times = omega (arith, w.times);
  us = omega (arith, w.us);
  superseded = omega (arith, w.superseded);
}

-- counts of the jobs with the one under way
pub counted_some : (n end : ℕ) (c : Counts) (o : Option Job) → IfSome c.ended (IsWithinEnded n) → IfSome (with_over end c o).ended (λ e. 0 < e.count)
counted_some n end c None h = some_of c.ended h
  where
    some_of : (ended : Option Ended) → IfSome ended (IsWithinEnded n) → IfSome ended (λ e. 0 < e.count)
    some_of None w = tt
    some_of (Some e) w = w.some
counted_some n end c (Some j) h = some_with c.ended j.ended h
  where
    some_with : (ended : Option Ended) (at : Option ℕ) → IfSome ended (IsWithinEnded n) → IfSome (fold with_outcome ended (outcome_at j at)) (λ e. 0 < e.count)
    some_with None None w = tt
    some_with (Some e) None w = w.some
    some_with None (Some t) w = omega arith
    some_with (Some e) (Some t) w = omega arith
