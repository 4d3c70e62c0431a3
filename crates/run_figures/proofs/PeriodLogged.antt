-- What is logged of a task in a period is logged again in each of those that come.
use Rattle.std.proofs.Common.{◌≡◌, ℕ, zero, suc, ◌+◌, ◌-◌, ◌*◌, ◌≤◌, ◌<◌, Bool, true, false, cond, eqb, not, ◌&&◌, min, max, ⊎_elim, pos, ℤ, ◌-ℤ◌, List, [], ◌∷◌, map, Option, Some, None, refl, sym, ap, ◌∙◌, arith}
use Rattle.std.specs.Prelude.{fold, option_map, is_none, nat_lt}
use Rattle.std.specs.Int.{int_min}
use Rattle.std.proofs.lemmas.Bool.{cases_lt, lt-ltb, le-ltb}
use Rattle.std.proofs.lemmas.Int.{ints, clamps}
use Rattle.std.proofs.lemmas.List.Sums.{fold-append}
use Rattle.domain_run.specs.declared.happened.What.{What}
use Rattle.domain_run.specs.declared.happened.What.TheVariants.{JobEnds, NextReleased, Spent, Cut, Replenished, Released, WokenSpent}
use Rattle.domain_run.specs.declared.happened.Happened.{Happened}
use Rattle.domain_run.specs.Later.{later, later_what, later_happened}
use Rattle.run_figures.specs.declared.job.Job.{Job}
use Rattle.run_figures.specs.declared.counting.Ended.{Ended}
use Rattle.run_figures.specs.declared.counting.Counts.{Counts}
use Rattle.run_figures.specs.declared.throttle.Throttle.{Throttle}
use Rattle.run_figures.specs.declared.logged.TaskTally.{TaskTally}
use Rattle.run_figures.specs.Jobs.{over_by, job_after}
use Rattle.run_figures.specs.Figures.{Outcome, outcome_at, is_late, is_late_at}
use Rattle.run_figures.specs.Again.{more_logged}
use Rattle.run_figures.specs.private.Logging.{with_outcome, with_over, superseded_by, gap, throttle_by, logged_after, logged_to_task, logged_all}
use Rattle.run_figures.specs.private.Growing.{later_job, IsLoggedBack, grown_count, count_of, total_of, grown_ended, grown_logged}
use Rattle.run_figures.proofs.Passing.{number_of_logged, logged_with}

-- COUNTS ADDED: what a task counted before does not touch what it counts then
abbrev pub joined : Option Ended → Option Ended → Option Ended
joined None e = e
joined (Some x) None = Some x
joined (Some x) (Some y) = Some (record {
  count = x.count + y.count;
  total = x.total + y.total;
  least = min x.least y.least;
  most = max x.most y.most;
  slack = int_min x.slack y.slack;
})

abbrev joined_counts : Counts → Counts → Counts
joined_counts g c = record { ended = joined g.ended c.ended; late = g.late + c.late }

abbrev joined_throttle : Throttle → Throttle → Throttle
joined_throttle g t = record { times = g.times + t.times; us = g.us + t.us; since = t.since }

abbrev pub added : TaskTally → TaskTally → TaskTally
added g t = record {
  number = t.number;
  job = t.job;
  counts = joined_counts g.counts t.counts;
  throttle = joined_throttle g.throttle t.throttle;
  preempted = t.preempted;
  superseded = g.superseded + t.superseded;
}

slack_assoc : (a b c : ℤ) → int_min (int_min a b) c ≡ int_min a (int_min b c)
slack_assoc a b c = omega (arith, ints, clamps)

joined_outcome : (g c : Option Ended) (o : Outcome) → with_outcome (joined g c) o ≡ joined g (with_outcome c o)
joined_outcome None c o = refl
joined_outcome (Some x) None o = refl
joined_outcome (Some x) (Some y) o =
    let count : x.count + y.count + 1 ≡ x.count + (y.count + 1) = omega arith in
    let total : x.total + y.total + o.response ≡ x.total + (y.total + o.response) = omega arith in
    let least : min (min x.least y.least) o.response ≡ min x.least (min y.least o.response) = omega arith in
    let most : max (max x.most y.most) o.response ≡ max x.most (max y.most o.response) = omega arith in
    λ i. Some (record { count = count i; total = total i; least = least i; most = most i; slack = slack_assoc x.slack y.slack o.slack i })

joined_end : (g c : Option Ended) (j : Job) (at : Option ℕ) → fold with_outcome (joined g c) (outcome_at j at) ≡ joined g (fold with_outcome c (outcome_at j at))
joined_end g c j None = refl
joined_end g c j (Some e) = joined_outcome g c (record { response = e - j.release; slack = pos j.deadline -ℤ pos e })

joined_late : (b : Bool) (g c : ℕ) → cond b (g + c + 1) (g + c) ≡ g + cond b (c + 1) c
joined_late true g c = omega arith
joined_late false g c = refl

joined_over : (end : ℕ) (g c : Counts) (o : Option Job) → with_over end (joined_counts g c) o ≡ joined_counts g (with_over end c o)
joined_over end g c None = refl
joined_over end g c (Some j) = λ i. record { ended = joined_end g.ended c.ended j j.ended i; late = joined_late (is_late end j) g.late c.late i }

joined_by : (time : ℕ) (what : What) (g t : Throttle) → throttle_by time what (joined_throttle g t) ≡ joined_throttle g (throttle_by time what t)
joined_by time JobEnds g t = refl
joined_by time (NextReleased d) g t = refl
joined_by time (Spent d) g t =
    let times : g.times + t.times + 1 ≡ g.times + (t.times + 1) = omega arith in
    let us : g.us + t.us + gap t.since time ≡ g.us + (t.us + gap t.since time) = omega arith in
    λ i. record { times = times i; us = us i; since = Some time }
joined_by time Cut g t =
    let us : g.us + t.us + gap t.since time ≡ g.us + (t.us + gap t.since time) = omega arith in
    λ i. record { times = g.times + t.times; us = us i; since = None }
joined_by time (Replenished d) g t =
    let us : g.us + t.us + gap t.since time ≡ g.us + (t.us + gap t.since time) = omega arith in
    λ i. record { times = g.times + t.times; us = us i; since = None }
joined_by time (Released d) g t = refl
joined_by time (WokenSpent d) g t =
    let times : g.times + t.times + 1 ≡ g.times + (t.times + 1) = omega arith in
    let us : g.us + t.us + gap t.since time ≡ g.us + (t.us + gap t.since time) = omega arith in
    λ i. record { times = times i; us = us i; since = Some time }

added_after : (end : ℕ) (h : Happened) (g t : TaskTally) → logged_after end h (added g t) ≡ added g (logged_after end h t)
added_after end h g t =
    let o = over_by h.time h.what t.job in
    let more : g.superseded + t.superseded + superseded_by o ≡ g.superseded + (t.superseded + superseded_by o) = omega arith in
    λ i. record {
      number = t.number;
      job = job_after h.time h.what t.job;
      counts = joined_over end g.counts t.counts o i;
      throttle = joined_by h.time h.what g.throttle t.throttle i;
      preempted = t.preempted;
      superseded = more i;
    }

added_to : (end : ℕ) (h : Happened) (g t : TaskTally) → logged_to_task end (added g t) h ≡ added g (logged_to_task end t h)
added_to end h g t = elim (eqb t.number h.number) as (λ b. cond b (logged_after end h (added g t)) (added g t) ≡ added g (cond b (logged_after end h t) t)) [
  | true ↦ added_after end h g t
  | false ↦ refl
]

pub added_all : (end : ℕ) (hs : List Happened) (g t : TaskTally) → logged_all end hs (added g t) ≡ added g (logged_all end hs t)
added_all end [] g t = refl
added_all end (h ∷ hs) g t = ap (logged_all end hs) (added_to end h g t) ∙ added_all end hs g (logged_to_task end t h)

-- LATER: the same, logged later
abbrev later_throttle : ℕ → Throttle → Throttle
later_throttle k t = record t { since = later k t.since }

abbrev pub later_logged : ℕ → TaskTally → TaskTally
later_logged k t = record t { job = option_map (later_job k) t.job; throttle = later_throttle k t.throttle }

over_later : (k time : ℕ) (what : What) (o : Option Job) → over_by (time + k) (later_what k what) (option_map (later_job k) o) ≡ option_map (later_job k) (over_by time what o)
over_later k time what None = refl
over_later k time JobEnds (Some j) = refl
over_later k time (NextReleased d) (Some j) = refl
over_later k time (Spent d) (Some j) = refl
over_later k time Cut (Some j) = refl
over_later k time (Replenished d) (Some j) = refl
over_later k time (Released d) (Some j) = refl
over_later k time (WokenSpent d) (Some j) = refl

job_later : (k time : ℕ) (what : What) (o : Option Job) → job_after (time + k) (later_what k what) (option_map (later_job k) o) ≡ option_map (later_job k) (job_after time what o)
job_later k time JobEnds o = refl
job_later k time (NextReleased d) o = refl
job_later k time (Spent d) None = refl
job_later k time (Spent d) (Some j) = refl
job_later k time Cut o = refl
job_later k time (Replenished d) o = refl
job_later k time (Released d) o = refl
job_later k time (WokenSpent d) None = refl
job_later k time (WokenSpent d) (Some j) = refl

gap_later : (k time : ℕ) (since : Option ℕ) → gap (later k since) (time + k) ≡ gap since time
gap_later k time None = refl
gap_later k time (Some s) = omega arith

by_later : (k time : ℕ) (what : What) (t : Throttle) → throttle_by (time + k) (later_what k what) (later_throttle k t) ≡ later_throttle k (throttle_by time what t)
by_later k time JobEnds t = refl
by_later k time (NextReleased d) t = refl
by_later k time (Spent d) t = λ i. record { times = t.times + 1; us = t.us + gap_later k time t.since i; since = Some (time + k) }
by_later k time Cut t = λ i. record { times = t.times; us = t.us + gap_later k time t.since i; since = None }
by_later k time (Replenished d) t = λ i. record { times = t.times; us = t.us + gap_later k time t.since i; since = None }
by_later k time (Released d) t = refl
by_later k time (WokenSpent d) t = λ i. record { times = t.times + 1; us = t.us + gap_later k time t.since i; since = Some (time + k) }

slack_later : (k d e : ℕ) → pos (d + k) -ℤ pos (e + k) ≡ pos d -ℤ pos e
slack_later k d e = omega (arith, ints)

outcome_later : (k : ℕ) (j : Job) (at : Option ℕ) → outcome_at (later_job k j) (later k at) ≡ outcome_at j at
outcome_later k j None = refl
outcome_later k j (Some e) =
    let response : e + k - (j.release + k) ≡ e - j.release = omega arith in
    λ i. record { response = response i; slack = slack_later k j.deadline e i } ∷ []

before_later : (k a b : ℕ) → nat_lt (a + k) (b + k) ≡ nat_lt a b
before_later k a b = ⊎_elim
    (λ (less : a < b). lt-ltb (a + k) (b + k) (omega (arith, less)) ∙ sym (lt-ltb a b less))
    (λ (more : b ≤ a). le-ltb (a + k) (b + k) (omega (arith, more)) ∙ sym (le-ltb a b more))
    (cases_lt a b)

abbrev one_if : Bool → ℕ
one_if b = cond b 1 0

-- a job that is superseded is late or not by the time at the end
late_later : (end k : ℕ) (j : Job) (at : Option ℕ) (cut : Bool) → j.cut ≡ cut → one_if (is_none at && not cut) ≡ 0 → is_late_at end (later_job k j) (later k at) ≡ is_late_at end j at
late_later end k j None true is none = ap (λ c. not c && nat_lt (j.deadline + k) end) is ∙ sym (ap (λ c. not c && nat_lt j.deadline end) is)
late_later end k j None false is none = absurd (omega (arith, none))
late_later end k j (Some e) cut is none = before_later k j.deadline e

counted_later : (end k : ℕ) (c : Counts) (o : Option Job) → superseded_by o ≡ 0 → with_over end c (option_map (later_job k) o) ≡ with_over end c o
counted_later end k c None none = refl
counted_later end k c (Some j) none = λ i. record {
  ended = fold with_outcome c.ended (outcome_later k j j.ended i);
  late = cond (late_later end k j j.ended j.cut refl none i) (c.late + 1) c.late;
}

superseded_later : (k : ℕ) (o : Option Job) → superseded_by (option_map (later_job k) o) ≡ superseded_by o
superseded_later k None = refl
superseded_later k (Some j) = elim j.ended as (λ e. one_if (is_none (later k e) && not j.cut) ≡ one_if (is_none e && not j.cut)) [ None ↦ refl | Some e ↦ refl ]

later_after : (end k : ℕ) (h : Happened) (t : TaskTally) → superseded_by (over_by h.time h.what t.job) ≡ 0 → logged_after end (later_happened k h) (later_logged k t) ≡ later_logged k (logged_after end h t)
later_after end k h t none =
    let over = over_later k h.time h.what t.job in
    let o = over_by h.time h.what t.job in
    λ i. record {
      number = t.number;
      job = job_later k h.time h.what t.job i;
      counts = (ap (with_over end t.counts) over ∙ counted_later end k t.counts o none) i;
      throttle = by_later k h.time h.what t.throttle i;
      preempted = t.preempted;
      superseded = t.superseded + (ap superseded_by over ∙ superseded_later k o) i;
    }

none_less : (end : ℕ) (h : Happened) (t : TaskTally) → t.superseded ≤ (logged_to_task end t h).superseded
none_less end h t = elim (eqb t.number h.number) as (λ b. t.superseded ≤ (cond b (logged_after end h t) t).superseded) [
  | true ↦ omega arith
  | false ↦ omega arith
]

never_less : (end : ℕ) (hs : List Happened) (t : TaskTally) → t.superseded ≤ (logged_all end hs t).superseded
never_less end [] t = omega arith
never_less end (h ∷ hs) t = omega (arith, none_less end h t, never_less end hs (logged_to_task end t h))

later_to : (end k : ℕ) (h : Happened) (t : TaskTally) → (logged_to_task end t h).superseded ≡ t.superseded → logged_to_task end (later_logged k t) (later_happened k h) ≡ later_logged k (logged_to_task end t h)
later_to end k h t = elim (eqb t.number h.number) as (λ b. (cond b (logged_after end h t) t).superseded ≡ t.superseded → cond b (logged_after end (later_happened k h) (later_logged k t)) (later_logged k t) ≡ later_logged k (cond b (logged_after end h t) t)) [
  | true ↦ λ e. later_after end k h t (omega (arith, e))
  | false ↦ λ e. refl
]

pub later_all : (end k : ℕ) (hs : List Happened) (t : TaskTally) → (logged_all end hs t).superseded ≡ t.superseded → logged_all end (map (later_happened k) hs) (later_logged k t) ≡ later_logged k (logged_all end hs t)
later_all end k [] t e = refl
later_all end k (h ∷ hs) t e =
    let one = logged_to_task end t h in
    let here : one.superseded ≡ t.superseded = omega (arith, e, none_less end h t, never_less end hs one) in
    ap (logged_all end (map (later_happened k) hs)) (later_to end k h t here)
    ∙ later_all end k hs one (omega (arith, e, none_less end h t, never_less end hs one))

-- A PERIOD: from a task with no counts
abbrev fresh : TaskTally → TaskTally
fresh t = record t {
  counts = record { ended = None; late = 0 };
  throttle = record { times = 0; us = 0; since = t.throttle.since };
  superseded = 0;
}

-- all that is logged but preemptions
abbrev pub grown_entries : ℕ → ℕ → TaskTally → TaskTally → TaskTally
grown_entries shift m a b = record (grown_logged shift m a b) { preempted = b.preempted }

joined_none : (e : Option Ended) → joined e None ≡ e
joined_none None = refl
joined_none (Some x) = refl

from_fresh : (a : TaskTally) → added a (fresh a) ≡ a
from_fresh a =
    let late : a.counts.late + 0 ≡ a.counts.late = omega arith in
    let times : a.throttle.times + 0 ≡ a.throttle.times = omega arith in
    let us : a.throttle.us + 0 ≡ a.throttle.us = omega arith in
    let superseded : a.superseded + 0 ≡ a.superseded = omega arith in
    λ i. record {
      number = a.number;
      job = a.job;
      counts = record { ended = joined_none a.counts.ended i; late = late i };
      throttle = record { times = times i; us = us i; since = a.throttle.since };
      preempted = a.preempted;
      superseded = superseded i;
    }

-- what a period logs
abbrev logged_in : ℕ → List Happened → TaskTally → TaskTally
logged_in end logged a = logged_all end logged (fresh a)

pub in_period : (end : ℕ) (logged : List Happened) (a : TaskTally) → logged_all end logged a ≡ added a (logged_in end logged a)
in_period end logged a = ap (logged_all end logged) (sym (from_fresh a)) ∙ added_all end logged a (fresh a)

later_twice : (k l : ℕ) (t : Option ℕ) → later l (later k t) ≡ later (k + l) t
later_twice k l None = refl
later_twice k l (Some x) =
    let sum : x + k + l ≡ x + (k + l) = omega arith in
    ap Some sum

later_jobs : (k l : ℕ) (o : Option Job) → option_map (later_job l) (option_map (later_job k) o) ≡ option_map (later_job (k + l)) o
later_jobs k l None = refl
later_jobs k l (Some j) =
    let release : j.release + k + l ≡ j.release + (k + l) = omega arith in
    let deadline : j.deadline + k + l ≡ j.deadline + (k + l) = omega arith in
    λ i. Some (record j { release = release i; deadline = deadline i; ended = later_twice k l j.ended i })

later_none : (t : Option ℕ) → later 0 t ≡ t
later_none None = refl
later_none (Some x) =
    let sum : x + 0 ≡ x = omega arith in
    ap Some sum

later_no_jobs : (o : Option Job) → option_map (later_job 0) o ≡ o
later_no_jobs None = refl
later_no_jobs (Some j) =
    let release : j.release + 0 ≡ j.release = omega arith in
    let deadline : j.deadline + 0 ≡ j.deadline = omega arith in
    λ i. Some (record j { release = release i; deadline = deadline i; ended = later_none j.ended i })

grown_none : (a b : ℕ) → grown_count 0 a b ≡ b
grown_none a b = omega arith

ended_none : (a b : Option Ended) → grown_ended 0 a b ≡ b
ended_none a None = refl
ended_none a (Some e) = λ i. Some (record e { count = grown_none (count_of a) e.count i; total = grown_none (total_of a) e.total i })

no_period : (k : ℕ) (a b : TaskTally) → grown_entries (0 * k) 0 a b ≡ b
no_period k a b =
    let z : 0 * k ≡ 0 = omega arith in
    rw z (λ i. record {
      number = b.number;
      job = later_no_jobs b.job i;
      counts = record { ended = ended_none a.counts.ended b.counts.ended i; late = grown_none a.counts.late b.counts.late i };
      throttle = record { times = grown_none a.throttle.times b.throttle.times i; us = grown_none a.throttle.us b.throttle.us i; since = later_none b.throttle.since i };
      preempted = b.preempted;
      superseded = b.superseded;
    })

-- before one period more the task is what it was before the first, later, and its counts
runs_later : (k m : ℕ) (a b : TaskTally) → IsLoggedBack k a b → b.number ≡ a.number → b.preempted ≡ a.preempted
    → grown_entries (m * k) m a b ≡ added (grown_entries (m * k) m a b) (later_logged (suc m * k) (fresh a))
runs_later k m a b back number preempted =
    let sum : k + m * k ≡ suc m * k = omega arith in
    let g = grown_entries (m * k) m a b in
    let job : g.job ≡ option_map (later_job (suc m * k)) a.job = ap (option_map (later_job (m * k))) back.job ∙ later_jobs k (m * k) a.job ∙ ap (λ n. option_map (later_job n) a.job) sum in
    let since : g.throttle.since ≡ later (suc m * k) a.throttle.since = ap (later (m * k)) back.since ∙ later_twice k (m * k) a.throttle.since ∙ ap (λ n. later n a.throttle.since) sum in
    let late : g.counts.late ≡ g.counts.late + 0 = omega arith in
    let times : g.throttle.times ≡ g.throttle.times + 0 = omega arith in
    let us : g.throttle.us ≡ g.throttle.us + 0 = omega arith in
    let superseded : g.superseded ≡ g.superseded + 0 = omega arith in
    λ i. record {
      number = number i;
      job = job i;
      counts = record { ended = sym (joined_none g.counts.ended) i; late = late i };
      throttle = record { times = times i; us = us i; since = since i };
      preempted = preempted i;
      superseded = superseded i;
    }

grown_more : (m a d : ℕ) → grown_count m a (a + d) + d ≡ grown_count (suc m) a (a + d)
grown_more m a d = grind arith

ended_more : (m : ℕ) (a d : Option Ended) → joined (grown_ended m a (joined a d)) d ≡ grown_ended (suc m) a (joined a d)
ended_more m None None = refl
ended_more m None (Some y) =
    let count : grown_count m 0 y.count + y.count ≡ grown_count (suc m) 0 y.count = omega arith in
    let total : grown_count m 0 y.total + y.total ≡ grown_count (suc m) 0 y.total = omega arith in
    let least : min y.least y.least ≡ y.least = omega arith in
    let most : max y.most y.most ≡ y.most = omega arith in
    let slack : int_min y.slack y.slack ≡ y.slack = omega (arith, ints, clamps) in
    λ i. Some (record { count = count i; total = total i; least = least i; most = most i; slack = slack i })
ended_more m (Some x) None =
    let count : grown_count m x.count x.count ≡ grown_count (suc m) x.count x.count = grind arith in
    let total : grown_count m x.total x.total ≡ grown_count (suc m) x.total x.total = grind arith in
    λ i. Some (record x { count = count i; total = total i })
ended_more m (Some x) (Some y) =
    let least : min (min x.least y.least) y.least ≡ min x.least y.least = omega arith in
    let most : max (max x.most y.most) y.most ≡ max x.most y.most = omega arith in
    let slack : int_min (int_min x.slack y.slack) y.slack ≡ int_min x.slack y.slack = omega (arith, ints, clamps) in
    λ i. Some (record { count = grown_more m x.count y.count i; total = grown_more m x.total y.total i; least = least i; most = most i; slack = slack i })

then_more : (k m : ℕ) (a d : TaskTally) → d.superseded ≡ 0
    → added (grown_entries (m * k) m a (added a d)) (later_logged (suc m * k) d) ≡ grown_entries (suc m * k) (suc m) a (added a d)
then_more k m a d none =
    let superseded : a.superseded + d.superseded + d.superseded ≡ a.superseded + d.superseded = omega (arith, none) in
    λ i. record {
      number = d.number;
      job = option_map (later_job (suc m * k)) d.job;
      counts = record { ended = ended_more m a.counts.ended d.counts.ended i; late = grown_more m a.counts.late d.counts.late i };
      throttle = record {
        times = grown_more m a.throttle.times d.throttle.times i;
        us = grown_more m a.throttle.us d.throttle.us i;
        since = later (suc m * k) d.throttle.since;
      };
      preempted = d.preempted;
      superseded = superseded i;
    }

-- ONE PERIOD MORE
one_more_period : (end k m : ℕ) (logged : List Happened) (a : TaskTally) → IsLoggedBack k a (logged_all end logged a)
    → logged_all end (map (later_happened (suc m * k)) logged) (grown_entries (m * k) m a (logged_all end logged a)) ≡ grown_entries (suc m * k) (suc m) a (logged_all end logged a)
one_more_period end k m logged a back =
    let b = logged_all end logged a in
    let d = logged_in end logged a in
    let split : b ≡ added a d = in_period end logged a in
    let none : d.superseded ≡ 0 = omega (arith, ap (λ (t : TaskTally). t.superseded) split, back.superseded) in
    let number : b.number ≡ a.number = number_of_logged end logged a in
    let preempted : b.preempted ≡ a.preempted = ap (λ (t : TaskTally). t.preempted) (logged_with end logged a a.preempted) in
    let g = grown_entries (m * k) m a b in
    ap (logged_all end (map (later_happened (suc m * k)) logged)) (runs_later k m a b back number preempted)
    ∙ added_all end (map (later_happened (suc m * k)) logged) g (later_logged (suc m * k) (fresh a))
    ∙ ap (added g) (later_all end (suc m * k) logged (fresh a) none)
    ∙ ap (λ (t : TaskTally). added (grown_entries (m * k) m a t) (later_logged (suc m * k) d)) split
    ∙ then_more k m a d none
    ∙ ap (grown_entries (suc m * k) (suc m) a) (sym split)

-- ALL OF THEM
pub periods_logged : (end k m : ℕ) (logged : List Happened) (a : TaskTally) → IsLoggedBack k a (logged_all end logged a)
    → logged_all end (more_logged k m logged) (logged_all end logged a) ≡ grown_entries (m * k) m a (logged_all end logged a)
periods_logged end k zero logged a back = sym (no_period k a (logged_all end logged a))
periods_logged end k (suc m) logged a back =
    fold-append (logged_to_task end) (logged_all end logged a) (more_logged k m logged) (map (later_happened (suc m * k)) logged)
    ∙ ap (logged_all end (map (later_happened (suc m * k)) logged)) (periods_logged end k m logged a back)
    ∙ one_more_period end k m logged a back
