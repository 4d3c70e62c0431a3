-- What was logged of a task, at the end, is what the definitions say of its entries.
use Rattle.std.proofs.Common.{◌≡◌, ℕ, suc, ◌+◌, ◌-◌, ◌/◌, Bool, true, false, cond, ◌||◌, min, max, List, [], ◌∷◌, length, Option, Some, None, ℤ, refl, sym, ap, ◌∙◌, arith, eq-eqb, eqb}
use Rattle.std.specs.Prelude.{fold, sum_by, count_by, is_some}
use Rattle.std.specs.Option.{option_map, option_map_or, option_to_list}
use Rattle.std.specs.Int.{int_min}
use Rattle.std.proofs.lemmas.Bool.{ne_eqb, eqb-true, eqb-false}
use Rattle.std.proofs.lemmas.List.Sums.{fold-append, sum_by-cons}
use Rattle.domain_run.specs.declared.happened.What.{What}
use Rattle.domain_run.specs.declared.happened.What.TheVariants.{JobEnds, NextReleased, Spent, Cut, Replenished, Released, WokenSpent}
use Rattle.domain_run.specs.declared.happened.Happened.{Happened}
use Rattle.run_figures.specs.declared.job.Job.{Job}
use Rattle.run_figures.specs.declared.counting.Ended.{Ended}
use Rattle.run_figures.specs.declared.counting.Counts.{Counts}
use Rattle.run_figures.specs.declared.throttle.Throttle.{Throttle}
use Rattle.run_figures.specs.declared.logged.TaskTally.{TaskTally}
use Rattle.run_figures.specs.Jobs.{of_task, over_by, job_after, jobs_from}
use Rattle.run_figures.specs.Throttling.{throttles, frees, throttled_of, throttled_us, until_free, throttled_then}
use Rattle.run_figures.specs.Figures.{Outcome, outcome_at, outcomes, is_late, responses_of}
use Rattle.run_figures.specs.private.Logging.{first_ended, one_more, with_outcome, with_job, with_over, gap, throttle_by, logged_after, logged_all}
use Rattle.run_figures.specs.private.Putting.{responses_by}

-- its own entries, one after another
abbrev pub logged_own : ℕ → TaskTally → List Happened → TaskTally
logged_own end t own = fold (λ (x : TaskTally) (h : Happened). logged_after end h x) t own

-- only its own count
pub own_logged : (end : ℕ) (hs : List Happened) (t : TaskTally) (n : ℕ) → t.number ≡ n → logged_all end hs t ≡ logged_own end t (of_task n hs)
own_logged end [] t n e = refl
own_logged end (h ∷ hs) t n e =
    elim (eqb h.number n) as (λ b. eqb h.number n ≡ b → logged_all end hs (cond (eqb t.number h.number) (logged_after end h t) t) ≡ logged_own end t (cond b (h ∷ of_task n hs) (of_task n hs))) [
      | true ↦ λ yes.
          let own : eqb t.number h.number ≡ true = eq-eqb t.number h.number (e ∙ sym (eqb-true h.number n yes)) in
          ap (λ b. logged_all end hs (cond b (logged_after end h t) t)) own ∙ own_logged end hs (logged_after end h t) n e
      | false ↦ λ no.
          let other : eqb t.number h.number ≡ false = ne_eqb t.number h.number (λ (is : t.number ≡ h.number). eqb-false h.number n no (sym is ∙ e)) in
          ap (λ b. logged_all end hs (cond b (logged_after end h t) t)) other ∙ own_logged end hs t n e
    ] refl

-- THE JOBS
over_counted : (end : ℕ) (c : Counts) (o : Option Job) → fold (with_job end) c (option_to_list o) ≡ with_over end c o
over_counted end c None = refl
over_counted end c (Some j) = refl

-- those that are over and the one under way, counted, are all of them counted
pub jobs_counted : (end : ℕ) (own : List Happened) (t : TaskTally) → with_over end (logged_own end t own).counts (logged_own end t own).job ≡ fold (with_job end) t.counts (jobs_from t.job own)
jobs_counted end [] t = sym (over_counted end t.counts t.job)
jobs_counted end (h ∷ hs) t =
    let o = over_by h.time h.what t.job in
    let rest = jobs_from (job_after h.time h.what t.job) hs in
    jobs_counted end hs (logged_after end h t)
    ∙ ap (λ (c : Counts). fold (with_job end) c rest) (sym (over_counted end t.counts o))
    ∙ sym (fold-append (with_job end) t.counts (option_to_list o) rest)

pub late_counted : (end : ℕ) (jobs : List Job) (c : Counts) → (fold (with_job end) c jobs).late ≡ c.late + count_by (is_late end) jobs
late_counted end [] c = omega arith
late_counted end (j ∷ js) c =
    let one = sum_by-cons (λ (x : Job). cond (is_late end x) 1 0) j js in
    let more = late_counted end js (with_job end c j) in
    elim (is_late end j) as (λ b. (fold (with_job end) c (j ∷ js)).late ≡ cond b (c.late + 1) c.late + count_by (is_late end) js → count_by (is_late end) (j ∷ js) ≡ cond b 1 0 + count_by (is_late end) js → (fold (with_job end) c (j ∷ js)).late ≡ c.late + count_by (is_late end) (j ∷ js)) [
      | true ↦ λ a b. omega arith
      | false ↦ λ a b. omega arith
    ] more one

pub ended_counted : (end : ℕ) (jobs : List Job) (c : Counts) → (fold (with_job end) c jobs).ended ≡ fold with_outcome c.ended (outcomes jobs)
ended_counted end [] c = refl
ended_counted end (j ∷ js) c =
    ended_counted end js (with_job end c j) ∙ sym (fold-append with_outcome c.ended (outcome_at j j.ended) (outcomes js))

-- THE RESPONSES
abbrev with_outcomes : Ended → List Outcome → Ended
with_outcomes e os = record {
  count = e.count + length os;
  total = e.total + sum_by (λ (p : Outcome). p.response) os;
  least = fold (λ (least : ℕ) (p : Outcome). min least p.response) e.least os;
  most = fold (λ (most : ℕ) (p : Outcome). max most p.response) e.most os;
  slack = fold (λ (least : ℤ) (p : Outcome). int_min least p.slack) e.slack os;
}

-- the counts of one more and then of others
more_count : (e : Ended) (o : Outcome) (os : List Outcome) → with_outcomes (one_more e o) os ≡ with_outcomes e (o ∷ os)
more_count e o os =
    let count : e.count + 1 + length os ≡ e.count + suc (length os) = omega arith in
    let one = sum_by-cons (λ (p : Outcome). p.response) o os in
    let total : e.total + o.response + sum_by (λ (p : Outcome). p.response) os ≡ e.total + sum_by (λ (p : Outcome). p.response) (o ∷ os) = omega (arith, one) in
    λ i. record {
      count = count i;
      total = total i;
      least = fold (λ (least : ℕ) (p : Outcome). min least p.response) (min e.least o.response) os;
      most = fold (λ (most : ℕ) (p : Outcome). max most p.response) (max e.most o.response) os;
      slack = fold (λ (least : ℤ) (p : Outcome). int_min least p.slack) (int_min e.slack o.slack) os;
    }

no_more : (e : Ended) → e ≡ with_outcomes e []
no_more e =
    let count : e.count ≡ e.count + 0 = omega arith in
    let total : e.total ≡ e.total + 0 = omega arith in
    λ i. record { count = count i; total = total i; least = e.least; most = e.most; slack = e.slack }

all_counted : (os : List Outcome) (e : Ended) → fold with_outcome (Some e) os ≡ Some (with_outcomes e os)
all_counted [] e = ap Some (no_more e)
all_counted (o ∷ os) e = all_counted os (one_more e o) ∙ ap Some (more_count e o os)

pub count_of_outcomes : (os : List Outcome) → option_map_or (λ (e : Ended). e.count) (fold with_outcome None os) 0 ≡ length os
count_of_outcomes [] = refl
count_of_outcomes (o ∷ os) =
    let sum : 1 + length os ≡ suc (length os) = omega arith in
    ap (λ (x : Option Ended). option_map_or (λ (e : Ended). e.count) x 0) (all_counted os (first_ended o)) ∙ sum

pub responses_counted : (os : List Outcome) → option_map responses_by (fold with_outcome None os) ≡ responses_of os
responses_counted [] = refl
responses_counted (o ∷ os) =
    let one = sum_by-cons (λ (p : Outcome). p.response) o os in
    let count : 1 + length os ≡ length (o ∷ os) = omega arith in
    let total : o.response + sum_by (λ (p : Outcome). p.response) os ≡ sum_by (λ (p : Outcome). p.response) (o ∷ os) = sym one in
    let mean : (o.response + sum_by (λ (p : Outcome). p.response) os) / (1 + length os) ≡ sum_by (λ (p : Outcome). p.response) (o ∷ os) / length (o ∷ os) = λ i. total i / count i in
    ap (option_map responses_by) (all_counted os (first_ended o))
    ∙ (λ i. Some (record {
      least = fold (λ (least : ℕ) (p : Outcome). min least p.response) o.response os;
      mean = mean i;
      most = fold (λ (most : ℕ) (p : Outcome). max most p.response) o.response os;
      slack = fold (λ (least : ℤ) (p : Outcome). int_min least p.slack) o.slack os;
    }))

-- THROTTLING
abbrev pub throttle_all : Throttle → List Happened → Throttle
throttle_all t own = fold (λ (x : Throttle) (h : Happened). throttle_by h.time h.what x) t own

pub own_throttle : (end : ℕ) (own : List Happened) (t : TaskTally) → (logged_own end t own).throttle ≡ throttle_all t.throttle own
own_throttle end [] t = refl
own_throttle end (h ∷ hs) t = own_throttle end hs (logged_after end h t)

times_by : (time times others : ℕ) (what : What) (t : Throttle) → times ≡ (throttle_by time what t).times + others → times ≡ t.times + (cond (throttles what) 1 0 + others)
times_by time times others JobEnds t e = omega arith
times_by time times others (NextReleased d) t e = omega arith
times_by time times others (Spent d) t e = omega arith
times_by time times others Cut t e = omega arith
times_by time times others (Replenished d) t e = omega arith
times_by time times others (Released d) t e = omega arith
times_by time times others (WokenSpent d) t e = omega arith

pub times_counted : (own : List Happened) (t : Throttle) → (throttle_all t own).times ≡ t.times + throttled_of own
times_counted [] t = omega arith
times_counted (h ∷ hs) t =
    let one = sum_by-cons (λ (x : Happened). cond (throttles x.what) 1 0) h hs in
    let more = times_by h.time (throttle_all t (h ∷ hs)).times (throttled_of hs) h.what t (times_counted hs (throttle_by h.time h.what t)) in
    more ∙ ap (λ k. t.times + k) (sym one)

us_by : (us time free others : ℕ) (what : What) (t : Throttle)
    → us ≡ (throttle_by time what t).us + gap (throttle_by time what t).since free + others
    → us ≡ t.us + gap t.since (cond (frees what || throttles what) time free) + (cond (throttles what) (free - time) 0 + others)
us_by us time free others JobEnds t e = omega arith
us_by us time free others (NextReleased d) t e = omega arith
us_by us time free others (Spent d) t e = omega arith
us_by us time free others Cut t e = omega arith
us_by us time free others (Replenished d) t e = omega arith
us_by us time free others (Released d) t e = omega arith
us_by us time free others (WokenSpent d) t e = omega arith

-- a throttle under way lasts on, and the others are logged
pub us_counted : (end : ℕ) (own : List Happened) (t : Throttle) → (throttle_all t own).us + gap (throttle_all t own).since end ≡ t.us + gap t.since (until_free end own) + throttled_us end own
us_counted end [] t = omega arith
us_counted end (h ∷ hs) t =
    us_by ((throttle_all t (h ∷ hs)).us + gap (throttle_all t (h ∷ hs)).since end) h.time (until_free end hs) (throttled_us end hs) h.what t
    (us_counted end hs (throttle_by h.time h.what t))

since_by : (time : ℕ) (what : What) (t : Throttle) → is_some (throttle_by time what t).since ≡ throttled_then (is_some t.since) what
since_by time JobEnds t = refl
since_by time (NextReleased d) t = refl
since_by time (Spent d) t = refl
since_by time Cut t = refl
since_by time (Replenished d) t = refl
since_by time (Released d) t = refl
since_by time (WokenSpent d) t = refl

-- it is throttled since a time exactly where its entries leave it throttled
pub since_counted : (own : List Happened) (t : Throttle) → is_some (throttle_all t own).since ≡ fold (λ (before : Bool) (h : Happened). throttled_then before h.what) (is_some t.since) own
since_counted [] t = refl
since_counted (h ∷ hs) t =
    since_counted hs (throttle_by h.time h.what t)
    ∙ ap (λ b. fold (λ (before : Bool) (x : Happened). throttled_then before x.what) b hs) (since_by h.time h.what t)
