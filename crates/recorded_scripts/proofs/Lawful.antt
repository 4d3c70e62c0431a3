-- The work and the releases of a script are those of its jobs.
use Rattle.std.proofs.Common.{◌≡◌, ℕ, zero, suc, ◌+◌, ◌-◌, ◌<◌, ◌≤◌, ⊎_elim, Bool, true, false, List, [], ◌∷◌, ◌++◌, length, get_or, Option, Some, None, refl, sym, ap, ◌∙◌, arith}
use Rattle.std.specs.Prelude.{sum_by, IsTrue, is_some}
use Rattle.std.specs.List.{AllByRecursion}
use Rattle.std.specs.List.Sorted.{IsNonDecreasingBy}
use Rattle.std.proofs.Math.Nat.{eq-zero-or-pos}
use Rattle.std.proofs.lemmas.Bool.{ne_eqb, eq-eqb}
use Rattle.std.proofs.lemmas.List.Sums.{sum_by-cons, sum_by-append}
use Rattle.task_script.specs.declared.phase.Event.{Event}
use Rattle.task_script.specs.declared.phase.Event.TheVariants.{Run, Sleep, Timer, Wait}
use Rattle.recorded_jobs.specs.declared.job.Job.{Job}
use Rattle.recorded_jobs.specs.declared.job.Release.{Release}
use Rattle.recorded_scripts.specs.Scripts.{work_until, work_written, gap_events, events_of_one, events_after, events_at_end, last_events, first_release, last_release, events_of_jobs}
use Rattle.recorded_scripts.specs.ScriptLaws.{event_work, timers_before}

abbrev work : List Event → ℕ
work events = sum_by event_work events

no_gap_work : (gap : ℕ) → work (gap_events gap) ≡ 0
no_gap_work gap =
    ⊎_elim (λ none. rw (eq-eqb gap 0 none) refl) (λ some. rw (ne_eqb gap 0 (λ e. omega (arith, e, some))) refl) (eq-zero-or-pos gap)

ended_work : (o : Option ℕ) (n : ℕ) → IsTrue (is_some o) → work_until o n ≡ n
ended_work None n h = absurd cc
ended_work (Some t) n h = refl

one_work : (before : ℕ) (r : Release) → IsTrue (is_some r.job.«end») → work (events_of_one before r) ≡ r.job.work
one_work before r h =
    let a = sum_by-append event_work (gap_events (r.time - before)) (Run (work_written r.job) ∷ []) in
    let b = no_gap_work (r.time - before) in
    let c = sum_by-cons event_work (Run (work_written r.job)) [] in
    let d = ended_work r.job.«end» r.job.work h in
    omega (arith, a, b, c, d)

after_work : (before : ℕ) (rs : List Release) → AllByRecursion (λ (r : Release). IsTrue (is_some r.job.«end»)) rs → work (events_after before rs) ≡ sum_by (λ (r : Release). r.job.work) rs
unfolding events_after
after_work before [] h = refl
after_work before (r ∷ rs) h =
    let a = sum_by-append event_work (events_of_one before r) (events_after r.time rs) in
    let b = one_work before r h.0 in
    let c = after_work r.time rs h.1 in
    let d = sum_by-cons (λ (q : Release). q.job.work) r rs in
    omega (arith, a, b, c, d)

end_work : (o : Option ℕ) (gone : Bool) → work (events_at_end o gone) ≡ 0
end_work None gone = refl
end_work (Some t) true = refl
end_work (Some t) false = refl

last_work : (o : Option Release) → work (last_events o) ≡ 0
last_work None = refl
last_work (Some r) = end_work r.job.«end» r.job.gone

pub work_written_is : (jobs : List Release) → AllByRecursion (λ r. IsTrue (is_some r.job.«end»)) jobs → sum_by event_work (events_of_jobs jobs) ≡ sum_by (λ r. r.job.work) jobs
work_written_is jobs h =
    let a = sum_by-append event_work (events_after (first_release jobs) jobs) (last_events (last_release jobs)) in
    let b = after_work (first_release jobs) jobs h in
    let c = last_work (last_release jobs) in
    omega (arith, a, b, c)

-- ---- releases

timer_step : (k n : ℕ) (es : List Event) → timers_before k (Timer n ∷ es) ≡ n + timers_before k es
unfolding timers_before
timer_step zero n es = refl
timer_step (suc k) n es = refl

gap_none : (gap : ℕ) → gap ≡ 0 → gap_events gap ≡ []
gap_none gap none = rw (eq-eqb gap 0 none) refl

gap_some : (gap : ℕ) → 0 < gap → gap_events gap ≡ Timer gap ∷ []
gap_some gap some = rw (ne_eqb gap 0 (λ e. omega (arith, e, some))) refl

over_gap : (gap k : ℕ) (es : List Event) → timers_before k (gap_events gap ++ es) ≡ gap + timers_before k es
over_gap gap k es =
    ⊎_elim
    (λ none. let a = ap (λ (g : List Event). timers_before k (g ++ es)) (gap_none gap none) in omega (arith, a, none))
    (λ some. ap (λ (g : List Event). timers_before k (g ++ es)) (gap_some gap some) ∙ timer_step k gap es)
    (eq-zero-or-pos gap)

-- the first works after its timer, and the others after it
one_first : (before : ℕ) (r : Release) (es : List Event) → timers_before zero (events_of_one before r ++ es) ≡ r.time - before
unfolding timers_before
one_first before r es =
    let a = ap (timers_before zero) (Rattle.std.proofs.Common.append_assoc (gap_events (r.time - before)) (Run (work_written r.job) ∷ []) es) in
    let b = over_gap (r.time - before) zero (Run (work_written r.job) ∷ es) in
    let c : timers_before zero (Run (work_written r.job) ∷ es) ≡ 0 = refl in
    omega (arith, a, b, c)

one_later : (before k : ℕ) (r : Release) (es : List Event) → timers_before (suc k) (events_of_one before r ++ es) ≡ (r.time - before) + timers_before k es
unfolding timers_before
one_later before k r es =
    let a = ap (timers_before (suc k)) (Rattle.std.proofs.Common.append_assoc (gap_events (r.time - before)) (Run (work_written r.job) ∷ []) es) in
    let b = over_gap (r.time - before) (suc k) (Run (work_written r.job) ∷ es) in
    let c : timers_before (suc k) (Run (work_written r.job) ∷ es) ≡ timers_before k es = refl in
    omega (arith, a, b, c)

abbrev Rises : List Release → Type 0
Rises rs = IsNonDecreasingBy (λ (r : Release). r.time) rs

rises_on : (r : Release) (rs : List Release) → Rises (r ∷ rs) → Rises rs
rises_on r rs h = λ i j d le l. h (suc i) (suc j) d (omega (arith, le)) (omega (arith, l))

after_reached : (rs : List Release) (before k : ℕ) (d : Release) (es : List Event) → Rises rs → before ≤ (get_or rs 0 d).time → k < length rs → before + timers_before k (events_after before rs ++ es) ≡ (get_or rs k d).time
unfolding events_after
after_reached [] before k d es h le l = absurd (omega (arith, l))
after_reached (r ∷ rs) before zero d es h le l =
    let a = ap (timers_before zero) (Rattle.std.proofs.Common.append_assoc (events_of_one before r) (events_after r.time rs) es) in
    let b = one_first before r (events_after r.time rs ++ es) in
    omega (arith, a, b, le)
after_reached (r ∷ rs) before (suc k) d es h le l =
    let a = ap (timers_before (suc k)) (Rattle.std.proofs.Common.append_assoc (events_of_one before r) (events_after r.time rs) es) in
    let b = one_later before k r (events_after r.time rs ++ es) in
    let next : r.time ≤ (get_or rs 0 d).time = h 0 1 d (omega arith) (omega (arith, l)) in
    let c = after_reached rs r.time k d es (rises_on r rs h) next (omega (arith, l)) in
    omega (arith, a, b, c, le)

first_is : (jobs : List Release) (d : Release) → 0 < length jobs → first_release jobs ≡ (get_or jobs 0 d).time
first_is [] d l = absurd (omega (arith, l))
first_is (r ∷ rs) d l = refl

pub reached : (jobs : List Release) (k : ℕ) (d : Release) → IsNonDecreasingBy (λ r. r.time) jobs → k < length jobs → first_release jobs + timers_before k (events_of_jobs jobs) ≡ (get_or jobs k d).time
reached jobs k d h l =
    let e = first_is jobs d (omega (arith, l)) in
    after_reached jobs (first_release jobs) k d (last_events (last_release jobs)) h (omega (arith, e)) l
