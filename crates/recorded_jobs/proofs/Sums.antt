-- The jobs of a task work as long as its stretches are.
use Rattle.std.proofs.Common.{◌≡◌, ℕ, zero, suc, ◌+◌, ◌-◌, ◌<◌, ⊎_elim, Bool, true, false, List, [], ◌∷◌, refl, sym, ap, ◌∙◌, arith, map}
use Rattle.std.specs.Prelude.{sum_by, nat_lt, if◌then◌else◌, filter}
use Rattle.std.specs.List.{onto_first}
use Rattle.std.proofs.lemmas.Bool.{cases_Bool, ltb-false}
use Rattle.std.proofs.lemmas.List.Sums.{sum_by-cons}
use Rattle.recorded_jobs.specs.declared.moment.Moment.{Moment}
use Rattle.recorded_jobs.specs.declared.stretch.Stretch.{Stretch}
use Rattle.recorded_jobs.specs.declared.job.Job.{Job}
use Rattle.recorded_jobs.specs.declared.job.Release.{Release}
use Rattle.recorded_jobs.specs.Stretches.{all_stretches, stretches_of}
use Rattle.recorded_jobs.specs.Jobs.{is_closed, stretches_cut, work_of, job_of, jobs_cut}
use Rattle.recorded_jobs.specs.Releases.{wakes_of, latest_between, release_by, releases_after, time_at_end, jobs_of_task}

abbrev len : Stretch → ℕ
len s = s.«end» - s.start

abbrev total : List (List Stretch) → ℕ
total groups = sum_by work_of groups

work_cons : (s : Stretch) (ss : List Stretch) → work_of (s ∷ ss) ≡ len s + work_of ss
work_cons s ss = sum_by-cons len s ss

total_onto : (s : Stretch) (groups : List (List Stretch)) → total (onto_first s groups) ≡ len s + total groups
total_onto s [] =
    let a = sum_by-cons work_of (s ∷ []) [] in
    let c = work_cons s [] in
    omega (arith, a, c)
total_onto s (g ∷ gs) =
    let a = sum_by-cons work_of (s ∷ g) gs in
    let b = sum_by-cons work_of g gs in
    let c = work_cons s g in
    omega (arith, a, b, c)

by_closed : (b : Bool) (s : Stretch) (groups : List (List Stretch)) → total (if b then (s ∷ []) ∷ groups else onto_first s groups) ≡ len s + total groups
by_closed true s groups =
    let a = sum_by-cons work_of (s ∷ []) groups in
    let c = work_cons s [] in
    omega (arith, a, c)
by_closed false s groups = total_onto s groups

total_cut : (ss : List Stretch) → total (stretches_cut ss) ≡ work_of ss
unfolding stretches_cut
total_cut [] = refl
total_cut (s ∷ ss) =
    let a = by_closed (is_closed s) s (stretches_cut ss) in
    let b = total_cut ss in
    let c = work_cons s ss in
    omega (arith, a, b, c)

abbrev works : List Job → ℕ
works jobs = sum_by (λ j. j.work) jobs

works_of : (groups : List (List Stretch)) → works (map job_of groups) ≡ total groups
works_of [] = refl
works_of (g ∷ gs) =
    let a = sum_by-cons (λ (j : Job). j.work) (job_of g) (map job_of gs) in
    let b = sum_by-cons work_of g gs in
    let c = works_of gs in
    omega (arith, a, b, c)

by_work : (b : Bool) (j : Job) (js : List Job) → nat_lt 0 j.work ≡ b → works (if b then j ∷ js else js) ≡ j.work + works js
by_work true j js e = sum_by-cons (λ (k : Job). k.work) j js
by_work false j js e = let none = ltb-false 0 j.work e in omega (arith, none)

works_kept : (jobs : List Job) → works (filter (λ j. nat_lt 0 j.work) jobs) ≡ works jobs
works_kept [] = refl
works_kept (j ∷ js) =
    let a = by_work (nat_lt 0 j.work) j (filter (λ k. nat_lt 0 k.work) js) refl in
    let b = works_kept js in
    let c = sum_by-cons (λ (k : Job). k.work) j js in
    omega (arith, a, b, c)

released_works : (after : ℕ) (wakes : List ℕ) (jobs : List Job) → sum_by (λ (r : Release). r.job.work) (releases_after after wakes jobs) ≡ works jobs
unfolding releases_after
released_works after wakes [] = refl
released_works after wakes (j ∷ js) =
    let next = Rattle.std.specs.Prelude.unwrap_or j.«end» j.start in
    let a = sum_by-cons (λ (r : Release). r.job.work) (release_by j (latest_between after j.start wakes)) (releases_after next wakes js) in
    let b = sum_by-cons (λ (k : Job). k.work) j js in
    let c = released_works next wakes js in
    omega (arith, a, b, c)

pub work_kept : (moments : List Moment) (task : ℕ) → sum_by (λ r. r.job.work) (jobs_of_task moments task) ≡ work_of (stretches_of task (all_stretches (time_at_end moments) moments))
work_kept moments task =
    let own = stretches_of task (all_stretches (time_at_end moments) moments) in
    released_works 0 (wakes_of task moments) (jobs_cut own) ∙ works_kept (map job_of (stretches_cut own)) ∙ works_of (stretches_cut own) ∙ total_cut own
