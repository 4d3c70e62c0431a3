-- Each job is one release, and each that ended is one end.
use Rattle.std.proofs.Common.{◌≡◌, ℕ, ◌+◌, ◌≤◌, true, cond, List, [], ◌∷◌, length, get_or, map, Option, Some, None, refl, sym, ap, arith, subst, All, length-append}
use Rattle.std.specs.Prelude.{IfSome, is_some, count_by}
use Rattle.std.specs.Option.{option_to_list}
use Rattle.std.proofs.lemmas.List.Elements.{All-map}
use Rattle.std.proofs.lemmas.List.Sums.{sum_by-cons, sum_by-append}
use Rattle.domain_run.specs.declared.happened.What.{What}
use Rattle.domain_run.specs.declared.happened.What.TheVariants.{JobEnds, NextReleased, Spent, Cut, Replenished, Released, WokenSpent}
use Rattle.domain_run.specs.declared.happened.Happened.{Happened}
use Rattle.run_figures.specs.declared.job.Job.{Job}
use Rattle.run_figures.specs.declared.run.Admitted.{Admitted}
use Rattle.run_figures.specs.TaskJobsView.{TaskJobsView}
use Rattle.run_figures.specs.Jobs.{of_task, over_by, job_after, jobs_from, task_jobs}
use Rattle.run_figures.specs.Laws.{releases, ends, AreReleased}

abbrev one : Option Job → ℕ
one o = length (option_to_list o)

one_by : (time : ℕ) (what : What) (o : Option Job) → one (over_by time what o) + one (job_after time what o) ≡ one o + cond (releases what) 1 0
one_by time JobEnds None = refl
one_by time JobEnds (Some j) = refl
one_by time Cut None = refl
one_by time Cut (Some j) = refl
one_by time (NextReleased d) None = refl
one_by time (NextReleased d) (Some j) = refl
one_by time (Released d) None = refl
one_by time (Released d) (Some j) = refl
one_by time (Spent d) None = refl
one_by time (Spent d) (Some j) = refl
one_by time (Replenished d) None = refl
one_by time (Replenished d) (Some j) = refl
one_by time (WokenSpent d) None = refl
one_by time (WokenSpent d) (Some j) = refl

released_from : (o : Option Job) (own : List Happened) → length (jobs_from o own) ≡ one o + count_by (λ h. releases h.what) own
released_from o [] = omega arith
released_from o (h ∷ hs) =
    let over = over_by h.time h.what o in
    let next = job_after h.time h.what o in
    omega (arith, length-append (option_to_list over) (jobs_from next hs), released_from next hs, one_by h.time h.what o, sum_by-cons (λ (x : Happened). cond (releases x.what) 1 0) h hs)

-- a job under way has no end
abbrev ended : List Job → ℕ
ended jobs = count_by (λ j. is_some j.ended) jobs

none_ended : (j : Job) → j.ended ≡ None → ended (j ∷ []) ≡ 0
none_ended j e = omega (arith, sum_by-cons (λ (x : Job). cond (is_some x.ended) 1 0) j [], ap {B = ℕ} (λ (at : Option ℕ). cond (is_some at) 1 0) e)

goes_on : (time : ℕ) (what : What) (o : Option Job) → IfSome o (λ j. j.ended ≡ None) → IfSome (job_after time what o) (λ j. j.ended ≡ None)
goes_on time JobEnds o h = tt
goes_on time Cut o h = tt
goes_on time (NextReleased d) o h = refl
goes_on time (Released d) o h = refl
goes_on time (Spent d) None h = tt
goes_on time (Spent d) (Some j) h = h
goes_on time (Replenished d) o h = h
goes_on time (WokenSpent d) None h = tt
goes_on time (WokenSpent d) (Some j) h = h

ended_by : (time : ℕ) (what : What) (o : Option Job) → IfSome o (λ j. j.ended ≡ None) → ended (option_to_list (over_by time what o)) ≤ cond (ends what) 1 0
ended_by time what None h = omega arith
ended_by time JobEnds (Some j) h = omega arith
ended_by time Cut (Some j) h = omega (arith, none_ended (record j { cut = true }) h)
ended_by time (NextReleased d) (Some j) h = omega (arith, none_ended j h)
ended_by time (Released d) (Some j) h = omega (arith, none_ended j h)
ended_by time (Spent d) (Some j) h = omega arith
ended_by time (Replenished d) (Some j) h = omega arith
ended_by time (WokenSpent d) (Some j) h = omega arith

ended_at_end : (o : Option Job) → IfSome o (λ j. j.ended ≡ None) → ended (option_to_list o) ≤ 0
ended_at_end None h = omega arith
ended_at_end (Some j) h = omega (arith, none_ended j h)

ended_from : (o : Option Job) (own : List Happened) → IfSome o (λ j. j.ended ≡ None) → ended (jobs_from o own) ≤ count_by (λ h. ends h.what) own
ended_from o [] h = ended_at_end o h
ended_from o (x ∷ xs) h =
    let over = over_by x.time x.what o in
    let next = job_after x.time x.what o in
    omega (arith, sum_by-append (λ (j : Job). cond (is_some j.ended) 1 0) (option_to_list over) (jobs_from next xs), ended_from next xs (goes_on x.time x.what o h), ended_by x.time x.what o h, sum_by-cons (λ (y : Happened). cond (ends y.what) 1 0) x xs)

pub all_released : (happened : List Happened) (tasks : List Admitted) (all : List TaskJobsView) → all ≡ map (λ t. task_jobs happened t.number) tasks → All (AreReleased happened) all
all_released happened tasks all is =
    subst (All (AreReleased happened)) (sym is) (All-map (AreReleased happened) (λ (t : Admitted). task_jobs happened t.number) tasks
    (λ k d l.
    let own = of_task (get_or tasks k d).number happened in
    let begun : length (jobs_from None own) ≡ count_by (λ h. releases h.what) own = omega (arith, released_from None own) in
    record { released = begun; ended = ended_from None own tt }))
