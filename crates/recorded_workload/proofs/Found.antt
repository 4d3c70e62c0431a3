-- The jobs that were found are those of the definitions.
use Rattle.std.proofs.Common.{◌≡◌, ℕ, suc, ◌+◌, ◌-◌, ◌++◌, ◌<◌, Bool, true, false, cond, List, [], ◌∷◌, length, Option, Some, None, refl, sym, ap, ◌∙◌, subst, arith}
use Rattle.std.specs.Prelude.{slice_index_or, max, unwrap_or, nat_lt}
use Rattle.std.specs.Option.{option_or}
use Rattle.recorded_jobs.specs.declared.moment.Moment.{Moment}
use Rattle.recorded_jobs.specs.declared.job.Release.{Release}
use Rattle.recorded_jobs.specs.Found.{AreJobsFound, ShowsJobs}
use Rattle.recorded_jobs.specs.declared.finding.Found.{Found}
use Rattle.recorded_jobs.specs.Releases.{jobs_of_task}
use Rattle.tasks_text.specs.declared.task.Task.{Task}
use Rattle.calls_text.specs.declared.section.Entry.{Entry}
use Rattle.recorded_jobs.specs.Releases.{time_at_end}
use Rattle.recorded_workload.specs.declared.shape.Shape.{Shape}
use Rattle.recorded_workload.specs.declared.fault.WorkloadFault.{WorkloadFault}
use Rattle.recorded_workload.specs.declared.fault.WorkloadFault.TheVariants.{NoTask, ManyJobs, LongSleep, ManyCpus, LongRecording}
use Rattle.recorded_workload.specs.Workload.{all_jobs_from, jobs_of_all, earliest, time_zero, workload_ticks, workload_cpus, admits_from, advances, numbered_from, calls_by, workload_of}
use Rattle.recorded_workload.specs.Refusals.{refused_by, workload_refused, none_found, many_from, fits_script, long_from, cpus_refused, NamesTask}
use Rattle.recorded_workload.proofs.Numbered.{numbered_len, numbered_append}
use Rattle.recorded_workload.proofs.Walks.{Jobs, lists}

found_from : (moments : List Moment) (n : ℕ) (tasks : List Task) (jobs : List Jobs) → length jobs ≡ length tasks → ((j : ℕ) (d : Jobs) → j < length tasks → (slice_index_or jobs j d).items ≡ jobs_of_task moments (n + j)) → lists jobs ≡ all_jobs_from moments n tasks
unfolding all_jobs_from
found_from moments n [] [] same each = refl
found_from moments n [] (v ∷ jobs) same each = absurd (omega (arith, same))
found_from moments n (t ∷ tasks) [] same each = absurd (omega (arith, same))
found_from moments n (t ∷ tasks) (v ∷ jobs) same each =
    let first : v.items ≡ jobs_of_task moments n = each 0 v (omega arith) ∙ ap (jobs_of_task moments) (omega arith) in
    let rest = found_from moments (n + 1) tasks jobs (omega (arith, same)) (λ j d l. each (suc j) d (omega (arith, l)) ∙ ap (jobs_of_task moments) (omega arith)) in
    ap (λ (rs : List Release). rs ∷ lists jobs) first ∙ ap (λ (js : List (List Release)). jobs_of_task moments n ∷ js) rest

pub found_all : (moments : List Moment) (tasks : List Task) (jobs : List Jobs) → AreJobsFound moments (length tasks) jobs → lists jobs ≡ jobs_of_all moments tasks
found_all moments tasks jobs found = found_from moments 0 tasks jobs found.as_many (λ j d l. found.each j d l ∙ ap (jobs_of_task moments) (omega arith))

-- what was computed of the jobs that were found
pub record Facts (moments : List Moment) (tasks : List Task) (shape : Shape) (jobs : List (List Release)) (cpus start ticks : ℕ) : Type 0 where
  pub jobs_are : jobs ≡ jobs_of_all moments tasks
  pub cpus_is : cpus ≡ workload_cpus moments shape
  pub start_is : start ≡ time_zero jobs
  pub ticks_is : ticks ≡ max 1 (time_at_end moments - start)

ticks_are : (moments : List Moment) (tasks : List Task) (shape : Shape) (jobs : List (List Release)) (cpus start ticks : ℕ) → Facts moments tasks shape jobs cpus start ticks → ticks ≡ workload_ticks moments (jobs_of_all moments tasks)
ticks_are moments tasks shape jobs cpus start ticks f =
    f.ticks_is ∙ ap (λ (s : ℕ). max 1 (time_at_end moments - s)) (f.start_is ∙ ap time_zero f.jobs_are)

pub refused_is : (moments : List Moment) (tasks : List Task) (shape : Shape) (jobs : List (List Release)) (cpus start ticks : ℕ) → Facts moments tasks shape jobs cpus start ticks → refused_by jobs cpus ticks ≡ workload_refused moments tasks shape
refused_is moments tasks shape jobs cpus start ticks f =
    ap (λ (js : List (List Release)). refused_by js cpus ticks) f.jobs_are
    ∙ ap (λ (n : ℕ). refused_by (jobs_of_all moments tasks) n ticks) f.cpus_is
    ∙ ap (refused_by (jobs_of_all moments tasks) (workload_cpus moments shape)) (ticks_are moments tasks shape jobs cpus start ticks f)

calls_are : (moments : List Moment) (tasks : List Task) (shape : Shape) (jobs : List (List Release)) (cpus start ticks : ℕ) → Facts moments tasks shape jobs cpus start ticks → admits_from start 0 tasks jobs ++ advances ticks ≡ calls_by moments tasks (jobs_of_all moments tasks)
calls_are moments tasks shape jobs cpus start ticks f =
    ap (λ (s : ℕ). admits_from s 0 tasks jobs ++ advances ticks) (f.start_is ∙ ap time_zero f.jobs_are)
    ∙ ap (λ (js : List (List Release)). admits_from (time_zero (jobs_of_all moments tasks)) 0 tasks js ++ advances ticks) f.jobs_are
    ∙ ap (λ (n : ℕ). admits_from (time_zero (jobs_of_all moments tasks)) 0 tasks (jobs_of_all moments tasks) ++ advances n) (ticks_are moments tasks shape jobs cpus start ticks f)

-- the entries that were added, one after the other
pub section_is : (moments : List Moment) (tasks : List Task) (shape : Shape) (jobs : List (List Release)) (cpus start ticks : ℕ) (old new : List Entry) → Facts moments tasks shape jobs cpus start ticks → old ≡ numbered_from 0 (admits_from start 0 tasks jobs) → new ≡ old ++ numbered_from (length old) (advances ticks) → record { cpus = cpus; limit = shape.limit; entries = new } ≡ workload_of moments tasks shape
section_is moments tasks shape jobs cpus start ticks old new f was more =
    let long : length old ≡ 0 + length (admits_from start 0 tasks jobs) = omega (arith, ap length was, numbered_len 0 (admits_from start 0 tasks jobs)) in
    let all : new ≡ numbered_from 0 (calls_by moments tasks (jobs_of_all moments tasks)) =
    more ∙ ap (λ (k : ℕ). old ++ numbered_from k (advances ticks)) long
    ∙ ap (λ (es : List Entry). es ++ numbered_from (0 + length (admits_from start 0 tasks jobs)) (advances ticks)) was
    ∙ sym (numbered_append 0 (admits_from start 0 tasks jobs) (advances ticks))
    ∙ ap (numbered_from 0) (calls_are moments tasks shape jobs cpus start ticks f) in
    ap (λ (n : ℕ). record { cpus = n; limit = shape.limit; entries = new }) f.cpus_is
    ∙ ap (λ (es : List Entry). record { cpus = workload_cpus moments shape; limit = shape.limit; entries = es }) all

pub facts : (moments : List Moment) (tasks : List Task) (shape : Shape) (found : Found) (cpus start ticks : ℕ) (ran_on : List ℕ) (jobs : List Jobs) (least : Option ℕ) → ShowsJobs moments (length tasks) found → ran_on ≡ found.cpus.items → cpus ≡ unwrap_or shape.cpus (length ran_on) → jobs ≡ found.jobs.items → least ≡ earliest (lists jobs) → start ≡ unwrap_or least 0 → ticks ≡ max 1 (time_at_end moments - start) → Facts moments tasks shape (lists found.jobs.items) cpus start ticks
facts moments tasks shape found cpus start ticks ran_on jobs least shows ran by_cpus are by_least by_start by_ticks = record {
  jobs_are = found_all moments tasks found.jobs.items shows.jobs;
  cpus_is = by_cpus ∙ ap (λ (cs : List ℕ). unwrap_or shape.cpus (length cs)) (ran ∙ shows.cpus);
  start_is = by_start ∙ ap (λ (o : Option ℕ). unwrap_or o 0) (by_least ∙ ap (λ (js : List Jobs). earliest (lists js)) are);
  ticks_is = by_ticks;
}

-- ---- the task of a fault

names_some : {X : Type 0} (x y : X) → Some x ≡ Some y → x ≡ y
names_some x y e = cc

names_none : {X : Type 0} (x : X) → None ≡ Some x → ⊥
names_none x e = cc

names_either : (count : ℕ) (a b : Option WorkloadFault) (e : WorkloadFault) → ((x : WorkloadFault) → a ≡ Some x → NamesTask count x) → ((x : WorkloadFault) → b ≡ Some x → NamesTask count x) → option_or a b ≡ Some e → NamesTask count e
names_either count None b e ha hb is = hb e is
names_either count (Some x) b e ha hb is = ha e is

at_first : (n more : ℕ) → n < n + suc more
at_first n more = omega arith

many_by : (many : Bool) (n : ℕ) (js : List Release) (jobs : List (List Release)) (e : WorkloadFault) → cond many (Some (ManyJobs n (length js))) (many_from (n + 1) jobs) ≡ Some e → (many_from (n + 1) jobs ≡ Some e → NamesTask (n + suc (length jobs)) e) → NamesTask (n + suc (length jobs)) e
many_by true n js jobs e is later = subst (NamesTask (n + suc (length jobs))) (names_some (ManyJobs n (length js)) e is) (at_first n (length jobs))
many_by false n js jobs e is later = later is

many_names : (n : ℕ) (jobs : List (List Release)) (e : WorkloadFault) → many_from n jobs ≡ Some e → NamesTask (n + length jobs) e
unfolding many_from
many_names n [] e is = absurd (names_none e is)
many_names n (js ∷ jobs) e is = many_by (nat_lt 2048 (length js)) n js jobs e is (λ later. subst (λ (k : ℕ). NamesTask k e) (omega arith) (many_names (n + 1) jobs e later))

long_by : (good : Bool) (start n : ℕ) (jobs : List (List Release)) (e : WorkloadFault) → cond good (long_from start (n + 1) jobs) (Some (LongSleep n)) ≡ Some e → (long_from start (n + 1) jobs ≡ Some e → NamesTask (n + suc (length jobs)) e) → NamesTask (n + suc (length jobs)) e
long_by true start n jobs e is later = later is
long_by false start n jobs e is later = subst (NamesTask (n + suc (length jobs))) (names_some (LongSleep n) e is) (at_first n (length jobs))

long_names : (start n : ℕ) (jobs : List (List Release)) (e : WorkloadFault) → long_from start n jobs ≡ Some e → NamesTask (n + length jobs) e
unfolding long_from
long_names start n [] e is = absurd (names_none e is)
long_names start n (js ∷ jobs) e is = long_by (fits_script start js) start n jobs e is (λ later. subst (λ (k : ℕ). NamesTask k e) (omega arith) (long_names start (n + 1) jobs e later))

none_names : (count : ℕ) (o : Option ℕ) (e : WorkloadFault) → none_found o ≡ Some e → NamesTask count e
none_names count None e is = subst (NamesTask count) (names_some NoTask e is) tt
none_names count (Some t) e is = absurd (names_none e is)

if_names : (count : ℕ) (b : Bool) (x e : WorkloadFault) → NamesTask count x → cond b (Some x) None ≡ Some e → NamesTask count e
if_names count true x e h is = subst (NamesTask count) (names_some x e is) h
if_names count false x e h is = absurd (names_none e is)

jobs_len : (moments : List Moment) (n : ℕ) (tasks : List Task) → length (all_jobs_from moments n tasks) ≡ length tasks
unfolding all_jobs_from
jobs_len moments n [] = refl
jobs_len moments n (t ∷ tasks) = ap suc (jobs_len moments (n + 1) tasks)

-- a fault that says the number of a task says that of one of these
pub fault_names : (moments : List Moment) (tasks : List Task) (shape : Shape) (e : WorkloadFault) → workload_refused moments tasks shape ≡ Some e → NamesTask (length tasks) e
fault_names moments tasks shape e is =
    let jobs = jobs_of_all moments tasks in
    let count : 0 + length jobs ≡ length tasks = omega (arith, jobs_len moments 0 tasks) in
    names_either (length tasks) (none_found (earliest jobs)) _ e (λ x. none_names (length tasks) (earliest jobs) x)
    (λ x. names_either (length tasks) (many_from 0 jobs) _ x (λ y h. subst (λ (k : ℕ). NamesTask k y) count (many_names 0 jobs y h))
    (λ y. names_either (length tasks) (long_from (time_zero jobs) 0 jobs) _ y (λ z h. subst (λ (k : ℕ). NamesTask k z) count (long_names (time_zero jobs) 0 jobs z h))
    (λ z. names_either (length tasks) (cpus_refused (workload_cpus moments shape)) _ z (λ u. if_names (length tasks) _ (ManyCpus (workload_cpus moments shape)) u tt)
    (λ u. if_names (length tasks) _ LongRecording u tt)))) is
