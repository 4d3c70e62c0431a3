-- The figures that are put together are the definitions'.
use Rattle.std.proofs.Common.{◌≡◌, ℕ, zero, suc, ◌+◌, ◌≤◌, ◌<◌, ◌^◌, eqb, List, [], ◌∷◌, ◌++◌, length, get_or, take, map, Option, Some, None, refl, sym, ap, ◌∙◌, arith, subst, All}
use Rattle.std.specs.Prelude.{Any, IfSome, count_by, sum_by}
use Rattle.std.specs.List.{range_with_len}
use Rattle.std.proofs.lemmas.List.{get_or_default, get_or-map, length-map}
use Rattle.std.proofs.lemmas.List.Elements.{All-map, All-weaker}
use Rattle.std.proofs.lemmas.List.Sums.{sum_by-cons}
use Rattle.domain_run.specs.Switch.{Switch}
use Rattle.std.specs.Option.{option_map, option_map_or}
use Rattle.run_figures.specs.declared.run.Admitted.{Admitted}
use Rattle.run_figures.specs.declared.counting.Ended.{Ended}
use Rattle.run_figures.specs.declared.counting.Counts.{Counts}
use Rattle.run_figures.specs.declared.throttle.Throttle.{Throttle}
use Rattle.run_figures.specs.declared.logged.TaskTally.{TaskTally}
use Rattle.run_figures.specs.declared.ran.Ran.{Ran}
use Rattle.run_figures.specs.declared.ran.Cpu.{Cpu}
use Rattle.run_figures.specs.declared.figures.TaskFigures.{TaskFigures}
use Rattle.run_figures.specs.declared.figures.CpuFigures.{CpuFigures}
use Rattle.run_figures.specs.Runs.{RunView, IsBoundedRun}
use Rattle.run_figures.specs.Laws.{AreKnown, IsShared, AreShort}
use Rattle.run_figures.specs.Jobs.{of_task, jobs_of}
use Rattle.run_figures.specs.Throttling.{throttled_of, throttled_us, preemptions}
use Rattle.run_figures.specs.Stays.{stays, cpu_us, migrations}
use Rattle.run_figures.specs.Figures.{outcomes, is_late, figures_of, task_figures, cpu_of, cpu_figures}
use Rattle.run_figures.specs.private.Logging.{logged_all, logged_by, nothing_logged, with_over, gap}
use Rattle.run_figures.specs.private.Running.{ran_by, cpu_by}
use Rattle.run_figures.specs.private.Putting.{responses_by, put_task, put_all, put_cpu}
use Rattle.run_figures.proofs.Turning.{cpus_apart, cpu_at}
use Rattle.run_figures.proofs.Indexing.{numbers_apart}
use Rattle.run_figures.proofs.Passing.{map-map}
use Rattle.run_figures.proofs.After.{us_small}
use Rattle.run_figures.proofs.Shared.{IsAmong, shared_out, tasks_among, cpus_among}
use Rattle.run_figures.proofs.Counted.{logged_own, own_logged, jobs_counted, late_counted, ended_counted, count_of_outcomes, responses_counted, own_throttle, times_counted, us_counted}

pub task_is : (run : RunView) (task : Admitted) → put_task run.time task (logged_by run.time run.happened run.switches task.number) (ran_by run.time run.switches task.number) ≡ figures_of run task
task_is run task =
    let n = task.number in
    let own = of_task n run.happened in
    let logged : TaskTally = logged_all run.time run.happened (nothing_logged n) in
    let kept : logged ≡ logged_own run.time (nothing_logged n) own = own_logged run.time run.happened (nothing_logged n) n refl in
    let counts : Counts = with_over run.time logged.counts logged.job in
    let counted = ap (λ (t : TaskTally). with_over run.time t.counts t.job) kept ∙ jobs_counted run.time own (nothing_logged n) in
    let none : Counts = record { ended = None; late = 0 } in
    let jobs = jobs_of run.happened n in
    let ended = ap (λ (c : Counts). c.ended) counted ∙ ended_counted run.time jobs none in
    let late : counts.late ≡ count_by (is_late run.time) jobs = omega (arith, ap (λ (c : Counts). c.late) counted ∙ late_counted run.time jobs none) in
    let throttle = ap (λ (t : TaskTally). t.throttle) kept ∙ own_throttle run.time own (nothing_logged n) in
    let how_many = ap (λ (x : Option Ended). option_map_or (λ (e : Ended). e.count) x 0) ended ∙ count_of_outcomes (outcomes jobs) in
    let responses = ap (option_map responses_by) ended ∙ responses_counted (outcomes jobs) in
    let times : logged.throttle.times ≡ throttled_of own = omega (arith, ap (λ (t : Throttle). t.times) throttle ∙ times_counted own (nothing_logged n).throttle) in
    let us : logged.throttle.us + gap logged.throttle.since run.time ≡ throttled_us run.time own = omega (arith, ap (λ (t : Throttle). t.us + gap t.since run.time) throttle ∙ us_counted run.time own (nothing_logged n).throttle) in
    λ i. record {
      number = n;
      runtime = task.runtime;
      period = task.period;
      jobs = how_many i;
      late = late i;
      responses = responses i;
      throttled = times i;
      throttled_us = us i;
      preempted = preemptions run.happened run.switches n;
      migrated = migrations run.switches n;
      cpu_us = cpu_us run.time run.switches n;
    }

-- of all tasks
pub tasks_are : (run : RunView) (tasks : List Admitted) → put_all run.time tasks (map (λ t. logged_by run.time run.happened run.switches t.number) tasks) (map (λ t. ran_by run.time run.switches t.number) tasks) ≡ map (figures_of run) tasks
tasks_are run [] = refl
tasks_are run (task ∷ tasks) = λ i. task_is run task i ∷ tasks_are run tasks i

-- one more
pub one_more_put : (end : ℕ) (tasks : List Admitted) (logged : List TaskTally) (ran : List Ran) (i : ℕ) (task : Admitted) (t : TaskTally) (r : Ran) → i < length tasks → i < length logged → i < length ran → task ≡ get_or tasks i task → t ≡ get_or logged i t → r ≡ get_or ran i r
    → put_all end (take (i + 1) tasks) logged ran ≡ put_all end (take i tasks) logged ran ++ put_task end task t r ∷ []
one_more_put end [] logged ran i task t r a b c e f g = absurd (omega (arith, a))
one_more_put end (x ∷ xs) [] ran i task t r a b c e f g = absurd (omega (arith, b))
one_more_put end (x ∷ xs) (y ∷ ys) [] i task t r a b c e f g = absurd (omega (arith, c))
one_more_put end (x ∷ xs) (y ∷ ys) (z ∷ zs) zero task t r a b c e f g = λ i. put_task end (sym e i) (sym f i) (sym g i) ∷ []
one_more_put end (x ∷ xs) (y ∷ ys) (z ∷ zs) (suc i) task t r a b c e f g =
    let more = one_more_put end xs ys zs i task t r (omega (arith, a)) (omega (arith, b)) (omega (arith, c)) e f g in
    let e : suc i + 1 ≡ suc (i + 1) = omega arith in
    rw e (ap (λ (fs : List TaskFigures). put_task end x y z ∷ fs) more)

-- the same of what was read at a place
pub put_more : (end : ℕ) (tasks : List Admitted) (logged : List TaskTally) (ran : List Ran) (i : ℕ) (d : Admitted) (e : TaskTally) (f : Ran) (figures : TaskFigures) (before after : List TaskFigures) → i < length tasks → length logged ≡ length tasks → length ran ≡ length tasks
    → before ≡ put_all end (take i tasks) logged ran → figures ≡ put_task end (get_or tasks i d) (get_or logged i e) (get_or ran i f) → after ≡ before ++ figures ∷ [] → after ≡ put_all end (take (i + 1) tasks) logged ran
put_more end tasks logged ran i d e f figures before after l a b put is more =
    let t : i < length logged = omega (arith, l, a) in
    let r : i < length ran = omega (arith, l, b) in
    more ∙ (λ k. put k ++ is k ∷ [])
    ∙ sym (one_more_put end tasks logged ran i (get_or tasks i d) (get_or logged i e) (get_or ran i f) l t r (get_or_default tasks i d (get_or tasks i d) l) (get_or_default logged i e (get_or logged i e) t) (get_or_default ran i f (get_or ran i f) r))

-- of what was logged of all tasks
pub all_tasks : (run : RunView) (logged : List TaskTally) (ran : List Ran) (figures : List TaskFigures) → logged ≡ map (λ t. logged_by run.time run.happened run.switches t.number) run.tasks → ran ≡ map (λ t. ran_by run.time run.switches t.number) run.tasks → figures ≡ put_all run.time run.tasks logged ran → figures ≡ task_figures run
all_tasks run logged ran figures t r f = f ∙ (λ i. put_all run.time run.tasks (t i) (r i)) ∙ tasks_are run run.tasks

-- of all CPUs
pub all_cpus : (run : RunView) (cpus : List Cpu) (figures : List CpuFigures) → cpus ≡ map (cpu_by run.time run.switches) (range_with_len 0 run.cpus) → figures ≡ map put_cpu cpus → figures ≡ cpu_figures run
all_cpus run cpus figures c f = f ∙ ap (map put_cpu) c ∙ map-map put_cpu (cpu_by run.time run.switches) (range_with_len 0 run.cpus)

-- THEIR TIMES ARE SHORT
pub all_short : (run : RunView) (tasks : List TaskFigures) (cpus : List CpuFigures) → IsBoundedRun run → length run.switches < 2 ^ 64 → tasks ≡ task_figures run → cpus ≡ cpu_figures run → AreShort tasks cpus
all_short run tasks cpus h few t c =
    let early = All-weaker (λ (s : Switch). s.time ≤ run.time) (λ (s : Switch). s.time ≤ 2 ^ 42) (λ s l. omega (arith, l, h.early)) run.switches h.past in (
      subst (All (λ x. x.cpu_us < 2 ^ 108)) (sym t) (All-map (λ (x : TaskFigures). x.cpu_us < 2 ^ 108) (figures_of run) run.tasks
          (λ k d l. let one = us_small (λ x. eqb x.number (get_or run.tasks k d).number) run.time (2 ^ 42) run.switches h.early early in omega (arith, one, few))),
      subst (All (λ x. x.busy_us < 2 ^ 108)) (sym c) (All-map (λ (x : CpuFigures). x.busy_us < 2 ^ 108) (cpu_of run) (range_with_len 0 run.cpus)
          (λ k d l. let one = us_small (λ x. eqb x.cpu (get_or (range_with_len 0 run.cpus) k d)) run.time (2 ^ 42) run.switches h.early early in omega (arith, one, few))),
    )

-- THE LAW
sum_of_map : {X Y : Type 0} (f : Y → ℕ) (g : X → Y) (xs : List X) → sum_by f (map g xs) ≡ sum_by (λ x. f (g x)) xs
sum_of_map f g [] = refl
sum_of_map f g (x ∷ xs) = omega (arith, sum_by-cons f (g x) (map g xs), sum_by-cons (λ y. f (g y)) x xs, sum_of_map f g xs)

task_among : (tasks : List Admitted) (n : ℕ) → Any (λ t. t.number ≡ n) tasks → IsAmong (map (λ t. t.number) tasks) n
task_among tasks n (k, x, l, at, is) = (
  k,
  omega (arith, l, length-map tasks (λ (t : Admitted). t.number)),
  λ d. get_or-map (λ (t : Admitted). t.number) tasks k x d l ∙ ap (λ (t : Admitted). t.number) at ∙ is,
)

each_among : (tasks : List Admitted) (next : Option ℕ) → IfSome next (λ n. Any (λ t. t.number ≡ n) tasks) → IfSome next (IsAmong (map (λ t. t.number) tasks))
each_among tasks None h = tt
each_among tasks (Some n) h = task_among tasks n h

pub shared : (run : RunView) (tasks : List TaskFigures) (cpus : List CpuFigures) → IsBoundedRun run → tasks ≡ task_figures run → cpus ≡ cpu_figures run → AreKnown run.tasks run.switches → IsShared tasks cpus
shared run tasks cpus h t c known =
    let numbers = map (λ (a : Admitted). a.number) run.tasks in
    let of_tasks = shared_out (λ x. x.number) numbers (stays run.time run.switches) (numbers_apart run.tasks h.tasks)
    (tasks_among numbers run.time run.switches (All-weaker (λ (s : Switch). IfSome s.next (λ n. Any (λ (a : Admitted). a.number ≡ n) run.tasks)) (λ (s : Switch). IfSome s.next (IsAmong numbers)) (λ s one. each_among run.tasks s.next one) run.switches known)) in
    let of_cpus = shared_out (λ x. x.cpu) (range_with_len 0 run.cpus) (stays run.time run.switches) (cpus_apart run.cpus)
    (cpus_among (range_with_len 0 run.cpus) run.time run.switches (All-weaker (λ (s : Switch). s.cpu < run.cpus) (λ (s : Switch). IsAmong (range_with_len 0 run.cpus) s.cpu)
    (λ s one. let at = cpu_at run.cpus s.cpu one in (s.cpu, at.within, at.is)) run.switches h.inside)) in
    ap (sum_by (λ (x : TaskFigures). x.cpu_us)) t
    ∙ sum_of_map (λ (x : TaskFigures). x.cpu_us) (figures_of run) run.tasks
    ∙ sym (sum_of_map (cpu_us run.time run.switches) (λ (a : Admitted). a.number) run.tasks)
    ∙ of_tasks ∙ sym of_cpus
    ∙ sym (sum_of_map (λ (x : CpuFigures). x.busy_us) (cpu_of run) (range_with_len 0 run.cpus))
    ∙ sym (ap (sum_by (λ (x : CpuFigures). x.busy_us)) c)
