-- The jobs of runs that are streamed.
use Rattle.std.proofs.Common.{◌≡◌, ℕ, List, [], ◌∷◌, ◌++◌, get_or, map, Result, Ok, Err, refl, sym, ap, ◌∙◌, subst, arith}
use Rattle.std.specs.Prelude.{All, Contains, IfOk}
use Rattle.std.proofs.lemmas.List.{append-nil, map-append, get_or-map, length-map}
use Rattle.attr_check.specs.ParamsView.{ParamsView}
use Rattle.domain_run.specs.declared.call.Call.{Call}
use Rattle.domain_run.specs.declared.happened.Happened.{Happened}
use Rattle.domain_run.specs.Domain.{Domain, empty_domain}
use Rattle.domain_run.specs.Passing.{without_switches}
use Rattle.run_figures.specs.Accounting.{AccountingView}
use Rattle.run_figures.specs.declared.run.Admitted.{Admitted}
use Rattle.run_figures.specs.TaskJobsView.{TaskJobsView}
use Rattle.run_figures.specs.Jobs.{task_jobs}
use Rattle.run_options.specs.declared.replay_print.ReplayPrint.TheVariants as prints
use Rattle.calls_text.specs.SectionView.{SectionView}
use Rattle.figure_text.specs.Jobs.{JobsView, jobs_text}
use Rattle.switch_text.specs.Names.{name_of_task}
use Rattle.calls_trace.specs.declared.streaming.Streaming.{Streaming}
use Rattle.calls_trace.specs.declared.summed_run.SummedRun.{SummedRun}
use Rattle.calls_trace.specs.declared.run_text.RunText.TheVariants.{Jobs}
use Rattle.calls_trace.specs.Replay.{no_names}
use Rattle.calls_trace.specs.DomainEvents.{domain_of, names_in, logged_of, no_params, admitted_with_params, jobs_view}
use Rattle.calls_trace.specs.Streamed.{section_streamed}
use Rattle.calls_trace.specs.private.Foreseen.{AreCallsOf}
use Rattle.calls_trace.specs.private.Streaming.{led_by, led_to, jobs_led}
use Rattle.calls_trace.specs.private.RunTexts.{text_of_all}
use Rattle.calls_trace.specs.private.Summed.{jobs_as}
use Rattle.calls_trace.proofs.Figured.{tasks_streamed}
use Rattle.calls_trace.proofs.StreamedCalls.{led_from}
use Rattle.calls_trace.proofs.Texts.{both, text_is}

-- the jobs of tasks do not depend on their parameters
pub jobs_of_admitted : (happened : List Happened) (given : ℕ → ParamsView) (used : List ℕ) (tasks : List Admitted) → tasks ≡ map (admitted_with_params given) used → map (λ t. task_jobs happened t.number) tasks ≡ map (task_jobs happened) used
jobs_of_admitted happened given used tasks are =
    ap (map (λ (t : Admitted). task_jobs happened t.number)) are
    ∙ sym (both (admitted_with_params given) (λ (t : Admitted). task_jobs happened t.number) used)

-- at the end
pub jobs_are_led : (h : Streaming) (jobs : List TaskJobsView) → h.calls ≡ [] → h.run.log.happened ≡ [] → jobs ≡ map (task_jobs h.accounting.happened) h.run.state.used → record { names = name_of_task h.run.names; tasks = jobs } ≡ jobs_led (led_to h)
jobs_are_led h jobs calls unlogged are =
    let a = h.accounting in
    let hs : a.happened ≡ (a.happened ++ h.run.log.happened) ++ [] = sym (append-nil (a.happened ++ h.run.log.happened) ∙ ap (λ (gs : List Happened). a.happened ++ gs) unlogged ∙ append-nil a.happened) in
    let all = are ∙ ap (λ (gs : List Happened). map (task_jobs gs) h.run.state.used) hs in
    ap (λ (ts : List TaskJobsView). record { names = name_of_task h.run.names; tasks = ts }) all
    ∙ ap (λ (xs : List Call). jobs_led (led_by h xs)) (sym calls)

-- of the calls of a section
pub jobs_of_calls : (s : SectionView) (cpus limit : ℕ) (calls : List Call) → AreCallsOf s cpus limit calls → jobs_led (led_from (empty_domain cpus limit) calls no_names no_params []) ≡ jobs_view s
jobs_of_calls s cpus limit calls are =
    λ i. jobs_led (led_from (empty_domain (sym are.same_cpus i) (sym are.same_limit i)) (are.same_calls i) no_names no_params [])

-- a run that was read, of which two things are known
pub both_ok : {T E W : Type 0} (made : Result T E) (P Q R : T → Type 0) → ((r : T) → P r → (W → Q r) → R r) → IfOk made P → (W → IfOk made Q) → IfOk made R
both_ok (Ok r) P Q R f p q = f r p q
both_ok (Err e) P Q R f p q = tt

-- ---- several runs

pub jobs_more : (runs : List SummedRun) (done : List SectionView) (r : SummedRun) (s : SectionView) → map jobs_as runs ≡ map jobs_view done → jobs_as r ≡ jobs_view s → map jobs_as (runs ++ r ∷ []) ≡ map jobs_view (done ++ s ∷ [])
jobs_more runs done r s same one =
    map-append jobs_as runs (r ∷ [])
    ∙ ap (λ (vs : List JobsView). vs ++ jobs_as r ∷ []) same
    ∙ ap (λ (v : JobsView). map jobs_view done ++ v ∷ []) one
    ∙ sym (map-append jobs_view done (s ∷ []))

pub jobs_text_is : (lent_to runs : List SummedRun) (sections : List SectionView) → lent_to ≡ runs → map jobs_as runs ≡ map jobs_view sections → jobs_text (map jobs_as lent_to) ≡ text_of_all Jobs sections
jobs_text_is lent_to runs sections same jobs =
    ap (λ (rs : List SummedRun). jobs_text (map jobs_as rs)) same ∙ ap jobs_text jobs ∙ sym (text_is Jobs prints.Jobs refl sections)

-- ---- a history that was streamed

pub tasks_among_streamed : (s : SectionView) (given : ℕ → ParamsView) (d : Domain) (a : AccountingView) (tasks : List Admitted) → tasks ≡ map (admitted_with_params given) d.used → without_switches d ≡ without_switches (domain_of s) → a ≡ section_streamed s
    → All (λ t. Contains a.tasks t.number) tasks
tasks_among_streamed s given d a tasks are state streamed k e l =
    let n = (get_or tasks k e).number in
    subst (λ (ns : List ℕ). Contains ns n) (tasks_streamed s given d a tasks are state streamed)
    (k, omega (arith, l, length-map tasks (λ (t : Admitted). t.number)), get_or-map (λ (t : Admitted). t.number) tasks k e n l)

pub jobs_are_streamed : (s : SectionView) (names : ℕ → List ℕ) (given : ℕ → ParamsView) (d : Domain) (a : AccountingView) (tasks : List Admitted) (jobs : List TaskJobsView) → names ≡ names_in s → without_switches d ≡ without_switches (domain_of s) → a ≡ section_streamed s → tasks ≡ map (admitted_with_params given) d.used
    → jobs ≡ map (λ t. task_jobs a.happened t.number) tasks → record { names = names; tasks = jobs } ≡ jobs_view s
jobs_are_streamed s names given d a tasks jobs named state streamed are made =
    let used : d.used ≡ (domain_of s).used = ap (λ (x : Domain). x.used) state in
    let logged : a.happened ≡ logged_of s = ap (λ (x : AccountingView). x.happened) streamed in
    let all : jobs ≡ map (task_jobs (logged_of s)) (domain_of s).used =
    made ∙ jobs_of_admitted a.happened given d.used tasks are ∙ ap (λ (hs : List Happened). map (task_jobs hs) d.used) logged ∙ ap (map (task_jobs (logged_of s))) used in
    λ i. record { names = named i; tasks = all i }
