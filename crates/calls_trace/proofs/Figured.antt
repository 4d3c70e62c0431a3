-- The figures of a run, and what a summary has beside them, which looks at no switches.
use Rattle.std.proofs.Common.{◌≡◌, ℕ, ◌<◌, List, [], ◌∷◌, length, map, get_or, refl, sym, ap, ◌∙◌, arith}
use Rattle.std.proofs.lemmas.List.{length-map, get_or-map}
use Rattle.attr_check.specs.ParamsView.{ParamsView}
use Rattle.domain_run.specs.Domain.{Domain}
use Rattle.domain_run.specs.Passing.{without_switches}
use Rattle.calls_text.specs.SectionView.{SectionView}
use Rattle.run_figures.specs.declared.run.Admitted.{Admitted}
use Rattle.run_figures.specs.declared.figures.TaskFigures.{TaskFigures}
use Rattle.run_figures.specs.declared.figures.CpuFigures.{CpuFigures}
use Rattle.run_figures.specs.Figures.{task_figures, cpu_figures}
use Rattle.run_figures.specs.Accounting.{AccountingView, streamed_run}
use Rattle.calls_trace.specs.DomainEvents.{domain_of, names_in, params_in, admitted_with_params, figures_view, summary_view}
use Rattle.calls_trace.specs.Streamed.{section_streamed}
use Rattle.calls_trace.specs.private.Counting.{summary_of_domain}
use Rattle.calls_trace.proofs.Texts.{as_many_cpus}

pub figured_is : (names : ℕ → List ℕ) (d : Domain) (ts us : List TaskFigures) (cs es : List CpuFigures) → ts ≡ us → cs ≡ es → summary_of_domain names d ts cs ≡ summary_of_domain names d us es
figured_is names d ts us cs es same_tasks same_cpus = ap (λ (xs : List TaskFigures). summary_of_domain names d xs cs) same_tasks ∙ ap (summary_of_domain names d us) same_cpus

-- ---- a run that was streamed

pub numbers_are : (given : ℕ → ParamsView) (ns : List ℕ) → map (λ t. t.number) (map (admitted_with_params given) ns) ≡ ns
numbers_are given [] = refl
numbers_are given (n ∷ ns) = ap (λ (ms : List ℕ). n ∷ ms) (numbers_are given ns)

-- the accounting is of these tasks
pub tasks_streamed : (s : SectionView) (given : ℕ → ParamsView) (d : Domain) (a : AccountingView) (tasks : List Admitted) → tasks ≡ map (admitted_with_params given) d.used → without_switches d ≡ without_switches (domain_of s) → a ≡ section_streamed s
    → map (λ t. t.number) tasks ≡ a.tasks
tasks_streamed s given d a tasks are state streamed =
    ap (map (λ t. t.number)) are ∙ numbers_are given d.used ∙ ap (λ (x : Domain). x.used) state ∙ sym (ap (λ (x : AccountingView). x.tasks) streamed)

pub cpus_streamed : (s : SectionView) (d : Domain) (a : AccountingView) (tasks : List Admitted) (cs : List CpuFigures) → without_switches d ≡ without_switches (domain_of s) → a ≡ section_streamed s → cs ≡ cpu_figures (streamed_run a tasks) → length cs ≡ d.cpus
cpus_streamed s d a tasks cs state streamed made =
    as_many_cpus (streamed_run a tasks) cs made ∙ ap (λ (x : AccountingView). x.cpus) streamed ∙ sym (ap (λ (x : Domain). x.cpus) state)

-- its figures are those of the run that the history led to
pub streamed_is : (s : SectionView) (names : ℕ → List ℕ) (given : ℕ → ParamsView) (d : Domain) (a : AccountingView) (tasks : List Admitted) (ts : List TaskFigures) (cs : List CpuFigures)
    → names ≡ names_in s → given ≡ params_in s → without_switches d ≡ without_switches (domain_of s) → a ≡ section_streamed s → tasks ≡ map (admitted_with_params given) d.used
    → ts ≡ task_figures (streamed_run a tasks) → cs ≡ cpu_figures (streamed_run a tasks) → summary_of_domain names d ts cs ≡ summary_view s
streamed_is s names given d a tasks ts cs same_names same_given state streamed are made_tasks made_cpus =
    let all : tasks ≡ map (admitted_with_params (params_in s)) (domain_of s).used =
    are ∙ ap (λ (g : ℕ → ParamsView). map (admitted_with_params g) d.used) same_given ∙ ap (λ (x : Domain). map (admitted_with_params (params_in s)) x.used) state in
    let run : streamed_run a tasks ≡ figures_view s = ap (λ (x : AccountingView). streamed_run x tasks) streamed ∙ ap (streamed_run (section_streamed s)) all in
    let us = task_figures (figures_view s) in
    let es = cpu_figures (figures_view s) in
    figured_is names d ts us cs es (made_tasks ∙ ap task_figures run) (made_cpus ∙ ap cpu_figures run)
    ∙ ap (λ (f : ℕ → List ℕ). summary_of_domain f d us es) same_names
    ∙ ap (λ (x : Domain). summary_of_domain (names_in s) x us es) state

-- ---- one of several

pub one_of_all : {X Y Z : Type 0} (g : Y → Z) (f : X → Z) (ys : List Y) (xs : List X) (i : ℕ) (y : Y) (x : X) → map g ys ≡ map f xs → i < length xs → y ≡ get_or ys i y → x ≡ get_or xs i x → g y ≡ f x
one_of_all {X} {Y} {Z} g f ys xs i y x same inside at there =
    let long : length ys ≡ length xs = sym (length-map ys g) ∙ ap length same ∙ length-map xs f in
    ap g at
    ∙ sym (get_or-map g ys i y (f x) (omega (arith, inside, long)))
    ∙ ap (λ (zs : List Z). get_or zs i (f x)) same
    ∙ get_or-map f xs i x (f x) inside
    ∙ ap f (sym there)
