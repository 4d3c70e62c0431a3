-- The texts of runs as they are lent and written.
use Rattle.std.proofs.Common.{◌≡◌, ◌≢◌, ℕ, ◌+◌, ◌<◌, Bool, true, false, Option, Some, unwrap_or, List, [], ◌∷◌, ◌++◌, length, map, take, get_or, refl, ap, sym, subst, ◌∙◌, arith}
use Rattle.std.specs.Prelude.{All, AllPairs}
use Rattle.std.proofs.lemmas.List.{map-append, take_more, length-map, get_or-map}
use Rattle.std.proofs.lemmas.List.Elements.{All-map}
use Rattle.std.proofs.lemmas.List.FromFn.{length-map-range_with_len}
use Rattle.attr_check.specs.ParamsView.{ParamsView}
use Rattle.calls_text.specs.SectionView.{SectionView}
use Rattle.switch_text.specs.Runs as lent
use Rattle.switch_text.specs.Trace.{SwitchesView, trace_of}
use Rattle.switch_text.specs.Events.{LoggedView, events_of}
use Rattle.run_figures.specs.declared.run.Admitted.{Admitted}
use Rattle.run_figures.specs.declared.figures.CpuFigures.{CpuFigures}
use Rattle.run_figures.specs.Runs as counted
use Rattle.run_figures.specs.Runs.{AreTasks}
use Rattle.run_figures.specs.Figures.{cpu_of, cpu_figures}
use Rattle.figure_text.specs.Jobs.{JobsView, jobs_text}
use Rattle.figure_text.specs.Summary.{SummaryView, summary_text}
use Rattle.run_options.specs.declared.replay_print.ReplayPrint.{ReplayPrint}
use Rattle.run_options.specs.declared.replay_print.ReplayPrint.TheVariants as prints
use Rattle.calls_trace.specs.declared.run_text.RunText.{RunText}
use Rattle.calls_trace.specs.declared.run_text.RunText.TheVariants.{Trace, Events, Jobs, Summary, Chart}
use Rattle.calls_trace.specs.Replay.{run_view, runs_from, trace_of_sections}
use Rattle.calls_trace.specs.DomainEvents.{admitted_with_params, logged_from, jobs_view, summary_view, events_of_sections, jobs_of_sections, summary_of_sections}
use Rattle.calls_trace.specs.Charted.{chart_of_sections}
use Rattle.calls_trace.specs.Answer.{replayed_text}
use Rattle.calls_trace.specs.private.Replaying.{view_at, views_from, placed_run_view, logged_in, jobs_in, summary_in, text_in}
use Rattle.calls_trace.specs.private.RunTexts.{run_text, is_logged_text, text_of_all}
use Rattle.calls_trace.proofs.Charts.{chart_same}

-- ---- lists, one element more

pub both : {X Y Z : Type 0} (f : X → Y) (g : Y → Z) (xs : List X) → map (λ x. g (f x)) xs ≡ map g (map f xs)
both f g [] = refl
both f g (x ∷ xs) = ap (λ (zs : List _). g (f x) ∷ zs) (both f g xs)

-- what is made of the elements so far
pub views_more : {X Y Z : Type 0} (g : Y → Z) (f : X → Z) (made : List Y) (y : Y) (xs : List X) (i : ℕ) (item : X) → i < length xs → item ≡ get_or xs i item → g y ≡ f item
    → map g made ≡ map f (take i xs) → map g (made ++ y ∷ []) ≡ map f (take (i + 1) xs)
views_more {X} {Y} {Z} g f made y xs i item inside is same so_far =
    map-append g made (y ∷ [])
    ∙ ap (λ (zs : List Z). zs ++ g y ∷ []) so_far
    ∙ ap (λ (z : Z). map f (take i xs) ++ z ∷ []) (same ∙ ap f is)
    ∙ sym (map-append f (take i xs) (get_or xs i item ∷ []))
    ∙ ap (map f) (sym (take_more xs i item inside))

-- ---- the texts of runs

-- ---- those of sections

runs_are : (wanted : Bool) (base : ℕ) (ss : List SectionView) → map placed_run_view (views_from wanted base ss) ≡ runs_from base ss
runs_are wanted base [] = refl
runs_are wanted base (s ∷ ss) = ap (λ (rs : List SwitchesView). run_view base s ∷ rs) (runs_are wanted (base + s.cpus) ss)

logged_are : (base : ℕ) (ss : List SectionView) → map logged_in (views_from true base ss) ≡ logged_from base ss
logged_are base [] = refl
logged_are base (s ∷ ss) = ap (λ (ts : List LoggedView). logged_in (view_at true base s) ∷ ts) (logged_are (base + s.cpus) ss)

all_jobs : (base : ℕ) (ss : List SectionView) → map jobs_in (views_from true base ss) ≡ map jobs_view ss
all_jobs base [] = refl
all_jobs base (s ∷ ss) = ap (λ (js : List JobsView). jobs_view s ∷ js) (all_jobs (base + s.cpus) ss)

all_figures : (base : ℕ) (ss : List SectionView) → map summary_in (views_from true base ss) ≡ map summary_view ss
all_figures base [] = refl
all_figures base (s ∷ ss) = ap (λ (fs : List SummaryView). summary_view s ∷ fs) (all_figures (base + s.cpus) ss)

text_are : (text : RunText) (print : ReplayPrint) → run_text print ≡ Some text → (ss : List SectionView) → text_in text (views_from (is_logged_text text) 0 ss) ≡ replayed_text print ss
text_are text prints.Trace e ss =
    let is : Trace ≡ text = ap (λ (o : Option RunText). unwrap_or o Trace) e in
    subst (λ (t : RunText). text_in t (views_from (is_logged_text t) 0 ss) ≡ trace_of_sections ss) is (ap trace_of (runs_are false 0 ss))
text_are text prints.Replies e ss = absurd cc
text_are text prints.Events e ss =
    let is : Events ≡ text = ap (λ (o : Option RunText). unwrap_or o Events) e in
    subst (λ (t : RunText). text_in t (views_from (is_logged_text t) 0 ss) ≡ events_of_sections ss) is
    (ap (λ (rs : List SwitchesView). events_of rs (map logged_in (views_from true 0 ss))) (runs_are true 0 ss) ∙ ap (events_of (runs_from 0 ss)) (logged_are 0 ss))
text_are text prints.Jobs e ss =
    let is : Jobs ≡ text = ap (λ (o : Option RunText). unwrap_or o Jobs) e in
    subst (λ (t : RunText). text_in t (views_from (is_logged_text t) 0 ss) ≡ jobs_of_sections ss) is (ap jobs_text (all_jobs 0 ss))
text_are text prints.Summary e ss =
    let is : Summary ≡ text = ap (λ (o : Option RunText). unwrap_or o Summary) e in
    subst (λ (t : RunText). text_in t (views_from (is_logged_text t) 0 ss) ≡ summary_of_sections ss) is (ap summary_text (all_figures 0 ss))
text_are text (prints.Chart span) e ss =
    let is : Chart span ≡ text = ap (λ (o : Option RunText). unwrap_or o Trace) e in
    subst (λ (t : RunText). text_in t (views_from (is_logged_text t) 0 ss) ≡ chart_of_sections span ss) is (chart_same span ss)

-- what is asked for
pub text_is : (text : RunText) (print : ReplayPrint) → run_text print ≡ Some text → (ss : List SectionView) → text_of_all text ss ≡ replayed_text print ss
unfolding text_of_all
text_is text print e ss = text_are text print e ss

-- ---- figures

pub tasks_apart : (given : ℕ → ParamsView) (ns : List ℕ) → All (λ n. n < 65536) ns → AllPairs (λ a b. a ≢ b) ns → AreTasks (map (admitted_with_params given) ns)
tasks_apart given ns small apart = record {
  small = All-map (λ t. t.number < 65536) (admitted_with_params given) ns small;
  apart = λ i j d less within same.
      let long : length (map (admitted_with_params given) ns) ≡ length ns = length-map ns (admitted_with_params given) in
      let second : get_or (map (admitted_with_params given) ns) j d ≡ admitted_with_params given (get_or ns j 0) = get_or-map (admitted_with_params given) ns j 0 d (omega (arith, within, long)) in
      let first : get_or (map (admitted_with_params given) ns) i d ≡ admitted_with_params given (get_or ns i 0) = get_or-map (admitted_with_params given) ns i 0 d (omega (arith, less, within, long)) in
      apart i j 0 less (omega (arith, within, long)) (sym (ap (λ (t : Admitted). t.number) first) ∙ same ∙ ap (λ (t : Admitted). t.number) second);
}

pub as_many_cpus : (run : counted.RunView) (cpus : List CpuFigures) → cpus ≡ cpu_figures run → length cpus ≡ run.cpus
as_many_cpus run cpus are = ap length are ∙ length-map-range_with_len (cpu_of run) 0 run.cpus
