-- Runs under way, and what is written of them.
use Rattle.std.specs.Prelude.{ℕ, ◌≡◌, ◌+◌, ◌≤◌, Bool, if◌then◌else◌, List, [], ◌∷◌, map, flat_map, fold, max, sum_by, nat_eq, unwrap_or}
use Rattle.std.specs.declared.hash.FoldHasher.{FoldHasher}
use Rattle.std.specs.declared.hash.BuildHasherDefault.{BuildHasherDefault}
use Rattle.indexmap.specs.IndexMap.{IndexMap, get}
use Rattle.attr_check.specs.ParamsView.{ParamsView}
use Rattle.attr_check.specs.Ratio.{cap}
use Rattle.domain_run.specs.declared.happened.Happened.{Happened}
use Rattle.domain_run.specs.Domain.{Domain, empty_domain}
use Rattle.domain_run.specs.Tick.{sum_of}
use Rattle.domain_run.specs.Sound.{IsAdmitted}
use Rattle.domain_run.specs.Log.{LogView}
use Rattle.domain_run.specs.Run.{run_of}
use Rattle.calls_text.specs.SectionView.{SectionView}
use Rattle.switch_text.specs.Names.{Names, name_of_task, HasName}
use Rattle.switch_text.specs.Trace.{SwitchesView, trace_of}
use Rattle.switch_text.specs.Events.{LoggedView, events_of}
use Rattle.run_figures.specs.Runs as counted
use Rattle.run_figures.specs.Jobs.{task_jobs}
use Rattle.run_figures.specs.Figures.{task_figures, cpu_figures}
use Rattle.figure_text.specs.Jobs.{JobsView, jobs_text}
use Rattle.figure_text.specs.Summary.{SummaryView, summary_text}
use Rattle.chart_pieces.specs.declared.window.Window.{Window}
use Rattle.chart_pieces.specs.Window.{window_of}
use Rattle.chart_pieces.specs.Rows.{rows_of}
use Rattle.chart.specs.Rows.{ChartRowView}
use Rattle.chart.specs.Chart.{chart_text}
use Rattle.calls_trace.specs.declared.run_text.RunText.{RunText}
use Rattle.calls_trace.specs.declared.run_text.RunText.TheVariants.{Trace, Events, Jobs, Summary, Chart}
use Rattle.calls_trace.specs.Replay.{names_of, no_names, calls_in_section}
use Rattle.calls_trace.specs.DomainEvents.{domain_of, names_in, logged_of, no_params, params_in, admitted_with_params}
use Rattle.calls_trace.specs.Charted.{chart_row_of}

-- the map gives these names
abbrev pub MapGives : Names → (ℕ → List ℕ) → Type 0
MapGives names wanted = (n : ℕ) → name_of_task names n ≡ wanted n

-- each number that was admitted has a name
abbrev pub AdmittedHaveNames : Domain → Names → Type 0
AdmittedHaveNames d names = (n : ℕ) → IsAdmitted d.used n → HasName names n

-- the domain and the names that the calls of a section leave
pub record IsRunOf (s : SectionView) (d : Domain) (names : Names) : Type 0 where
  pub domain : d ≡ run_of s.cpus s.limit (calls_in_section s)
  pub called : MapGives names (names_of (empty_domain s.cpus s.limit) (calls_in_section s) no_names)
  pub all_named : AdmittedHaveNames d names

-- parameters by the tasks' numbers
abbrev pub Given : Type 0
Given = IndexMap ℕ ParamsView (BuildHasherDefault FoldHasher)

abbrev pub given_in : Given → ℕ → ParamsView
given_in given number = unwrap_or (get nat_eq given number) (no_params number)

-- the map gives these parameters
abbrev pub GivesParams : Given → (ℕ → ParamsView) → Type 0
GivesParams given wanted = (n : ℕ) → given_in given n ≡ wanted n

-- what a log keeps of what it has logged
abbrev pub streamed : LogView → List Happened
streamed log = if log.wanted then log.happened else []

-- ---- the run of one domain of the machine

-- its CPU 0, the domain at the end, names and parameters by number, and what happened
pub record PlacedView : Type 0 where
  pub base : ℕ
  pub domain : Domain
  pub names : ℕ → List ℕ
  pub given : ℕ → ParamsView
  pub happened : List Happened

-- the run of a section
abbrev pub view_at : Bool → ℕ → SectionView → PlacedView
view_at wanted base s = record {
  base = base;
  domain = domain_of s;
  names = names_in s;
  given = if wanted then params_in s else no_params;
  happened = if wanted then logged_of s else [];
}

-- the first domain has the first CPUs of the machine, the second the next ones, and so on
abbrev pub views_from : Bool → ℕ → List SectionView → List PlacedView
views_from wanted base [] = []
views_from wanted base (s ∷ ss) = view_at wanted base s ∷ views_from wanted (base + s.cpus) ss

-- ---- what is written of runs

abbrev pub placed_run_view : PlacedView → SwitchesView
placed_run_view v = record { base = v.base; names = v.names; switches = v.domain.switches }

abbrev pub logged_in : PlacedView → LoggedView
logged_in v = record { base = v.base; names = v.names; happened = v.happened }

abbrev pub figures_in : PlacedView → counted.RunView
figures_in v = record {
  cpus = v.domain.cpus;
  time = v.domain.time;
  tasks = map (admitted_with_params v.given) v.domain.used;
  happened = v.happened;
  switches = v.domain.switches;
}

abbrev pub jobs_in : PlacedView → JobsView
jobs_in v = record { names = v.names; tasks = map (task_jobs v.happened) v.domain.used }

abbrev pub summary_in : PlacedView → SummaryView
summary_in v = record {
  names = v.names;
  tasks = task_figures (figures_in v);
  cpus = cpu_figures (figures_in v);
  bandwidth = sum_of v.domain.tasks;
  cap = cap v.domain.cpus v.domain.limit;
  time = v.domain.time;
}

-- the chart: when the last run ends, the CPUs of the machine, and the rows
abbrev pub end_in : List PlacedView → ℕ
end_in vs = fold (λ end v. max end v.domain.time) 0 vs

abbrev pub cpus_of_placed : List PlacedView → ℕ
cpus_of_placed vs = sum_by (λ v. v.domain.cpus) vs

abbrev pub rows_in : Window → PlacedView → List ChartRowView
rows_in window v = map (chart_row_of v.names v.base) (rows_of window (figures_in v))

abbrev pub chart_of_placed : Window → List PlacedView → List ℕ
chart_of_placed window vs = chart_text window (cpus_of_placed vs) (flat_map (rows_in window) vs)

-- a text of the domains of a machine
abbrev pub text_in : RunText → List PlacedView → List ℕ
text_in Trace vs = trace_of (map placed_run_view vs)
text_in Events vs = events_of (map placed_run_view vs) (map logged_in vs)
text_in Jobs vs = jobs_text (map jobs_in vs)
text_in Summary vs = summary_text (map summary_in vs)
text_in (Chart span) vs = chart_of_placed (window_of span (end_in vs)) vs
