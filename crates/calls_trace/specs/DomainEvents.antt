-- What happens in the runs of the sections that a calls text spells, and the texts of it (own).
use Rattle.std.specs.Prelude.{ℕ, ◌+◌, ◌==◌, false, if◌then◌else◌, List, [], ◌∷◌, map}
use Rattle.attr_check.specs.ParamsView.{ParamsView}
use Rattle.attr_check.specs.Ratio.{cap}
use Rattle.domain_run.specs.declared.call.Call.{Call}
use Rattle.domain_run.specs.declared.call.Call.TheVariants.{Admit, Regrade, Arrive}
use Rattle.domain_run.specs.declared.happened.Happened.{Happened}
use Rattle.domain_run.specs.Domain.{Domain, empty_domain}
use Rattle.domain_run.specs.Tick.{sum_of}
use Rattle.domain_run.specs.Calls.{reply_to, is_refusal, after_call}
use Rattle.domain_run.specs.Happened.{logged_by_calls}
use Rattle.domain_run.specs.Run.{run_of}
use Rattle.calls_text.specs.SectionView.{SectionView}
use Rattle.switch_text.specs.Events.{LoggedView, events_of}
use Rattle.run_figures.specs.declared.run.Admitted.{Admitted}
use Rattle.run_figures.specs.Runs.{RunView}
use Rattle.run_figures.specs.Jobs.{task_jobs}
use Rattle.run_figures.specs.Figures.{task_figures, cpu_figures}
use Rattle.figure_text.specs.Jobs.{JobsView, jobs_text}
use Rattle.figure_text.specs.Summary.{SummaryView, summary_text}
use Rattle.calls_trace.specs.Replay.{calls_in_section, names_of, no_names, runs_from}

-- the domain that a section's calls lead to
abbrev pub domain_of : SectionView → Domain
domain_of s = run_of s.cpus s.limit (calls_in_section s)

-- the names that they give
abbrev pub names_in : SectionView → (ℕ → List ℕ)
names_in s = names_of (empty_domain s.cpus s.limit) (calls_in_section s) no_names

-- what happens in it
abbrev pub logged_of : SectionView → List Happened
logged_of s = logged_by_calls (empty_domain s.cpus s.limit) (calls_in_section s)

-- ---- EVENTS: the first domain has the first CPUs of the machine, the second the next ones
abbrev pub logged_from : ℕ → List SectionView → List LoggedView
logged_from base [] = []
logged_from base (s ∷ ss) =
    record { base = base; names = names_in s; happened = logged_of s } ∷ logged_from
    (base + s.cpus) ss

abbrev pub events_of_sections : List SectionView → List ℕ
events_of_sections sections = events_of (runs_from 0 sections) (logged_from 0 sections)

-- ---- JOBS of all tasks that were admitted, by number
abbrev pub jobs_view : SectionView → JobsView
jobs_view s = record {
  names = names_in s;
  tasks = map (task_jobs (logged_of s)) (domain_of s).used;
}

abbrev pub jobs_of_sections : List SectionView → List ℕ
jobs_of_sections sections = jobs_text (map jobs_view sections)

-- ---- SUMMARY. The parameters of a number are those that its admission, its arrival or its last
-- change gave it; a refused call gives none
abbrev pub no_params : ℕ → ParamsView
no_params n = record { runtime = 0; deadline = 0; period = 0; reclaim = false; bw = 0 }

abbrev pub with_params : (ℕ → ParamsView) → ℕ → ParamsView → (ℕ → ParamsView)
with_params given number params = λ n. if n == number then params else given n

abbrev pub params_by : Call → (ℕ → ParamsView) → (ℕ → ParamsView)
params_by (Admit number name params delay script) given = with_params given number params
params_by (Regrade number params word) given = with_params given number params
params_by (Arrive number name params script) given = with_params given number params
params_by _ given = given

abbrev pub params_after : Domain → Call → (ℕ → ParamsView) → (ℕ → ParamsView)
params_after d c given = if is_refusal (reply_to d c) then given else params_by c given

abbrev pub params_by_calls : Domain → List Call → (ℕ → ParamsView) → (ℕ → ParamsView)
params_by_calls d [] given = given
params_by_calls d (c ∷ cs) given = params_by_calls (after_call d c) cs (params_after d c given)

abbrev pub params_in : SectionView → (ℕ → ParamsView)
params_in s = params_by_calls (empty_domain s.cpus s.limit) (calls_in_section s) no_params

abbrev pub admitted_with_params : (ℕ → ParamsView) → ℕ → Admitted
admitted_with_params given n =
    record { number = n; runtime = (given n).runtime; period = (given n).period }

-- the run, as figures are made of it
abbrev pub figures_view : SectionView → RunView
figures_view s = record {
  cpus = (domain_of s).cpus;
  time = (domain_of s).time;
  tasks = map (admitted_with_params (params_in s)) (domain_of s).used;
  happened = logged_of s;
  switches = (domain_of s).switches;
}

abbrev pub summary_view : SectionView → SummaryView
summary_view s = record {
  names = names_in s;
  tasks = task_figures (figures_view s);
  cpus = cpu_figures (figures_view s);
  bandwidth = sum_of (domain_of s).tasks;
  cap = cap (domain_of s).cpus (domain_of s).limit;
  time = (domain_of s).time;
}

abbrev pub summary_of_sections : List SectionView → List ℕ
summary_of_sections sections = summary_text (map summary_view sections)
