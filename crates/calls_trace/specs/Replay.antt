-- The trace of the sections that a calls text spells.
use Rattle.std.specs.Prelude.{ℕ, ◌+◌, ◌==◌, if◌then◌else◌, List, [], ◌∷◌, map}
use Rattle.domain_run.specs.declared.call.Call.{Call}
use Rattle.domain_run.specs.declared.call.Call.TheVariants.{Admit, Regrade, Wake, Leave, Advance, Limit, Depart, Arrive}
use Rattle.domain_run.specs.Domain.{Domain, empty_domain}
use Rattle.domain_run.specs.Calls.{reply_to, is_refusal, after_call}
use Rattle.domain_run.specs.Run.{run_of}
use Rattle.calls_text.specs.SectionView.{SectionView}
use Rattle.switch_text.specs.Trace.{SwitchesView, trace_of}

-- the calls of a section, whoever made them
abbrev pub calls_in_section : SectionView → List Call
calls_in_section s = map (λ e. e.call) s.entries

-- the name of a number is that of its admission, or of its arrival; a refused call names nobody
abbrev pub with_name : (ℕ → List ℕ) → ℕ → List ℕ → (ℕ → List ℕ)
with_name names number name = λ n. if n == number then name else names n

abbrev pub named_by : Call → (ℕ → List ℕ) → (ℕ → List ℕ)
named_by (Admit number name params delay script) names = with_name names number name
named_by (Regrade number params word) names = names
named_by (Wake number) names = names
named_by (Leave number) names = names
named_by (Advance n) names = names
named_by (Limit limit word) names = names
named_by (Depart number) names = names
named_by (Arrive number name params script) names = with_name names number name

abbrev pub names_after : Domain → Call → (ℕ → List ℕ) → (ℕ → List ℕ)
names_after d c names = if is_refusal (reply_to d c) then names else named_by c names

abbrev pub names_of : Domain → List Call → (ℕ → List ℕ) → (ℕ → List ℕ)
names_of d [] names = names
names_of d (c ∷ cs) names = names_of (after_call d c) cs (names_after d c names)

-- nobody is named
abbrev pub no_names : ℕ → List ℕ
no_names n = []

-- the run of a section, whose domain's CPU 0 is this CPU of the machine
abbrev pub run_view : ℕ → SectionView → SwitchesView
run_view base s = record {
  base = base;
  names = names_of (empty_domain s.cpus s.limit) (calls_in_section s) no_names;
  switches = (run_of s.cpus s.limit (calls_in_section s)).switches;
}

-- the first domain has the first CPUs of the machine, the second the next ones, and so on
abbrev pub runs_from : ℕ → List SectionView → List SwitchesView
runs_from base [] = []
runs_from base (s ∷ ss) = run_view base s ∷ runs_from (base + s.cpus) ss

-- the trace of the run of each section
abbrev pub trace_of_sections : List SectionView → List ℕ
trace_of_sections sections = trace_of (runs_from 0 sections)
