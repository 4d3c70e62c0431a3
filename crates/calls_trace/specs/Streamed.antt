-- Runs that were streamed to their end, while their switches were let go.
use Rattle.std.specs.Prelude.{◌≡◌, ℕ, ◌<◌, List, length, map, slice_index_or, All}
use Rattle.domain_run.specs.Domain.{Domain}
use Rattle.domain_run.specs.Passing.{without_switches}
use Rattle.calls_text.specs.SectionView.{SectionView}
use Rattle.run_figures.specs.Accounting.{AccountingView}
use Rattle.chart_pieces.specs.declared.window.Window.{Window}
use Rattle.chart_pieces.specs.Drawing.{DrawingView}
use Rattle.calls_trace.specs.DomainEvents.{domain_of, logged_of}

-- an accounting of all that happens in the run of a section, and of all its switches
abbrev pub section_streamed : SectionView → AccountingView
section_streamed s = record {
  cpus = (domain_of s).cpus;
  time = (domain_of s).time;
  tasks = (domain_of s).used;
  happened = logged_of s;
  switches = (domain_of s).switches;
}

-- the accountings have streamed the runs of these histories, from their beginning to their end
abbrev pub AreAccountings : List SectionView → List AccountingView → Type 0
AreAccountings histories streamed =
    (d : ℕ) (s : SectionView) (x : AccountingView) → d < length histories
    → slice_index_or streamed d x ≡ section_streamed (slice_index_or histories d s)

-- but for their switches, which may be gone, the states are what these histories lead to
abbrev pub AreRunsButSwitches : List SectionView → List Domain → Type 0
AreRunsButSwitches histories states =
    (d : ℕ) (s : SectionView) (x : Domain) → d < length histories
    → without_switches (slice_index_or states d x)
    ≡ without_switches (domain_of (slice_index_or histories d s))

-- drawings in this window of the runs of these histories, from their beginning to their end
pub record AreDrawings (window : Window) (histories : List SectionView) (drawn : List DrawingView)
    : Type 0 where
  pub as_many : length drawn ≡ length histories
  pub same_window : All (λ (d : DrawingView). d.window ≡ window) drawn
  pub whole : AreAccountings histories (map (λ (d : DrawingView). d.streamed) drawn)
