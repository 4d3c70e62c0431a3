-- The steps of a run: the input is logged, and of the runs there is what is wanted.
use Rattle.std.specs.Prelude.{◌≡◌, ◌≢◌, List, length}
use Rattle.domain_run.specs.Domain.{Domain}
use Rattle.json_order.specs.declared.fault.JsonFault.{JsonFault}
use Rattle.json_order.specs.declared.fault.JsonKind.TheVariants as kinds
use Rattle.rtapp_scenario.specs.declared.fault.ScenarioFault.{ScenarioFault}
use Rattle.rtapp_scenario.specs.declared.fault.ScenarioFault.TheVariants as scenario_faults
use Rattle.run_figures.specs.Accounting.{AccountingView}
use Rattle.chart_pieces.specs.declared.window.Window.{Window}
use Rattle.chart_pieces.specs.Drawing.{DrawingView}
use Rattle.calls_text.specs.SectionView.{SectionView}
use Rattle.calls_text.specs.Histories.{AreRuns}
use Rattle.calls_trace.specs.Streamed.{AreAccountings, AreDrawings, AreRunsButSwitches}
use Rattle.session.specs.declared.report.Wanted.{Wanted}
use Rattle.session.specs.declared.report.Wanted.TheVariants.{Switches, Happened, Figures, Jobs, Chart}
use Rattle.dl_session.specs.declared.printing.Left.{Left}
use Rattle.dl_session.specs.declared.fault.SessionFault.{SessionFault}
use Rattle.dl_session.specs.declared.fault.SessionFault.TheVariants.{Json, Scenario, Memory}

-- a fault is this one, of which something is said; or memory was refused
abbrev pub IsOrMemory : (SessionFault → Type 0) → SessionFault → Type 0
IsOrMemory this Memory = Unit {0}
IsOrMemory this fault = this fault

-- a fault of the input as a session tells it: want of memory is logged as such
abbrev pub IsJsonLogged : JsonFault → SessionFault → Type 0
IsJsonLogged found = IsOrMemory (λ e. (e ≡ Json found) × (found.kind ≢ kinds.Memory))

abbrev pub IsScenarioLogged : ScenarioFault → SessionFault → Type 0
IsScenarioLogged found = IsOrMemory (λ e. (e ≡ Scenario found) × (found ≢ scenario_faults.Memory))

-- what is left of runs whose figures or jobs are wanted: they were streamed, and but for their
-- switches the states are what the histories lead to
pub record AreFigured (histories : List SectionView) (states : List Domain)
    (streamed : List AccountingView) : Type 0 where
  pub as_many : length streamed ≡ length histories
  pub runs : AreRunsButSwitches histories states
  pub all : AreAccountings histories streamed

-- what is left of runs whose chart is wanted: they were drawn in this window, and but for their
-- switches the states are what the histories lead to
pub record AreSketched (window : Window) (histories : List SectionView) (states : List Domain)
    (drawn : List DrawingView) : Type 0 where
  pub runs : AreRunsButSwitches histories states
  pub drawings : AreDrawings window histories drawn

-- what is left, by what is wanted: if no figures, jobs or chart are, the states that the histories
-- lead to
abbrev pub AreLeftAs : Wanted → List SectionView → Left → Type 0
AreLeftAs Switches histories left = AreRuns histories left.states.items
AreLeftAs Happened histories left = AreRuns histories left.states.items
AreLeftAs Figures histories left = AreFigured histories left.states.items left.streamed.items
AreLeftAs Jobs histories left = AreFigured histories left.states.items left.streamed.items
AreLeftAs (Chart window) histories left =
    AreSketched window histories left.states.items left.drawn.items
