-- What is printed of a run is what is printed of a replay of its calls.
use Rattle.std.proofs.Common.{◌≡◌, ℕ, List, refl, ap, sym, subst, length, ◌∙◌}
use Rattle.calls_text.specs.SectionView.{SectionView}
use Rattle.domain_run.specs.Domain.{Domain}
use Rattle.chart_pieces.specs.declared.window.Span.{Span}
use Rattle.chart_pieces.specs.Window.{window_of}
use Rattle.calls_trace.specs.Charted.{chart_in, last_time}
use Rattle.calls_trace.specs.DomainEvents.{jobs_of_sections, summary_of_sections}
use Rattle.rtapp_scenario.specs.ScenarioView.{TaskSpecView}
use Rattle.calls_text.specs.Histories.{AreRuns}
use Rattle.dl_session.specs.Promised.{IsRowOf, AreRows}
use Rattle.dl_session.specs.declared.printing.KeptText.{KeptText}
use Rattle.dl_session.specs.declared.printing.KeptText.TheVariants.{Summary, Jobs, Chart, Promises}
use Rattle.dl_session.specs.private.Printing.{print_of_kept, wanted_for, IsMadeText}
use Rattle.dl_session.specs.declared.printing.Left.{Left}
use Rattle.dl_session.specs.private.Running.{AreFigured, AreSketched, AreLeftAs}
use Rattle.dl_session.proofs.Rows.{states_are}

-- ---- of what was streamed

pub are_figured : (n : ℕ) (kept : KeptText) → kept ≡ Summary → (hs : List SectionView) (left : Left) → AreLeftAs (wanted_for n kept) hs left → AreFigured hs left.states.items left.streamed.items
are_figured n kept e hs left are = subst (λ (k : KeptText). AreLeftAs (wanted_for n k) hs left) e are

pub summary_alone : (kept : KeptText) → kept ≡ Summary → (tasks : List TaskSpecView) (hs : List SectionView) → IsMadeText (print_of_kept kept) tasks hs (summary_of_sections hs)
summary_alone kept e tasks hs = subst (λ (k : KeptText). IsMadeText (print_of_kept k) tasks hs (summary_of_sections hs)) (sym e) refl

pub jobs_are_figured : (n : ℕ) (kept : KeptText) → kept ≡ Jobs → (hs : List SectionView) (left : Left) → AreLeftAs (wanted_for n kept) hs left → AreFigured hs left.states.items left.streamed.items
jobs_are_figured n kept e hs left are = subst (λ (k : KeptText). AreLeftAs (wanted_for n k) hs left) e are

pub jobs_alone : (kept : KeptText) → kept ≡ Jobs → (tasks : List TaskSpecView) (hs : List SectionView) → IsMadeText (print_of_kept kept) tasks hs (jobs_of_sections hs)
jobs_alone kept e tasks hs = subst (λ (k : KeptText). IsMadeText (print_of_kept k) tasks hs (jobs_of_sections hs)) (sym e) refl

-- ---- of what was drawn

pub are_sketched : (n : ℕ) (kept : KeptText) (span : Span) → kept ≡ Chart span → (hs : List SectionView) (left : Left) → AreLeftAs (wanted_for n kept) hs left → AreSketched (window_of span n) hs left.states.items left.drawn.items
are_sketched n kept span e hs left are = subst (λ (k : KeptText). AreLeftAs (wanted_for n k) hs left) e are

pub chart_alone : (n : ℕ) (kept : KeptText) (span : Span) → kept ≡ Chart span → (tasks : List TaskSpecView) (hs : List SectionView) → last_time hs ≡ n → IsMadeText (print_of_kept kept) tasks hs (chart_in (window_of span n) hs)
chart_alone n kept span e tasks hs last = subst (λ (k : KeptText). IsMadeText (print_of_kept k) tasks hs (chart_in (window_of span n) hs)) (sym e) (ap (λ (k : ℕ). chart_in (window_of span k) hs) (sym last))

-- ---- of tasks and states

left_runs : (n : ℕ) (kept : KeptText) (hs : List SectionView) (left : Left) → kept ≡ Promises → AreLeftAs (wanted_for n kept) hs left → AreRuns hs left.states.items
left_runs n kept hs left is are = subst (λ (k : KeptText). AreLeftAs (wanted_for n k) hs left) is are

-- what is said of the states is said of the histories
pub rows_alone : (n : ℕ) (kept : KeptText) → kept ≡ Promises → (tasks : List TaskSpecView) (hs : List SectionView) (left : Left) (text : List ℕ)
    → length left.states.items ≡ length hs → AreLeftAs (wanted_for n kept) hs left → AreRows (IsRowOf left.states.items) tasks text → IsMadeText (print_of_kept kept) tasks hs text
rows_alone n kept e tasks hs left text count are rows =
    let same = states_are hs left.states.items count (left_runs n kept hs left e are) in
    subst (λ (k : KeptText). IsMadeText (print_of_kept k) tasks hs text) (sym e) (subst (λ (ds : List Domain). AreRows (IsRowOf ds) tasks text) same rows)
