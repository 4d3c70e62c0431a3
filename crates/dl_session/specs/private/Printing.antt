-- The texts that are made of what a run left, what is wanted of the run for them, and what is
-- written.
use Rattle.std.specs.Prelude.{List, ℕ}
use Rattle.calls_text.specs.SectionView.{SectionView}
use Rattle.calls_trace.specs.declared.fault.TraceFault.{TraceFault}
use Rattle.calls_trace.specs.declared.fault.TraceFault.TheVariants as traces
use Rattle.calls_trace.specs.Written.{IsWritten, IsCut}
use Rattle.counted_io.specs.Sides.{Side, IsUntouched}
use Rattle.chart_pieces.specs.Window.{window_of}
use Rattle.rtapp_scenario.specs.ScenarioView.{TaskSpecView}
use Rattle.run_options.specs.declared.options.Print.{Print}
use Rattle.run_options.specs.declared.options.Print.TheVariants as prints
use Rattle.session.specs.declared.report.Wanted.{Wanted}
use Rattle.session.specs.declared.report.Wanted.TheVariants as wants
use Rattle.dl_session.specs.declared.printing.KeptText.{KeptText}
use Rattle.dl_session.specs.declared.printing.KeptText.TheVariants.{Summary, Jobs, Chart, Promises}
use Rattle.dl_session.specs.Promised.{domains_of, IsRowOf, AreRows}
use Rattle.dl_session.specs.RunAnswer.{IsTextWith}

-- the text for which it is asked
abbrev pub print_of_kept : KeptText → Print
print_of_kept Summary = prints.Summary
print_of_kept Jobs = prints.Jobs
print_of_kept (Chart span) = prints.Chart span
print_of_kept Promises = prints.Promises

-- of runs of this duration, in microseconds
abbrev pub wanted_for : ℕ → KeptText → Wanted
wanted_for duration Summary = wants.Figures
wanted_for duration Jobs = wants.Jobs
wanted_for duration (Chart span) = wants.Chart (window_of span duration)
wanted_for duration Promises = wants.Switches

-- what is printed, before anything is said of how promises are kept
abbrev pub IsMadeText : Print → List TaskSpecView → List SectionView → List ℕ → Type 0
IsMadeText print tasks histories text =
    IsTextWith (AreRows (IsRowOf (domains_of histories)) tasks) print histories text

-- a text of which something is said was written
pub record IsWrittenAs (is : List ℕ → Type 0) (writer : Side) : Type 0 where
  pub text : List ℕ
  pub said : is text
  pub written : IsWritten writer text

-- the writer took n bytes of it, and not all
pub record IsCutAs (is : List ℕ → Type 0) (writer : Side) (taken : ℕ) : Type 0 where
  pub text : List ℕ
  pub said : is text
  pub cut : IsCut writer text taken

-- why it was not written
abbrev pub IsUnwrittenAs : (List ℕ → Type 0) → Side → TraceFault → Type 0
IsUnwrittenAs is writer (traces.Write taken) = IsCutAs is writer taken
IsUnwrittenAs is writer traces.Memory = IsUntouched writer
