-- Clients that have asked for all tasks, and what is written of the run then.
use Rattle.std.specs.Prelude.{◌≡◌, ℕ, ◌<◌, List, [], length, map, slice_index_or}
use Rattle.counted_io.specs.Sides.{Side, IsUntouched}
use Rattle.rtapp_scenario.specs.ScenarioView.{TaskSpecView}
use Rattle.calls_text.specs.SectionView.{SectionView}
use Rattle.run_options.specs.declared.options.Print.{Print}
use Rattle.session.specs.declared.refusal.Refusal.{Refusal}
use Rattle.session.specs.declared.report.Report.{Report}
use Rattle.session.specs.SessionId.{SessionId, IsDomainIndex}
use Rattle.session.specs.Asks.{ClientView}
use Rattle.session.specs.Admissions.{AreNew, AllAsked}
use Rattle.session.specs.Report.{IsHistoryOf, IsLeft}
use Rattle.dl_session.specs.declared.fault.SessionFault.{SessionFault}
use Rattle.dl_session.specs.declared.fault.SessionFault.TheVariants.{Write, Start, Full, Memory}
use Rattle.dl_session.specs.ScenarioAnswers.{AnswersScenario}
use Rattle.dl_session.specs.FullBook.{IsFullDomain}
use Rattle.dl_session.specs.private.Printing.{IsMadeText, IsWrittenAs, IsCutAs}

-- all clients of a session have asked for their own tasks, and nothing else; these were refused
pub record HaveAsked (id : SessionId) (tasks : List TaskSpecView) (clients : List ClientView)
    (refused : List (ℕ × Refusal)) : Type 0 where
  pub some : 0 < id.clients
  pub before : List ClientView
  pub new : AreNew id before
  pub asked : AllAsked id tasks before clients refused

-- legal histories of all domains answer the tasks, together with the refusals
pub record AnswerTasks (id : SessionId) (tasks : List TaskSpecView) (duration : ℕ)
    (histories : List SectionView) (refused : List (ℕ × Refusal)) : Type 0 where
  pub count : length histories ≡ length id.cpu_sets
  pub legal : (d : ℕ) (x : SectionView) → IsDomainIndex id d
      → IsHistoryOf id d [] (slice_index_or histories d x)
  pub answers : AnswersScenario id id.clients tasks duration (map (λ h. h.entries) histories)
      refused

-- the text of the histories of a report was written; they answer the tasks, and the report has what
-- a session leaves
pub record IsRunWritten (id : SessionId) (tasks : List TaskSpecView) (duration : ℕ) (print : Print)
    (writer : Side) (r : Report) : Type 0 where
  pub left : IsLeft id [] r
  pub run : AnswerTasks id tasks duration r.histories.items r.refused.items
  pub written : IsWrittenAs (IsMadeText print tasks r.histories.items) writer

-- the writer took n bytes of the text of histories that answer the tasks, and not all
pub record IsRunCut (id : SessionId) (tasks : List TaskSpecView) (duration : ℕ) (print : Print)
    (writer : Side) (taken : ℕ) : Type 0 where
  pub histories : List SectionView
  pub refused : List (ℕ × Refusal)
  pub run : AnswerTasks id tasks duration histories refused
  pub cut : IsCutAs (IsMadeText print tasks histories) writer taken

-- why it was not written: but for a fault of the writer, nothing was
abbrev pub IsRunUnwritten : SessionId → List TaskSpecView → ℕ → Print → Side → SessionFault → Type 0
IsRunUnwritten id tasks duration print writer (Write taken) =
    IsRunCut id tasks duration print writer taken
IsRunUnwritten id tasks duration print writer Start = IsUntouched writer
IsRunUnwritten id tasks duration print writer Full =
    IsUntouched writer × (0 < duration) × IsFullDomain id id.clients tasks
IsRunUnwritten id tasks duration print writer Memory = IsUntouched writer
IsRunUnwritten id tasks duration print writer _ = ⊥
