-- A book that has no room for the advance, once a scenario's tasks were asked (own).
use Rattle.std.specs.Prelude.{◌≡◌, ℕ, ◌+◌, ◌<◌, List, [], length, map, All}
use Rattle.rtapp_scenario.specs.ScenarioView.{TaskSpecView}
use Rattle.calls_text.specs.declared.section.Entry.{Entry}
use Rattle.calls_text.specs.SectionView.{SectionView}
use Rattle.call_book.specs.Book.{own_entries}
use Rattle.session.specs.SessionId.{SessionId, IsDomainIndex}
use Rattle.session.specs.Asks.{IsLawful, Asked, made_in, entries_from}
use Rattle.session.specs.Report.{IsHistoryOf}
use Rattle.session.specs.Admissions.{own_asked}
use Rattle.dl_session.specs.ScenarioAnswers.{IsByCap}

-- the admissions of a scenario alone, in one domain, for this number of clients: there is a lawful
-- answer for each task, and EBUSY of this domain's book is by its cap; and the entries of each
-- client are the calls of its own tasks that were answered there, in the order of tasks
pub record AnswersTasks (id : SessionId) (clients : ℕ) (tasks : List TaskSpecView) (d : ℕ)
    (history : List Entry) : Type 0 where
  pub asked : List Asked
  pub tasks_are : map (λ q. q.task) asked ≡ tasks
  pub lawful : All (λ q. IsLawful id q.task q.answer) asked
  pub by_cap : All (λ q. IsByCap id d q.task q.answer) asked
  pub entries : (i : ℕ) → i < clients
      → own_entries (i + 1) history
      ≡ entries_from (i + 1) 0 (made_in id d (own_asked clients i asked))

-- a domain of the session has no room for a call more: its history is legal and was made by the
-- session's clients, the admissions of the tasks stand in it and nothing else, and these are as
-- many entries as it has room for
pub record IsFullDomain (id : SessionId) (clients : ℕ) (tasks : List TaskSpecView) : Type 0 where
  pub domain : ℕ
  pub place : IsDomainIndex id domain
  pub history : SectionView
  pub legal : IsHistoryOf id domain [] history
  pub answers : AnswersTasks id clients tasks domain history.entries
  pub full : length history.entries ≡ id.max_calls
