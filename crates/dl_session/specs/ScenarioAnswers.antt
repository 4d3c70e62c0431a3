-- Which histories and refusals answer a scenario (own).
use Rattle.std.specs.Prelude.{◌≡◌, ℕ, ◌+◌, ◌≤◌, ◌<◌, List, [], ◌++◌, length, map, Ok, All, slice_index_or}
use Rattle.attr_check.specs.Accepted.{params_of}
use Rattle.domain_run.specs.declared.call.Reply.TheVariants as replies
use Rattle.rtapp_scenario.specs.ScenarioView.{TaskSpecView}
use Rattle.calls_text.specs.declared.section.Entry.{Entry}
use Rattle.call_book.specs.Book.{IsMember, own_entries}
use Rattle.session.specs.declared.refusal.Refusal.{Refusal}
use Rattle.session.specs.SessionId.{SessionId, cap_in}
use Rattle.session.specs.Asks.{Answer, Goes, IsLawful, Asked, made_in, entries_from}
use Rattle.session.specs.Admissions.{own_asked, refused_in}
use Rattle.session.specs.RunEnd.{advance_of, EndsWith}

-- the history of a domain
abbrev pub history_of : List (List Entry) → ℕ → List Entry
history_of histories d = slice_index_or histories d []

-- EBUSY of a book is by the cap that the domain was opened with, since nobody changes its limit:
-- the sum that was seen is at most this cap, and leaves no room for the task below it
pub record IsOverItsCap (id : SessionId) (t : TaskSpecView) (d seen : ℕ) : Type 0 where
  pub within : seen ≤ cap_in id d
  pub above : cap_in id d < seen + (params_of t.attr).bw

abbrev pub IsByCap : SessionId → ℕ → TaskSpecView → Answer → Type 0
IsByCap id d t (Ok (replies.Busy seen)) = Goes id t d → IsOverItsCap id t d seen
IsByCap id d t _ = Unit {0}

-- ANSWERS OF A SCENARIO, for this number of clients. There is a lawful answer for each task, and
-- EBUSY of a book is by the cap of its domain; the refusals are those among the answers; nobody but
-- the clients entered anything; in each domain the entries of each client are the calls of its own
-- tasks that were answered there, in the order of tasks, and then its advance; and the advance is
-- the last entry of all
pub record AnswersScenario (id : SessionId) (clients : ℕ) (tasks : List TaskSpecView)
    (duration : ℕ) (histories : List (List Entry)) (refused : List (ℕ × Refusal)) : Type 0 where
  pub asked : List Asked
  pub tasks_are : map (λ q. q.task) asked ≡ tasks
  pub lawful : All (λ q. IsLawful id q.task q.answer) asked
  pub by_cap : (d : ℕ) → d < length histories → All (λ q. IsByCap id d q.task q.answer) asked
  pub refused_are : refused ≡ refused_in asked
  pub members : (d : ℕ) → d < length histories
      → All (λ e. IsMember clients e.client) (history_of histories d)
  pub entries : (d i : ℕ) → d < length histories → i < clients
      → own_entries (i + 1) (history_of histories d)
      ≡ entries_from (i + 1) 0
      (made_in id d (own_asked clients i asked) ++ advance_of duration (i + 1))
  pub ends : (d : ℕ) → d < length histories → EndsWith duration (history_of histories d)
