-- A run of which client 1's advance is entered in every book before its ticks are made (own).
use Rattle.std.specs.Prelude.{◌≡◌, ℕ, ◌<◌, ◌≤◌, Bool, List, [], length, map, All, slice_index_or}
use Rattle.domain_run.specs.Happened.{logged_by_ticks}
use Rattle.calls_text.specs.SectionView.{SectionView}
use Rattle.call_book.specs.Book.{BookView}
use Rattle.call_book.specs.Playing.{PlayingView, HasWholeRun}
use Rattle.session.specs.SessionId.{SessionId}
use Rattle.session.specs.Asks.{ClientView}
use Rattle.session.specs.Report.{IsHistoryOf}
use Rattle.session.specs.RunEnd.{EndsWith, HaveAdvanced, logged_at_end}

-- the history of a book, as a session's end leaves it
abbrev pub section_of : BookView → SectionView
section_of b = record { cpus = b.cpus; limit = b.limit; entries = b.history }

abbrev pub played_books : List PlayingView → List BookView
played_books books = map (λ p. p.book) books

-- what a session keeps apart from its books, while their ticks are made
pub record UnderWayView : Type 0 where
  -- what each client has entered
  pub clients : List ClientView
  -- the books, of which the ticks are made, as they were begun
  pub books : List BookView

-- their histories are legal, and the entries of each of these clients are the lists of its passes
abbrev pub AreBookHistories : SessionId → List ClientView → List BookView → Type 0
AreBookHistories id clients books =
    (d : ℕ) (x : BookView) → d < length books
    → IsHistoryOf id d clients (section_of (slice_index_or books d x))

-- all ticks of these books are made
abbrev pub AreAllMade : List PlayingView → Type 0
AreAllMade books = All (λ p. p.left ≡ 0) books

-- no switch of these books was forgotten yet
abbrev pub HaveWholeRuns : List PlayingView → Type 0
HaveWholeRuns books = All HasWholeRun books

-- what happens in a book is logged if it is wanted, and the log is empty
pub record IsUnlogged (wanted : Bool) (p : PlayingView) : Type 0 where
  pub logs : p.logs ≡ wanted
  pub logged : p.logged ≡ []

abbrev pub AreUnlogged : Bool → List PlayingView → Type 0
AreUnlogged wanted books = All (IsUnlogged wanted) books

-- at most so many ticks of a book are left, and they tell what so many ticks at the end of its
-- history log
pub record LogsItsEnd (ticks : ℕ) (p : PlayingView) : Type 0 where
  pub most : p.left ≤ ticks
  pub has_logged : logged_by_ticks p.left p.at
      ≡ logged_at_end ticks p.book.cpus p.book.limit p.book.history

abbrev pub LogTheirEnds : ℕ → List PlayingView → Type 0
LogTheirEnds ticks books = All (LogsItsEnd ticks) books

-- the run is begun, by clients that had entered so much: client 1's advance of the whole duration
-- is the last entry of each history, and nothing else was entered; at hand and to come are the
-- switches of the run of each history, and what the advance logs is still to be logged
pub record IsRunBegun (id : SessionId) (duration : ℕ) (logs : Bool) (clients : List ClientView)
    (books : List PlayingView) (rest : UnderWayView) : Type 0 where
  pub advanced : HaveAdvanced duration clients rest.clients
  pub same : played_books books ≡ rest.books
  pub count : length rest.books ≡ length id.cpu_sets
  pub histories : AreBookHistories id rest.clients rest.books
  pub ends : (d : ℕ) (x : BookView) → d < length rest.books
      → EndsWith duration (slice_index_or rest.books d x).history
  pub whole : HaveWholeRuns books
  pub unlogged : AreUnlogged logs books
  pub say : LogTheirEnds duration books
