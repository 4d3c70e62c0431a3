-- Books whose advance is made while their switches are written.
use Rattle.std.specs.Prelude.{◌≡◌, ℕ, ◌≤◌, Bool, if◌then◌else◌, List, [], length, map, All, vec_capacity}
use Rattle.std.specs.List.{AllZip}
use Rattle.domain_run.specs.Happened.{logged_by_ticks}
use Rattle.calls_text.specs.SectionView.{SectionView}
use Rattle.calls_text.specs.Limits.{IsSection}
use Rattle.calls_text.specs.Histories.{AreLegal}
use Rattle.switch_text.specs.Names.{Names, name_of_task}
use Rattle.switch_text.specs.SlicedTrace.{SlicedView}
use Rattle.switch_text.specs.SlicedEvents.{SlicedEventsView}
use Rattle.switch_text.specs.Events.{LoggedView}
use Rattle.call_book.specs.Book.{BookView}
use Rattle.call_book.specs.Playing.{PlayingView, switches_ahead, logged_ahead}
use Rattle.calls_trace.specs.HistoryNames.{AreNamesOf}
use Rattle.calls_trace.specs.DomainEvents.{names_in, logged_of}
use Rattle.session.specs.Begun.{section_of, played_books, HaveWholeRuns}
use Rattle.dl_session.specs.declared.played.PlayedRun.{PlayedRun}
use Rattle.dl_session.specs.declared.played_books.Room.{Room}
use Rattle.limits.specs.Limits.{max_advance}

-- as it is written
abbrev pub played_slices : PlayedRun → SlicedView
played_slices p = record {
  base = p.base;
  names = name_of_task p.names;
  at_hand = p.book.at.switches;
  to_come = switches_ahead p.book;
}

-- and with what happens
abbrev pub played_events : PlayedRun → SlicedEventsView
played_events p = record {
  base = p.base;
  names = name_of_task p.names;
  at_hand = p.book.at.switches;
  to_come = switches_ahead p.book;
  logged = p.book.logged;
  to_log = logged_ahead p.book;
}

-- the book, which is not changed while the ticks are made
abbrev pub played_book : PlayedRun → BookView
played_book p = p.book.book

-- the histories of these books
abbrev pub played_histories : List PlayingView → List SectionView
played_histories books = map section_of (played_books books)

-- the names of the tasks of a book
abbrev pub IsNamedBook : BookView → Names → Type 0
IsNamedBook b names = AreNamesOf (section_of b) names

-- what happens in the run of a history, where it is logged, on these CPUs of the machine
abbrev pub logged_at : Bool → ℕ → SectionView → LoggedView
logged_at logs base s = record {
  base = base;
  names = names_in s;
  happened = if logs then logged_of s else [];
}

-- the ticks that are left of a book are few, and tell what its whole history logs
pub record LogsAll (p : PlayingView) : Type 0 where
  pub few : p.left ≤ max_advance
  pub all : logged_by_ticks p.left p.at ≡ logged_of (section_of p.book)

-- what happens in these books is logged if it is wanted
abbrev pub AreLogging : Bool → List PlayingView → Type 0
AreLogging wanted books = All (λ p. p.logs ≡ wanted) books

-- of at most 8 books no switch was forgotten and nothing is logged yet, and their histories are
-- legal and have a spelling
pub record AreReady (books : List PlayingView) : Type 0 where
  pub few : length books ≤ 8
  pub sections : All IsSection (played_histories books)
  pub legal : AreLegal (played_histories books)
  pub whole : HaveWholeRuns books
  pub unlogged : All (λ p. p.logged ≡ []) books
  pub say : All LogsAll books

-- room for as many books, of which none is there yet, and the names of each
pub record IsRoomFor (books : List PlayingView) (room : Room) : Type 0 where
  pub named : AllZip IsNamedBook (played_books books) room.names.items
  pub no_runs : room.runs.items ≡ []
  pub for_runs : length books ≤ vec_capacity room.runs
  pub no_books : room.books.items ≡ []
  pub for_books : length books ≤ vec_capacity room.books
