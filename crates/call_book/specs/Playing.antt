-- A book whose last advance is entered first, and made piece by piece then (own).
use Rattle.std.specs.Prelude.{◌≡◌, ℕ, ◌-◌, ◌<◌, ◌≤◌, Bool, if◌then◌else◌, List, [], ◌++◌, filter}
use Rattle.pass_seats.specs.Lists.{PassView}
use Rattle.bw_gate.specs.Pieces.{BlankView}
use Rattle.domain_run.specs.declared.call.Call.TheVariants.{Advance}
use Rattle.domain_run.specs.declared.call.Reply.TheVariants.{Done}
use Rattle.domain_run.specs.Coming.{switches_to_come}
use Rattle.domain_run.specs.declared.happened.Happened.{Happened}
use Rattle.domain_run.specs.Domain.{Domain}
use Rattle.domain_run.specs.Happened.{logged_by_ticks}
use Rattle.domain_run.specs.Passing.{without_switches}
use Rattle.domain_run.specs.Switch.{Switch}
use Rattle.domain_run.specs.Tick.{ticks}
use Rattle.calls_text.specs.declared.section.Entry.{Entry}
use Rattle.call_book.specs.Pieces.{is_kept, is_gone, AreGiven}
use Rattle.call_book.specs.Book.{BookView, state_of, EntersAlone}
use Rattle.call_book.specs.BookAnswers.{IsAdvanced}
use Rattle.call_book.specs.Ending.{EndingView, state_left}

pub record PlayingView : Type 0 where
  -- its history has the advance from its beginning on; its tickets are those from before
  pub book : BookView
  -- the domain as far as it is made; its switches are those at hand
  pub at : Domain
  -- how many ticks are still to be made
  pub left : ℕ
  -- whether what happens is logged
  pub logs : Bool
  -- what happened and waits in the log
  pub logged : List Happened

-- before an advance is entered: nothing is left to be made, and the log is empty
abbrev pub played_from : Bool → EndingView → PlayingView
played_from logs e = record { book = e.book; at = state_left e; left = 0; logs = logs; logged = [] }

-- the switches that are still to come
abbrev pub switches_ahead : PlayingView → List Switch
switches_ahead p = switches_to_come p.left p.at

-- those at hand, and then those to come
abbrev pub all_switches : PlayingView → List Switch
all_switches p = p.at.switches ++ switches_ahead p

-- what so many ticks log, if it is logged
abbrev pub logged_if : Bool → ℕ → Domain → List Happened
logged_if logs n d = if logs then logged_by_ticks n d else []

-- what the ticks that are left will log
abbrev pub logged_ahead : PlayingView → List Happened
logged_ahead p = logged_if p.logs p.left p.at

-- what waits in the log, and then what is still to be logged
abbrev pub all_logged : PlayingView → List Happened
all_logged p = p.logged ++ logged_ahead p

-- the switches are those of the whole run: none of them was forgotten
abbrev pub HasWholeRun : PlayingView → Type 0
HasWholeRun p = all_switches p ≡ (state_of p.book).switches

-- what is left leads to the run of the history, whichever switches were forgotten
abbrev pub LeadsToRun : PlayingView → Type 0
LeadsToRun p = without_switches (ticks p.left p.at) ≡ without_switches (state_of p.book)

-- some of the ticks that were left are made, and nothing else has changed but what was logged
pub record IsFurther (old new : PlayingView) : Type 0 where
  pub made : ℕ
  pub most : made ≤ old.left
  pub play : new
      ≡ record old { at = ticks made old.at; left = old.left - made; logged = new.logged }

-- the tickets of tasks that the advance took off the list were given back and their blanks kept,
-- and no others
pub record IsSweptBook (old new : BookView) : Type 0 where
  pub book : new ≡ record old { tickets = new.tickets; blanks = new.blanks }
  pub tickets : new.tickets ≡ filter (is_kept (state_of old)) old.tickets
  pub given : List BlankView
  pub blanks : new.blanks ≡ old.blanks ++ given
  pub are_given : AreGiven (filter (is_gone (state_of old)) old.tickets) given

-- PLAYING IS ADVANCING: a book whose advance was entered first, and that is finished, is as if all
-- its ticks had been made at once
abbrev pub PlayingIsAdvancing : Type 0
PlayingIsAdvancing =
    (old begun new : BookView) (p q : PassView Entry) (n : ℕ) → 0 < n
    → EntersAlone old begun p q (Advance n) (Done n) → IsSweptBook begun new
    → IsAdvanced old new p q n (Done n)
