-- What a move of a task from one book to another answers. A task has its bandwidth in one root
-- domain (sched-deadline.rst, on exclusive cpusets; a kernel asks the new root domain for room
-- first). Two clocks are apart, so where it arrives a task begins anew (own).
use Rattle.std.specs.Prelude.{◌≡◌, ◌≢◌, ℕ, ◌+◌, ◌<◌, ◌≤◌, ◌⊎◌, List, [], ◌∷◌, ◌++◌, length, Option, Some, IfNone}
use Rattle.std.specs.Option.{option_to_list}
use Rattle.attr_check.specs.ParamsView.{ParamsView}
use Rattle.attr_check.specs.Ratio.{cap}
use Rattle.pass_seats.specs.Lists.{PassView}
use Rattle.bw_gate.specs.Pieces.{BlankView, TicketView}
use Rattle.domain_run.specs.declared.call.Call.{Call}
use Rattle.domain_run.specs.declared.call.Call.TheVariants.{Depart, Arrive}
use Rattle.domain_run.specs.declared.call.Reply.TheVariants as replies
use Rattle.domain_run.specs.Domain.{Domain, IsLimit}
use Rattle.domain_run.specs.Calls.{reply_to}
use Rattle.domain_run.specs.Views.{Moving, moving_in}
use Rattle.calls_text.specs.declared.section.Entry.{Entry}
use Rattle.call_book.specs.declared.book.stock.Held.{Held}
use Rattle.call_book.specs.declared.book.domain.moving.MoveFault.{MoveFault}
use Rattle.call_book.specs.declared.book.domain.moving.MoveFault.TheVariants as faults
use Rattle.call_book.specs.declared.book.domain.moving.Move.{Move}
use Rattle.call_book.specs.declared.book.domain.moving.Move.TheVariants.{Moved, Full, NotListed, Stale, Twice, Busy}
use Rattle.call_book.specs.Pieces.{IsTicketOf}
use Rattle.call_book.specs.Book.{BookView, state_of, AdmissionView, IsFull, Enters, Stays}

-- ---- what a move works on

-- the book that the task goes from and the one that it comes to, each with a pass of the client
pub record Sides : Type 0 where
  pub from : BookView
  pub out : PassView Entry
  pub to : BookView
  pub into : PassView Entry

-- what was prepared of the task, and the call by which it arrives
abbrev pub moving_as : AdmissionView → Moving
moving_as a = record { name = a.name; params = a.params; script = a.script }

abbrev pub arrival : AdmissionView → Call
arrival a = Arrive a.number a.name a.params a.script

-- ---- the tests, in their order

-- both histories have room, and the list of tasks where it comes to
pub record BothHaveRoom (from to : BookView) (a : AdmissionView) : Type 0 where
  pub from_book : length from.history < from.room
  pub to_book : length to.history < to.room
  pub listed : reply_to (state_of to) (arrival a) ≢ replies.Full

-- the task is listed, has not ended, and is as it was prepared
abbrev pub IsAsPrepared : BookView → AdmissionView → Type 0
IsAsPrepared from a = moving_in (state_of from) a.number ≡ Some (moving_as a)

-- it is listed, but its name, its parameters or its script are others, and its parameters are these
pub record IsStale (from : BookView) (a : AdmissionView) (now : ParamsView) : Type 0 where
  pub task : Moving
  pub found : moving_in (state_of from) a.number ≡ Some task
  pub differs : task ≢ moving_as a
  pub logged : now ≡ task.params

-- the sum of bandwidths where it comes to has no room for it
pub record LacksRoom (to : BookView) (a : AdmissionView) (seen : ℕ) : Type 0 where
  pub reply : reply_to (state_of to) (arrival a) ≡ replies.Busy seen
  pub a_limit : IsLimit (state_of to).limit
  pub within : seen ≤ cap to.cpus (state_of to).limit
  pub above : cap to.cpus (state_of to).limit < seen + a.params.bw

-- ---- the answers

-- a ticket is taken out of a list of tickets, and no other one moves
pub record IsTakenOut (number : ℕ) (old new : List Held) (ticket : TicketView) : Type 0 where
  pub before : List Held
  pub following : List Held
  pub old_tickets : old ≡ before ++ record { number = number; ticket = ticket } ∷ following
  pub new_tickets : new ≡ before ++ following

-- One departure stands in the one book and one arrival in the other, each in its pass too. The new
-- ticket is held for the task, the old one is handed out, and a blank that is kept there comes here
pub record IsMoved (old new : Sides) (a : AdmissionView) (ticket back : TicketView) : Type 0 where
  pub as_prepared : IsAsPrepared old.from a
  pub left : Enters old.from new.from old.out new.out (Depart a.number) replies.Departed
  pub came : Enters old.to new.to old.into new.into (arrival a) replies.Admitted
  pub taken : IsTakenOut a.number old.from.tickets new.from.tickets back
  pub held : new.to.tickets ≡ old.to.tickets ++ record { number = a.number; ticket = ticket } ∷ []
  pub blank : Option BlankView
  pub handed : old.to.blanks ≡ new.to.blanks ++ option_to_list blank
  pub kept : new.from.blanks ≡ old.from.blanks ++ option_to_list blank
  pub none : IfNone blank (old.to.blanks ≡ [])
  pub bw : back.bw ≡ a.params.bw
  pub own : IsTicketOf old.from.gate old.from.domain back

-- neither book changes, and ticket and task come back
pub record ComeBack (old new : Sides) (a b : AdmissionView) (ticket back : TicketView)
    : Type 0 where
  pub from : Stays old.from new.from old.out new.out
  pub to : Stays old.to new.to old.into new.into
  pub ticket_back : back ≡ ticket
  pub task_back : b ≡ a

abbrev pub IsMove : Sides → Sides → AdmissionView → TicketView → Move → Type 0
IsMove old new a ticket (Moved back) = IsMoved old new a ticket back
IsMove old new a ticket (Full back b) =
    ComeBack old new a b ticket back
    × (IsFull old.from ⊎ IsFull old.to ⊎ (reply_to (state_of old.to) (arrival a) ≡ replies.Full))
IsMove old new a ticket (NotListed back b) =
    ComeBack old new a b ticket back × BothHaveRoom old.from old.to a
    × (reply_to (state_of old.from) (Depart a.number) ≡ replies.NotListed)
IsMove old new a ticket (Stale now back b) =
    ComeBack old new a b ticket back × BothHaveRoom old.from old.to a × IsStale old.from a now
IsMove old new a ticket (Twice back b) =
    ComeBack old new a b ticket back × BothHaveRoom old.from old.to a × IsAsPrepared old.from a
    × (reply_to (state_of old.to) (arrival a) ≡ replies.Twice)
IsMove old new a ticket (Busy seen back b) =
    ComeBack old new a b ticket back × BothHaveRoom old.from old.to a × IsAsPrepared old.from a
    × LacksRoom old.to a seen

-- PREPARE. Nothing is prepared: no such task may depart, or there was no memory though one may
abbrev pub IsUnprepared : Domain → ℕ → MoveFault → Type 0
IsUnprepared state number faults.NotListed = reply_to state (Depart number) ≡ replies.NotListed
IsUnprepared state number faults.Memory = reply_to state (Depart number) ≡ replies.Departed
