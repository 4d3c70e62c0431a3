-- What the calls of a book answer.
use Rattle.std.specs.Prelude.{◌≡◌, ◌≢◌, ℕ, ◌+◌, ◌<◌, ◌≤◌, ◌⊎◌, List, [], ◌∷◌, ◌++◌, length, filter, Option, None, IfNone, IfSome, All}
use Rattle.std.specs.Option.{option_to_list}
use Rattle.attr_check.specs.ParamsView.{ParamsView}
use Rattle.attr_check.specs.Ratio.{cap}
use Rattle.pass_seats.specs.Lists.{PassView}
use Rattle.bw_gate.specs.Pieces.{BlankView, TicketView}
use Rattle.domain_run.specs.declared.call.Call.TheVariants.{Regrade, Advance}
use Rattle.domain_run.specs.declared.call.Reply.{Reply}
use Rattle.domain_run.specs.declared.call.Reply.TheVariants as replies
use Rattle.domain_run.specs.Domain.{IsLimit}
use Rattle.domain_run.specs.Happened.{logged_by_ticks}
use Rattle.domain_run.specs.Log.{LogView, HasLogged}
use Rattle.domain_run.specs.Calls.{reply_to}
use Rattle.calls_text.specs.declared.section.Entry.{Entry}
use Rattle.call_book.specs.declared.book.domain.AdvanceError.{AdvanceError}
use Rattle.call_book.specs.declared.book.domain.AdvanceError.TheVariants as stops
use Rattle.call_book.specs.declared.book.domain.Admit.{Admit}
use Rattle.call_book.specs.declared.book.domain.Admit.TheVariants.{Admitted, Busy, Full, Twice}
use Rattle.call_book.specs.Pieces.{is_kept, is_gone, AreGiven, IsTicketOf, AsksTheWord}
use Rattle.call_book.specs.Book.{BookView, state_of, AdmissionView, admission, IsFull, Enters, EntersAlone, Stays, IsRefusedFull}

-- ADMIT. The task is listed, its ticket is held for it, and a blank is handed out where one is kept
pub record IsAdmittedInBook (old new : BookView) (p q : PassView Entry) (a : AdmissionView)
    (ticket : TicketView) (blank : Option BlankView) : Type 0 where
  pub entered : Enters old new p q (admission a) replies.Admitted
  pub tickets : new.tickets ≡ old.tickets ++ record { number = a.number; ticket = ticket } ∷ []
  pub handed : old.blanks ≡ new.blanks ++ option_to_list blank
  pub none : IfNone blank (old.blanks ≡ [])
  pub own : IfSome blank (λ b. b.gate ≡ old.gate)

-- the sum of bandwidths has no room for the task under the limit that the state has, and the ticket
-- comes back
pub record IsBusy (old new : BookView) (p q : PassView Entry) (a : AdmissionView)
    (ticket back : TicketView) (seen : ℕ) : Type 0 where
  pub entered : EntersAlone old new p q (admission a) (replies.Busy seen)
  pub a_limit : IsLimit (state_of old).limit
  pub within : seen ≤ cap old.cpus (state_of old).limit
  pub above : cap old.cpus (state_of old).limit < seen + a.params.bw
  pub ticket_back : back ≡ ticket

-- nothing changes, and ticket and admission come back
pub record ComesBack (old new : BookView) (p q : PassView Entry) (a b : AdmissionView)
    (ticket back : TicketView) : Type 0 where
  pub stays : Stays old new p q
  pub ticket_back : back ≡ ticket
  pub admission_back : b ≡ a

abbrev pub IsAdmit : BookView → BookView → PassView Entry → PassView Entry → AdmissionView
    → TicketView → Admit → Type 0
IsAdmit old new p q a ticket (Admitted blank) = IsAdmittedInBook old new p q a ticket blank
IsAdmit old new p q a ticket (Busy back seen) = IsBusy old new p q a ticket back seen
IsAdmit old new p q a ticket (Full back b) =
    ComesBack old new p q a b ticket back
    × (IsFull old ⊎ (reply_to (state_of old) (admission a) ≡ replies.Full))
IsAdmit old new p q a ticket (Twice back b) =
    ComesBack old new p q a b ticket back × (length old.history < old.room)
    × (reply_to (state_of old) (admission a) ≡ replies.Twice)

-- REGRADE. Where the domain's own test passes, the task's ticket, like all of the book's gate and
-- domain, asks the word, and its answer stands in the entry; elsewhere the word is not asked, and
-- no ticket changes
pub record IsRegraded (old new : BookView) (p q : PassView Entry) (number : ℕ)
    (params : ParamsView) (reply : Reply) : Type 0 where
  pub word : Option ℕ
  pub entered : Enters old new p q (Regrade number params word) reply
  pub blanks : new.blanks ≡ old.blanks
  pub asked : reply_to (state_of old) (Regrade number params None) ≡ replies.Changed
      → AsksTheWord number params.bw old.tickets new.tickets word
  pub own : reply_to (state_of old) (Regrade number params None) ≡ replies.Changed
      → All (λ h. IsTicketOf old.gate old.domain h.ticket) old.tickets
  pub unasked : reply_to (state_of old) (Regrade number params None) ≢ replies.Changed
      → (word ≡ None) × (new.tickets ≡ old.tickets)

-- ADVANCE. So many ticks were made, at least one; the tickets of tasks that went off the list are
-- given back and their blanks kept, and no others
pub record IsAdvanced (old new : BookView) (p q : PassView Entry) (n : ℕ)
    (reply : Reply) : Type 0 where
  pub made : ℕ
  pub some : 0 < made
  pub most : made ≤ n
  pub done : reply ≡ replies.Done made
  pub entered : Enters old new p q (Advance made) reply
  pub tickets : new.tickets ≡ filter (is_kept (state_of new)) old.tickets
  pub given : List BlankView
  pub blanks : new.blanks ≡ old.blanks ++ given
  pub are_given : AreGiven (filter (is_gone (state_of new)) old.tickets) given

abbrev pub IsNotAdvanced : BookView → BookView → PassView Entry → PassView Entry → AdvanceError
    → Type 0
IsNotAdvanced old new p q stops.Full = IsRefusedFull old new p q
IsNotAdvanced old new p q stops.Memory = (length old.history < old.room) × Stays old new p q

-- a log has what happened in the ticks that an advance made
pub record LogsAdvance (old : BookView) (before after : LogView) (reply : Reply) : Type 0 where
  pub made : ℕ
  pub done : reply ≡ replies.Done made
  pub logged : HasLogged before (logged_by_ticks made (state_of old)) after
