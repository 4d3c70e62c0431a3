-- What a call sees of a domain's book while it holds the domain's lock (own).
use Rattle.std.specs.Prelude.{◌≡◌, ◌⊎◌, ℕ, ◌≤◌, ◌<◌, List, length, All, Option, Some, None, Result, Ok, Err}
use Rattle.bw_gate.specs.Pieces.{BlankView}
use Rattle.domain_run.specs.declared.call.Call.{Call}
use Rattle.domain_run.specs.declared.call.Reply.{Reply}
use Rattle.domain_run.specs.declared.call.Reply.TheVariants as replies
use Rattle.domain_run.specs.Domain.{Domain}
use Rattle.domain_run.specs.Calls.{reply_to}
use Rattle.domain_run.specs.Run.{run_of}
use Rattle.calls_text.specs.declared.section.Entry.{Entry}
use Rattle.calls_text.specs.OwnCalls.{IsNumbered}
use Rattle.calls_text.specs.Histories.{IsLegal, calls_of}
use Rattle.call_book.specs.Book.{IsMember, own_entries}
use Rattle.session.specs.declared.refusal.Refusal.{Refusal}
use Rattle.session.specs.declared.refusal.Refusal.TheVariants as refusals
use Rattle.session.specs.SessionId.{SessionId, cpu_set_of}

-- a client's part of a domain's book: its number, and what it has entered there
pub record ClientPart : Type 0 where
  pub client : ℕ
  pub entries : List Entry

-- The history that a call of this client saw under the domain's lock: it is legal, each client's
-- entries are numbered in their order, no stranger made one, the book has room for them, and the
-- client's own are exactly those of its pass. In a session of one client it is that pass
pub record Saw (id : SessionId) (d : ℕ) (part : ClientPart) : Type 0 where
  pub history : List Entry
  pub legal : IsLegal (length (cpu_set_of id d)) id.limit history
  pub numbered : IsNumbered history
  pub members : All (λ e. IsMember id.clients e.client) history
  pub within : length history ≤ id.max_calls
  pub own : part.entries ≡ own_entries part.client history

-- so it is exact where there is one client alone
abbrev pub OneSeesAll : Type 0
OneSeesAll =
    (id : SessionId) (d : ℕ) (part : ClientPart) (saw : Saw id d part)
    → id.clients ≡ 1 → part.client ≡ 1 → saw.history ≡ part.entries

-- the state to which that history leads
abbrev pub state_seen : (id : SessionId) (d : ℕ) (part : ClientPart) → Saw id d part → Domain
state_seen id d part saw = run_of (length (cpu_set_of id d)) id.limit (calls_of saw.history)

-- in that state a call has this reply
pub record WouldReply (id : SessionId) (d : ℕ) (part : ClientPart) (call : Call)
    (reply : Reply) : Type 0 where
  pub saw : Saw id d part
  pub replied : reply_to (state_seen id d part saw) call ≡ reply

-- the book was full, or it was not
pub record SawFull (id : SessionId) (d : ℕ) (part : ClientPart) : Type 0 where
  pub saw : Saw id d part
  pub full : length saw.history ≡ id.max_calls

pub record SawRoom (id : SessionId) (d : ℕ) (part : ClientPart) : Type 0 where
  pub saw : Saw id d part
  pub room : length saw.history < id.max_calls

-- why a call on a listed task stands in no book: Full where the book was full; ENOMEM where it was
-- not
abbrev pub RefusalWasSeen : SessionId → ℕ → ClientPart → Result Reply Refusal → Type 0
RefusalWasSeen id d part (Err refusals.Full) = SawFull id d part
RefusalWasSeen id d part (Err refusals.Enomem) = SawRoom id d part
RefusalWasSeen id d part _ = Unit {0}

-- the same, and where there is a reply it is the one that the state seen gives
abbrev pub AnswerWasSeen : SessionId → ℕ → ClientPart → Call → Result Reply Refusal → Type 0
AnswerWasSeen id d part call (Ok reply) = WouldReply id d part call reply
AnswerWasSeen id d part call (Err refusal) = RefusalWasSeen id d part (Err refusal)

-- what the book answered to an admission: Full where it was full, or where 256 tasks were listed
abbrev pub AdmissionWasSeen : SessionId → ℕ → ClientPart → Call → Result Reply Refusal → Type 0
AdmissionWasSeen id d part call (Ok reply) = WouldReply id d part call reply
AdmissionWasSeen id d part call (Err refusals.Full) =
    SawFull id d part ⊎ WouldReply id d part call replies.Full
AdmissionWasSeen id d part call (Err refusals.Twice) = WouldReply id d part call replies.Twice
AdmissionWasSeen id d part call (Err _) = ⊥

-- the same, by what is in hand then. The gate's EBUSY and ENOMEM come before the lock, and Full is
-- logged without a piece too, where there was none: nothing was seen then
abbrev pub EntryWasSeen : SessionId → ℕ → ClientPart → Call → Result Reply Refusal
    → Option BlankView → Type 0
EntryWasSeen id d part call (Ok reply) next = WouldReply id d part call reply
EntryWasSeen id d part call (Err refusals.Full) None = Unit {0}
EntryWasSeen id d part call (Err refusals.Full) (Some back) =
    SawFull id d part ⊎ WouldReply id d part call replies.Full
EntryWasSeen id d part call (Err refusals.Twice) next = WouldReply id d part call replies.Twice
EntryWasSeen id d part call (Err _) next = Unit {0}
