-- What a move under both domains' locks comes to.
use Rattle.std.specs.Prelude.{◌≡◌, ◌⊎◌, ℕ, ◌<◌, List, [], length, set, IsSomeAnd, slice_index_or, Result, Ok, Err}
use Rattle.pass_seats.specs.Lists.{PassView}
use Rattle.bw_gate.specs.Pieces.{BlankView, TicketView}
use Rattle.bw_gate.specs.Answers.{IsGive}
use Rattle.domain_run.specs.declared.call.Call.TheVariants.{Depart}
use Rattle.domain_run.specs.declared.call.Reply.TheVariants as replies
use Rattle.calls_text.specs.declared.section.Entry.{Entry}
use Rattle.call_book.specs.declared.book.domain.moving.MoveFault.{MoveFault}
use Rattle.call_book.specs.declared.book.domain.moving.MoveFault.TheVariants as faults
use Rattle.call_book.specs.Pieces.{IsTicketOf}
use Rattle.domain_run.specs.Calls.{reply_to}
use Rattle.call_book.specs.Book.{BookView, AdmissionView, IsMember, IsFull, state_of, with_entry}
use Rattle.call_book.specs.MoveAnswers.{moving_as, arrival, BothHaveRoom, IsAsPrepared, IsStale, LacksRoom}
use Rattle.session.specs.declared.refusal.Refusal.{Refusal}
use Rattle.session.specs.declared.refusal.Refusal.TheVariants as refusals
use Rattle.session.specs.SessionId.{SessionId, cpu_set_of, spine_of}
use Rattle.session.specs.Seen.{ClientPart, WouldReply}
use Rattle.session.specs.Asks.{IsOverCap, ClientView, part_in, Makes}
use Rattle.session.specs.Moves.{calls_of_move, WasListed, WasChanged, NoRoomWasSeen}
use Rattle.session.specs.private.Entering.{IsPassAt, part_with}

-- ---- what a move needs

-- a ticket of the domain to which a task comes, which has the task's bandwidth
pub record IsMoveAsk (id : SessionId) (to : ℕ) (a : AdmissionView) (ticket : TicketView)
    : Type 0 where
  pub own : IsTicketOf id.gate to ticket
  pub bw : ticket.bw ≡ a.params.bw
  pub soon : a.delay ≡ 0

-- the passes are those of one client
pub record AreOfOne (id : SessionId) (passes : List (PassView Entry)) : Type 0 where
  pub client : ℕ
  pub member : IsMember id.clients client
  pub count : length passes ≡ length id.cpu_sets
  pub each : (d : ℕ) (x : PassView Entry) → d < length passes
      → IsPassAt id client d (slice_index_or passes d x)

-- nothing can be prepared: in the state seen no such task may depart, or one may, and there was no
-- memory
abbrev pub IsUnpreparedAt : SessionId → ℕ → ℕ → ClientPart → MoveFault → Type 0
IsUnpreparedAt id d number part faults.NotListed =
    WouldReply id d part (Depart number) replies.NotListed
IsUnpreparedAt id d number part faults.Memory =
    WouldReply id d part (Depart number) replies.Departed

-- what the client is answered then
abbrev pub refusal_by : MoveFault → Refusal
refusal_by faults.NotListed = refusals.Esrch
refusal_by faults.Memory = refusals.Enomem

-- ---- under both locks

-- a client's pass of each of the two domains, before and after
pub record PassPair : Type 0 where
  pub out : PassView Entry
  pub into : PassView Entry

-- both are of one client of the session
pub record IsPassPair (id : SessionId) (from to : ℕ) (pair : PassPair) : Type 0 where
  pub out : pair.out.spine ≡ spine_of id from
  pub into : pair.into.spine ≡ spine_of id to
  pub member : IsMember id.clients pair.out.client
  pub client : pair.out.client ≡ pair.into.client

-- each has its entry, and the old ticket was given back
pub record IsMovedBy (id : SessionId) (from to : ℕ) (old new : PassPair) (a : AdmissionView)
    (blank : BlankView) : Type 0 where
  pub left : new.out ≡ with_entry old.out (Depart a.number) replies.Departed
  pub came : new.into ≡ with_entry old.into (arrival a) replies.Admitted
  pub listed : WasListed id from a.number (part_with old.out) (moving_as a)
  pub leaves : WouldReply id from (part_with old.out) (Depart a.number) replies.Departed
  pub comes : WouldReply id to (part_with old.into) (arrival a) replies.Admitted
  pub ticket : TicketView
  pub own : IsTicketOf id.gate from ticket
  pub bw : ticket.bw ≡ a.params.bw
  pub given : IsGive ticket blank

-- why the books refuse it
abbrev pub IsWhyRefused : SessionId → ℕ → ℕ → ClientPart → ClientPart → AdmissionView → Refusal
    → Type 0
IsWhyRefused id from to out into a refusals.Full = NoRoomWasSeen id from to out into (arrival a)
IsWhyRefused id from to out into a refusals.Esrch =
    WouldReply id from out (Depart a.number) replies.NotListed
IsWhyRefused id from to out into a (refusals.Stale now) =
    WasChanged id from a.number out (moving_as a) now
IsWhyRefused id from to out into a refusals.Twice = WouldReply id to into (arrival a) replies.Twice
IsWhyRefused id from to out into a (refusals.Busy seen) =
    WouldReply id to into (arrival a) (replies.Busy seen)
    × IsOverCap (length (cpu_set_of id to)) a.params.bw seen
IsWhyRefused id from to out into a _ = ⊥

-- the same of the two books as they were, by the tests in their order
abbrev pub IsWhyNotMoved : {T : Type 0} → BookView → BookView → AdmissionView → Result T Refusal
    → Type 0
IsWhyNotMoved from to a (Err refusals.Full) =
    IsFull from ⊎ IsFull to ⊎ (reply_to (state_of to) (arrival a) ≡ replies.Full)
IsWhyNotMoved from to a (Err refusals.Esrch) =
    BothHaveRoom from to a × (reply_to (state_of from) (Depart a.number) ≡ replies.NotListed)
IsWhyNotMoved from to a (Err (refusals.Stale now)) = BothHaveRoom from to a × IsStale from a now
IsWhyNotMoved from to a (Err refusals.Twice) =
    BothHaveRoom from to a × IsAsPrepared from a
    × (reply_to (state_of to) (arrival a) ≡ replies.Twice)
IsWhyNotMoved from to a (Err (refusals.Busy seen)) =
    BothHaveRoom from to a × IsAsPrepared from a × LacksRoom to a seen
IsWhyNotMoved from to a (Err _) = ⊥
IsWhyNotMoved from to a (Ok _) = IsAsPrepared from a

-- neither has an entry, and the new ticket was given back
pub record IsMoveRefusedBy (id : SessionId) (from to : ℕ) (old new : PassPair) (a : AdmissionView)
    (ticket : TicketView) (blank : BlankView) (refusal : Refusal) : Type 0 where
  pub same : new ≡ old
  pub given : IsGive ticket blank
  pub why : IsWhyRefused id from to (part_with old.out) (part_with old.into) a refusal

abbrev pub IsBooksAnswer : {T : Type 0} → SessionId → ℕ → ℕ → PassPair → PassPair → AdmissionView
    → TicketView → BlankView → Result T Refusal → Type 0
IsBooksAnswer id from to old new a ticket blank (Ok _) = IsMovedBy id from to old new a blank
IsBooksAnswer id from to old new a ticket blank (Err refusal) =
    IsMoveRefusedBy id from to old new a ticket blank refusal

-- ---- among all passes of a client

-- the passes of the two places were such, and have become such; no other one has changed
pub record BecomeAt (from to : ℕ) (old new : List (PassView Entry)) (was is : PassPair)
    : Type 0 where
  pub out : was.out ≡ slice_index_or old from was.out
  pub into : was.into ≡ slice_index_or old to was.into
  pub set_both : new ≡ set (set old from is.out) to is.into

pub record PassesMove {T : Type 0} (id : SessionId) (from to : ℕ) (old new : List (PassView Entry))
    (a : AdmissionView) (ticket : TicketView) (blank : BlankView) (answer : Result T Refusal)
    : Type 0 where
  pub was : PassPair
  pub is : PassPair
  pub become : BecomeAt from to old new was is
  pub answered : IsBooksAnswer id from to was is a ticket blank answer

-- ---- what it comes to for a client

pub record HasMovedFor (id : SessionId) (from to : ℕ) (c e : ClientView) (a : AdmissionView)
    : Type 0 where
  pub made : Makes c e (calls_of_move a.number (moving_as a) from to)
  pub listed : WasListed id from a.number (part_in c from) (moving_as a)
  pub leaves : WouldReply id from (part_in c from) (Depart a.number) replies.Departed
  pub comes : WouldReply id to (part_in c to) (arrival a) replies.Admitted
  pub ticket : TicketView
  pub own : IsTicketOf id.gate from ticket
  pub bw : ticket.bw ≡ a.params.bw
  pub given : IsSomeAnd e.hand (IsGive ticket)

pub record IsRefusedFor (id : SessionId) (from to : ℕ) (c e : ClientView) (a : AdmissionView)
    (ticket : TicketView) (refusal : Refusal) : Type 0 where
  pub made : Makes c e (λ d. [])
  pub given : IsSomeAnd e.hand (IsGive ticket)
  pub why : IsWhyRefused id from to (part_in c from) (part_in c to) a refusal

abbrev pub IsMoveFor : {T : Type 0} → SessionId → ℕ → ℕ → ClientView → ClientView → AdmissionView
    → TicketView → Result T Refusal → Type 0
IsMoveFor id from to c e a ticket (Ok _) = HasMovedFor id from to c e a
IsMoveFor id from to c e a ticket (Err refusal) = IsRefusedFor id from to c e a ticket refusal
