-- What a call under a domain's lock comes to.
use Rattle.std.specs.Prelude.{◌≡◌, ◌⊎◌, ℕ, ◌≤◌, ◌<◌, List, length, Option, Some, None, IfSome, IsSome, IfOk, IfErr, Ok, Err, slice_index_or}
use Rattle.attr_check.specs.ParamsView.{ParamsView}
use Rattle.pass_seats.specs.Lists.{PassView}
use Rattle.bw_gate.specs.Pieces.{BlankView, TicketView}
use Rattle.bw_gate.specs.Answers.{IsGive}
use Rattle.domain_run.specs.declared.call.Call.{Call}
use Rattle.domain_run.specs.declared.call.Call.TheVariants as calls
use Rattle.domain_run.specs.declared.call.Reply.TheVariants as replies
use Rattle.domain_run.specs.Calls.{reply_to}
use Rattle.domain_run.specs.Domain.{IsLimit}
use Rattle.calls_text.specs.declared.section.Entry.{Entry}
use Rattle.call_book.specs.declared.book.domain.Limit.{Limit}
use Rattle.call_book.specs.declared.book.domain.Limit.TheVariants as limits
use Rattle.call_book.specs.Pieces.{IsTicketOf}
use Rattle.calls_text.specs.Limits.{IsCall}
use Rattle.call_book.specs.Book.{BookView, IsBookHistory, IsMember, IsFull, AdmissionView, admission, own_entries, state_of, with_entry}
use Rattle.session.specs.declared.refusal.Refusal.{Refusal}
use Rattle.session.specs.declared.refusal.Refusal.TheVariants as refusals
use Rattle.session.specs.declared.locked_book.Ask.{Ask}
use Rattle.session.specs.declared.locked_book.Ask.TheVariants as asks
use Rattle.session.specs.SessionId.{SessionId, cpu_set_of, spine_of, IsDomainIndex}
use Rattle.session.specs.Seen.{ClientPart, AdmissionWasSeen, AnswerWasSeen, RefusalWasSeen}
use Rattle.session.specs.Asks.{Answer, ClientView, Makes, made_by, part_in, IsOverCap, IsRegradeReply, MakesRegrade, IsLimitReply, MakesAdvance, RefusesOnlyFull, RefusesOnlyFullOrMemory}

-- the book of a domain of the session
pub record IsSessionBook (id : SessionId) (d : ℕ) (b : BookView) : Type 0 where
  pub gate : b.gate ≡ id.gate
  pub domain : b.domain ≡ d
  pub spine : b.spine ≡ spine_of id d
  pub cpus : b.cpus ≡ length (cpu_set_of id d)
  pub limit : b.limit ≡ id.limit
  pub clients : b.clients ≡ id.clients
  pub room : b.room ≡ id.max_calls
  pub workers : b.workers ≡ id.workers
  pub place : IsDomainIndex id d

-- a client's pass of a domain's book
pub record IsPassAt (id : SessionId) (client d : ℕ) (p : PassView Entry) : Type 0 where
  pub spine : p.spine ≡ spine_of id d
  pub owner : p.client ≡ client

-- what a pass is of its domain's book
abbrev pub part_with : PassView Entry → ClientPart
part_with p = record { client = p.client; entries = p.entries }

-- a book as a call sees it with a client's pass, which agrees with it
pub record IsSeenBook (b : BookView) (p : PassView Entry) : Type 0 where
  pub history : IsBookHistory b
  pub own : p.entries ≡ own_entries p.client b.history

-- what a client keeps: it is one of the session's, it has a pass of each domain's book, and a piece
-- of the session's gate
pub record IsClientOf (id : SessionId) (number : ℕ) (passes : List (PassView Entry))
    (hand : Option BlankView) : Type 0 where
  pub member : IsMember id.clients number
  pub count : length passes ≡ length id.cpu_sets
  pub each : (d : ℕ) (x : PassView Entry) → d < length passes
      → IsPassAt id number d (slice_index_or passes d x)
  pub own : IfSome hand (λ b. b.gate ≡ id.gate)

-- what a call asks for, in a domain: an admission has a ticket of this domain, of the task's
-- bandwidth
abbrev pub IsAsk : SessionId → ℕ → Ask → Type 0
IsAsk id d (asks.Admit prepared ticket) =
    IsTicketOf id.gate d ticket × (ticket.bw ≡ prepared.params.bw)
IsAsk id d (asks.Regrade number params) = IsCall (calls.Regrade number params None)
IsAsk id d (asks.Wake number) = IsCall (calls.Wake number)
IsAsk id d (asks.Leave number) = IsCall (calls.Leave number)
IsAsk id d (asks.Limit blank limit) = (blank.gate ≡ id.gate) × IsLimit limit

-- the pass has the entry of a call where there is a reply, and is as it was where there is none
abbrev pub pass_after : PassView Entry → Call → Answer → PassView Entry
pass_after p call (Ok reply) = with_entry p call reply
pass_after p call (Err refusal) = p

-- what an admission of so much is answered by the book of so many CPUs
abbrev pub IsBookVerdict : ℕ → ℕ → Answer → Type 0
IsBookVerdict cpus bw (Ok replies.Admitted) = Unit {0}
IsBookVerdict cpus bw (Ok (replies.Busy seen)) = IsOverCap cpus bw seen
IsBookVerdict cpus bw (Ok _) = ⊥
IsBookVerdict cpus bw (Err refusals.Full) = Unit {0}
IsBookVerdict cpus bw (Err refusals.Twice) = Unit {0}
IsBookVerdict cpus bw (Err _) = ⊥

-- and by the gate before it, or for want of memory
abbrev pub IsEntryVerdict : ℕ → ℕ → Answer → Type 0
IsEntryVerdict cpus bw (Ok replies.Admitted) = Unit {0}
IsEntryVerdict cpus bw (Ok (replies.Busy seen)) = IsOverCap cpus bw seen
IsEntryVerdict cpus bw (Ok _) = ⊥
IsEntryVerdict cpus bw (Err refusals.Full) = Unit {0}
IsEntryVerdict cpus bw (Err refusals.Twice) = Unit {0}
IsEntryVerdict cpus bw (Err refusals.Enomem) = Unit {0}
IsEntryVerdict cpus bw (Err (refusals.Busy seen)) = IsOverCap cpus bw seen
IsEntryVerdict cpus bw (Err _) = ⊥

-- a refusal of a task that goes nowhere
abbrev pub IsOfTask : Refusal → Type 0
IsOfTask (refusals.Einval kind) = Unit {0}
IsOfTask refusals.Eperm = Unit {0}
IsOfTask _ = ⊥

-- the book of the same domain, with other entries and pieces
pub record SameBook (old new : BookView) : Type 0 where
  pub gate : new.gate ≡ old.gate
  pub domain : new.domain ≡ old.domain
  pub spine : new.spine ≡ old.spine
  pub cpus : new.cpus ≡ old.cpus
  pub limit : new.limit ≡ old.limit
  pub clients : new.clients ≡ old.clients
  pub room : new.room ≡ old.room
  pub workers : new.workers ≡ old.workers

-- the ticket of a task that the book refused was given back by a step of its own, and its blank is
-- there for the client
abbrev pub IsGivenBack : TicketView → Answer → Option BlankView → Type 0
IsGivenBack ticket (Ok replies.Admitted) blank = Unit {0}
IsGivenBack ticket _ blank = IfSome blank (IsGive ticket) × IsSome blank

abbrev pub NoneIsKept : Ask → Answer → Option BlankView → Type 0
NoneIsKept (asks.Admit prepared ticket) answer blank = IsGivenBack ticket answer blank
NoneIsKept (asks.Limit asked limit) answer blank = IsSome blank
NoneIsKept _ answer blank = Unit {0}

-- a regrade, a wake and a leave leave no blank to the client
abbrev pub LeavesNoBlank : Ask → Option BlankView → Type 0
LeavesNoBlank (asks.Admit prepared ticket) blank = Unit {0}
LeavesNoBlank (asks.Limit piece limit) blank = Unit {0}
LeavesNoBlank _ blank = blank ≡ None

-- and the piece in hand stays as it is, with the words that it has found
abbrev pub KeepsHand : Ask → Option BlankView → Option BlankView → Type 0
KeepsHand (asks.Admit prepared ticket) hand next = Unit {0}
KeepsHand (asks.Limit piece limit) hand next = Unit {0}
KeepsHand _ hand next = next ≡ hand

-- ---- what the book before says to a call, and why the call stands in no book

-- an admission: the reply is the state's; Full where the book is full or lists 256 tasks, Twice
-- where the number was admitted before
abbrev pub IsAdmissionAnswered : BookView → Call → Answer → Type 0
IsAdmissionAnswered b call (Ok reply) = reply_to (state_of b) call ≡ reply
IsAdmissionAnswered b call (Err refusals.Full) =
    IsFull b ⊎ (reply_to (state_of b) call ≡ replies.Full)
IsAdmissionAnswered b call (Err refusals.Twice) = reply_to (state_of b) call ≡ replies.Twice
IsAdmissionAnswered b call (Err _) = ⊥

-- any other call: Full where the book is full; ENOMEM where it is not
abbrev pub IsWhyNotMade : BookView → Answer → Type 0
IsWhyNotMade b (Err refusals.Full) = IsFull b
IsWhyNotMade b (Err refusals.Enomem) = length b.history < b.room
IsWhyNotMade b _ = Unit {0}

-- a wake or a leave: the reply is the state's
abbrev pub IsCallAnswered : BookView → Call → Answer → Type 0
IsCallAnswered b call (Ok reply) = reply_to (state_of b) call ≡ reply
IsCallAnswered b call (Err refusal) = IsWhyNotMade b (Err refusal)

abbrev pub IsBookAnswer : BookView → Ask → Answer → Type 0
IsBookAnswer b (asks.Admit prepared ticket) answer =
    IsAdmissionAnswered b (admission prepared) answer
IsBookAnswer b (asks.Regrade number params) answer = IsWhyNotMade b answer
IsBookAnswer b (asks.Wake number) answer = IsCallAnswered b (calls.Wake number) answer
IsBookAnswer b (asks.Leave number) answer = IsCallAnswered b (calls.Leave number) answer
IsBookAnswer b (asks.Limit piece limit) answer = IsWhyNotMade b answer

-- the same of the book that the call saw
abbrev pub WasSeenFor : SessionId → ℕ → ClientPart → Ask → Answer → Type 0
WasSeenFor id d part (asks.Admit prepared ticket) answer =
    AdmissionWasSeen id d part (admission prepared) answer
WasSeenFor id d part (asks.Regrade number params) answer = RefusalWasSeen id d part answer
WasSeenFor id d part (asks.Wake number) answer =
    AnswerWasSeen id d part (calls.Wake number) answer
WasSeenFor id d part (asks.Leave number) answer =
    AnswerWasSeen id d part (calls.Leave number) answer
WasSeenFor id d part (asks.Limit piece limit) answer = RefusalWasSeen id d part answer

-- ---- what a call comes to, under the domain's lock

-- an admission
pub record IsOffered (cpus : ℕ) (p q : PassView Entry) (a : AdmissionView)
    (answer : Answer) : Type 0 where
  pub pass : q ≡ pass_after p (admission a) answer
  pub verdict : IsBookVerdict cpus a.params.bw answer

-- a regrade, wake or leave
pub record IsReplied (p q : PassView Entry) (call : Call) (answer : Answer) : Type 0 where
  pub pass : q ≡ pass_after p call answer
  pub full : RefusesOnlyFull answer

pub record IsRegradedBy (id : SessionId) (d : ℕ) (p q : PassView Entry) (number : ℕ)
    (params : ParamsView) (answer : Answer) : Type 0 where
  pub word : Option ℕ
  pub replied : IsReplied p q (calls.Regrade number params word) answer
  pub reply : IfOk answer (IsRegradeReply id d (part_with p) number params word)

-- what a client is answered to a change of the limit, and the blank that comes back
abbrev pub limit_answer : Limit → Answer
limit_answer (limits.Set back) = Ok replies.Set
limit_answer (limits.Busy back seen) = Ok (replies.Busy seen)
limit_answer (limits.Full back) = Err refusals.Full

abbrev pub limit_back : Limit → BlankView
limit_back (limits.Set back) = back
limit_back (limits.Busy back seen) = back
limit_back (limits.Full back) = back

-- a change of the limit, by this piece, with what came back of it
pub record IsLimitedBy (id : SessionId) (d : ℕ) (p q : PassView Entry) (piece : BlankView)
    (wanted : ℕ) (answer : Answer) (back : Option BlankView) : Type 0 where
  pub word : Option ℕ
  pub replied : IsReplied p q (calls.Limit wanted word) answer
  pub reply : IfOk answer (IsLimitReply id d (part_with p) wanted piece word back)
  pub unasked : IfErr answer (λ _. back ≡ Some piece)

-- an advance
pub record AreTicks (p q : PassView Entry) (n ticks : ℕ) : Type 0 where
  pub some : 0 < ticks
  pub most : ticks ≤ n
  pub pass : q ≡ with_entry p (calls.Advance ticks) (replies.Done ticks)

abbrev pub IsAdvancedBy : PassView Entry → PassView Entry → ℕ → Answer → Type 0
IsAdvancedBy p q n (Ok (replies.Done ticks)) = AreTicks p q n ticks
IsAdvancedBy p q n (Ok _) = ⊥
IsAdvancedBy p q n (Err refusals.Full) = q ≡ p
IsAdvancedBy p q n (Err refusals.Enomem) = q ≡ p
IsAdvancedBy p q n (Err _) = ⊥

abbrev pub IsDone : SessionId → ℕ → PassView Entry → PassView Entry → Ask → Answer
    → Option BlankView → Type 0
IsDone id d p q (asks.Admit prepared ticket) answer blank =
    IsOffered (length (cpu_set_of id d)) p q prepared answer
IsDone id d p q (asks.Regrade number params) answer blank =
    IsRegradedBy id d p q number params answer
IsDone id d p q (asks.Wake number) answer blank = IsReplied p q (calls.Wake number) answer
IsDone id d p q (asks.Leave number) answer blank = IsReplied p q (calls.Leave number) answer
IsDone id d p q (asks.Limit piece limit) answer blank =
    IsLimitedBy id d p q piece limit answer blank

-- ---- what it comes to for a client

-- a change of the limit, by this piece
pub record MakesLimitWith (id : SessionId) (c e : ClientView) (d limit : ℕ) (piece : BlankView)
    (answer : Answer) : Type 0 where
  pub word : Option ℕ
  pub made : Makes c e (made_by d (calls.Limit limit word) answer)
  pub reply : IfOk answer (IsLimitReply id d (part_in c d) limit piece word e.hand)
  pub unasked : IfErr answer (λ _. e.hand ≡ Some piece)

abbrev pub IsDoneFor : SessionId → ℕ → ClientView → ClientView → Ask → Answer → Type 0
IsDoneFor id d c e (asks.Admit prepared ticket) answer =
    Makes c e (made_by d (admission prepared) answer)
    × IsBookVerdict (length (cpu_set_of id d)) prepared.params.bw answer
    × IsGivenBack ticket answer e.hand
    × AdmissionWasSeen id d (part_in c d) (admission prepared) answer
IsDoneFor id d c e (asks.Regrade number params) answer =
    MakesRegrade id c e d number params answer × RefusesOnlyFull answer × (e.hand ≡ c.hand)
    × RefusalWasSeen id d (part_in c d) answer
IsDoneFor id d c e (asks.Wake number) answer =
    Makes c e (made_by d (calls.Wake number) answer) × RefusesOnlyFull answer × (e.hand ≡ c.hand)
    × AnswerWasSeen id d (part_in c d) (calls.Wake number) answer
IsDoneFor id d c e (asks.Leave number) answer =
    Makes c e (made_by d (calls.Leave number) answer) × RefusesOnlyFull answer × (e.hand ≡ c.hand)
    × AnswerWasSeen id d (part_in c d) (calls.Leave number) answer
IsDoneFor id d c e (asks.Limit piece limit) answer =
    MakesLimitWith id c e d limit piece answer × RefusesOnlyFull answer
    × RefusalWasSeen id d (part_in c d) answer

-- an advance
abbrev pub IsAdvancedFor : SessionId → ℕ → ClientView → ClientView → ℕ → Answer → Type 0
IsAdvancedFor id d c e n answer =
    MakesAdvance c e d n answer × RefusesOnlyFullOrMemory answer × (e.hand ≡ c.hand)
    × RefusalWasSeen id d (part_in c d) answer
