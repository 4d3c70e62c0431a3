-- What a client is answered, and what it leaves in the books (own).
use Rattle.std.specs.Prelude.{◌≡◌, ℕ, ◌+◌, ◌≤◌, ◌<◌, ◌==◌, Bool, ◌&&◌, List, [], ◌∷◌, ◌++◌, length, position, filter_map, Option, Some, None, IfSome, IsSome, IsSomeAnd, IfOk, IfErr, Result, Ok, Err, All, slice_index_or, if◌then◌else◌}
use Rattle.std.specs.List.{list_all, list_any, cons_option}
use Rattle.attr_check.specs.ParamsView.{ParamsView}
use Rattle.attr_check.specs.Accepted.{accepted, params_of}
use Rattle.bw_gate.specs.Word.{used_of, IsCap}
use Rattle.bw_gate.specs.Pieces.{GateId, BlankView, TicketView, last_word_found}
use Rattle.bw_gate.specs.Answers.{IsTake, IsGive}
use Rattle.bw_gate.specs.declared.answer.Take.TheVariants as takes
use Rattle.domain_run.specs.declared.call.Call.{Call}
use Rattle.domain_run.specs.declared.call.Call.TheVariants.{Admit, Regrade, Advance, Limit}
use Rattle.domain_run.specs.declared.call.Reply.{Reply}
use Rattle.domain_run.specs.declared.call.Reply.TheVariants as replies
use Rattle.domain_run.specs.Calls.{reply_to}
use Rattle.rtapp_scenario.specs.ScenarioView.{TaskSpecView}
use Rattle.calls_text.specs.declared.section.Entry.{Entry}
use Rattle.call_book.specs.Pieces.{IsTicketOf, IsTicketAnswered}
use Rattle.call_book.specs.LimitAnswers.{AsksForLimit}
use Rattle.session.specs.declared.refusal.Refusal.{Refusal}
use Rattle.session.specs.declared.refusal.Refusal.TheVariants as refusals
use Rattle.session.specs.SessionId.{SessionId, cpu_set_of}
use Rattle.session.specs.Seen.{ClientPart, Saw, SawFull, state_seen, EntryWasSeen}

-- ---- a task: its domain and its call

-- the same CPUs, in any order
abbrev pub same_cpus : List ℕ → List ℕ → Bool
same_cpus xs ys =
    list_all (λ x. list_any (λ y. y == x) ys) xs && list_all (λ x. list_any (λ y. y == x) xs) ys

-- the domain that has exactly the task's CPUs; the first where the task names none
-- (sched_setattr(2), EPERM)
abbrev pub domain_with_cpus : List (List ℕ) → Option (List ℕ) → Option ℕ
domain_with_cpus sets None = Some 0
domain_with_cpus sets (Some cpus) = position (same_cpus cpus) sets

-- the call that admits it, with the parameters of its attributes
abbrev pub admit_call : TaskSpecView → Call
admit_call t = Admit t.number t.name (params_of t.attr) t.delay t.script

-- ---- answers

-- the reply that stands in the book, or why there is none
abbrev pub Answer : Type 0
Answer = Result Reply Refusal

-- the attributes are accepted, and the CPUs are those of this domain
pub record Goes (id : SessionId) (t : TaskSpecView) (d : ℕ) : Type 0 where
  pub checked : accepted t.attr ≡ Ok (params_of t.attr)
  pub domain : domain_with_cpus id.cpu_sets t.cpus ≡ Some d

-- EBUSY: what was seen, as used of a word or as a sum, is at most a cap that so many CPUs can have,
-- and leaves no room for so much more below it
pub record IsOverCap (cpus bw seen : ℕ) : Type 0 where
  pub cap : ℕ
  pub a_cap : IsCap cpus cap
  pub within : seen ≤ cap
  pub above : cap < seen + bw

-- the same of a task and a domain. Of a word it is the cap that this word carried; of a sum, that
-- of the limit that the domain's state had
abbrev pub IsOver : SessionId → TaskSpecView → ℕ → ℕ → Type 0
IsOver id t d seen = IsOverCap (length (cpu_set_of id d)) (params_of t.attr).bw seen

-- what an admission may be answered: EINVAL and EPERM exactly where the task is not to be admitted
-- anywhere, and else any of the others, EBUSY only with a lawful number; never what a move alone is
-- answered
abbrev pub IsLawful : SessionId → TaskSpecView → Answer → Type 0
IsLawful id t (Err (refusals.Einval kind)) = accepted t.attr ≡ Err kind
IsLawful id t (Err refusals.Eperm) =
    (accepted t.attr ≡ Ok (params_of t.attr)) × (domain_with_cpus id.cpu_sets t.cpus ≡ None)
IsLawful id t (Err refusals.Full) = (d : ℕ) × Goes id t d
IsLawful id t (Err refusals.Twice) = (d : ℕ) × Goes id t d
IsLawful id t (Err refusals.Enomem) = (d : ℕ) × Goes id t d
IsLawful id t (Err (refusals.Busy seen)) = (d : ℕ) × Goes id t d × IsOver id t d seen
IsLawful id t (Err _) = ⊥
IsLawful id t (Ok replies.Admitted) = (d : ℕ) × Goes id t d
IsLawful id t (Ok (replies.Busy seen)) = (d : ℕ) × Goes id t d × IsOver id t d seen
IsLawful id t (Ok _) = ⊥

-- a task that a client asked for, and the answer
pub record Asked : Type 0 where
  pub task : TaskSpecView
  pub answer : Answer

-- ---- the piece in a client's hand

-- the piece that an admission asks the gate with: the one in the client's hand, or else a new one,
-- which has found nothing
abbrev pub blank_or_new : GateId → Option BlankView → BlankView
blank_or_new gate (Some piece) = piece
blank_or_new gate None = record { gate = gate; found = [] }

-- the gate granted the piece so much in a domain
abbrev pub IsGranted : BlankView → ℕ → ℕ → Type 0
IsGranted piece d bw = (ticket : TicketView) × IsTake piece d bw (takes.Taken ticket)

-- the gate refused it, and it came back: what it has found more are the words of this one call; the
-- cap that the last of them carries leaves no room beside what is used of it, which is this number
pub record IsGateRefusal (piece : BlankView) (d bw seen : ℕ) (back : BlankView) : Type 0 where
  pub word : ℕ
  pub used : used_of word ≡ seen
  pub refused : IsTake piece d bw (takes.Refused back word)

-- the gate granted it, and the ticket was given back, by a step of its own
pub record IsGivenBackAfter (piece : BlankView) (d bw : ℕ) (back : BlankView) : Type 0 where
  pub ticket : TicketView
  pub taken : IsTake piece d bw (takes.Taken ticket)
  pub given : IsGive ticket back

-- an admission of so much to a domain, with what is in hand before and after. EBUSY of the gate is
-- its answer to this very piece; without memory the gate was not asked; Full is logged without a
-- piece too, where there was none; and whatever else the domain refused, the gate had granted, and
-- it was given back
abbrev pub AsksGate : GateId → ℕ → ℕ → Option BlankView → Answer → Option BlankView → Type 0
AsksGate gate d bw hand (Ok replies.Admitted) next = IsGranted (blank_or_new gate hand) d bw
AsksGate gate d bw hand (Ok _) next =
    IsSomeAnd next (IsGivenBackAfter (blank_or_new gate hand) d bw)
AsksGate gate d bw hand (Err (refusals.Busy seen)) next =
    IsSomeAnd next (IsGateRefusal (blank_or_new gate hand) d bw seen)
AsksGate gate d bw hand (Err refusals.Enomem) next = next ≡ Some (blank_or_new gate hand)
AsksGate gate d bw hand (Err refusals.Full) None = hand ≡ None
AsksGate gate d bw hand (Err _) next =
    IsSomeAnd next (IsGivenBackAfter (blank_or_new gate hand) d bw)

-- the same of a task: EINVAL and EPERM leave what was in hand
abbrev pub IsHandAfter : SessionId → TaskSpecView → Option BlankView → Answer → Option BlankView
    → Type 0
IsHandAfter id t hand (Err (refusals.Einval kind)) next = next ≡ hand
IsHandAfter id t hand (Err refusals.Eperm) next = next ≡ hand
IsHandAfter id t hand answer next =
    (d : ℕ) × Goes id t d × AsksGate id.gate d (params_of t.attr).bw hand answer next

-- and of one task after the other: what is in hand after one is in hand before the next
abbrev pub IsHandAfterAll : SessionId → Option BlankView → List Asked → Option BlankView → Type 0
IsHandAfterAll id hand [] last = last ≡ hand
IsHandAfterAll id hand (q ∷ asked) last =
    (next : Option BlankView) × IsHandAfter id q.task hand q.answer next
    × IsHandAfterAll id next asked last

-- ---- what stands in the books

-- a call that was answered in a domain
pub record Made : Type 0 where
  pub call : Call
  pub reply : Reply

-- a call is made where there is a reply to it
abbrev pub made_of : Call → Answer → Option Made
made_of call (Ok reply) = Some (record { call = call; reply = reply })
made_of call (Err refusal) = None

-- what a call left in a domain's book: only the domain to which it went has it
abbrev pub made_at : ℕ → Option ℕ → Call → Answer → Option Made
made_at d None call answer = None
made_at d (Some place) call answer = if place == d then made_of call answer else None

abbrev pub made_in : SessionId → ℕ → List Asked → List Made
made_in id d asked =
    filter_map
    (λ q. made_at d (domain_with_cpus id.cpu_sets q.task.cpus) (admit_call q.task) q.answer)
    asked

-- the entries of calls that a client makes, after so many earlier ones
abbrev pub entries_from : ℕ → ℕ → List Made → List Entry
entries_from client seq [] = []
entries_from client seq (m ∷ made) =
    record { client = client; seq = seq; call = m.call; reply = Some m.reply }
    ∷ entries_from client (seq + 1) made

-- ---- a client

-- its number, what it has entered in the book of each domain, and the piece in its hand
pub record ClientView : Type 0 where
  pub number : ℕ
  pub passes : List (List Entry)
  pub hand : Option BlankView

abbrev pub client_pass_in : ClientView → ℕ → List Entry
client_pass_in c d = slice_index_or c.passes d []

-- its part of a domain's book
abbrev pub part_in : ClientView → ℕ → ClientPart
part_in c d = record { client = c.number; entries = client_pass_in c d }

-- after its entries in a domain stand those of these calls
abbrev pub followed_by : ClientView → ℕ → List Made → List Entry
followed_by c d made =
    client_pass_in c d ++ entries_from c.number (length (client_pass_in c d)) made

-- in each domain these calls stand after what the client had entered, in their order, and nothing
-- else does
pub record Makes (c c' : ClientView) (made : ℕ → List Made) : Type 0 where
  pub number : c'.number ≡ c.number
  pub domains : length c'.passes ≡ length c.passes
  pub passes : (d : ℕ) → d < length c.passes → client_pass_in c' d ≡ followed_by c d (made d)

-- a client asked for one task: in the domain to which it goes, the book answered as the call saw it
pub record AsksOne (id : SessionId) (c c' : ClientView) (q : Asked) : Type 0 where
  pub made : Makes c c' (λ d. made_in id d (q ∷ []))
  pub hand : IsHandAfter id q.task c.hand q.answer c'.hand
  pub seen : (d : ℕ) → Goes id q.task d
      → EntryWasSeen id d (part_in c d) (admit_call q.task) q.answer c'.hand

-- and for one task after the other
abbrev pub AsksInTurn : SessionId → ClientView → List Asked → ClientView → Type 0
AsksInTurn id c [] last = last ≡ c
AsksInTurn id c (q ∷ asked) last =
    (next : ClientView) × AsksOne id c next q × AsksInTurn id next asked last

-- a client asked for these tasks and got these answers: each is lawful, in each domain the calls
-- that were answered there are what it made, each EBUSY of the gate is by the piece that was in its
-- hand, and each answer of a book is by what that call saw
pub record Asks (id : SessionId) (c c' : ClientView) (asked : List Asked) : Type 0 where
  pub lawful : All (λ q. IsLawful id q.task q.answer) asked
  pub made : Makes c c' (λ d. made_in id d asked)
  pub hand : IsHandAfterAll id c.hand asked c'.hand
  pub turns : AsksInTurn id c asked c'

-- ---- calls on a domain

-- what the answer to a call on a domain left in the domains' books
abbrev pub made_by : ℕ → Call → Answer → ℕ → List Made
made_by place call answer d = cons_option (made_at d (Some place) call answer) []

-- the word that refused is the last one that the client's own piece found, and the number is what
-- was used of it
abbrev pub IsLastFound : Option BlankView → Answer → Type 0
IsLastFound hand (Err (refusals.Busy seen)) =
    IfSome hand (λ b. used_of (last_word_found b.found) ≡ seen) × IsSome hand
IsLastFound hand _ = Unit {0}

-- why a call other than an admission stands in no book: it is full, or a growth was refused
abbrev pub RefusesOnlyFull : Answer → Type 0
RefusesOnlyFull (Err refusals.Full) = Unit {0}
RefusesOnlyFull (Err _) = ⊥
RefusesOnlyFull (Ok reply) = Unit {0}

abbrev pub RefusesOnlyFullOrMemory : Answer → Type 0
RefusesOnlyFullOrMemory (Err refusals.Full) = Unit {0}
RefusesOnlyFullOrMemory (Err refusals.Enomem) = Unit {0}
RefusesOnlyFullOrMemory (Err _) = ⊥
RefusesOnlyFullOrMemory (Ok reply) = Unit {0}

-- the word's answer to a regrade to so much, by one call of the gate: a ticket of the domain asked.
-- Where the word refused, the number is what was used of it, and the cap that this same word
-- carried leaves no room for so much in the place of what the ticket has
pub record AsksWord (gate : GateId) (d bw : ℕ) (word : Option ℕ) : Type 0 where
  pub was : TicketView
  pub becomes : TicketView
  pub own : IsTicketOf gate d was
  pub answered : IsTicketAnswered was bw becomes word

-- what the word has to do with the reply to a regrade: where it refused, the reply is EBUSY with
-- its number; where it did not, a change is one that it granted; and no other reply asked it
abbrev pub IsByWord : GateId → ℕ → ℕ → Option ℕ → Reply → Type 0
IsByWord gate d bw (Some seen) reply = (reply ≡ replies.Busy seen) × AsksWord gate d bw (Some seen)
IsByWord gate d bw None replies.Changed = AsksWord gate d bw None
IsByWord gate d bw None _ = Unit {0}

-- the reply to a regrade is that of the state that the call saw, and of the word
pub record IsRegradeReply (id : SessionId) (d : ℕ) (part : ClientPart) (number : ℕ)
    (params : ParamsView) (word : Option ℕ) (reply : Reply) : Type 0 where
  pub saw : Saw id d part
  pub lawful : reply ≡ reply_to (state_seen id d part saw) (Regrade number params word)
  pub by_word : IsByWord id.gate d params.bw word reply

-- a regrade: with the word, which is the gate's answer in this very call, or none
pub record MakesRegrade (id : SessionId) (c c' : ClientView) (d number : ℕ) (params : ParamsView)
    (answer : Answer) : Type 0 where
  pub word : Option ℕ
  pub made : Makes c c' (made_by d (Regrade number params word) answer)
  pub reply : IfOk answer
      (IsRegradeReply id d (part_in c d) number params word)

-- what the word has to do with the reply to a change of the limit: where it refused, the reply is
-- EBUSY with its number; where it did not, the limit is set by it; and no other reply asked it. It
-- was asked by the client's own piece, in this very call
abbrev pub IsLimitByWord : ℕ → ℕ → ℕ → BlankView → Option ℕ → Reply → BlankView → Type 0
IsLimitByWord cpus d limit piece (Some seen) reply back =
    (reply ≡ replies.Busy seen) × AsksForLimit cpus d limit piece back (Some seen)
IsLimitByWord cpus d limit piece None replies.Set back =
    AsksForLimit cpus d limit piece back None
IsLimitByWord cpus d limit piece None _ back = back ≡ piece

-- the reply to a change of the limit is that of the state that the call saw, and of the word; and
-- the piece that asked it is in hand then
pub record IsLimitReply (id : SessionId) (d : ℕ) (part : ClientPart) (wanted : ℕ)
    (piece : BlankView) (word : Option ℕ) (hand : Option BlankView) (reply : Reply) : Type 0 where
  pub saw : Saw id d part
  pub lawful : reply ≡ reply_to (state_seen id d part saw) (Limit wanted word)
  pub back : BlankView
  pub in_hand : hand ≡ Some back
  pub by_word : IsLimitByWord (length (cpu_set_of id d)) d wanted piece word reply back

-- Full: there was no piece, or the book was full, and the piece is in hand as it was found
abbrev pub IsHandUnasked : SessionId → ℕ → ClientPart → Option BlankView → Option BlankView → Type 0
IsHandUnasked id d part hand None = hand ≡ None
IsHandUnasked id d part hand (Some back) = (back ≡ blank_or_new id.gate hand) × SawFull id d part

-- a change of a domain's limit: with the word, which is the gate's answer in this very call to the
-- client's own piece, or none
pub record MakesLimit (id : SessionId) (c c' : ClientView) (d limit : ℕ)
    (answer : Answer) : Type 0 where
  pub word : Option ℕ
  pub made : Makes c c' (made_by d (Limit limit word) answer)
  pub reply : IfOk answer
      (IsLimitReply id d (part_in c d) limit (blank_or_new id.gate c.hand) word c'.hand)
  pub unasked : IfErr answer (λ _. IsHandUnasked id d (part_in c d) c.hand c'.hand)

-- an advance: the entry tells how many ticks were made, at least one and at most as many as were
-- asked for
pub record MakesTicks (c c' : ClientView) (d n ticks : ℕ) (answer : Answer) : Type 0 where
  pub some : 0 < ticks
  pub most : ticks ≤ n
  pub made : Makes c c' (made_by d (Advance ticks) answer)

abbrev pub MakesAdvance : ClientView → ClientView → ℕ → ℕ → Answer → Type 0
MakesAdvance c c' d n (Ok (replies.Done ticks)) =
    MakesTicks c c' d n ticks (Ok (replies.Done ticks))
MakesAdvance c c' d n (Ok _) = ⊥
MakesAdvance c c' d n (Err refusal) = Makes c c' (λ d. [])
