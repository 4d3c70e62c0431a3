-- What a client is answered that moves a task to another domain, what the move leaves in the books,
-- and what is in hand then. A task has its bandwidth in one root domain (sched-deadline.rst, on
-- exclusive cpusets), and the one to which it comes is asked for room first (own).
use Rattle.std.specs.Prelude.{◌≡◌, ◌≢◌, ◌⊎◌, ℕ, List, ◌++◌, length, Option, Some, None, IsSomeAnd, Ok}
use Rattle.attr_check.specs.ParamsView.{ParamsView}
use Rattle.bw_gate.specs.Pieces.{BlankView, TicketView}
use Rattle.bw_gate.specs.Answers.{IsGive}
use Rattle.domain_run.specs.declared.call.Call.{Call}
use Rattle.domain_run.specs.declared.call.Call.TheVariants.{Depart, Arrive}
use Rattle.domain_run.specs.declared.call.Reply.TheVariants as replies
use Rattle.domain_run.specs.Views.{Moving, moving_in}
use Rattle.call_book.specs.Pieces.{IsTicketOf}
use Rattle.session.specs.declared.refusal.Refusal.{Refusal}
use Rattle.session.specs.declared.refusal.Refusal.TheVariants as refusals
use Rattle.session.specs.SessionId.{SessionId, cpu_set_of}
use Rattle.session.specs.Seen.{ClientPart, Saw, state_seen, WouldReply, SawFull}
use Rattle.session.specs.Asks.{IsOverCap, blank_or_new, IsGranted, IsGateRefusal, IsGivenBackAfter, Made, made_by, ClientView, part_in, Makes}

-- ---- what a move leaves in the books

-- the call by which a task of a number arrives
abbrev pub arrival_of : ℕ → Moving → Call
arrival_of number task = Arrive number task.name task.params task.script

-- in each domain: the departure in the one, the arrival in the other
abbrev pub calls_of_move : ℕ → Moving → ℕ → ℕ → ℕ → List Made
calls_of_move number task from to d =
    made_by from (Depart number) (Ok replies.Departed) d
    ++ made_by to (arrival_of number task) (Ok replies.Admitted) d

-- ---- what is seen under a domain's lock

-- in the state seen the task is listed, has not ended, and would take this along
pub record WasListed (id : SessionId) (d number : ℕ) (part : ClientPart) (task : Moving)
    : Type 0 where
  pub saw : Saw id d part
  pub found : moving_in (state_seen id d part saw) number ≡ Some task

-- in that state it is another task than it was, and has these parameters
pub record WasChanged (id : SessionId) (d number : ℕ) (part : ClientPart) (was : Moving)
    (now : ParamsView) : Type 0 where
  pub task : Moving
  pub listed : WasListed id d number part task
  pub differs : task ≢ was
  pub logged : now ≡ task.params

-- ---- the answers

-- The task was prepared as it was listed; the gate granted this piece its bandwidth in the domain
-- to which it comes; both books have their entry, and nothing else, each with the reply of the
-- state seen; and its old ticket, of the domain that it left, was given back, by a step of its own:
-- what is in hand is its blank
pub record HasMoved (id : SessionId) (number from to : ℕ) (piece : BlankView) (c c' : ClientView)
    : Type 0 where
  pub task : Moving
  pub listed : WasListed id from number (part_in c from) task
  pub granted : IsGranted piece to task.params.bw
  pub leaves : WouldReply id from (part_in c from) (Depart number) replies.Departed
  pub comes : WouldReply id to (part_in c to) (arrival_of number task) replies.Admitted
  pub made : Makes c c' (calls_of_move number task from to)
  pub ticket : TicketView
  pub own : IsTicketOf id.gate from ticket
  pub bw : ticket.bw ≡ task.params.bw
  pub given : IsSomeAnd c'.hand (IsGive ticket)

-- The task was prepared, the gate granted this piece its bandwidth, and the books refused it: the
-- new ticket was given back, and what is in hand is its blank
pub record WasGivenBack (id : SessionId) (c : ClientView) (number from to : ℕ)
    (piece : BlankView) (task : Moving) (next : Option BlankView) : Type 0 where
  pub listed : WasListed id from number (part_in c from) task
  pub given : IsSomeAnd next (IsGivenBackAfter piece to task.params.bw)

-- the gate refused the bandwidth of the task as it was prepared
pub record WasRefusedByGate (id : SessionId) (c : ClientView) (number from to : ℕ)
    (piece : BlankView) (seen : ℕ) (next : Option BlankView) : Type 0 where
  pub task : Moving
  pub listed : WasListed id from number (part_in c from) task
  pub over : IsOverCap (length (cpu_set_of id to)) task.params.bw seen
  pub refused : IsSomeAnd next (IsGateRefusal piece to task.params.bw seen)

-- the gate granted it, and the sum of bandwidths where it comes to had no room for it
pub record WasRefusedByBook (id : SessionId) (c : ClientView) (number from to : ℕ)
    (piece : BlankView) (seen : ℕ) (next : Option BlankView) : Type 0 where
  pub task : Moving
  pub given : WasGivenBack id c number from to piece task next
  pub over : IsOverCap (length (cpu_set_of id to)) task.params.bw seen
  pub reply : WouldReply id to (part_in c to) (arrival_of number task) (replies.Busy seen)

-- a book was full, or 256 tasks were listed where it comes to
abbrev pub NoRoomWasSeen : SessionId → ℕ → ℕ → ClientPart → ClientPart → Call → Type 0
NoRoomWasSeen id from to out into arrival =
    SawFull id from out ⊎ SawFull id to into ⊎ WouldReply id to into arrival replies.Full

-- Why a task does not move, by the piece that was in hand before and what is there after. ESRCH and
-- ENOMEM when it was to be prepared leave the piece as it was found
abbrev pub IsWhyUnmoved : SessionId → ClientView → ℕ → ℕ → ℕ → Option BlankView
    → Option BlankView → Refusal → Type 0
IsWhyUnmoved id c number from to hand next refusals.SameDomain = (from ≡ to) × (next ≡ hand)
IsWhyUnmoved id c number from to hand None refusals.Full = hand ≡ None
IsWhyUnmoved id c number from to hand (Some back) refusals.Full =
    (task : Moving) × WasGivenBack id c number from to (blank_or_new id.gate hand) task (Some back)
    × NoRoomWasSeen id from to (part_in c from) (part_in c to) (arrival_of number task)
IsWhyUnmoved id c number from to hand next refusals.Esrch =
    WouldReply id from (part_in c from) (Depart number) replies.NotListed
    × ((next ≡ Some (blank_or_new id.gate hand))
    ⊎ ((task : Moving) × WasGivenBack id c number from to (blank_or_new id.gate hand) task next))
IsWhyUnmoved id c number from to hand next refusals.Enomem =
    WouldReply id from (part_in c from) (Depart number) replies.Departed
    × (next ≡ Some (blank_or_new id.gate hand))
IsWhyUnmoved id c number from to hand next (refusals.Busy seen) =
    WasRefusedByGate id c number from to (blank_or_new id.gate hand) seen next
    ⊎ WasRefusedByBook id c number from to (blank_or_new id.gate hand) seen next
IsWhyUnmoved id c number from to hand next (refusals.Stale now) =
    (task : Moving) × WasGivenBack id c number from to (blank_or_new id.gate hand) task next
    × WasChanged id from number (part_in c from) task now
IsWhyUnmoved id c number from to hand next refusals.Twice =
    (task : Moving) × WasGivenBack id c number from to (blank_or_new id.gate hand) task next
    × WouldReply id to (part_in c to) (arrival_of number task) replies.Twice
IsWhyUnmoved id c number from to hand next (refusals.Einval kind) = ⊥
IsWhyUnmoved id c number from to hand next refusals.Eperm = ⊥
