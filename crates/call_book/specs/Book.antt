-- A domain's book: the calls that were made on one domain, in their order, and the tickets of its
-- tasks (own).
use Rattle.std.specs.Prelude.{◌≡◌, ℕ, ◌<◌, ◌≤◌, List, [], ◌∷◌, ◌++◌, length, map, Option, Some, IfNone, IfSome, All}
use Rattle.attr_check.specs.ParamsView.{ParamsView}
use Rattle.attr_check.specs.Ratio.{cap}
use Rattle.atomic_table.specs.Seated.{TableId}
use Rattle.pass_seats.specs.Lists.{PassView, own}
use Rattle.bw_gate.specs.Pieces.{GateId, BlankView}
use Rattle.bw_gate.specs.Word.{cap_of}
use Rattle.task_script.specs.script.ScriptView.{ScriptView}
use Rattle.domain_run.specs.declared.call.Call.{Call}
use Rattle.domain_run.specs.declared.call.Call.TheVariants.{Admit}
use Rattle.domain_run.specs.declared.call.Reply.{Reply}
use Rattle.domain_run.specs.Domain.{Domain}
use Rattle.domain_run.specs.Calls.{reply_to}
use Rattle.domain_run.specs.Run.{run_of}
use Rattle.calls_text.specs.declared.section.Entry.{Entry}
use Rattle.calls_text.specs.Limits.{IsEntry}
use Rattle.calls_text.specs.OwnCalls.{IsNumbered}
use Rattle.calls_text.specs.Histories.{IsLegal, calls_of}
use Rattle.call_book.specs.declared.book.stock.Held.{Held}
use Rattle.limits.specs.Limits.{max_history}

-- ---- what a contract sees of a book

pub record BookView : Type 0 where
  -- the gate whose bandwidth the tasks have, and which of its domains this is
  pub gate : GateId
  pub domain : ℕ
  -- how many CPUs it has, and what might be given away of each, in 1/2^20, when it was opened; what
  -- may be given away now is the limit of its state
  pub cpus : ℕ
  pub limit : ℕ
  -- its clients are 1 to so many, and their passes are those of this spine
  pub clients : ℕ
  pub spine : TableId
  -- how many calls it has room for, and those that were made
  pub room : ℕ
  pub history : List Entry
  -- a ticket for each listed task, in the order of the tasks
  pub tickets : List Held
  -- the pieces of tasks that have gone, which wait to be handed out
  pub blanks : List BlankView
  -- by how many workers an advance goes; no answer depends on them
  pub workers : ℕ
  -- the word that the last change of the limit by this book left; none before any
  pub left : Option ℕ

-- ---- histories

-- the state is the run of the history
abbrev pub state_of : BookView → Domain
state_of b = run_of b.cpus b.limit (calls_of b.history)

-- an entry beside its client, as a spine lists it
abbrev pub with_key : Entry → ℕ × Entry
with_key e = (e.client, e)

-- the entries of a client
abbrev pub own_entries : ℕ → List Entry → List Entry
own_entries client history = own client (map with_key history)

-- no stranger: the client is 1 to so many
pub record IsMember (clients : ℕ) (client : ℕ) : Type 0 where
  pub some : 0 < client
  pub most : client ≤ clients

-- what each history keeps: it is legal; each client's entries are numbered 0, 1, 2, .. in their
-- order; no stranger made one; and each has a spelling as text
pub record IsBookHistory (b : BookView) : Type 0 where
  pub legal : IsLegal b.cpus b.limit b.history
  pub numbered : IsNumbered b.history
  pub members : All (λ e. IsMember b.clients e.client) b.history
  pub spelled : All IsEntry b.history
  pub within : length b.history ≤ b.room
  pub short : b.room ≤ max_history

-- The limit and the word do not part as far as the book's own calls go: before any change of the
-- limit it is that of the opening, and after one the word that was left carries CPUs times the
-- limit that the state has. Another client of the gate may have changed the word since.
pub record HasItsLimit (b : BookView) : Type 0 where
  pub first : IfNone b.left ((state_of b).limit ≡ b.limit)
  pub since : IfSome b.left (λ word. cap_of word ≡ cap b.cpus (state_of b).limit)

-- ---- entries

-- a pass of this book
pub record IsPassOf (b : BookView) (p : PassView Entry) : Type 0 where
  pub spine : p.spine ≡ b.spine
  pub member : IsMember b.clients p.client

-- the entry of a call that is made with a pass: how many its client made before, and the reply
abbrev pub entry_by : PassView Entry → Call → Reply → Entry
entry_by p call reply =
    record { client = p.client; seq = length p.entries; call = call; reply = Some reply }

abbrev pub with_entry : PassView Entry → Call → Reply → PassView Entry
with_entry p call reply = record p { entries = p.entries ++ entry_by p call reply ∷ [] }

-- no call more can be entered
abbrev pub IsFull : BookView → Type 0
IsFull b = length b.history ≡ b.room

-- the call is answered as the definition of calls says, and stands after the history and after the
-- pass's list; of the book nothing else changes but tickets and blanks
pub record Enters (old new : BookView) (p q : PassView Entry) (call : Call)
    (reply : Reply) : Type 0 where
  pub free : length old.history < old.room
  pub lawful : reply ≡ reply_to (state_of old) call
  pub book : new
      ≡ record old {
        history = old.history ++ entry_by p call reply ∷ [];
        tickets = new.tickets;
        blanks = new.blanks;
      }
  pub pass : q ≡ with_entry p call reply

-- the same, and no ticket and no blank moves
pub record EntersAlone (old new : BookView) (p q : PassView Entry) (call : Call)
    (reply : Reply) : Type 0 where
  pub entered : Enters old new p q call reply
  pub tickets : new.tickets ≡ old.tickets
  pub blanks : new.blanks ≡ old.blanks

-- nothing is entered, and nothing changes
pub record Stays (old new : BookView) (p q : PassView Entry) : Type 0 where
  pub book : new ≡ old
  pub pass : q ≡ p

-- nothing is entered, since the history is full
pub record IsRefusedFull (old new : BookView) (p q : PassView Entry) : Type 0 where
  pub full : IsFull old
  pub stays : Stays old new p q

-- ---- what is handed in

-- an admission that is ready to be made
pub record AdmissionView : Type 0 where
  pub number : ℕ
  pub name : List ℕ
  pub params : ParamsView
  pub delay : ℕ
  pub script : ScriptView

abbrev pub admission : AdmissionView → Call
admission a = Admit a.number a.name a.params a.delay a.script
