-- The pieces of the gate in a book: a ticket for each listed task (own).
use Rattle.std.specs.Prelude.{◌≡◌, ℕ, ◌+◌, ◌-◌, ◌<◌, ◌≤◌, ◌==◌, Bool, not, List, ◌∷◌, ◌++◌, length, map, Option, Some, None, is_some, All}
use Rattle.std.specs.List.{AllZip}
use Rattle.bw_gate.specs.Word.{used_of, cap_of, IsWord as IsWholeWord}
use Rattle.bw_gate.specs.Pieces.{GateId, BlankView, TicketView, cpus_of, found_in, last_word_found}
use Rattle.bw_gate.specs.Answers.{IsGive, IsRegrade}
use Rattle.bw_gate.specs.declared.answer.Regrade.{Regrade}
use Rattle.bw_gate.specs.declared.answer.Regrade.TheVariants as regrades
use Rattle.domain_run.specs.Domain.{Domain}
use Rattle.domain_run.specs.Views.{view_in}
use Rattle.domain_run.specs.Keys.{keys}
use Rattle.call_book.specs.declared.book.stock.Held.{Held}

-- the number and the bandwidth of a ticket's task
abbrev pub held_key : Held → ℕ × ℕ
held_key h = (h.number, h.ticket.bw)

-- for each listed task there is one ticket, of its number and of its bandwidth
abbrev pub HoldsTickets : Domain → List Held → Type 0
HoldsTickets state tickets = map held_key tickets ≡ keys state.tasks

abbrev pub is_held : ℕ → Held → Bool
is_held number h = h.number == number

-- the task of a ticket is listed, or has gone off the list
abbrev pub is_kept : Domain → Held → Bool
is_kept state h = is_some (view_in state h.number)

abbrev pub is_gone : Domain → Held → Bool
is_gone state h = not (is_kept state h)

-- a ticket of this gate and domain
pub record IsTicketOf (gate : GateId) (domain : ℕ) (t : TicketView) : Type 0 where
  pub own : t.gate ≡ gate
  pub inside : t.domain ≡ domain

-- all pieces are of this gate, the tickets of this domain too, and there are 256 at most
pub record ArePieces (gate : GateId) (domain : ℕ) (tickets : List Held)
    (blanks : List BlankView) : Type 0 where
  pub held : All (λ h. IsTicketOf gate domain h.ticket) tickets
  pub free : All (λ b. b.gate ≡ gate) blanks
  pub few : length tickets + length blanks ≤ 256

-- each ticket was given back by a step of its own, and became this blank
abbrev pub AreGiven : List Held → List BlankView → Type 0
AreGiven tickets blanks = AllZip (λ h b. IsGive h.ticket b) tickets blanks

-- the last word that a piece found
abbrev pub word_at : TicketView → ℕ
word_at u = last_word_found u.found

-- what the word of a ticket's domain says of another bandwidth for it: the ticket has it; or so
-- much is used of the last word that it found, a whole word of the domain's CPUs, that the cap
-- which this same word carries has no room for it in the place of the old one
abbrev pub IsWordAnswer : TicketView → ℕ → TicketView → Option ℕ → Type 0
IsWordAnswer t bw u None = u.bw ≡ bw
IsWordAnswer t bw u (Some used) =
    (u.bw ≡ t.bw) × (used_of (word_at u) ≡ used) × IsWholeWord (cpus_of t.gate t.domain) (word_at u)
    × (cap_of (word_at u) < used - t.bw + bw)

-- the gate's answer to a ticket that asked for another bandwidth: changed, or refused with the
-- whole word that it found last
abbrev pub logged_as : TicketView → Option ℕ → Regrade
logged_as u None = regrades.Changed u
logged_as u (Some used) = regrades.Refused u (word_at u)

-- a ticket that asked for another bandwidth, by one call of the gate that ended as its last try
-- did: it has found words of its domain, and is of its gate and domain still
pub record IsTicketAnswered (t : TicketView) (bw : ℕ) (u : TicketView)
    (word : Option ℕ) : Type 0 where
  pub words : List ℕ
  pub some : 0 < length words
  pub found : u.found ≡ t.found ++ found_in t.domain words
  pub own : IsTicketOf t.gate t.domain u
  pub answer : IsWordAnswer t bw u word
  pub asked : IsRegrade t bw (logged_as u word)

-- the ticket of a task asks the word for another bandwidth, and no other ticket changes
pub record AsksTheWord (number bw : ℕ) (old new : List Held) (word : Option ℕ) : Type 0 where
  pub before : List Held
  pub following : List Held
  pub was : TicketView
  pub becomes : TicketView
  pub old_tickets : old ≡ before ++ record { number = number; ticket = was } ∷ following
  pub new_tickets : new ≡ before ++ record { number = number; ticket = becomes } ∷ following
  pub answered : IsTicketAnswered was bw becomes word
