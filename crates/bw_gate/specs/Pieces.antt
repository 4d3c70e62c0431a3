-- What a contract sees of a gate, a blank and a ticket (own).
use Rattle.std.specs.Prelude.{ℕ, ◌==◌, if◌then◌else◌, List, [], ◌∷◌, sum_by}
use Rattle.atomic_table.specs.Seated.{TableId}
use Rattle.bw_gate.specs.declared.view.Found.{Found}
use Rattle.bw_gate.specs.Terms.{TermsView, cpus_in}

-- a gate: which table of words it is, and its terms
pub record GateId : Type 0 where
  pub table : TableId
  pub terms : TermsView

-- the CPUs of a domain of a gate
abbrev pub cpus_of : GateId → ℕ → ℕ
cpus_of gate d = cpus_in gate.terms d

-- a blank: the gate that it is used with, and the words that its steps have found since it was
-- dealt or renewed, oldest first, each with its domain; of a step that set a limit, the word that
-- it left
pub record BlankView : Type 0 where
  pub gate : GateId
  pub found : List Found

-- a ticket: the same, and the bandwidth that it holds of a domain's word
pub record TicketView : Type 0 where
  pub gate : GateId
  pub domain : ℕ
  pub bw : ℕ
  pub found : List Found

-- some words of one domain, each found by a step on it
abbrev pub found_in : ℕ → List ℕ → List Found
found_in d [] = []
found_in d (n ∷ words) = record { domain = d; word = n } ∷ found_in d words

-- the word that the last step found, or left where it set a limit; 0 before any
abbrev pub last_word_found : List Found → ℕ
last_word_found [] = 0
last_word_found (n ∷ []) = n.word
last_word_found (n ∷ m ∷ found) = last_word_found (m ∷ found)

-- what a ticket holds of a domain's word
abbrev pub bw_in : ℕ → TicketView → ℕ
bw_in d ticket = if ticket.domain == d then ticket.bw else 0

-- the bandwidth of all tickets of a domain
abbrev pub bw_of_tickets : ℕ → List TicketView → ℕ
bw_of_tickets d tickets = sum_by (bw_in d) tickets
