-- What every book keeps.
use Rattle.std.specs.Prelude.{◌≡◌, ◌≢◌, ◌⊎◌, ℕ, ◌≤◌, ◌*◌, length, Option, None, IfSome, All}
use Rattle.bw_gate.specs.Pieces.{GateId, BlankView, cpus_of}
use Rattle.attr_check.specs.ParamsView.{ParamsView}
use Rattle.domain_run.specs.declared.call.Reply.TheVariants.{Changed, Set}
use Rattle.domain_run.specs.Domain.{Domain, IsLimit}
use Rattle.domain_run.specs.Sound.{IsDomain}
use Rattle.domain_run.specs.Calls.{regrade_reply, limit_reply, task_of}
use Rattle.call_book.specs.Pieces.{HoldsTickets, IsTicketOf, AsksTheWord}
use Rattle.call_book.specs.Book.{BookView, state_of, HasItsLimit}
use Rattle.calls_text.specs.Histories.{IsLegal}
use Rattle.call_book.specs.LimitAnswers.{AsksForLimit}
use Rattle.call_book.specs.private.Ledger.{LedgerView}
use Rattle.call_book.specs.private.Stock.{StockView}
use Rattle.limits.specs.Limits.{unit, max_advance}

-- a book as a contract sees it, of its CPUs and limit, its workers, the word that it left, its
-- history and its pieces
abbrev pub book_of : ℕ → ℕ → ℕ → Option ℕ → LedgerView → StockView → BookView
book_of cpus limit workers left l s = record {
  gate = s.gate;
  domain = s.domain;
  cpus = cpus;
  limit = limit;
  clients = l.clients;
  spine = l.spine;
  room = l.room;
  history = l.history;
  tickets = s.tickets;
  blanks = s.blanks;
  workers = workers;
  left = left;
}

-- The state is the run of the history, which is legal; each listed task has a ticket; the domain is
-- one of the gate's, of its CPUs; it has its limit; and an entry makes at most 60000000 ticks.
pub record IsBook (b : BookView) (state : Domain) : Type 0 where
  pub run : state ≡ state_of b
  pub legal : IsLegal b.cpus b.limit b.history
  pub held : HoldsTickets state b.tickets
  pub machine : (state.cpus ≡ b.cpus) × IsLimit state.limit
  pub early : state.time ≤ length b.history * max_advance
  pub few : b.cpus ≤ 64
  pub high : b.limit ≤ unit
  pub capped : cpus_of b.gate b.domain ≡ b.cpus
  pub limited : HasItsLimit b

-- the word is asked exactly where the domain's own test passes, by a ticket of its gate and domain;
-- what is used of a word that refused is at most what its CPUs have
abbrev pub IsRegradeAsked : Domain → StockView → StockView → ℕ → ParamsView → Option ℕ → Type 0
IsRegradeAsked state old new number params word =
    ((regrade_reply state params None (task_of state number) ≡ Changed) × IsDomain state
    × (new ≡ record old { tickets = new.tickets })
    × AsksTheWord number params.bw old.tickets new.tickets word
    × IfSome word (λ used. used ≤ cpus_of old.gate old.domain * unit)
    × All (λ h. IsTicketOf old.gate old.domain h.ticket) old.tickets)
    ⊎ ((regrade_reply state params None (task_of state number) ≢ Changed) × (word ≡ None)
    × (new ≡ old))

-- likewise for a new limit, by a blank
abbrev pub IsLimitAsked : Domain → GateId → ℕ → ℕ → BlankView → BlankView → Option ℕ → Type 0
IsLimitAsked state gate domain limit blank back word =
    ((limit_reply state limit None ≡ Set) × AsksForLimit state.cpus domain limit blank back word
    × IfSome word (λ used. used ≤ cpus_of gate domain * unit))
    ⊎ ((limit_reply state limit None ≢ Set) × (word ≡ None) × (back ≡ blank))
