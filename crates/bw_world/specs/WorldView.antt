-- What a contract sees of a world: plain lists (own).
use Rattle.std.specs.Prelude.{ℕ, List}
use Rattle.bw_world.specs.declared.book.Change.{Change}
use Rattle.bw_world.specs.declared.ticket.Ticket.{Ticket}
use Rattle.bw_world.specs.declared.ticket.Task.{Task}

-- one root domain: the cap and what is used of it, which are the two parts of its bandwidth word,
-- in 1/2^20 of a CPU; the tickets in hand; the admitted tasks, each with its ticket; and the
-- changes of its book, oldest first
pub record DomainView : Type 0 where
  pub cap : ℕ
  pub used : ℕ
  pub in_hand : List Ticket
  pub admitted : List Task
  pub changes : List Change

-- the domains, and how many steps of the last whole run were applied
pub record WorldView : Type 0 where
  pub domains : List DomainView
  pub applied : ℕ
