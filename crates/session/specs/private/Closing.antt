-- What comes home at a session's end.
use Rattle.std.specs.Prelude.{◌≡◌, ℕ, ◌*◌, ◌<◌, ◌≤◌, List, [], length, All, vec_capacity, slice_index_or}
use Rattle.bw_gate.specs.Pieces.{GateId, TicketView, bw_of_tickets}
use Rattle.domain_run.specs.Domain.{Domain}
use Rattle.domain_run.specs.Run.{run_of}
use Rattle.calls_text.specs.SectionView.{SectionView}
use Rattle.calls_text.specs.Histories.{calls_of}
use Rattle.call_book.specs.Ending.{EndingView, left_of}
use Rattle.session.specs.declared.closing_session.Room.{Room}
use Rattle.session.specs.SessionId.{SessionId}
use Rattle.session.specs.Asks.{ClientView}
use Rattle.session.specs.Report.{IsHistoryOf, sum_left}

abbrev pub AreTicketsOf : GateId → List TicketView → Type 0
AreTicketsOf gate tickets = All (λ t. t.gate ≡ gate) tickets

-- the histories of the domains 0, 1, ..
abbrev pub AreHistories : SessionId → List ClientView → List SectionView → Type 0
AreHistories id clients histories =
    (d : ℕ) (x : SectionView) → d < length histories
    → IsHistoryOf id d clients (slice_index_or histories d x)

-- the tickets of each of these domains have the bandwidths of the tasks that its history leaves
abbrev pub AreSums : List SectionView → List TicketView → Type 0
AreSums histories tickets =
    (d : ℕ) (x : SectionView) → d < length histories
    → bw_of_tickets d tickets ≡ sum_left (slice_index_or histories d x)

-- what a closed book leaves: its history, and the state that this leads to, without its switches
-- where they were streamed
pub record IsEnded (b : EndingView) (history : SectionView) (state : Domain) : Type 0 where
  pub entries : history.entries ≡ b.book.history
  pub run : state
      ≡ left_of b.streamed (run_of history.cpus history.limit (calls_of history.entries))

-- and so the first of these books, one for each history
pub record HaveEnded (books : List EndingView) (histories : List SectionView)
    (states : List Domain) : Type 0 where
  pub states_count : length states ≡ length histories
  pub each : (d : ℕ) (b : EndingView) (s : SectionView) (x : Domain) → d < length histories
      → IsEnded (slice_index_or books d b) (slice_index_or histories d s)
      (slice_index_or states d x)

-- nothing yet, with room for the end of so many domains
pub record IsClosingRoom (domains : ℕ) (r : Room) : Type 0 where
  pub no_tickets : r.tickets.items ≡ []
  pub no_histories : r.histories.items ≡ []
  pub no_states : r.states.items ≡ []
  pub no_words : r.words.items ≡ []
  pub no_caps : r.caps.items ≡ []
  pub nobody : r.refused.items ≡ []
  pub for_tickets : domains * 256 ≤ vec_capacity r.tickets
  pub for_histories : domains ≤ vec_capacity r.histories
  pub for_states : domains ≤ vec_capacity r.states
  pub for_words : domains ≤ vec_capacity r.words
  pub for_caps : domains ≤ vec_capacity r.caps
