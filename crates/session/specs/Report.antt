-- What a session leaves at its end (own).
use Rattle.std.specs.Prelude.{◌≡◌, ℕ, ◌≤◌, List, [], length, All, slice_index, slice_index_or}
use Rattle.bw_gate.specs.Word.{IsCap}
use Rattle.domain_run.specs.Tick.{sum_of}
use Rattle.domain_run.specs.Run.{run_of}
use Rattle.calls_text.specs.SectionView.{SectionView}
use Rattle.calls_text.specs.OwnCalls.{IsNumbered}
use Rattle.calls_text.specs.Limits.{IsSection}
use Rattle.call_book.specs.Book.{IsMember, own_entries}
use Rattle.calls_text.specs.Histories.{IsLegal, calls_of}
use Rattle.session.specs.declared.report.Report.{Report}
use Rattle.session.specs.SessionId.{SessionId, IsDomainIndex, cpu_set_of}
use Rattle.session.specs.Asks.{ClientView, client_pass_in}

-- the history of a domain: it is legal, each client's entries are numbered in their order, no
-- stranger made one, it has a spelling, and the entries of each of these clients are the list of
-- its pass
pub record IsHistoryOf (id : SessionId) (d : ℕ) (clients : List ClientView)
    (s : SectionView) : Type 0 where
  pub cpus : s.cpus ≡ length (cpu_set_of id d)
  pub limit : s.limit ≡ id.limit
  pub legal : IsLegal s.cpus s.limit s.entries
  pub numbered : IsNumbered s.entries
  pub members : All (λ e. IsMember id.clients e.client) s.entries
  pub spelled : IsSection s
  pub own : All (λ c. client_pass_in c d ≡ own_entries c.number s.entries) clients

-- the sum of bandwidths of the tasks that a history leaves
abbrev pub sum_left : SectionView → ℕ
sum_left s = sum_of (run_of s.cpus s.limit (calls_of s.entries)).tasks

-- the histories of all domains, in their order; and what each word carried as used, which has room
-- for what the listed tasks have, is at most the cap that the same word carried, which the domain's
-- CPUs can have, and is exactly what these tasks have where all pieces came home
pub record IsLeft (id : SessionId) (clients : List ClientView) (r : Report) : Type 0 where
  pub count : length r.histories.items ≡ length id.cpu_sets
  pub histories : (d : ℕ) (x : SectionView) → IsDomainIndex id d
      → IsHistoryOf id d clients (slice_index_or r.histories.items d x)
  pub words : length r.words.items ≡ length id.cpu_sets
  pub room : (d : ℕ) (x : SectionView) → IsDomainIndex id d
      → sum_left (slice_index_or r.histories.items d x) ≤ slice_index r.words.items d
  pub caps : length r.caps.items ≡ length id.cpu_sets
  pub a_cap : (d : ℕ) → IsDomainIndex id d
      → IsCap (length (cpu_set_of id d)) (slice_index r.caps.items d)
  pub capped : (d : ℕ) → IsDomainIndex id d
      → slice_index r.words.items d ≤ slice_index r.caps.items d
  pub exact : r.home ≡ id.gate.terms.pieces
      → (d : ℕ) (x : SectionView) → IsDomainIndex id d
      → slice_index r.words.items d ≡ sum_left (slice_index_or r.histories.items d x)

-- what the end of a session leaves: nobody stands among the refused
pub record IsSessionReport (id : SessionId) (clients : List ClientView) (r : Report) : Type 0 where
  pub left : IsLeft id clients r
  pub refused : r.refused.items ≡ []
