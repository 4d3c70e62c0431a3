-- The history of a domain, and histories of several: the states that they lead to, and what they
-- log (own).
use Rattle.std.specs.Prelude.{◌≡◌, ℕ, ◌<◌, Bool, IsTrue, List, Some, length, map, All, slice_index_or}
use Rattle.domain_run.specs.Domain.{Domain, empty_domain}
use Rattle.domain_run.specs.Happened.{logged_by_calls}
use Rattle.domain_run.specs.Log.{LogView}
use Rattle.calls_text.specs.SectionView.{SectionView}
use Rattle.domain_run.specs.declared.call.Call.{Call}
use Rattle.domain_run.specs.Run.{replies_to, run_of}
use Rattle.calls_text.specs.declared.section.Entry.{Entry}

abbrev pub calls_of : List Entry → List Call
calls_of history = map (λ e. e.call) history

-- a history is legal where each entry has the reply that the run gives to its call
abbrev pub IsLegal : ℕ → ℕ → List Entry → Type 0
IsLegal cpus limit history =
    map (λ e. e.reply) history ≡ map Some (replies_to (empty_domain cpus limit) (calls_of history))

-- each entry has its lawful reply
abbrev pub AreLegal : List SectionView → Type 0
AreLegal histories = All (λ h. IsLegal h.cpus h.limit h.entries) histories

-- the states are what the histories of these domains lead to
abbrev pub AreRuns : List SectionView → List Domain → Type 0
AreRuns histories states =
    (d : ℕ) (s : SectionView) (x : Domain) → d < length histories
    → let h = slice_index_or histories d s in
    slice_index_or states d x ≡ run_of h.cpus h.limit (calls_of h.entries)

-- the logs are of one kind, and one that keeps what it logs has what the history of its domain
-- logs, and nothing else
pub record AreLogged (wanted : Bool) (histories : List SectionView) (logs : List LogView)
    : Type 0 where
  pub alike : (d : ℕ) (x : LogView) → d < length histories
      → (slice_index_or logs d x).wanted ≡ wanted
  pub logged : (d : ℕ) (s : SectionView) (x : LogView) → d < length histories → IsTrue wanted
      → let h = slice_index_or histories d s in
      (slice_index_or logs d x).happened
      ≡ logged_by_calls (empty_domain h.cpus h.limit) (calls_of h.entries)
