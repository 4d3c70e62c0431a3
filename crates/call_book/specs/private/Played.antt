-- What every book keeps whose last advance is made piece by piece.
use Rattle.std.specs.Prelude.{◌≡◌, ℕ, ◌+◌, ◌≤◌, ◌^◌, All, filter}
use Rattle.domain_run.specs.Domain.{Domain}
use Rattle.domain_run.specs.LoggedRun.{IsLoggedUntil}
use Rattle.domain_run.specs.Passing.{without_switches}
use Rattle.domain_run.specs.Tick.{ticks}
use Rattle.call_book.specs.Pieces.{is_kept}
use Rattle.call_book.specs.Book.{BookView, state_of}
use Rattle.call_book.specs.Playing.{PlayingView}
use Rattle.call_book.specs.private.Kept.{IsBook}
use Rattle.limits.specs.Limits.{clock_end}

-- the book with the tickets of the tasks that a domain lists
abbrev pub sifted_by : Domain → BookView → BookView
sifted_by d b = record b { tickets = filter (is_kept d) b.tickets }

-- with the tickets of the tasks that are listed at the end, it is the book of the run of its
-- history; so many ticks of this domain lead there
pub record LeadsOn (b : BookView) (at : Domain) (left : ℕ) : Type 0 where
  pub will_be : IsBook (sifted_by (state_of b) b) (state_of b)
  pub leads : without_switches (ticks left at) ≡ without_switches (state_of b)
  pub early : at.time + left ≤ clock_end

-- what is left of the advance leads to the run of the history, and what waits in the log records it
-- by now
pub record IsPlaying (p : PlayingView) : Type 0 where
  pub on : LeadsOn p.book p.at p.left
  pub until : All (IsLoggedUntil p.at.time) p.logged
