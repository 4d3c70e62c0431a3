-- An advance that is streamed: what an accounting has of the run of a domain that goes on (own).
use Rattle.std.specs.Prelude.{ℕ, ◌≡◌, ◌+◌, ◌-◌, ◌*◌, ◌<◌, ◌≤◌, ◌^◌, List, [], length, All}
use Rattle.domain_run.specs.declared.happened.Happened.{Happened}
use Rattle.domain_run.specs.Domain.{Domain}
use Rattle.domain_run.specs.Tick.{ticks}
use Rattle.domain_run.specs.Happened.{logged_by_ticks}
use Rattle.run_figures.specs.Accounting.{AccountingView, IsNextPiece}
use Rattle.limits.specs.Limits.{clock_end}

-- a domain whose run is to end after n ticks more, of which nothing was streamed yet: its tasks are
-- those that were ever admitted
abbrev pub nothing_streamed : ℕ → Domain → AccountingView
nothing_streamed n d = record {
  cpus = d.cpus;
  time = d.time + n;
  tasks = d.used;
  happened = [];
  switches = [];
}

-- once n of these ticks were made: what they log, and all switches of the run
abbrev pub streamed_after : ℕ → ℕ → Domain → AccountingView
streamed_after n made d = record {
  cpus = d.cpus;
  time = d.time + n;
  tasks = d.used;
  happened = logged_by_ticks made d;
  switches = (ticks made d).switches;
}

-- all of a run that ended so and logged this
abbrev pub streamed_of : Domain → List Happened → AccountingView
streamed_of d logged = record {
  cpus = d.cpus;
  time = d.time;
  tasks = d.used;
  happened = logged;
  switches = d.switches;
}

-- THE PIECES in which it is streamed: a number of switches, or of what happened, ends one
abbrev pub piece_end : ℕ
piece_end = 4096

-- Streamed UP TO HERE: what an accounting streamed is an earlier part of the run of a domain. What
-- the domain has at hand, its switches and what happened since, is the next piece of it
pub record IsStreamedUpTo (d : Domain) (since : List Happened) (a : AccountingView) : Type 0 where
  pub same_cpus : a.cpus ≡ d.cpus
  pub next : IsNextPiece a since d.switches
  pub past : All (λ s. s.time < d.time) a.switches
  pub inside : All (λ s. s.cpu < d.cpus) a.switches
  pub logged : All (λ h. h.time ≤ d.time) a.happened
  pub logged_since : All (λ h. h.time ≤ d.time) since
  -- it can take all that may still happen up to 2^42 us: 2304 entries in a tick
  pub few : length a.happened + length since + 2304 * (clock_end - d.time) ≤ 2 ^ 63
