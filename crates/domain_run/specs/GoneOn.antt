-- A DOMAIN THAT GOES ON without a tick: each task at its pace, and the switches forgotten (own).
use Rattle.std.specs.Prelude.{ℕ, ◌≡◌, ◌+◌, List, [], length}
use Rattle.domain_run.specs.declared.pace.Pace.{Pace}
use Rattle.domain_run.specs.Domain.{Domain}
use Rattle.domain_run.specs.Passing.{without_switches}
use Rattle.domain_run.specs.Shift.{paced_all, AllMayGo}
use Rattle.domain_run.specs.Tick.{ticks}

-- k microseconds later, with each task at the pace at its place
abbrev pub gone_on : ℕ → List Pace → Domain → Domain
gone_on k paces d = record d {
  time = d.time + k;
  tasks = paced_all k paces d.tasks;
  switches = [];
}

-- k ticks lead there
pub record MayGoOn (k : ℕ) (paces : List Pace) (d : Domain) : Type 0 where
  pub many : length paces ≡ length d.tasks
  pub may : AllMayGo paces d.tasks
  pub there : without_switches (ticks k d) ≡ gone_on k paces d
