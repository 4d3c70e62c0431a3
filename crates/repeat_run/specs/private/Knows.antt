-- What a run that looks for a period knows in each phase (own).
use Rattle.std.specs.Prelude.{ℕ, ◌≡◌, ◌<◌, ◌≤◌}
use Rattle.domain_run.specs.Domain.{Domain}
use Rattle.domain_run.specs.Coming.{switches_to_come}
use Rattle.domain_run.specs.Passing.{without_switches}
use Rattle.domain_run.specs.Sound.{IsDomain}
use Rattle.domain_run.specs.Tick.{ticks}
use Rattle.repeat_run.specs.declared.phase.Phase.{Phase}
use Rattle.repeat_run.specs.declared.phase.Phase.TheVariants.{Fresh, Tired, Looking, Recording, Giving}
use Rattle.repeat_run.specs.declared.phase.Kept.{Kept}
use Rattle.repeat_run.specs.Seen.{AreTasksSeen}
use Rattle.repeat_run.specs.Gives.{GivesPeriods}

-- it was all written down `made` ticks ago, and since then each switch
pub record IsRecorded (made : ℕ) (kept : Kept) (d : Domain) : Type 0 where
  pub start : Domain
  pub domain : IsDomain start
  pub seen : AreTasksSeen kept.seen.items start.tasks
  pub running : kept.running.items ≡ start.curr
  pub there : without_switches d ≡ without_switches (ticks made start)
  pub period : kept.period.items ≡ switches_to_come made start

-- `left` more periods may be given
pub record IsGiving (micros later_by left : ℕ) (kept : Kept) (d : Domain) : Type 0 where
  pub some : 0 < micros
  pub past : later_by ≤ d.time
  pub gives :
      GivesPeriods left micros kept.paces.items later_by kept.period.items (without_switches d)

abbrev pub KnowsInPhase : Phase → Kept → Domain → Type 0
KnowsInPhase Fresh kept d = Unit {0}
KnowsInPhase Tired kept d = Unit {0}
KnowsInPhase (Looking watch) kept d = Unit {0}
KnowsInPhase (Recording r) kept d = (r.made < r.micros) × IsRecorded r.made kept d
KnowsInPhase (Giving g) kept d = IsGiving g.micros g.later_by g.left kept d
