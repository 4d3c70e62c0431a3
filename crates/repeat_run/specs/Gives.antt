-- WHAT IS KNOWN of a domain whose run repeats (own).
use Rattle.std.specs.Prelude.{ℕ, zero, suc, ◌≡◌, ◌+◌, ◌≤◌, List, length}
use Rattle.domain_run.specs.Switch.{Switch}
use Rattle.domain_run.specs.Domain.{Domain}
use Rattle.domain_run.specs.Coming.{switches_to_come}
use Rattle.domain_run.specs.Passing.{without_switches}
use Rattle.domain_run.specs.Sound.{IsDomain}
use Rattle.domain_run.specs.Tick.{ticks}
use Rattle.domain_run.specs.declared.pace.Pace.{Pace}
use Rattle.domain_run.specs.declared.mark.TaskSeen.{TaskSeen}
use Rattle.domain_run.specs.Shift.{AllMayGo, given_again}
use Rattle.repeat_run.specs.Seen.{AreTasksSeen, ArePaced, AllLast}

-- the next period may be given: it makes the same switches, later, and each task goes at its pace
pub record IsGiven (micros : ℕ) (paces : List Pace) (later_by : ℕ) (period : List Switch)
    (d : Domain) : Type 0 where
  pub many : length paces ≡ length d.tasks
  pub may : AllMayGo paces d.tasks
  pub again : ticks micros d ≡ given_again micros paces later_by period d

-- so may this many periods, one after the other
abbrev pub GivesPeriods : ℕ → ℕ → List Pace → ℕ → List Switch → Domain → Type 0
GivesPeriods zero micros paces later_by period d = Unit {0}
GivesPeriods (suc left) micros paces later_by period d =
    IsGiven micros paces later_by period d
    × GivesPeriods left micros paces (later_by + micros) period (without_switches (ticks micros d))

-- what a program compares: what was seen of the tasks before, the tasks after, who runs on each
-- CPU, and for how many periods rounds and work last
pub record IsFoundAgain (micros most : ℕ) (seen : List TaskSeen) (paces : List Pace)
    (d : Domain) : Type 0 where
  pub domain : IsDomain d
  pub first : AreTasksSeen seen d.tasks
  pub curr : (ticks micros d).curr ≡ d.curr
  pub paced : ArePaced micros seen (ticks micros d).tasks paces
  pub lasts : (periods : ℕ) → periods ≤ most → AllLast periods seen paces

-- then that many periods may be given, from the first on
abbrev pub FoundGivesLaw : Type 0
FoundGivesLaw = (micros most : ℕ) (seen : List TaskSeen) (paces : List Pace) (d : Domain)
    → IsFoundAgain micros most seen paces d
    → GivesPeriods most micros paces 0 (switches_to_come micros d) (without_switches d)
