-- WHAT GOES ON ALIKE: a domain that was written down comes back, and more periods follow (own).
use Rattle.std.specs.Prelude.{ℕ, suc, ◌≡◌, ◌*◌, ◌≤◌, ◌++◌, Option, List, map}
use Rattle.domain_run.specs.declared.mark.TaskSeen.{TaskSeen}
use Rattle.domain_run.specs.declared.pace.Pace.{Pace}
use Rattle.domain_run.specs.Coming.{switches_to_come}
use Rattle.domain_run.specs.Domain.{Domain}
use Rattle.domain_run.specs.GoneOn.{MayGoOn}
use Rattle.domain_run.specs.Happened.{logged_by_ticks}
use Rattle.domain_run.specs.Passing.{without_switches}
use Rattle.domain_run.specs.Tick.{ticks}
use Rattle.repeat_law.specs.Repeats.{many_paces, happened_again, switches_again}
use Rattle.repeat_run.specs.Gives.{IsFoundAgain}
use Rattle.repeat_run.specs.Seen.{AreTasksSeen}

-- all tasks, who ran on each CPU, and the paces at which the tasks may go on
pub record SightView : Type 0 where
  pub seen : List TaskSeen
  pub running : List (Option ℕ)
  pub paces : List Pace

-- it was taken of this domain
pub record IsSightOf (s : SightView) (d : Domain) : Type 0 where
  pub seen : AreTasksSeen s.seen d.tasks
  pub running : s.running ≡ d.curr

-- the domain after a period, without its switches
abbrev pub after_period : ℕ → Domain → Domain
after_period micros d = without_switches (ticks micros d)

-- after a period of a domain this many more are alike: without a tick each task may go on at its
-- pace, and what happens and the switches are those of the period, each time a period later
pub record GoesOnAlike (micros periods : ℕ) (paces : List Pace) (d : Domain) : Type 0 where
  pub goes : MayGoOn (periods * micros) paces (after_period micros d)
  pub logged : logged_by_ticks (suc periods * micros) d
      ≡ happened_again micros (suc periods) (logged_by_ticks micros d)
  pub switches : (ticks (suc periods * micros) d).switches
      ≡ d.switches ++ switches_again micros (suc periods) (switches_to_come micros d)

-- what is found again does, for less periods than rounds and work last
abbrev pub FoundGoesOnLaw : Type 0
FoundGoesOnLaw = (micros most periods : ℕ) (seen : List TaskSeen) (paces : List Pace) (d : Domain)
    → IsFoundAgain micros most seen paces d → suc periods ≤ most
    → GoesOnAlike micros periods (map (many_paces periods) paces) d
