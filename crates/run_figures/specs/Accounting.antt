-- A run that is streamed piece by piece (own).
use Rattle.std.specs.Prelude.{ℕ, ◌+◌, ◌-◌, ◌<◌, ◌≤◌, ◌^◌, ◌++◌, List, length, All, AllPairs, IsTrue}
use Rattle.domain_run.specs.declared.happened.Happened.{Happened}
use Rattle.domain_run.specs.Switch.{Switch}
use Rattle.domain_run.specs.Switches.{is_switch_before}
use Rattle.run_figures.specs.declared.run.Admitted.{Admitted}
use Rattle.run_figures.specs.Runs.{RunView}

-- how many CPUs the domain has, the time at which the run will end, in microseconds, the numbers of
-- its tasks; and all that was streamed so far, both in their order
pub record AccountingView : Type 0 where
  pub cpus : ℕ
  pub time : ℕ
  pub tasks : List ℕ
  pub happened : List Happened
  pub switches : List Switch

-- the run that was streamed, with the tasks as they are at its end
abbrev pub streamed_run : AccountingView → List Admitted → RunView
streamed_run a tasks = record {
  cpus = a.cpus;
  time = a.time;
  tasks = tasks;
  happened = a.happened;
  switches = a.switches;
}

-- with one piece more after
abbrev pub with_piece : AccountingView → List Happened → List Switch → AccountingView
with_piece a happened switches = record a {
  happened = a.happened ++ happened;
  switches = a.switches ++ switches;
}

-- THE NEXT PIECE of a run, which is cut between two ticks. What happens at a time is logged before
-- the switches of that time: what ends a tick may stand at the end of one piece, and the switches
-- of the same time in the next one
pub record IsNextPiece (a : AccountingView) (happened : List Happened) (switches : List Switch)
    : Type 0 where
  -- what was streamed is not later than the switches to come
  pub logged : All (λ s. All (λ h. h.time ≤ s.time) a.happened) switches
  -- what is to come is later than the switches that were streamed
  pub later : All (λ h. All (λ s. s.time < h.time) a.switches) happened
  -- switches are in their order, within the run and on the domain's CPUs
  pub rising : AllPairs (λ a b. IsTrue (is_switch_before a b)) (a.switches ++ switches)
  pub past : All (λ s. s.time ≤ a.time) switches
  pub inside : All (λ s. s.cpu < a.cpus) switches
  -- there are fewer than 2^64 - 1 of each
  pub few_happened : length a.happened + length happened < 2 ^ 64 - 1
  pub few_switches : length a.switches + length switches < 2 ^ 64 - 1
