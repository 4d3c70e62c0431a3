-- What an accounting keeps of the run that it streamed.
use Rattle.std.specs.Prelude.{ℕ, ◌≡◌, ◌-◌, ◌<◌, ◌≤◌, ◌^◌, List, length, map, All, AllPairs, IsTrue}
use Rattle.std.specs.List.{range_with_len}
use Rattle.domain_run.specs.declared.happened.Happened.{Happened}
use Rattle.domain_run.specs.Switches.{is_switch_before}
use Rattle.run_figures.specs.declared.logged.TaskTally.{TaskTally}
use Rattle.run_figures.specs.declared.ran.Ran.{Ran}
use Rattle.run_figures.specs.declared.ran.Cpu.{Cpu}
use Rattle.run_figures.specs.declared.accounting.Streamed.{Streamed}
use Rattle.run_figures.specs.declared.accounting.opening.Rooms.{Rooms}
use Rattle.domain_run.specs.Later.{later_happened, later_switch}
use Rattle.run_figures.specs.Accounting.{AccountingView}
use Rattle.run_figures.specs.private.Logging.{logged_by, IsLoggedWithin}
use Rattle.run_figures.specs.private.Running.{ran_by, cpu_by}
use Rattle.run_figures.specs.private.Past.{items_of}
use Rattle.limits.specs.Limits.{clock_end}

-- what happened so far
abbrev pub happened_in : Streamed → List Happened
happened_in h = items_of later_happened h.happened.items

abbrev pub accounting_view_of : Streamed → List ℕ → AccountingView
accounting_view_of h tasks = record {
  cpus = h.cpus;
  time = h.time;
  tasks = tasks;
  happened = happened_in h;
  switches = items_of later_switch h.switches.items;
}

-- how much was streamed
pub record IsStreamedCounted (h : Streamed) : Type 0 where
  pub happened : h.happened.count ≡ length (items_of later_happened h.happened.items)
  pub switches : h.switches.count ≡ length (items_of later_switch h.switches.items)

pub record IsMarkCounted (a : AccountingView) (happened switches : ℕ) : Type 0 where
  pub happened_count : happened ≡ length a.happened
  pub switches_count : switches ≡ length a.switches

-- its tables are what the definitions make of all that was streamed
pub record IsAccountingKept (a : AccountingView) (ts : List TaskTally) (rs : List Ran)
    (cs : List Cpu)
    : Type 0 where
  pub logged : ts ≡ map (logged_by a.time a.happened a.switches) a.tasks
  pub within : All (IsLoggedWithin (length a.happened)) ts
  pub ran : rs ≡ map (ran_by a.time a.switches) a.tasks
  pub cpus : cs ≡ map (cpu_by a.time a.switches) (range_with_len 0 a.cpus)

-- what was streamed is of a run
pub record IsOfRun (a : AccountingView) : Type 0 where
  pub early : a.time ≤ clock_end
  pub cpus : a.cpus ≤ 64
  pub past : All (λ s. s.time ≤ a.time) a.switches
  pub inside : All (λ s. s.cpu < a.cpus) a.switches
  pub rising : AllPairs (λ a b. IsTrue (is_switch_before a b)) a.switches
  pub few_happened : length a.happened < 2 ^ 64 - 1
  pub few_switches : length a.switches < 2 ^ 64 - 1

-- its lists have the room with which they were made
pub record HaveRooms (logged tasks cpus : ℕ) (rooms : Rooms) : Type 0 where
  pub logged_room : logged ≡ rooms.logged
  pub tasks_room : tasks ≡ rooms.tasks
  pub cpus_room : cpus ≡ rooms.cpus
