-- One domain's run, as figures are made of it.
use Rattle.std.specs.Prelude.{ℕ, ◌<◌, ◌≤◌, ◌≢◌, ◌^◌, List, All, AllPairs, IsTrue}
use Rattle.domain_run.specs.declared.happened.Happened.{Happened}
use Rattle.domain_run.specs.Switch.{Switch}
use Rattle.domain_run.specs.Switches.{is_switch_before}
use Rattle.run_figures.specs.declared.run.Admitted.{Admitted}
use Rattle.run_figures.specs.declared.run.Run.{Run}
use Rattle.limits.specs.Limits.{clock_end, task_number_end}

-- how many CPUs the domain has, the time at the end, in microseconds; the tasks that were ever
-- admitted, what happened to them, and the switches of the CPUs, both in their order
pub record RunView : Type 0 where
  pub cpus : ℕ
  pub time : ℕ
  pub tasks : List Admitted
  pub happened : List Happened
  pub switches : List Switch

abbrev pub run_view_of : Run → RunView
run_view_of r = record {
  cpus = r.cpus;
  time = r.time;
  tasks = r.tasks.now;
  happened = r.happened.now;
  switches = r.switches.now;
}

-- a number of a task: 1 to 65535, of no other task
pub record AreTasks (tasks : List Admitted) : Type 0 where
  pub small : All (λ t. t.number < task_number_end) tasks
  pub apart : AllPairs (λ a b. a.number ≢ b.number) tasks

-- what every domain keeps: at most 2^42 us (own), the switches in their order, within that time and
-- on the domain's CPUs
pub record IsBoundedRun (r : RunView) : Type 0 where
  pub early : r.time ≤ clock_end
  pub cpus : r.cpus ≤ 64
  pub tasks : AreTasks r.tasks
  pub past : All (λ s. s.time ≤ r.time) r.switches
  pub inside : All (λ s. s.cpu < r.cpus) r.switches
  pub rising : AllPairs (λ a b. IsTrue (is_switch_before a b)) r.switches
