-- Words for the worked rows.
use Rattle.std.specs.Prelude.{ℕ, true, false, Option, codes, find, option_map, ◌==◌}
use Rattle.attr_check.specs.ParamsView.{ParamsView}
use Rattle.attr_check.specs.Ratio.{ratio}
use Rattle.task_script.specs.script.ScriptView.{ScriptView}
use Rattle.cbs_rules.specs.declared.server.Server.{Server}
use Rattle.domain_run.specs.declared.task.Task.{Task}
use Rattle.domain_run.specs.declared.task.Condition.{Condition}
use Rattle.domain_run.specs.Switch.{Switch}
use Rattle.domain_run.specs.declared.switch.PrevState.{PrevState}
use Rattle.domain_run.specs.declared.call.Call.{Call}
use Rattle.domain_run.specs.declared.call.Call.TheVariants.{Admit}
use Rattle.domain_run.specs.Domain.{Domain}
use Rattle.domain_run.specs.Tick.{sum_of}

-- runtime, relative deadline and period, without and with reclaiming
abbrev pub plain : ℕ → ℕ → ℕ → ParamsView
plain runtime deadline period =
    record {
      runtime = runtime;
      deadline = deadline;
      period = period;
      reclaim = false;
      bw = ratio period runtime;
    }

abbrev pub reclaiming : ℕ → ℕ → ℕ → ParamsView
reclaiming runtime deadline period =
    record {
      runtime = runtime;
      deadline = deadline;
      period = period;
      reclaim = true;
      bw = ratio period runtime;
    }

-- a task that starts now
abbrev pub admit : ℕ → ParamsView → ScriptView → Call
admit number params script = Admit number (codes "T") params 0 script

-- time, CPU, previous occupant with its state, next one
abbrev pub switch : ℕ → ℕ → Option ℕ → PrevState → Option ℕ → Switch
switch time cpu prev state next =
    record { time = time; prev = prev; next = next; cpu = cpu; state = state }

abbrev pub sum_after : Domain → ℕ
sum_after d = sum_of d.tasks

abbrev pub task_in : Domain → ℕ → Option Task
task_in d number = find (λ t. t.number == number) d.tasks

-- deadline and budget, condition, and zero-lag time of a listed task
abbrev pub server_in : Domain → ℕ → Option Server
server_in d number = option_map (λ t. t.server) (task_in d number)

abbrev pub condition_in : Domain → ℕ → Option Condition
condition_in d number = option_map (λ t. t.condition) (task_in d number)

abbrev pub zero_lag_in : Domain → ℕ → Option (Option ℕ)
zero_lag_in d number = option_map (λ t. t.zero_lag) (task_in d number)
