-- What a caller may see of a task.
use Rattle.std.specs.Prelude.{ℕ, ◌==◌, List, find, Option, option_map, slice_get}
use Rattle.domain_run.specs.declared.task.Task.{Task}
use Rattle.domain_run.specs.declared.task.TaskView.{TaskView}
use Rattle.task_script.specs.script.ScriptView.{ScriptView}
use Rattle.domain_run.specs.Domain.{Domain}
use Rattle.domain_run.specs.Calls.{task_of}
use Rattle.attr_check.specs.ParamsView.{ParamsView}

abbrev pub view_of : Task → TaskView
view_of t =
    record {
      server = t.server;
      condition = t.condition;
      zero_lag = t.zero_lag;
      cpu = t.cpu;
      params = t.params;
    }

-- the listed task of a number
abbrev pub view_in : Domain → ℕ → Option TaskView
view_in d number = option_map view_of (find (λ t. t.number == number) d.tasks)

-- its name, as it was admitted
abbrev pub name_in : Domain → ℕ → Option (List ℕ)
name_in d number = option_map (λ t. t.name) (find (λ t. t.number == number) d.tasks)

-- its script, whole, wherever its cursor is
abbrev pub script_in : Domain → ℕ → Option ScriptView
script_in d number = option_map (λ t. t.cursor.script) (find (λ t. t.number == number) d.tasks)

-- the number of the task at a place of the list, from 0, in the order of admission
abbrev pub number_in : Domain → ℕ → Option ℕ
number_in d place = option_map (λ t. t.number) (slice_get d.tasks place)

-- what a task takes along to another domain, where it is listed and has not ended: its name, its
-- parameters as they now are, and its whole script
pub record Moving : Type 0 where
  pub name : List ℕ
  pub params : ParamsView
  pub script : ScriptView

abbrev pub moving_of : Task → Moving
moving_of t = record { name = t.name; params = t.params; script = t.cursor.script }

abbrev pub moving_in : Domain → ℕ → Option Moving
moving_in d number = option_map moving_of (task_of d number)
