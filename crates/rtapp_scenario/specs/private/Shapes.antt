-- What all tasks of a thread have alike, for the code's own contracts.
use Rattle.std.specs.Prelude.{◌≡◌, ◌≤◌, List}
use Rattle.std.specs.Option.{option_map}
use Rattle.task_script.specs.script.ScriptView.{IsScript}
use Rattle.rtapp_scenario.specs.declared.tasks.Shape.{Shape}
use Rattle.rtapp_scenario.specs.Values.{Member}
use Rattle.rtapp_scenario.specs.Threads.{cpus, delay}
use Rattle.rtapp_scenario.specs.Scenario.{attr, script}
use Rattle.rtapp_scenario.specs.ScenarioView.{AreCpus}
use Rattle.limits.specs.Limits.{max_script_number}

-- it is that of a thread of these members
pub record IsShape (ms : List Member) (s : Shape) : Type 0 where
  pub attr : s.attr ≡ attr ms
  pub cpus : option_map (λ v. v.items) s.cpus ≡ cpus ms
  pub delay : s.delay ≡ delay ms
  pub script : s.script ≡ script ms

-- it is within the limits of a task
pub record FitsTask (s : Shape) : Type 0 where
  pub placed : AreCpus (option_map (λ v. v.items) s.cpus)
  pub soon : s.delay ≤ max_script_number
  pub scripted : IsScript s.script
