-- What a contract sees of a scenario.
use Rattle.std.specs.Prelude.{ℕ, ◌≤◌, ◌<◌, List, Option, IfSome, All}
use Rattle.attr_check.specs.declared.attr.SchedAttr.{SchedAttr}
use Rattle.task_script.specs.NameView.{IsName}
use Rattle.task_script.specs.script.ScriptView.{ScriptView, IsScript}
use Rattle.limits.specs.Limits.{max_script_number}

-- a task: its number, name, attributes, CPUs (none where the text names none, which means domain
-- 0), microseconds to its start, and script
pub record TaskSpecView : Type 0 where
  pub number : ℕ
  pub name : List ℕ
  pub attr : SchedAttr
  pub cpus : Option (List ℕ)
  pub delay : ℕ
  pub script : ScriptView

-- each CPU has a number of 0 to 511, where any are named
abbrev pub AreCpus : Option (List ℕ) → Type 0
AreCpus cpus = IfSome cpus (All (λ cpu. cpu ≤ 511))

-- what every task specification keeps (own): a number, a name, CPUs, a delay and a script within
-- their limits
pub record IsTaskSpec (t : TaskSpecView) : Type 0 where
  pub some : 0 < t.number
  pub most : t.number ≤ 65535
  pub named : IsName t.name
  pub placed : AreCpus t.cpus
  pub soon : t.delay ≤ max_script_number
  pub scripted : IsScript t.script

-- a duration in microseconds, and the tasks
pub record ScenarioView : Type 0 where
  pub duration_us : ℕ
  pub tasks : List TaskSpecView
