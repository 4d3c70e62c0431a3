-- How far a tasks file is read. No public clause names it.
use Rattle.std.specs.Prelude.{◌≡◌, ℕ, ◌≤◌, ◌<◌, false, List, [], ◌∷◌, ◌++◌, length}
use Rattle.std.specs.List.{AllByRecursion}
use Rattle.tasks_text.specs.declared.task.Task.{Task}
use Rattle.tasks_text.specs.declared.fault.LineFault.{LineFault}
use Rattle.tasks_text.specs.declared.fault.LineFault.TheVariants.{Bad, Memory}
use Rattle.tasks_text.specs.Tasks.{task_line, tasks_spelling, IsTask, has_name, HaveNewNames}

-- these tasks are read, and the rest is not
pub record IsReadTo (text rest : List ℕ) (tasks : List Task) : Type 0 where
  pub parts : text ≡ tasks_spelling tasks ++ rest
  pub most : length tasks ≤ 256
  pub each : AllByRecursion IsTask tasks
  pub apart : HaveNewNames [] tasks

-- the rest begins with the line of one more task
pub record IsNextTask (tasks : List Task) (t : Task) (rest after : List ℕ) : Type 0 where
  pub line : rest ≡ task_line t ++ 10 ∷ after
  pub is : IsTask t
  pub new : has_name t.name tasks ≡ false
  pub room : length tasks < 256

pub record IsOneTaskMore (old new : List Task) (rest after : List ℕ) : Type 0 where
  pub task : Task
  pub added : new ≡ old ++ task ∷ []
  pub next : IsNextTask old task rest after

abbrev pub LacksTask : List Task → List ℕ → Type 0
LacksTask tasks rest = (t : Task) (after : List ℕ) → IsNextTask tasks t rest after → ⊥

-- what is said of a rest whose first line is not taken
abbrev pub IsStuck : List Task → List ℕ → LineFault → Type 0
IsStuck tasks rest Bad = LacksTask tasks rest
IsStuck tasks rest Memory = Unit {0}
