-- The first bad line of a tasks file (own), defined as that of a calls text.
use Rattle.std.specs.Prelude.{◌≡◌, ℕ, ◌+◌, List, [], ◌∷◌, ◌++◌, length}
use Rattle.calls_text.specs.Spelling.{text_of}
use Rattle.tasks_text.specs.declared.task.Task.{Task}
use Rattle.tasks_text.specs.declared.fault.TasksFault.{TasksFault}
use Rattle.tasks_text.specs.declared.fault.TasksFault.TheVariants.{BadLine, Memory}
use Rattle.tasks_text.specs.Tasks.{lines_of_tasks, tasks_spelling, IsTaskList}

-- a text is accepted if it is that of tasks
abbrev pub IsTasksText : List ℕ → Type 0
IsTasksText text = (tasks : List Task) × IsTaskList tasks × (text ≡ tasks_spelling tasks)

-- these are the first lines of some accepted text
abbrev pub BeginsTasks : List (List ℕ) → Type 0
BeginsTasks lines =
    (tasks : List Task) × IsTaskList tasks × (more : List (List ℕ))
    × (lines_of_tasks tasks ≡ lines ++ more)

-- Line n is the first at which the text stops being a front of whole lines of an accepted text: the
-- lines before it begin an accepted text, with line n they begin none, and the text itself is not
-- accepted. So an unfinished last line is bad, and if there is no task, line 2.
pub record IsBadTaskLine (text : List ℕ) (n : ℕ) : Type 0 where
  -- the lines before line n, and what follows them
  pub front : List (List ℕ)
  pub rest : List ℕ
  pub parts : text ≡ text_of front ++ rest
  pub place : n ≡ length front + 1
  pub before : BeginsTasks front
  pub stops : (line after : List ℕ) → rest ≡ line ++ 10 ∷ after → BeginsTasks (front ++ line ∷ [])
      → ⊥
  pub refused : IsTasksText text → ⊥

-- what a fault says of a text; memory may run out at any
abbrev pub IsTasksFault : List ℕ → TasksFault → Type 0
IsTasksFault text (BadLine n) = IsBadTaskLine text n
IsTasksFault text Memory = Unit {0}
