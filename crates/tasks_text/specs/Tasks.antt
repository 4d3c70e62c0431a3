-- Tasks file: the tasks to look for in a recording (own). Its times and flags are spelled as in the
-- `admit` lines of calls text, and have the same ranges.
use Rattle.std.specs.Prelude.{◌≡◌, ℕ, ◌≤◌, ◌<◌, ◌==◌, Bool, false, List, [], ◌∷◌, ◌++◌, All, length, map, Option, Some, None, IfSome, bytes_eq, codes, decimal}
use Rattle.std.specs.List.{list_any}
use Rattle.task_script.specs.NameView.{IsName}
use Rattle.calls_text.specs.Spelling.{line_of, flag_text, text_of}
use Rattle.calls_text.specs.Limits.{IsChecked}
use Rattle.tasks_text.specs.declared.task.Task.{Task}

-- ---- the text

-- =PID, if the thread is named by its number
abbrev pub pid_text : Option ℕ → List ℕ
pid_text None = []
pid_text (Some pid) = codes "=" ++ decimal pid

-- name Q D P f or name=PID Q D P f
abbrev pub task_line : Task → List ℕ
task_line t =
    line_of
    ((t.name ++ pid_text t.pid) ∷ decimal t.params.runtime ∷ decimal t.params.deadline
    ∷ decimal t.params.period ∷ flag_text t.params ∷ [])

abbrev pub lines_of_tasks : List Task → List (List ℕ)
lines_of_tasks tasks = codes "dltasks 1" ∷ map task_line tasks

-- every line ends with LF, the last one too
abbrev pub tasks_spelling : List Task → List ℕ
tasks_spelling tasks = text_of (lines_of_tasks tasks)

-- ---- limits

abbrev pub has_byte : ℕ → List ℕ → Bool
has_byte byte text = list_any (λ b. byte == b) text

-- a name without =, a number up to 10^9, and parameters that the attribute check accepts
pub record IsTask (t : Task) : Type 0 where
  pub named : IsName t.name
  pub plain : has_byte 61 t.name ≡ false
  pub numbered : IfSome t.pid (λ pid. pid ≤ 1000000000)
  pub checked : IsChecked t.params

abbrev pub has_name : List ℕ → List Task → Bool
has_name name tasks = list_any (λ t. bytes_eq t.name name) tasks

-- each has a name that none before it has
abbrev pub HaveNewNames : List Task → List Task → Type 0
HaveNewNames before [] = Unit {0}
HaveNewNames before (t ∷ tasks) =
    (has_name t.name before ≡ false) × HaveNewNames (before ++ t ∷ []) tasks

-- 1 to 256 tasks, no name twice
pub record IsTaskList (tasks : List Task) : Type 0 where
  pub some : 0 < length tasks
  pub most : length tasks ≤ 256
  pub each : All IsTask tasks
  pub apart : HaveNewNames [] tasks
