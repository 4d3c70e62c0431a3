-- How far the runs are collected, from the last switch to the first. No public clause names it.
use Rattle.std.specs.Prelude.{◌≡◌, ◌≢◌, ℕ, ◌<◌, if◌then◌else◌, List, [], ◌∷◌, ◌++◌, length, reverse, slice_index_or, All, Option, None}
use Rattle.std.specs.Option.{option_map, option_to_list}
use Rattle.std.specs.declared.vec.Vec.{Vec}
use Rattle.std.specs.Global.{Global}
use Rattle.recorded_text.specs.declared.step.Step.{Step}
use Rattle.trace_compare.specs.declared.run.Run.{Run}
use Rattle.trace_compare.specs.Runs.{next_time, is_of, run_until, raw_runs, runs_of, IsShort}
use Rattle.trace_compare.specs.declared.task.TaskRuns.{TaskRuns}
use Rattle.trace_compare.specs.Tasks.{AreSoundRuns}

abbrev pub Lists : Type 0
Lists = List (Vec Run Global)

-- one more run of a task, the others as they were
pub record PushesOne (old : Lists) (task : ℕ) (run : Run) (new : Lists) : Type 0 where
  pub same_len : length new ≡ length old
  pub here : (d : Vec Run Global) → (slice_index_or new task d).items
      ≡ (slice_index_or old task d).items ++ run ∷ []
  pub others : (j : ℕ) (d : Vec Run Global) → j ≢ task
      → slice_index_or new j d ≡ slice_index_or old j d

-- the run that begins with a switch, if it is one of the task, and another comes after it
abbrev pub run_at : ℕ → Step → Option ℕ → Option Run
run_at j s time = if is_of j s then option_map (run_until s) time else None

-- the run is added to its task
pub record TakesStep (old : Lists) (s : Step) (time : Option ℕ) (new : Lists) : Type 0 where
  pub same_len : length new ≡ length old
  pub each : (j : ℕ) (d : Vec Run Global) → j < length old
      → (slice_index_or new j d).items ≡ (slice_index_or old j d).items
      ++ option_to_list (run_at j s time)

-- of these switches, the time of the first on each CPU, and each task's runs, the last first
pub record AreRunsBehind (next : List (Option ℕ)) (runs : Lists) (steps : List Step) : Type 0 where
  pub times : (cpu : ℕ) → cpu < 65536 → slice_index_or next cpu None ≡ next_time cpu steps
  pub lists : (j : ℕ) (d : Vec Run Global) → j < length runs
      → reverse (slice_index_or runs j d).items ≡ raw_runs j steps

-- each task's runs, the last first
pub record IsCollected (runs : Lists) (tasks : ℕ) (steps : List Step) : Type 0 where
  pub many : length runs ≡ tasks
  pub lists : (j : ℕ) (d : Vec Run Global) → j < tasks
      → reverse (slice_index_or runs j d).items ≡ raw_runs j steps

abbrev pub AreShortLists : Lists → Type 0
AreShortLists runs = All (λ rs. All IsShort rs.items) runs

-- the first n tasks have their runs, joined
pub record AreRunsSettled (noise : ℕ) (model recorded : Lists) (n : ℕ) (tasks : List TaskRuns)
    : Type 0 where
  pub as_many : length tasks ≡ n
  pub of_model : (j : ℕ) (t : TaskRuns) (d : Vec Run Global) → j < n
      → (slice_index_or tasks j t).model.items
      ≡ runs_of noise (reverse (slice_index_or model j d).items)
  pub of_recorded : (j : ℕ) (t : TaskRuns) (d : Vec Run Global) → j < n
      → (slice_index_or tasks j t).recorded.items
      ≡ runs_of noise (reverse (slice_index_or recorded j d).items)
  pub sound : All AreSoundRuns tasks
