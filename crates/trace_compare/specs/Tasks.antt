-- The tasks of the model with their runs in both texts.
use Rattle.std.specs.Prelude.{◌≡◌, ◌⊎◌, ℕ, ◌<◌, ◌^◌, Option, Some, None, List, length, slice_index_or, All}
use Rattle.recorded_text.specs.declared.step.Step.{Step}
use Rattle.trace_compare.specs.declared.task.TaskRuns.{TaskRuns}
use Rattle.trace_compare.specs.Runs.{raw_runs, runs_of, length_of, IsShort, InTurn}

-- runs in turn, with times below 2^61
pub record AreSoundRuns (t : TaskRuns) : Type 0 where
  pub model_turn : InTurn t.model.items
  pub recorded_turn : InTurn t.recorded.items
  pub model_short : All IsShort t.model.items
  pub recorded_short : All IsShort t.recorded.items

-- task j has its runs in both texts
pub record AreTasksOf (noise : ℕ) (model recorded : List Step) (many : ℕ) (tasks : List TaskRuns)
    : Type 0 where
  pub as_many : length tasks ≡ many
  pub of_model : (j : ℕ) (d : TaskRuns) → j < many
      → (slice_index_or tasks j d).model.items ≡ runs_of noise (raw_runs j model)
  pub of_recorded : (j : ℕ) (d : TaskRuns) → j < many
      → (slice_index_or tasks j d).recorded.items ≡ runs_of noise (raw_runs j recorded)
  pub sound : All AreSoundRuns tasks

abbrev pub HaveSmallTimes : List Step → Type 0
HaveSmallTimes steps = All (λ s. s.time < 2 ^ 61) steps

-- each run of each task, before any is joined, is longer than 100 us
abbrev pub AreAllLonger : List Step → ℕ → Type 0
AreAllLonger steps many = (j : ℕ) → j < many → All (λ r. 100 < length_of r) (raw_runs j steps)

-- the noise that was asked for; else 100 us where the model's shortest run is longer, else 0
abbrev pub IsNoise : Option ℕ → List Step → ℕ → ℕ → Type 0
IsNoise (Some n) model many noise = noise ≡ n
IsNoise None model many noise =
    (AreAllLonger model many × (noise ≡ 100)) ⊎ ((AreAllLonger model many → ⊥) × (noise ≡ 0))
