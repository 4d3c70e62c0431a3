-- The CPUs on which tasks ran (own).
use Rattle.std.specs.Prelude.{ℕ, ◌==◌, if◌then◌else◌, List, [], ◌∷◌, ◌++◌, length, fold}
use Rattle.std.specs.List.{list_any}
use Rattle.recorded_jobs.specs.declared.moment.Moment.{Moment}
use Rattle.recorded_jobs.specs.declared.stretch.Stretch.{Stretch}
use Rattle.recorded_jobs.specs.Stretches.{all_stretches}
use Rattle.recorded_jobs.specs.Releases.{time_at_end}

-- a CPU, after the others if it is new
abbrev pub with_new_cpu : List ℕ → ℕ → List ℕ
with_new_cpu cpus cpu = if list_any (λ c. cpu == c) cpus then cpus else cpus ++ cpu ∷ []

-- each CPU of these stretches once, in the order in which they come
abbrev pub cpus_run_on : List Stretch → List ℕ
cpus_run_on stretches = fold (λ cpus s. with_new_cpu cpus s.cpu) [] stretches

-- how many CPUs the tasks ran on
abbrev pub cpus_used : List Moment → ℕ
cpus_used moments = length (cpus_run_on (all_stretches (time_at_end moments) moments))
