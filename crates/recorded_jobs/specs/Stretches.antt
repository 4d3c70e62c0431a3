-- Stretches of a task on a CPU, in a recording whose moments are in the order of time (own).
use Rattle.std.specs.Prelude.{◌≡◌, ℕ, ◌==◌, ◌&&◌, Bool, true, false, if◌then◌else◌, List, [], ◌∷◌, filter, find, Option, Some, None}
use Rattle.std.specs.Option.{option_map, option_map_or}
use Rattle.std.specs.List.{cons_option}
use Rattle.recorded_jobs.specs.declared.moment.Leave.{Leave}
use Rattle.recorded_jobs.specs.declared.moment.Leave.TheVariants.{Ready}
use Rattle.recorded_jobs.specs.declared.moment.What.{What}
use Rattle.recorded_jobs.specs.declared.moment.What.TheVariants.{Switch, Wake}
use Rattle.recorded_jobs.specs.declared.moment.Moment.{Moment}
use Rattle.recorded_jobs.specs.declared.stretch.Stretch.{Stretch}

abbrev pub is_switch : What → Bool
is_switch (Switch leaves how comes) = true
is_switch (Wake task) = false

-- the task that a switch brings
abbrev pub task_coming : What → Option ℕ
task_coming (Switch leaves how comes) = comes
task_coming (Wake task) = None

abbrev pub is_switch_on : ℕ → Moment → Bool
is_switch_on cpu m = is_switch m.what && m.cpu == cpu

-- the next switch on a CPU
abbrev pub switch_after : ℕ → List Moment → Option Moment
switch_after cpu moments = find (is_switch_on cpu) moments

-- how a task leaves at that switch: if another thread leaves, a line is lost, and it may go on
abbrev pub leave_at : ℕ → What → Leave
leave_at task (Switch leaves how comes) =
    if option_map_or (λ t. t == task) leaves false then how else Ready
leave_at task (Wake other) = Ready

-- from a switch to the task up to the next switch on that CPU, or to the last moment of all
abbrev pub stretch_to : ℕ → Moment → ℕ → Option Moment → Stretch
stretch_to last m task None =
    record { task = task; cpu = m.cpu; start = m.time; «end» = last; how = Ready }
stretch_to last m task (Some next) =
    record {
      task = task;
      cpu = m.cpu;
      start = m.time;
      «end» = next.time;
      how = leave_at task next.what;
    }

-- the stretch that begins at a moment, if one does
abbrev pub stretch_at : ℕ → Moment → Option Moment → Option Stretch
stretch_at last m next = option_map (λ task. stretch_to last m task next) (task_coming m.what)

-- the stretches of all tasks, in the order in which they begin
unfoldable pub all_stretches : ℕ → List Moment → List Stretch
all_stretches last [] = []
all_stretches last (m ∷ ms) =
    cons_option (stretch_at last m (switch_after m.cpu ms)) (all_stretches last ms)

-- those of one task
abbrev pub stretches_of : ℕ → List Stretch → List Stretch
stretches_of task stretches = filter (λ s. s.task == task) stretches
