-- The calls text that import writes for a tasks file and a recording (own).
use Rattle.std.specs.Prelude.{◌≡◌, ℕ, Bool, true, List, [], ◌∷◌, map, Option, None, IfSome}
use Rattle.std.specs.List.{list_any}
use Rattle.calls_text.specs.Spelling.{spelling}
use Rattle.calls_text.specs.RoundTrip.{IsReadAs}
use Rattle.recorded_jobs.specs.declared.moment.Moment.{Moment}
use Rattle.recorded_jobs.specs.Stretches.{is_switch}
use Rattle.recorded_moments.specs.declared.gathering.Wanted.{Wanted}
use Rattle.recorded_moments.specs.Moments.{WatchedView, moments_of_text, first_bad_event}
use Rattle.recorded_moments.specs.Ordered.{AreInOrder}
use Rattle.tasks_text.specs.declared.task.Task.{Task}
use Rattle.tasks_text.specs.Tasks.{tasks_spelling, IsTaskList}
use Rattle.recorded_workload.specs.declared.shape.Shape.{Shape}
use Rattle.recorded_workload.specs.Workload.{workload_of}
use Rattle.recorded_workload.specs.Refusals.{workload_refused}
use Rattle.recording_import.specs.declared.options.ImportOptions.{ImportOptions}

-- the thread of a task
abbrev pub watched_of : Task → WatchedView
watched_of t = record { name = t.name; pid = t.pid }

abbrev pub wanted_of : ImportOptions → Wanted
wanted_of o = record { any_policy = o.any_policy; from = o.from; to = o.to }

abbrev pub shape_of : ImportOptions → Shape
shape_of o = record { cpus = o.cpus; limit = o.limit }

-- what of a recording counts for these tasks, in the order of time
pub record AreRecorded (o : ImportOptions) (tasks : List Task) (recorded : List ℕ)
    (moments : List Moment) : Type 0 where
  pub good : first_bad_event recorded ≡ None
  pub ordered : AreInOrder (moments_of_text (wanted_of o) (map watched_of tasks) recorded) moments

abbrev pub has_switch : List Moment → Bool
has_switch moments = list_any (λ m. is_switch m.what) moments

-- the tasks of the one text, and what of the other counts for them, as far as the texts are known
pub record AreInputs (o : ImportOptions) (one other : Option (List ℕ)) (tasks : List Task)
    (moments : List Moment) : Type 0 where
  pub are_tasks : IsTaskList tasks
  pub tasks_file : IfSome one (λ text. text ≡ tasks_spelling tasks)
  pub recorded : IfSome other (λ text. AreRecorded o tasks text moments)

-- the text of their workload, which is read as this workload
pub record IsWorkloadText (o : ImportOptions) (tasks : List Task) (moments : List Moment)
    (text : List ℕ) : Type 0 where
  pub switches : has_switch moments ≡ true
  pub granted : workload_refused moments tasks (shape_of o) ≡ None
  pub spelled : text ≡ spelling (workload_of moments tasks (shape_of o) ∷ [])
  pub back : IsReadAs text (workload_of moments tasks (shape_of o) ∷ [])
