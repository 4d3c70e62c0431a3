-- A MARK: what ticks change of a task, as a program keeps it (own).
use Rattle.std.specs.Prelude.{ℕ, Bool, true, false, ◌≡◌, ◌+◌, ◌-◌, ◌*◌, ◌<◌, List, [], ◌∷◌}
use Rattle.task_script.specs.script.Later.{has_timer, later_reference}
use Rattle.task_script.specs.script.ScriptView.{round_len}
use Rattle.domain_run.specs.declared.mark.TaskMark.{TaskMark}
use Rattle.domain_run.specs.declared.mark.TaskSeen.{TaskSeen}
use Rattle.domain_run.specs.declared.pace.Pace.{Pace}
use Rattle.domain_run.specs.declared.pace.Pace.TheVariants.{Rests, Plays, Works}
use Rattle.domain_run.specs.declared.task.Task.{Task}
use Rattle.domain_run.specs.Later.{later, later_server, later_condition}

-- the task that a mark was taken of
abbrev pub marked : TaskMark → Task → Task
marked m t = record t {
  cpu = m.cpu;
  condition = m.condition;
  work = m.work;
  zero_lag = m.zero_lag;
  server = m.server;
  cursor = record t.cursor {
    place = m.round * round_len t.cursor.script + m.step;
    reference = m.reference;
  };
}

-- what is seen of a task
pub record IsTaskSeen (seen : TaskSeen) (t : Task) : Type 0 where
  pub number : seen.number ≡ t.number
  pub mark : marked seen.mark t ≡ t
  pub rounds : seen.rounds ≡ t.cursor.script.rounds
  pub timed : seen.is_timed ≡ has_timer t.cursor.script
  -- the place is within the round of the mark
  pub step : seen.mark.step < round_len t.cursor.script

-- a number of rounds further on, if the script is finite
abbrev pub round_on : Bool → ℕ → ℕ → ℕ
round_on true rounds round = round + rounds
round_on false rounds round = round

abbrev pub later_mark : Bool → Bool → ℕ → ℕ → ℕ → TaskMark → TaskMark
later_mark finite timed k rounds worked m = record m {
  condition = later_condition k m.condition;
  work = m.work - worked;
  zero_lag = later k m.zero_lag;
  server = later_server k m.server;
  round = round_on finite rounds m.round;
  reference = later_reference timed k m.reference;
}

-- a mark after k microseconds at a pace
abbrev pub paced_mark : Bool → Bool → ℕ → Pace → TaskMark → TaskMark
paced_mark finite timed k Rests m = m
paced_mark finite timed k (Plays rounds) m = later_mark finite timed k rounds 0 m
paced_mark finite timed k (Works micros) m = later_mark finite timed k 0 micros m

-- the tasks of which a list of marks was taken
abbrev pub all_marked : List TaskMark → List Task → List Task
all_marked [] tasks = []
all_marked (m ∷ ms) [] = []
all_marked (m ∷ ms) (t ∷ tasks) = marked m t ∷ all_marked ms tasks

abbrev pub HaveMarks : List TaskMark → List Task → Type 0
HaveMarks ms tasks = all_marked ms tasks ≡ tasks
