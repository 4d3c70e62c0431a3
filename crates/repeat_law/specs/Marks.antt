-- MARKS COMPARED: what holds of the tasks of which they were taken (own).
use Rattle.std.specs.Prelude.{ℕ, zero, suc, Bool, ◌≡◌, ◌+◌, ◌-◌, ◌*◌, ◌<◌, ◌≤◌, List, [], ◌∷◌, length, All, Option, Some, None, IfSome, IsTrue, is_some}
use Rattle.task_script.specs.script.ScriptView.{round_len}
use Rattle.domain_run.specs.declared.mark.TaskMark.{TaskMark}
use Rattle.domain_run.specs.declared.pace.Pace.{Pace}
use Rattle.domain_run.specs.declared.pace.Pace.TheVariants.{Rests, Plays, Works}
use Rattle.domain_run.specs.declared.task.Task.{Task}
use Rattle.domain_run.specs.declared.task.Condition.TheVariants.{Waiting}
use Rattle.domain_run.specs.Conditions.{is_contending}
use Rattle.domain_run.specs.Domain.{Domain}
use Rattle.task_script.specs.script.Later.{later_reference, has_timer}
use Rattle.domain_run.specs.Later.{later, later_server, later_condition}
use Rattle.domain_run.specs.Marks.{marked, paced_mark, HaveMarks}
use Rattle.domain_run.specs.Shift.{Shift, paced_task, MayGo}
use Rattle.domain_run.specs.Tick.{ticks}
use Rattle.repeat_law.specs.Repeats.{Outlasts, Repeats, many_paces}

-- the marks of a task go at its pace
abbrev pub MarkLaw : Type 0
MarkLaw = (k : ℕ) (p : Pace) (m : TaskMark) (t : Task)
    → marked
    (paced_mark (is_some t.cursor.script.rounds) (has_timer t.cursor.script) k p m) t
    ≡ paced_task k p (marked m t)

-- a pace that a task with this mark may have for k microseconds: one that rests waits for a call,
-- and work that lasts is longer
abbrev pub MayBegin : ℕ → Pace → TaskMark → Type 0
MayBegin k Rests m = (m.condition ≡ Waiting) × (m.zero_lag ≡ None)
MayBegin k (Plays rounds) m = Unit {0}
MayBegin k (Works micros) m = IsTrue (is_contending m.condition) × (k < m.work)

-- all but work and round are later
pub record IsLaterMark (timed : Bool) (k : ℕ) (before after : TaskMark) : Type 0 where
  pub cpu : after.cpu ≡ before.cpu
  pub condition : after.condition ≡ later_condition k before.condition
  pub zero_lag : after.zero_lag ≡ later k before.zero_lag
  pub server : after.server ≡ later_server k before.server
  pub step : after.step ≡ before.step
  pub reference : after.reference ≡ later_reference timed k before.reference

-- some of the work is done, and it lasts longer
pub record IsWorkingOn (k : ℕ) (before after : TaskMark) : Type 0 where
  pub contends : IsTrue (is_contending before.condition)
  pub long : k < before.work
  pub less : after.work < before.work
  pub round : after.round ≡ before.round

-- FOR HOW MANY PERIODS rounds and work last from a mark. A round that has begun has to end, too
abbrev pub begun_round : ℕ → ℕ
begun_round zero = 0
begun_round (suc step) = 1

abbrev pub HasPeriods : Option ℕ → ℕ → Pace → TaskMark → Type 0
HasPeriods rounds m Rests mark = Unit {0}
HasPeriods rounds m (Plays each) mark =
    0 < m * each → IfSome rounds (λ n. mark.round + m * each + begun_round mark.step ≤ n)
HasPeriods rounds m (Works each) mark = m * each ≤ mark.work - 1

-- a number up to a greatest one, or any number if there is none
abbrev pub IsAtMost : Option ℕ → ℕ → Type 0
IsAtMost None m = Unit {0}
IsAtMost (Some most) m = m ≤ most

-- what lasts from the mark of a task lasts for the task
abbrev pub HasPeriodsLaw : Type 0
HasPeriodsLaw = (k m : ℕ) (p : Pace) (mark : TaskMark) (t : Task) → MayBegin k p mark
    → mark.step < round_len t.cursor.script → HasPeriods t.cursor.script.rounds m p mark
    → MayGo (many_paces m p) (marked mark t)

-- TWO STATES COMPARED. The marks of these tasks after a shift
abbrev pub shifted_marks : Shift → List TaskMark → List Task → List TaskMark
shifted_marks s [] tasks = []
shifted_marks s (m ∷ ms) [] = []
shifted_marks s (m ∷ ms) (t ∷ tasks) =
    paced_mark (is_some t.cursor.script.rounds) (has_timer t.cursor.script) s.micros
    (s.pace t.number) m
    ∷ shifted_marks s ms tasks

-- what a program compares: these are the marks of the tasks before and after, no task has left the
-- list, each CPU has the same running task, and the later marks are the first ones, shifted
pub record IsSeenAgain (s : Shift) (d : Domain) (before after : List TaskMark) : Type 0 where
  pub first : HaveMarks before d.tasks
  pub last : HaveMarks after (ticks s.micros d).tasks
  pub everyone : length (ticks s.micros d).tasks ≡ length d.tasks
  pub curr : (ticks s.micros d).curr ≡ d.curr
  pub marks : after ≡ shifted_marks s before d.tasks
  pub long : All (λ t. Outlasts s.micros (s.pace t.number) t) d.tasks

-- then the domain repeats
abbrev pub FoundLaw : Type 0
FoundLaw = (s : Shift) (d : Domain) (before after : List TaskMark) → IsSeenAgain s d before after
    → Repeats s d
