-- WHAT IS COMPARED: what was seen of all tasks at one time, and the tasks some time later (own).
use Rattle.std.specs.Prelude.{ℕ, ◌≡◌, List, [], ◌∷◌, is_some}
use Rattle.std.specs.List.{AllZip}
use Rattle.domain_run.specs.declared.task.Task.{Task}
use Rattle.domain_run.specs.declared.pace.Pace.{Pace}
use Rattle.domain_run.specs.Marks.{marked, paced_mark, IsTaskSeen}
use Rattle.repeat_law.specs.Marks.{MayBegin, HasPeriods}
use Rattle.domain_run.specs.declared.mark.TaskSeen.{TaskSeen}

-- this was seen of the tasks
abbrev pub AreTasksSeen : List TaskSeen → List Task → Type 0
AreTasksSeen seen tasks = AllZip IsTaskSeen seen tasks

-- a task that was seen comes to this one at this pace
pub record IsPaced (micros : ℕ) (seen : TaskSeen) (t : Task) (pace : Pace) : Type 0 where
  pub begins : MayBegin micros pace seen.mark
  pub paced : marked (paced_mark (is_some seen.rounds) seen.is_timed micros pace seen.mark) t ≡ t

-- all tasks do, and none has left the list
abbrev pub ArePaced : ℕ → List TaskSeen → List Task → List Pace → Type 0
ArePaced micros [] [] [] = Unit {0}
ArePaced micros [] [] (p ∷ ps) = ⊥
ArePaced micros [] (t ∷ tasks) paces = ⊥
ArePaced micros (s ∷ seen) [] paces = ⊥
ArePaced micros (s ∷ seen) (t ∷ tasks) [] = ⊥
ArePaced micros (s ∷ seen) (t ∷ tasks) (p ∷ ps) =
    IsPaced micros s t p × ArePaced micros seen tasks ps

-- rounds and work last for this many periods
abbrev pub LastsThrough : ℕ → TaskSeen → Pace → Type 0
LastsThrough periods seen pace = HasPeriods seen.rounds periods pace seen.mark

abbrev pub AllLast : ℕ → List TaskSeen → List Pace → Type 0
AllLast periods seen paces = AllZip (LastsThrough periods) seen paces
