-- A SHIFT: how a domain differs from the same domain some time earlier, if a run repeats (own).
use Rattle.std.specs.Prelude.{ℕ, ◌≡◌, ◌+◌, ◌<◌, List, [], ◌∷◌, ◌++◌, map, All, None, IsTrue}
use Rattle.task_script.specs.script.Later.{HasRounds}
use Rattle.domain_run.specs.declared.pace.Pace.{Pace}
use Rattle.domain_run.specs.declared.pace.Pace.TheVariants.{Rests, Plays, Works}
use Rattle.domain_run.specs.declared.task.Task.{Task}
use Rattle.domain_run.specs.declared.task.Condition.{Condition}
use Rattle.domain_run.specs.declared.task.Condition.TheVariants.{Ready, Throttled, Blocked, Waiting, Leaving}
use Rattle.domain_run.specs.Bounds.{IsSoon}
use Rattle.domain_run.specs.Conditions.{is_contending}
use Rattle.domain_run.specs.Domain.{Domain}
use Rattle.domain_run.specs.Later.{later_task, later_switch}
use Rattle.domain_run.specs.Switch.{Switch}

-- THE SHIFT: how much later, and the pace of each task
pub record Shift : Type 0 where
  -- how much later, in microseconds
  pub micros : ℕ
  -- the pace of each task, by its number
  pub pace : ℕ → Pace

-- a task after k microseconds at a pace
abbrev pub paced_task : ℕ → Pace → Task → Task
paced_task k Rests t = t
paced_task k (Plays rounds) t = later_task k rounds 0 t
paced_task k (Works micros) t = later_task k 0 micros t

-- each task at the pace at its place
abbrev pub paced_all : ℕ → List Pace → List Task → List Task
paced_all k [] tasks = tasks
paced_all k (p ∷ paces) [] = []
paced_all k (p ∷ paces) (t ∷ tasks) = paced_task k p t ∷ paced_all k paces tasks

abbrev pub shifted_task : Shift → Task → Task
shifted_task s t = paced_task s.micros (s.pace t.number) t

-- the domain after the shift. Its CPUs, its limit, the numbers used and the running task of each
-- CPU are the same
abbrev pub shifted : Shift → Domain → Domain
shifted s d = record d {
  time = d.time + s.micros;
  tasks = map (shifted_task s) d.tasks;
  switches = map (later_switch s.micros) d.switches;
}

-- a domain to which a period is given again: each task goes on at the pace at its place, and the
-- switches of the period come once more, later
abbrev pub given_again : ℕ → List Pace → ℕ → List Switch → Domain → Domain
given_again k paces later_by period d = record d {
  time = d.time + k;
  tasks = paced_all k paces d.tasks;
  switches = d.switches ++ map (later_switch later_by) period;
}

-- later, and nothing else
abbrev pub just_later : ℕ → Shift
just_later k = record { micros = k; pace = λ number. Plays 0 }

-- THE PREMISE. A task rests if it waits for a call, and has given its bandwidth back
pub record IsResting (t : Task) : Type 0 where
  pub waits : t.condition ≡ Waiting
  pub idle : t.zero_lag ≡ None

-- a task that may have this pace: no last round is reached, and no work ends
abbrev pub MayGo : Pace → Task → Type 0
MayGo Rests t = IsResting t
MayGo (Plays rounds) t = 0 < rounds → HasRounds rounds t.cursor
MayGo (Works micros) t = IsTrue (is_contending t.condition) × (micros < t.work)

-- each task may have the pace at its place
abbrev pub AllMayGo : List Pace → List Task → Type 0
AllMayGo [] tasks = Unit {0}
AllMayGo (p ∷ paces) [] = Unit {0}
AllMayGo (p ∷ paces) (t ∷ tasks) = MayGo p t × AllMayGo paces tasks

abbrev pub MayShift : Shift → List Task → Type 0
MayShift s tasks = All (λ t. MayGo (s.pace t.number) t) tasks

-- a script is asked at a time that a number holds also after the shift
abbrev pub IsSoonAfter : ℕ → Condition → Type 0
IsSoonAfter k Ready = Unit {0}
IsSoonAfter k Throttled = Unit {0}
IsSoonAfter k (Blocked u) = IsSoon (u + k)
IsSoonAfter k Waiting = Unit {0}
IsSoonAfter k Leaving = Unit {0}
