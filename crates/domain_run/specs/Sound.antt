-- What every domain keeps between two ticks.
use Rattle.std.specs.Prelude.{ℕ, ◌≤◌, ◌<◌, ◌≡◌, ◌≢◌, ◌==◌, max, ◌≤ℤ◌, ◌<ℤ◌, pos, List, length, All, Any, AllPairs, Option, Some, None, slice_index_or, IfSome, IsSome, IsTrue}
use Rattle.std.specs.List.{list_any}
use Rattle.attr_check.specs.Ratio.{cap}
use Rattle.edf_pick.specs.Places.{Places, AreSingle}
use Rattle.domain_run.specs.declared.task.Task.{Task}
use Rattle.domain_run.specs.declared.task.Condition.{Condition}
use Rattle.domain_run.specs.declared.task.Condition.TheVariants.{Ready, Throttled, Blocked, Waiting, Leaving}
use Rattle.domain_run.specs.Conditions.{is_ready, is_throttled, is_contending}
use Rattle.domain_run.specs.Switch.{Switch}
use Rattle.domain_run.specs.Switches.{is_switch_before}
use Rattle.domain_run.specs.Domain.{Domain, IsCpus, IsLimit}
use Rattle.domain_run.specs.Bounds.{IsEarly, IsSoon, IsServed}
use Rattle.domain_run.specs.Tick.{sum_of}

-- the timer's reference is not after the next time at which the script may be asked; a task that
-- has ended asks no more
abbrev pub IsTimed : ℕ → Condition → ℕ → Type 0
IsTimed time Ready reference = reference ≤ time
IsTimed time Throttled reference = reference ≤ time
IsTimed time (Blocked u) reference = (reference ≤ max time u) × IsSoon u
IsTimed time Waiting reference = reference ≤ time
IsTimed time Leaving reference = Unit {0}

-- a task: throttled exactly as its budget says, with a deadline and work while it contends
pub record IsSound (time : ℕ) (t : Task) : Type 0 where
  pub served : IsServed time t.server
  pub spent : IsTrue (is_throttled t.condition) → t.server.left ≤ℤ pos 0
  pub lifted : IsTrue (is_ready t.condition) → pos 0 <ℤ t.server.left
  pub dated : IsTrue (is_contending t.condition) → IsSome t.server.deadline
  pub busy : IsTrue (is_contending t.condition) → 0 < t.work
  pub timed : IsTimed time t.condition t.cursor.reference

-- the task that runs on a CPU
abbrev pub occupant : Places → ℕ → Option ℕ
occupant places cpu = slice_index_or places cpu None

-- no task runs on two CPUs
pub record HasNoTaskTwice (places : Places) : Type 0 where
  pub once : AreSingle places

-- a task of this number that may run on a CPU: it is ready, has budget left and belongs to that CPU
abbrev pub MayRunThere : ℕ → ℕ → Task → Type 0
MayRunThere cpu n t =
    (t.number ≡ n) × (t.cpu ≡ cpu) × IsTrue (is_ready t.condition) × (pos 0 <ℤ t.server.left)

-- what is placed: on each CPU runs no task, or a listed task that may; and no task runs on two
pub record IsPlacement (d : Domain) : Type 0 where
  pub running : (cpu n : ℕ) → occupant d.curr cpu ≡ Some n → Any (MayRunThere cpu n) d.tasks
  pub apart : HasNoTaskTwice d.curr

-- the number was admitted
abbrev pub IsAdmitted : List ℕ → ℕ → Type 0
IsAdmitted used n = IsTrue (list_any (λ m. m == n) used)

-- what a domain keeps, also in the middle of a tick
pub record IsSteady (d : Domain) : Type 0 where
  pub early : IsEarly d.time
  pub cpus : IsCpus d.cpus
  pub limit : IsLimit d.limit
  -- the sum of bandwidths is at most the cap
  pub within : sum_of d.tasks ≤ cap d.cpus d.limit
  pub listed : length d.tasks ≤ 256
  pub sound : All (IsSound d.time) d.tasks
  pub homes : All (λ t. t.cpu < d.cpus) d.tasks
  -- no two tasks have one number, and each number was admitted
  pub numbered : AllPairs (λ a b. a.number ≢ b.number) d.tasks
  pub known : All (λ t. IsAdmitted d.used t.number) d.tasks
  pub wide : length d.curr ≡ d.cpus
  pub apart : HasNoTaskTwice d.curr

-- a switch of an earlier tick, on a CPU of the domain, between tasks that were admitted
pub record IsSwitch (cpus time : ℕ) (used : List ℕ) (s : Switch) : Type 0 where
  pub past : s.time < time
  pub inside : s.cpu < cpus
  pub prev : IfSome s.prev (IsAdmitted used)
  pub next : IfSome s.next (IsAdmitted used)

-- the switches rise strictly by time and CPU, and the task that runs on a CPU was admitted
pub record IsTraced (d : Domain) : Type 0 where
  pub switches : All (IsSwitch d.cpus d.time d.used) d.switches
  pub rising : AllPairs (λ a b. IsTrue (is_switch_before a b)) d.switches
  pub on_cpu : (cpu n : ℕ) → occupant d.curr cpu ≡ Some n → IsAdmitted d.used n

-- what every domain keeps between two ticks
pub record IsDomain (d : Domain) : Type 0 where
  pub steady : IsSteady d
  pub traced : IsTraced d
