-- What is promised of the tasks of a scenario, once they were admitted (own).
use Rattle.std.specs.Prelude.{◌≡◌, ℕ, ◌+◌, ◌==◌, Bool, if◌then◌else◌, List, [], ◌∷◌, map, find, Option, Some, None, is_some, slice_get}
use Rattle.domain_run.specs.Domain.{Domain}
use Rattle.deadline_promise.specs.declared.demand.Demand.{Demand}
use Rattle.deadline_promise.specs.declared.answer.Promise.{Promise}
use Rattle.deadline_promise.specs.declared.answer.Promise.TheVariants.{NeverLate, Refused}
use Rattle.deadline_promise.specs.Demand.{IsDemand}
use Rattle.deadline_promise.specs.Answer.{promise_to}
use Rattle.deadline_promise.specs.Promise.{NoneLate, logged_of_run}
use Rattle.figure_text.specs.Promises.{PromiseView, promises_text}
use Rattle.rtapp_scenario.specs.ScenarioView.{TaskSpecView}
use Rattle.calls_text.specs.SectionView.{SectionView}
use Rattle.calls_text.specs.Histories.{calls_of}
use Rattle.session.specs.RunEnd.{run_in}

-- the domains to which histories lead
abbrev pub domains_of : List SectionView → List Domain
domains_of histories = map run_in histories

-- a task of this number is listed
abbrev pub lists : ℕ → Domain → Bool
lists number d = is_some (find (λ t. t.number == number) d.tasks)

-- the first domain that lists the task, of domains from this number on, and the answer for the task
-- there; a task that is listed nowhere was refused
abbrev pub answer_from : ℕ → List Domain → ℕ → Demand → Option ℕ × Promise
answer_from place [] number demand = (None, Refused)
answer_from place (d ∷ domains) number demand =
    if lists number d then (Some place, promise_to d number demand)
    else answer_from (place + 1) domains number demand

-- the row of a task: what its script asks for, the domain that admitted it, and the answer there
pub record IsRowOf (domains : List Domain) (t : TaskSpecView) (row : PromiseView) : Type 0 where
  pub name : row.name ≡ t.name
  pub number : row.number ≡ t.number
  pub demand : Demand
  pub asks : IsDemand t.script demand
  pub work_max : row.work_max ≡ demand.work_max
  pub gap_min : row.gap_min ≡ demand.gap_min
  pub answer : (row.domain, row.promise) ≡ answer_from 0 domains t.number demand

-- one for each, in their order
abbrev pub AreEach : {X Y : Type 0} → (X → Y → Type 0) → List X → List Y → Type 0
AreEach is [] [] = Unit {0}
AreEach is [] (y ∷ ys) = ⊥
AreEach is (x ∷ xs) [] = ⊥
AreEach is (x ∷ xs) (y ∷ ys) = is x y × AreEach is xs ys

-- whatever number of ticks is made after these admissions, the figures of the task tell no late job
abbrev pub IsNeverLateIn : SectionView → ℕ → Type 0
IsNeverLateIn h number =
    (n : ℕ) → NoneLate n number (logged_of_run h.cpus h.limit (calls_of h.entries) n)

-- the same in the domain at a place
abbrev pub IsNeverLateAt : List SectionView → ℕ → Option ℕ → Type 0
IsNeverLateAt histories number None = ⊥
IsNeverLateAt histories number (Some place) =
    (h : SectionView) × (slice_get histories place ≡ Some h) × IsNeverLateIn h number

-- a promise, and that it is kept
pub record IsPromised (histories : List SectionView) (t : TaskSpecView) (r : PromiseView)
    : Type 0 where
  pub row : IsRowOf (domains_of histories) t r
  pub kept : r.promise ≡ NeverLate → IsNeverLateAt histories t.number r.domain

-- the text has a row for each task
pub record AreRows (is : TaskSpecView → PromiseView → Type 0) (tasks : List TaskSpecView)
    (text : List ℕ) : Type 0 where
  pub rows : List PromiseView
  pub each : AreEach is tasks rows
  pub text_is : text ≡ promises_text rows

-- WHAT IS PROMISED: a row for each task of the scenario, refused ones too; and a task that is said
-- to be never late is never late
abbrev pub ArePromises : List TaskSpecView → List SectionView → List ℕ → Type 0
ArePromises tasks histories text = AreRows (IsPromised histories) tasks text
