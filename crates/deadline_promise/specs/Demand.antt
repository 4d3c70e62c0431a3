-- What a script asks for (own).
use Rattle.std.specs.Prelude.{ℕ, ◌≤◌, ◌↔◌, IsTrue, Option, Some, None}
use Rattle.task_script.specs.script.ScriptView.{ScriptView}
use Rattle.deadline_promise.specs.declared.demand.Demand.{Demand}
use Rattle.deadline_promise.specs.KeptBudget.{BoundsWork, IsAtLeast, OfAllEvents, BlocksAlike}

-- the greatest stretch of work: the least number that bounds all. There is none if the script works
-- for ever
abbrev pub IsWorkMax : ScriptView → Option ℕ → Type 0
IsWorkMax s None = (most : ℕ) → BoundsWork s most → ⊥
IsWorkMax s (Some w) = (most : ℕ) → (w ≤ most) ↔ BoundsWork s most

-- the least timer or sleep: the greatest number that none is below. There is none if the script has
-- neither
abbrev pub IsGapMin : ScriptView → Option ℕ → Type 0
IsGapMin s None = (least : ℕ) → OfAllEvents (IsAtLeast least) s
IsGapMin s (Some g) = (least : ℕ) → (least ≤ g) ↔ OfAllEvents (IsAtLeast least) s

pub record IsDemand (s : ScriptView) (d : Demand) : Type 0 where
  pub work : IsWorkMax s d.work_max
  pub gaps : IsGapMin s d.gap_min
  pub alike : IsTrue d.alike ↔ BlocksAlike s
