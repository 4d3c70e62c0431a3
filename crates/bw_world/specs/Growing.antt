-- Which steps may want memory (own).
use Rattle.std.specs.Prelude.{ℕ, ◌≡◌, ◌<◌, ◌⊎◌, IsTrue, IsSomeAnd, Bool, true, false, ◌==◌, List, length, take, slice_get}
use Rattle.std.specs.List.{list_any}
use Rattle.bw_world.specs.declared.step.Step.{Step}
use Rattle.bw_world.specs.declared.step.Step.TheVariants.{Load, Take, Regrade, Give, Enter, Release, Limit, Move}
use Rattle.bw_world.specs.declared.step.Outcome.TheVariants.{Done}
use Rattle.bw_world.specs.WorldView.{DomainView}
use Rattle.bw_world.specs.WorldStep.{stepped, after_steps}

-- the steps that lengthen a list where they are done; a Regrade does where the ticket is admitted
abbrev pub lengthens : Step → List DomainView → Bool
lengthens (Load k) domains = false
lengthens (Take id k bw expected) domains = true
lengthens (Regrade id bw expected) domains =
    list_any (λ d. list_any (λ t. t.ticket == id) d.admitted) domains
lengthens (Give id) domains = false
lengthens (Enter id number) domains = true
lengthens (Release id) domains = true
lengthens (Limit k cap expected) domains = false
lengthens (Move old new number) domains = true

-- a step that may want memory would be done, and lengthens a list
pub record IsGrowing (s : Step) (domains : List DomainView) : Type 0 where
  pub would_do : (stepped s domains).outcome ≡ Done
  pub longer : IsTrue (lengthens s domains)

-- what may want memory in a run of steps of which so many were applied: the list of answers, before
-- the first step, or else the next step
abbrev pub IsGrowingAt : List Step → ℕ → List DomainView → Type 0
IsGrowingAt steps applied domains =
    ((0 < length steps) × (applied ≡ 0))
    ⊎ IsSomeAnd (slice_get steps applied)
    (λ s. IsGrowing s (after_steps (take applied steps) domains))
