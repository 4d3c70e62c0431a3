-- The matched runs of a task have times below 2^61.
use Rattle.std.specs.Prelude.{List, Option, All, IfSome}
use Rattle.trace_compare.specs.declared.run.Run.{Run}
use Rattle.trace_compare.specs.declared.pairs.Matching.{Matching}
use Rattle.trace_compare.specs.Runs.{IsShort}

abbrev pub ArePartnersShort : List (Option Run) → Type 0
ArePartnersShort ps = All (λ p. IfSome p IsShort) ps

pub record IsSoundMatching (m : Matching) : Type 0 where
  pub partners : ArePartnersShort m.partners.items
  pub left : All IsShort m.left.items
