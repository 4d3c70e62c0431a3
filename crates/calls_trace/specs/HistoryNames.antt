-- The names of the tasks of a history, as a map gives them (own).
use Rattle.std.specs.Prelude.{ℕ, ◌≡◌}
use Rattle.domain_run.specs.Sound.{IsAdmitted}
use Rattle.calls_text.specs.SectionView.{SectionView}
use Rattle.switch_text.specs.Names.{Names, name_of_task, HasName}
use Rattle.calls_trace.specs.DomainEvents.{domain_of, names_in}

-- the names of a map are those that the calls give, and each number that was admitted has one
pub record AreNamesOf (s : SectionView) (names : Names) : Type 0 where
  pub given : name_of_task names ≡ names_in s
  pub all_named : (n : ℕ) → IsAdmitted (domain_of s).used n → HasName names n
