-- What happens in a run, as it can be written.
use Rattle.std.specs.Prelude.{ℕ, ◌≤◌, ◌^◌, IsTrue, List, length, All, AllPairs}
use Rattle.domain_run.specs.declared.happened.Happened.{Happened}
use Rattle.switch_text.specs.Names.{Names}
use Rattle.switch_text.specs.EventLines.{HasLoggedLine, is_sooner_unless_cut}
use Rattle.switch_text.specs.LoggedLine.{has_line}

-- each of it has a line, and it rises; it is little enough to be counted
pub record IsTellable (base : ℕ) (names : Names) (logged : List Happened) : Type 0 where
  pub lines : All (HasLoggedLine names base) logged
  pub rising : AllPairs (λ a b. IsTrue (is_sooner_unless_cut a b)) logged
  pub few : length logged ≤ 2 ^ 50
  pub shown : All (λ h. IsTrue (has_line h.what)) logged
