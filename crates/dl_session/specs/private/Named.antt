-- Tasks that have names.
use Rattle.std.specs.Prelude.{ℕ, List}
use Rattle.domain_run.specs.Sound.{IsAdmitted}
use Rattle.switch_text.specs.Names.{Names, HasName}

-- each of the numbers that were admitted has a name
abbrev pub AreAllNamed : List ℕ → Names → Type 0
AreAllNamed used names = (n : ℕ) → IsAdmitted used n → HasName names n
