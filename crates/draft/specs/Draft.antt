-- What stands in a text under way.
use Rattle.std.specs.Prelude.{◌≡◌, ℕ, List, ◌++◌, Bool, true}

-- the text, and whether no growth was refused
pub record DraftView : Type 0 where
  pub text : List ℕ
  pub whole : Bool

-- a text was put behind what stood before, or a growth was refused, now or before
abbrev pub Adds : DraftView → DraftView → List ℕ → Type 0
Adds old new text = new.whole ≡ true → (old.whole ≡ true) × (new.text ≡ old.text ++ text)
