-- A text that goes out piece by piece.
use Rattle.std.specs.Prelude.{ℕ, ◌≡◌, List, ◌++◌, length, Option}
use Rattle.std.specs.Io.KnownBytes.{Appends}

-- of the text so many bytes went out, and these are left
pub record Sends (before after : Option (List ℕ)) (text : List ℕ) (sent : ℕ)
    (left : List ℕ) : Type 0 where
  pub gone : List ℕ
  pub taken : Appends before after gone
  pub count : sent ≡ length gone
  pub whole : text ≡ gone ++ left
