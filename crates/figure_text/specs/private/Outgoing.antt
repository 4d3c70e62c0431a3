-- A text that goes out through a buffer.
use Rattle.std.specs.Prelude.{ℕ, ◌≡◌, ◌+◌, ◌%◌, ◌^◌, ◌<◌, List, ◌++◌, length, Option}
use Rattle.std.specs.Io.KnownBytes.{Appends}

-- what waits in the buffer, and how many bytes went out before, around at 2^64
pub record OutgoingView : Type 0 where
  pub waiting : List ℕ
  pub written : ℕ

-- the text was added: of what waited and the text some went out, and the rest waits
pub record Puts (before after : Option (List ℕ)) (first last : OutgoingView)
    (text : List ℕ) : Type 0 where
  pub gone : List ℕ
  pub taken : Appends before after gone
  pub count : last.written % 2 ^ 64 ≡ (first.written + length gone) % 2 ^ 64
  pub whole : first.waiting ++ text ≡ gone ++ last.waiting

-- the writer failed: of what waited and the text only the front went out
pub record Stops (before after : Option (List ℕ)) (first last : OutgoingView)
    (text : List ℕ) : Type 0 where
  pub gone : List ℕ
  pub left : List ℕ
  pub taken : Appends before after gone
  pub count : last.written % 2 ^ 64 ≡ (first.written + length gone) % 2 ^ 64
  pub whole : first.waiting ++ text ≡ gone ++ left
  pub some_left : 0 < length left
