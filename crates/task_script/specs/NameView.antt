-- What a contract sees of a name.
use Rattle.std.specs.Prelude.{ℕ, ◌≤◌, ◌<◌, List, length, All}

-- printable, and no space
abbrev pub IsNameByte : ℕ → Type 0
IsNameByte b = (33 ≤ b) × (b ≤ 126)

-- 1 to 15 such bytes (own; the kernel's comm has at most 15)
pub record IsName (name : List ℕ) : Type 0 where
  pub some : 0 < length name
  pub most : length name ≤ 15
  pub bytes : All IsNameByte name
