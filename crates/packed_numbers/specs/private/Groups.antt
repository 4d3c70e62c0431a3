-- Numbers in bytes: groups of 7 bits, the highest first; 128 is added to each but the last of a
-- number (as in the sub-identifiers of ITU-T X.690, 8.19.2).
use Rattle.std.specs.Prelude.{ℕ, ◌≡◌, ◌+◌, ◌-◌, ◌*◌, ◌<◌, ◌^◌, nat_lt, if◌then◌else◌, List, [], ◌∷◌, ◌++◌, fold, All}

-- what is read of bytes so far: the numbers that are whole, and the groups of the next one
pub record Read : Type 0 where
  pub numbers : List ℕ
  pub part : ℕ

abbrev pub with_byte : Read → ℕ → Read
with_byte r b =
    if nat_lt b 128
    then record { numbers = r.numbers ++ (r.part * 128 + b) ∷ []; part = 0 }
    else record { numbers = r.numbers; part = r.part * 128 + (b - 128) }

abbrev pub nothing_read : Read
nothing_read = record { numbers = []; part = 0 }

abbrev pub read_of : List ℕ → Read
read_of bytes = fold with_byte nothing_read bytes

-- after a whole number, and all numbers are below 2^64
pub record IsReadWhole (r : Read) : Type 0 where
  pub whole : r.part ≡ 0
  pub wide : All (λ n. n < 2 ^ 64) r.numbers
