-- A number made of a key's bytes.
use Rattle.std.specs.Prelude.{ℕ, ◌/◌, ◌^◌, List}
use Rattle.std.specs.Hash.FoldHasher.{initial, write, finish}

-- the upper half of their hash
unfoldable pub mark_of : List ℕ → ℕ
mark_of bytes = finish (write initial bytes) / 2 ^ 32
