-- How a list is cut into the pieces that workers share (own).
use Rattle.std.specs.Prelude.{ℕ, ◌+◌, ◌*◌, ◌/◌, List, length, slice_range}

-- where piece k of so many pieces of a list of this length begins: the quotient is rounded down
abbrev pub piece_start : ℕ → ℕ → ℕ → ℕ
piece_start k pieces len = k * len / pieces

-- piece k: from its beginning up to and without the next one's
abbrev pub piece_of : {X : Type 0} → ℕ → ℕ → List X → List X
piece_of k pieces xs =
    slice_range xs (piece_start k pieces (length xs)) (piece_start (k + 1) pieces (length xs))
