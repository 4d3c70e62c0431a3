-- Columns of a table (own).
use Rattle.std.specs.Prelude.{ℕ, ◌-◌, List, ◌∷◌, ◌++◌, length, replicate}

-- a text at the right of a column; one that is wider widens it in its line
abbrev pub right : ℕ → List ℕ → List ℕ
right width text = replicate (width - length text) 32 ++ text

-- a column behind others: a space, and a text at its right
abbrev pub column : ℕ → List ℕ → List ℕ
column width text = 32 ∷ right width text

-- a number at the right of zeros
abbrev pub zeros_right : ℕ → List ℕ → List ℕ
zeros_right width digits = replicate (width - length digits) 48 ++ digits
