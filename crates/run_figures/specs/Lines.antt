-- What the texts of a run have in common: numbers in digits, and lines that are counted (own).
use Rattle.std.specs.Prelude.{ℕ, ◌+◌, ◌-◌, List, [], ◌∷◌, ◌++◌, length, replicate, decimal}

-- a number in at least n digits
abbrev pub digits_in : ℕ → ℕ → List ℕ
digits_in width n = replicate (width - length (decimal n)) 48 ++ decimal n

-- the lines of a list, where the first of it has this number
abbrev pub numbered_lines : {X : Type 0} → (ℕ → X → List ℕ) → ℕ → List X → List ℕ
numbered_lines line n [] = []
numbered_lines line n (x ∷ xs) = line n x ++ numbered_lines line (n + 1) xs
