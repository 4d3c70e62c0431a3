-- A time in seconds or milliseconds without trailing zeros, `0.25` (own).
use Rattle.std.specs.Prelude.{ℕ, zero, suc, ◌/◌, ◌%◌, ◌==◌, if◌then◌else◌, List, [], ◌∷◌, ◌++◌, decimal}
use Rattle.run_figures.specs.Lines.{digits_in}

-- a number in so many digits, without the zeros at its end
abbrev pub shortened : ℕ → ℕ → List ℕ
shortened zero n = []
shortened (suc digits) n =
    if n % 10 == 0 then shortened digits (n / 10) else digits_in (suc digits) n

-- what stands behind the whole number
abbrev pub fraction : ℕ → ℕ → List ℕ
fraction digits n = if n == 0 then [] else 46 ∷ shortened digits n

-- a second and a millisecond, in microseconds
abbrev pub second : ℕ
second = 1000000

abbrev pub milli : ℕ
milli = 1000

abbrev pub seconds : ℕ → List ℕ
seconds time = decimal (time / second) ++ fraction 6 (time % second)

abbrev pub millis : ℕ → List ℕ
millis time = decimal (time / milli) ++ fraction 3 (time % milli)
