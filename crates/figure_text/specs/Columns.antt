-- Columns of a table (own).
use Rattle.std.specs.Prelude.{ℕ, ◌+◌, ◌*◌, ◌/◌, ◌%◌, ◌==◌, if◌then◌else◌, List, ◌∷◌, ◌++◌, decimal}
use Rattle.draft.specs.Columns.{column}
use Rattle.run_figures.specs.Lines.{digits_in}

-- the number that the texts show for a task (own: 1000 above the task's number)
abbrev pub pid : ℕ → List ℕ
pid number = decimal (1000 + number)

-- a part of a whole, in hundredths of a per cent, rounded down, and 0 of nothing
abbrev pub hundredths : ℕ → ℕ → ℕ
hundredths part whole = if whole == 0 then 0 else part * 10000 / whole

-- a column of seven for hundredths of a per cent: whole per cents, a point and two digits, ` 68.42`
abbrev pub per_cent : ℕ → List ℕ
per_cent n = column 4 (decimal (n / 100)) ++ (46 ∷ digits_in 2 (n % 100))

abbrev pub share : ℕ → ℕ → List ℕ
share part whole = per_cent (hundredths part whole)
