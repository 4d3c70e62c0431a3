-- The parts of a line, as the writer puts them after one another. No public clause names them.
use Rattle.std.specs.Prelude.{ℕ, List, [], ◌∷◌, ◌++◌, Option, Some, None, codes, decimal}
use Rattle.attr_check.specs.ParamsView.{ParamsView}
use Rattle.calls_text.specs.Spelling.{line_of, flag_text}

-- the first fields of a call's line
abbrev pub head_text : List ℕ → ℕ → ℕ → List ℕ
head_text word client n = line_of (word ∷ decimal client ∷ decimal n ∷ [])

-- the times and the flag of a task
abbrev pub params_text : ParamsView → List ℕ
params_text p =
    line_of (decimal p.runtime ∷ decimal p.deadline ∷ decimal p.period ∷ flag_text p ∷ [])

-- what follows them in a regrade, and a new limit
abbrev pub busy_text : Option ℕ → List ℕ
busy_text None = []
busy_text (Some seen) = codes " busy " ++ decimal seen
