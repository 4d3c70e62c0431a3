-- A client's own calls.
use Rattle.std.specs.Prelude.{◌≡◌, ℕ, ◌==◌, List, [], ◌∷◌, ◌++◌, count_by}
use Rattle.calls_text.specs.declared.section.Entry.{Entry}

-- how many of these calls a client made
abbrev pub count_made_by : ℕ → List Entry → ℕ
count_made_by client entries = count_by (λ e. e.client == client) entries

-- The sequence number of each entry is the number of its client's earlier calls: those of a client
-- are 0, 1, 2, .. in their order (own). Here after calls that were made before.
abbrev pub IsNumberedAfter : List Entry → List Entry → Type 0
IsNumberedAfter before [] = Unit {0}
IsNumberedAfter before (e ∷ entries) =
    (e.seq ≡ count_made_by e.client before) × IsNumberedAfter (before ++ e ∷ []) entries

abbrev pub IsNumbered : List Entry → Type 0
IsNumbered entries = IsNumberedAfter [] entries
