-- The strict text of a file, and what it is for a file in strict JSON.
use Rattle.std.specs.Prelude.{ℕ, List, [], Result, IfErr, IfOk, ◌≡◌}
use Rattle.json_order.specs.Json.{Json}
use Rattle.json_order.specs.Grammar.{Rules}
use Rattle.json_order.specs.Fault.{Spells}
use Rattle.rtapp_dialect.specs.Comments.{comments_blanked}
use Rattle.rtapp_dialect.specs.Filling.{values_filled, values_inserted}
use Rattle.rtapp_dialect.specs.declared.insertion.Insertion.{Insertion}
use Rattle.rtapp_dialect.specs.declared.strict.StrictText.{StrictText}
use Rattle.rtapp_dialect.specs.declared.fault.DialectFault.{DialectFault}
use Rattle.rtapp_dialect.specs.declared.fault.DialectFault.TheVariants.{Memory}

-- first the comments go, at which no byte moves, then the last commas and the missing values
abbrev pub strict_of : List ℕ → List ℕ
strict_of file = values_filled (comments_blanked file)

-- its insertions, by their offsets in the file
abbrev pub inserted_in : List ℕ → List Insertion
inserted_in file = values_inserted (comments_blanked file)

-- the file spells a JSON value, under some rules
abbrev pub IsJsonText : List ℕ → Type 0
IsJsonText file = (rules : Rules) × (v : Json) × Spells rules file v

-- A LAW: a file that spells a JSON value stays as it is, and has no fault
abbrev pub KeepsStrict : List ℕ → Result StrictText DialectFault → Type 0
KeepsStrict file result =
    IsJsonText file → IfOk result (λ s. (s.text.items ≡ file) × (s.insertions.items ≡ []))
    × IfErr result (λ e. e ≡ Memory)
