-- Worked rows of faults, by the theorem: the reader's run over the characters is computed, and the fault is the definition's.
use Rattle.std.specs.Char.{encode_utf8}
use Rattle.std.proofs.Common.{ℕ, List, [], ◌∷◌, ◌++◌, refl}
use Rattle.json_order.specs.Fault.{IsJsonFault}
use Rattle.json_order.specs.private.Machine.{state, at_value, in_number, in_key, at_first_item, Frame, in_list, in_object}
use Rattle.json_order.specs.Json.{number}
use Rattle.json_order.specs.declared.fault.JsonKind.TheVariants.{Syntax, End, Depth, Duplicate}
use Rattle.json_order.specs.declared.place.Escape.TheVariants.{Outside}
use Rattle.json_order.specs.declared.place.Part.TheVariants.{Zero}
use Rattle.json_order.proofs.Bytes.{fault_at, end_fault}

-- `{"a":01}`: Syntax at 6
pub leading_zero : IsJsonFault (123 ∷ 34 ∷ 97 ∷ 34 ∷ 58 ∷ 48 ∷ 49 ∷ 125 ∷ []) Syntax 6
unfolding encode_utf8
leading_zero =
    fault_at (123 ∷ 34 ∷ 97 ∷ 34 ∷ 58 ∷ 48 ∷ 49 ∷ 125 ∷ []) (123 ∷ 34 ∷ 97 ∷ 34 ∷ 58 ∷ 48 ∷ []) 49 (125 ∷ [])
    (state (in_number (48 ∷ []) Zero) (in_object [] (97 ∷ []) ∷ [])) Syntax
    (record { utf8 = (123 ∷ 34 ∷ 97 ∷ 34 ∷ 58 ∷ 48 ∷ 49 ∷ 125 ∷ [], (refl, refl)); here = refl }) (record { until = refl; refused = refl })

-- `{"a":1,"\u0061":2}`: Duplicate at 14
pub escaped_key : IsJsonFault (123 ∷ 34 ∷ 97 ∷ 34 ∷ 58 ∷ 49 ∷ 44 ∷ 34 ∷ 92 ∷ 117 ∷ 48 ∷ 48 ∷ 54 ∷ 49 ∷ 34 ∷ 58 ∷ 50 ∷ 125 ∷ []) Duplicate 14
unfolding encode_utf8
escaped_key =
    fault_at (123 ∷ 34 ∷ 97 ∷ 34 ∷ 58 ∷ 49 ∷ 44 ∷ 34 ∷ 92 ∷ 117 ∷ 48 ∷ 48 ∷ 54 ∷ 49 ∷ 34 ∷ 58 ∷ 50 ∷ 125 ∷ []) (123 ∷ 34 ∷ 97 ∷ 34 ∷ 58 ∷ 49 ∷ 44 ∷ 34 ∷ 92 ∷ 117 ∷ 48 ∷ 48 ∷ 54 ∷ 49 ∷ []) 34 (58 ∷ 50 ∷ 125 ∷ [])
    (state (in_key ((97 ∷ [], number (49 ∷ [])) ∷ []) (97 ∷ []) Outside) []) Duplicate
    (record { utf8 = (123 ∷ 34 ∷ 97 ∷ 34 ∷ 58 ∷ 49 ∷ 44 ∷ 34 ∷ 92 ∷ 117 ∷ 48 ∷ 48 ∷ 54 ∷ 49 ∷ 34 ∷ 58 ∷ 50 ∷ 125 ∷ [], (refl, refl)); here = refl }) (record { until = refl; refused = refl })

-- no bytes at all: End at 0
pub empty : IsJsonFault [] End 0
unfolding encode_utf8
empty = end_fault [] [] (state at_value []) (record { utf8 = ([], (refl, refl)); here = refl }) refl refl

abbrev pub brackets : List ℕ
brackets = 91 ∷ 91 ∷ 91 ∷ 91 ∷ 91 ∷ 91 ∷ 91 ∷ 91 ∷ 91 ∷ 91 ∷ 91 ∷ 91 ∷ 91 ∷ 91 ∷ 91 ∷ 91 ∷ []

abbrev pub open_lists : List Frame
open_lists = in_list [] ∷ in_list [] ∷ in_list [] ∷ in_list [] ∷ in_list [] ∷ in_list [] ∷ in_list [] ∷ in_list [] ∷ in_list [] ∷ in_list [] ∷ in_list [] ∷ in_list [] ∷ in_list [] ∷ in_list [] ∷ in_list [] ∷ []

-- seventeen `[`: Depth at 16
pub seventeen : IsJsonFault (brackets ++ 91 ∷ []) Depth 16
unfolding encode_utf8
seventeen =
    fault_at (brackets ++ 91 ∷ []) brackets 91 [] (state at_first_item open_lists) Depth
    (record { utf8 = (brackets ++ 91 ∷ [], (refl, refl)); here = refl }) (record { until = refl; refused = refl })
