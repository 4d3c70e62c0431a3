-- Calls in little room: the short ones in place, the others in a list of their own.
use Rattle.std.specs.Prelude.{ℕ, List, [], ◌∷◌}
use Rattle.domain_run.specs.declared.call.Call.{Call}
use Rattle.domain_run.specs.declared.call.Call.TheVariants as calls
use Rattle.calls_trace.specs.declared.kept.Spelled.{Spelled}
use Rattle.calls_trace.specs.declared.kept.Place.{Place}
use Rattle.calls_trace.specs.declared.kept.Place.TheVariants.{Wake, Leave, Depart, Advance, Long}

-- 1 where the call stands in the list of its own
abbrev pub is_long : Place → ℕ
is_long (Wake number) = 0
is_long (Leave number) = 0
is_long (Depart number) = 0
is_long (Advance ticks) = 0
is_long Long = 1

-- the calls, each of those that are not short taken from their list
abbrev pub calls_of_orders : List Place → List Spelled → List Call
calls_of_orders [] long = []
calls_of_orders (Wake number ∷ order) long = calls.Wake number ∷ calls_of_orders order long
calls_of_orders (Leave number ∷ order) long = calls.Leave number ∷ calls_of_orders order long
calls_of_orders (Depart number ∷ order) long = calls.Depart number ∷ calls_of_orders order long
calls_of_orders (Advance ticks ∷ order) long = calls.Advance ticks ∷ calls_of_orders order long
calls_of_orders (Long ∷ order) [] = []
calls_of_orders (Long ∷ order) (spelled ∷ long) = spelled.call ∷ calls_of_orders order long
