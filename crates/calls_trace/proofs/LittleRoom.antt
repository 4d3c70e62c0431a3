-- Calls in little room, one after the other.
use Rattle.std.proofs.Common.{◌≡◌, ◌≤◌, List, [], ◌∷◌, ◌++◌, length, refl, sym, ap, ◌∙◌, append-nil, arith}
use Rattle.std.specs.Prelude.{sum_by}
use Rattle.std.proofs.lemmas.List.Sums.{sum_by-cons}
use Rattle.domain_run.specs.declared.call.Call.{Call}
use Rattle.domain_run.specs.declared.call.Call.TheVariants as calls
use Rattle.calls_trace.specs.declared.kept.Spelled.{Spelled}
use Rattle.calls_trace.specs.declared.kept.Place.{Place}
use Rattle.calls_trace.specs.declared.kept.Place.TheVariants.{Wake, Leave, Depart, Advance, Long}
use Rattle.calls_trace.specs.private.Kept.{room_of}
use Rattle.calls_trace.specs.private.LittleRoom.{calls_of_orders, is_long}

pub calls_append : (order more : List Place) (long others : List Spelled) → sum_by is_long order ≡ length long → calls_of_orders (order ++ more) (long ++ others) ≡ calls_of_orders order long ++ calls_of_orders more others
calls_append [] more [] others same = refl
calls_append [] more (s ∷ long) others same = absurd (omega (arith, same))
calls_append (Wake number ∷ order) more long others same = let n = sum_by-cons is_long (Wake number) order in ap (λ (cs : List Call). calls.Wake number ∷ cs) (calls_append order more long others (omega (arith, same, n)))
calls_append (Leave number ∷ order) more long others same = let n = sum_by-cons is_long (Leave number) order in ap (λ (cs : List Call). calls.Leave number ∷ cs) (calls_append order more long others (omega (arith, same, n)))
calls_append (Depart number ∷ order) more long others same = let n = sum_by-cons is_long (Depart number) order in ap (λ (cs : List Call). calls.Depart number ∷ cs) (calls_append order more long others (omega (arith, same, n)))
calls_append (Advance ticks ∷ order) more long others same = let n = sum_by-cons is_long (Advance ticks) order in ap (λ (cs : List Call). calls.Advance ticks ∷ cs) (calls_append order more long others (omega (arith, same, n)))
calls_append (Long ∷ order) more [] others same = let n = sum_by-cons is_long Long order in absurd (omega (arith, same, n))
calls_append (Long ∷ order) more (s ∷ long) others same = let n = sum_by-cons is_long Long order in ap (λ (cs : List Call). s.call ∷ cs) (calls_append order more long others (omega (arith, same, n)))

-- a short one stands in place
pub calls_short : (order : List Place) (k : Place) (long : List Spelled) → sum_by is_long order ≡ length long → calls_of_orders (order ++ k ∷ []) long ≡ calls_of_orders order long ++ calls_of_orders (k ∷ []) []
calls_short order k long same = ap (calls_of_orders (order ++ k ∷ [])) (sym (append-nil long)) ∙ calls_append order (k ∷ []) long [] same

room_one : (c : Call) → room_of c ≤ 1
room_one (calls.Admit number name params delay script) = omega arith
room_one (calls.Regrade number params word) = omega arith
room_one (calls.Wake number) = omega arith
room_one (calls.Leave number) = omega arith
room_one (calls.Advance n) = omega arith
room_one (calls.Limit limit word) = omega arith
room_one (calls.Depart number) = omega arith
room_one (calls.Arrive number name params script) = omega arith

-- none but those of the list of their own needs room
pub room_enough : (order : List Place) (long : List Spelled) → sum_by room_of (calls_of_orders order long) ≤ length long
room_enough [] long = omega arith
room_enough (Wake number ∷ order) long = let n = sum_by-cons room_of (calls.Wake number) (calls_of_orders order long) in let rest = room_enough order long in omega (arith, n, rest)
room_enough (Leave number ∷ order) long = let n = sum_by-cons room_of (calls.Leave number) (calls_of_orders order long) in let rest = room_enough order long in omega (arith, n, rest)
room_enough (Depart number ∷ order) long = let n = sum_by-cons room_of (calls.Depart number) (calls_of_orders order long) in let rest = room_enough order long in omega (arith, n, rest)
room_enough (Advance ticks ∷ order) long = let n = sum_by-cons room_of (calls.Advance ticks) (calls_of_orders order long) in let rest = room_enough order long in omega (arith, n, rest)
room_enough (Long ∷ order) [] = omega arith
room_enough (Long ∷ order) (s ∷ long) = let n = sum_by-cons room_of s.call (calls_of_orders order long) in let one = room_one s.call in let rest = room_enough order long in omega (arith, n, one, rest)
