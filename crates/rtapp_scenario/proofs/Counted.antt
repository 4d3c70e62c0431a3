-- How many events a phase has.
use Rattle.std.proofs.Common.{ℕ, ◌≡◌, ◌<◌, ◌≤◌, ◌+◌, Bool, true, false, cond, List, [], ◌∷◌, ◌++◌, length, refl, Option, Some, None, IfSome, is_some, arith, append_assoc, count_by, leb, ◌&&◌, option_and_then, unwrap_or}
use Rattle.std.proofs.lemmas.Bool.{ltb-true, leb-true, and_parts}
use Rattle.std.proofs.lemmas.List.{append-nil}
use Rattle.std.proofs.lemmas.List.Sums.{sum_by-append, sum_by-cons}
use Rattle.std.specs.Option.{option_map}
use Rattle.std.specs.List.{filter_map, cons_option, AllByRecursion}
use Rattle.json_order.specs.Json.{Json}
use Rattle.task_script.specs.declared.phase.Event.{Event}
use Rattle.task_script.specs.declared.phase.Event.TheVariants as events
use Rattle.task_script.specs.script.ScriptView.{IsEvent}
use Rattle.rtapp_scenario.specs.declared.key.EventKind.{EventKind}
use Rattle.rtapp_scenario.specs.declared.key.EventKind.TheVariants.{Run, Sleep, Timer}
use Rattle.rtapp_scenario.specs.Values.{Member, natural_within, natural_of, at}
use Rattle.rtapp_scenario.specs.Faults.{Fault, first_fault_in}
use Rattle.rtapp_scenario.specs.Keys.{kind_of, is_event}
use Rattle.rtapp_scenario.specs.Threads.{event_of, event_of_member, has_event, number_at}
use Rattle.rtapp_scenario.specs.Tests.{event_fault}
use Rattle.rtapp_scenario.proofs.Passing.{first_split, unless_passes}

-- ---- numbers

chosen : (least most n : ℕ) (b : Bool) → leb least n && leb n most ≡ b → IfSome (cond b (Some n) None) (λ m. (least ≤ m) × (m ≤ most))
chosen least most n true e = let p = and_parts (leb least n) (leb n most) e in (leb-true least n p.0, leb-true n most p.1)
chosen least most n false e = tt

within : (least most : ℕ) (o : Option ℕ) → IfSome (option_and_then (λ n. cond (leb least n && leb n most) (Some n) None) o) (λ n. (least ≤ n) × (n ≤ most))
within least most None = tt
within least most (Some n) = chosen least most n _ refl

pub natural_fits : (least most : ℕ) (v : Json) → IfSome (natural_within least most v) (λ n. (least ≤ n) × (n ≤ most))
unfolding natural_within
natural_fits least most v = within least most (natural_of v)

or_default : (least most default : ℕ) (o : Option ℕ) → least ≤ default → default ≤ most → IfSome o (λ n. (least ≤ n) × (n ≤ most)) → (least ≤ unwrap_or o default) × (unwrap_or o default ≤ most)
or_default least most default None l m h = (l, m)
or_default least most default (Some n) l m h = h

at_fits : (least most : ℕ) (o : Option Json) → IfSome (option_and_then (natural_within least most) o) (λ n. (least ≤ n) × (n ≤ most))
at_fits least most None = tt
at_fits least most (Some v) = natural_fits least most v

pub number_fits : (key : List ℕ) (least most default : ℕ) (ms : List Member) → least ≤ default → default ≤ most → (least ≤ number_at key least most default ms) × (number_at key least most default ms ≤ most)
unfolding number_at
number_fits key least most default ms l m = or_default least most default (option_and_then (natural_within least most) (at key ms)) l m (at_fits least most (at key ms))

pub rounds_fit : (ms : List Member) (key : List ℕ) → IfSome (option_and_then (natural_within 1 1000000000) (at key ms)) (λ n. (1 ≤ n) × (n ≤ 1000000000))
rounds_fit ms key = at_fits 1 1000000000 (at key ms)

-- ---- events

run_fits : (o : Option ℕ) → IfSome o (λ n. (1 ≤ n) × (n ≤ 1000000000)) → IfSome (option_map events.Run o) IsEvent
run_fits None h = tt
run_fits (Some n) h = (omega (arith, h.0), h.1)

sleep_fits : (o : Option ℕ) → IfSome o (λ n. (1 ≤ n) × (n ≤ 1000000000)) → IfSome (option_map events.Sleep o) IsEvent
sleep_fits None h = tt
sleep_fits (Some n) h = (omega (arith, h.0), h.1)

timer_fits : (o : Option ℕ) → IfSome o (λ n. (1 ≤ n) × (n ≤ 1000000000)) → IfSome (option_map events.Timer o) IsEvent
timer_fits None h = tt
timer_fits (Some n) h = (omega (arith, h.0), h.1)

event_fits : (kind : Option EventKind) (v : Json) → IfSome (event_of kind v) IsEvent
event_fits None v = tt
event_fits (Some Run) v = run_fits _ (natural_fits 1 1000000000 v)
event_fits (Some Sleep) v = sleep_fits _ (natural_fits 1 1000000000 v)
event_fits (Some Timer) v = timer_fits _ (at_fits 1 1000000000 _)

cons_fits : (o : Option Event) (es : List Event) → IfSome o IsEvent → AllByRecursion IsEvent es → AllByRecursion IsEvent (cons_option o es)
cons_fits None es h all = all
cons_fits (Some e) es h all = (h, all)

pub events_fit : (ms : List Member) → AllByRecursion IsEvent (filter_map event_of_member ms)
unfolding event_of_member
events_fit [] = tt
events_fit (m ∷ ms) = cons_fits (event_of (kind_of m.key) m.value) (filter_map event_of_member ms) (event_fits (kind_of m.key) m.value) (events_fit ms)

-- ---- how many there are

cons_long : (o : Option Event) (es : List Event) (n : ℕ) → length es ≤ n → length (cons_option o es) ≤ 1 + n
cons_long None es n h = omega (arith, h)
cons_long (Some e) es n h = omega (arith, h)

kept : (kind : Option EventKind) (v : Json) (es : List Event) (n : ℕ) → length es ≤ n → length (cons_option (event_of kind v) es) ≤ cond (is_some kind) 1 0 + n
kept None v es n h = omega (arith, h)
kept (Some kind) v es n h = cons_long (event_of (Some kind) v) es n h

events_counted : (ms : List Member) → length (filter_map event_of_member ms) ≤ count_by is_event ms
unfolding event_of_member
events_counted [] = omega arith
events_counted (m ∷ ms) = rw (sum_by-cons (λ x. cond (is_event x) 1 0) m ms) (kept (kind_of m.key) m.value (filter_map event_of_member ms) (count_by is_event ms) (events_counted ms))

-- a test that refuses the 65th event
abbrev pub StopsAt65 : (List Member → Member → Option Fault) → Type 0
StopsAt65 test = (before : List Member) (m : Member) → test before m ≡ None → is_event m ≡ true → count_by is_event before < 64

count_more : (before : List Member) (m : Member) (b : Bool) → is_event m ≡ b → (b ≡ true → count_by is_event before < 64) → count_by is_event before ≤ 64 → count_by is_event (before ++ m ∷ []) ≤ 64
count_more before m true e small h = let few = small refl in rw (sum_by-append (λ x. cond (is_event x) 1 0) before (m ∷ []), e) (omega (arith, few))
count_more before m false e small h = rw (sum_by-append (λ x. cond (is_event x) 1 0) before (m ∷ []), e) (omega (arith, h))

count_within : (test : List Member → Member → Option Fault) → StopsAt65 test → (before ms : List Member) → first_fault_in test before ms ≡ None → count_by is_event before ≤ 64 → count_by is_event (before ++ ms) ≤ 64
count_within test stops before [] h few = rw append-nil few
count_within test stops before (m ∷ ms) h few =
    let s = first_split _ _ h in
    let more = count_more before m (is_event m) refl (λ e. stops before m s.0 e) few in
    let rest : count_by is_event ((before ++ m ∷ []) ++ ms) ≤ 64 = count_within test stops (before ++ m ∷ []) ms (first_split _ _ s.1).0 more in
    rw append_assoc at rest

pub events_few : (test : List Member → Member → Option Fault) → StopsAt65 test → (ms : List Member) → first_fault_in test [] ms ≡ None → length (filter_map event_of_member ms) ≤ 64
events_few test stops ms h = let few = count_within test stops [] ms h (omega arith) in omega (arith, few, events_counted ms)

pub event_stops : (ref : Option (List ℕ)) (before : List Member) (m : Member) → event_fault ref before m ≡ None → count_by is_event before < 64
unfolding event_fault
event_stops ref before m h = ltb-true _ _ (unless_passes _ _ (first_split _ _ h).0)

-- ---- one is left

one_here : (o : Option Event) (es : List Event) → is_some o ≡ true → 0 < length (cons_option o es)
one_here None es h = absurd cc
one_here (Some e) es h = omega arith

one_behind : (o : Option Event) (es : List Event) → 0 < length es → 0 < length (cons_option o es)
one_behind None es h = h
one_behind (Some e) es h = omega arith

left_in : (m : Member) (ms : List Member) (b : Bool) → is_some (event_of_member m) ≡ b → (has_event ms ≡ true → 0 < length (filter_map event_of_member ms)) → has_event (m ∷ ms) ≡ true → 0 < length (filter_map event_of_member (m ∷ ms))
left_in m ms true e rest h = one_here (event_of_member m) (filter_map event_of_member ms) e
left_in m ms false e rest h = one_behind (event_of_member m) (filter_map event_of_member ms) (rest (rw e at h))

pub events_left : (ms : List Member) → has_event ms ≡ true → 0 < length (filter_map event_of_member ms)
events_left [] h = absurd cc
events_left (m ∷ ms) h = left_in m ms (is_some (event_of_member m)) refl (events_left ms) h
