-- A thread that passes its tests has a script within the limits of scripts.
use Rattle.std.proofs.Common.{ℕ, ◌≡◌, ◌<◌, ◌≤◌, ◌||◌, Bool, true, false, not, List, [], ◌∷◌, map, find, length, refl, Option, Some, None, IfSome, is_some, unwrap_or, arith, nat_lt, nat_le}
use Rattle.std.proofs.lemmas.Bool.{ltb-true, leb-true}
use Rattle.std.proofs.lemmas.Slice.Eq.{bytes_eq-Decides}
use Rattle.std.proofs.lemmas.List.Elements.{All-from_recursion}
use Rattle.std.specs.Prelude.{codes}
use Rattle.std.specs.Str.{bytes_eq}
use Rattle.std.specs.Option.{option_map}
use Rattle.std.specs.List.{list_any, filter_map, AllByRecursion}
use Rattle.task_script.specs.script.ScriptView.{IsEvent, IsPhase, IsScript, script_of}
use Rattle.json_order.specs.Json.{Json, null}
use Rattle.std.proofs.lemmas.List.{length-map}
use Rattle.rtapp_scenario.specs.Values.{Member, object_of, members, members_at, at, has}
use Rattle.rtapp_scenario.specs.Faults.{Fault, value, too_many, idle, unsupported, unless, first, first_fault_in}
use Rattle.rtapp_scenario.specs.Keys.{kind_of, is_event, missing_fault, thread_keys}
use Rattle.rtapp_scenario.specs.Threads.{event_of_member, has_event, rounds, count, thread_ref}
use Rattle.rtapp_scenario.specs.Tests.{phase_member_fault, phase_fault, phase_fault_in, phases_fault, phases_fault_in, thread_member_fault, event_fault, is_phases, is_idle, members_fault}
use Rattle.rtapp_scenario.specs.Scenario.{phase_of, member_phase, phases}
use Rattle.rtapp_scenario.proofs.Passing.{first_split, unless_passes, Passes, found_passes}
use Rattle.rtapp_scenario.proofs.Counted.{StopsAt65, number_fits, rounds_fit, events_fit, events_few, event_stops, events_left}

or_parts : (a b : Bool) → a || b ≡ false → (a ≡ false) × (b ≡ false)
or_parts true b h = absurd cc
or_parts false b h = (refl, h)

not_false : (b : Bool) → not b ≡ false → b ≡ true
not_false true h = refl
not_false false h = absurd cc

not_true : (b : Bool) → not b ≡ true → b ≡ false
not_true false h = refl
not_true true h = absurd cc

-- `phases` is no event's key
pub phases_kind : (key : List ℕ) → bytes_eq key (codes "phases") ≡ true → kind_of key ≡ None
unfolding kind_of
phases_kind key h = let same : key ≡ codes "phases" = (bytes_eq-Decides key (codes "phases")).0 h in rw same refl

phase_member_stops : (ref : Option (List ℕ)) → StopsAt65 (phase_member_fault ref)
unfolding phase_member_fault
phase_member_stops ref before m h e = event_stops ref before m (rw e at h)

event_passes : (ref : Option (List ℕ)) (before : List Member) (m : Member) (b : Bool) → is_phases m ≡ b → thread_member_fault ref before m ≡ None → is_event m ≡ true → event_fault ref before m ≡ None
unfolding thread_member_fault
event_passes ref before m true p h e = absurd (let none : is_event m ≡ false = rw (phases_kind m.key p) refl in cc)
event_passes ref before m false p h e =
    let s = rw (p, e) at h in
    (first_split (event_fault ref before m) [] (first_split (unless (not (list_any is_phases before)) (unsupported m.key)) (event_fault ref before m ∷ []) s).1).0

thread_member_stops : (ref : Option (List ℕ)) → StopsAt65 (thread_member_fault ref)
thread_member_stops ref before m h e = event_stops ref before m (event_passes ref before m (is_phases m) refl h e)

-- ---- a phase

in_phase : (ref : Option (List ℕ)) (phase : Member) (o : Option (List Member)) → phase_fault_in ref phase o ≡ None → first_fault_in (phase_member_fault ref) [] (unwrap_or o []) ≡ None
in_phase ref phase None h = absurd cc
in_phase ref phase (Some ms) h = h

phase_of_fits : (test : List Member → Member → Option Fault) → StopsAt65 test → (n : ℕ) (ms : List Member) → (1 ≤ n) × (n ≤ 1000000000) → first_fault_in test [] ms ≡ None → has_event ms ≡ true → IsPhase (phase_of n ms)
unfolding phase_of
phase_of_fits test stops n ms fits order left = record {
  some = omega (arith, fits.0);
  most = fits.1;
  some_events = events_left ms left;
  most_events = events_few test stops ms order;
  events = All-from_recursion IsEvent (filter_map event_of_member ms) (events_fit ms);
}

phase_fits : (ref : Option (List ℕ)) (phase : Member) → phase_fault ref phase ≡ None → has_event (members phase.value) ≡ true → IsPhase (member_phase phase)
unfolding phase_fault
phase_fits ref phase h left =
    let order = in_phase ref phase (object_of phase.value) h in
    phase_of_fits (phase_member_fault ref) (phase_member_stops ref) (count (members phase.value)) (members phase.value) (number_fits (codes "loop") 1 1000000000 1 (members phase.value) (omega arith) (omega arith)) order left

abbrev idles : List Member → Bool
idles ps = list_any (λ phase. not (has_event phase)) (map (λ phase. members phase.value) ps)

phases_fit : (ref : Option (List ℕ)) (ps : List Member) → first (map (phase_fault ref) ps) ≡ None → idles ps ≡ false → AllByRecursion IsPhase (map member_phase ps)
phases_fit ref [] h left = tt
phases_fit ref (p ∷ ps) h left =
    let s = first_split (phase_fault ref p) (map (phase_fault ref) ps) h in
    let o = or_parts (not (has_event (members p.value))) (idles ps) left in
    (phase_fits ref p s.0 (not_false (has_event (members p.value)) o.0), phases_fit ref ps s.1 o.1)

-- ---- the phases of a thread

record Fit (ps : List Member) (ref : Option (List ℕ)) : Type 0 where
  pub some : 0 < length ps
  pub most : length ps ≤ 64
  pub each : first (map (phase_fault ref) ps) ≡ None

in_phases : (ref : Option (List ℕ)) (m : Member) (o : Option (List Member)) → phases_fault_in ref m o ≡ None → Fit (unwrap_or o []) ref
in_phases ref m None h = absurd cc
in_phases ref m (Some ps) h =
    let a = first_split (unless (nat_lt 0 (length ps)) (value m.key)) (unless (nat_le (length ps) 64) too_many ∷ first (map (phase_fault ref) ps) ∷ []) h in
    let b = first_split (unless (nat_le (length ps) 64) too_many) (first (map (phase_fault ref) ps) ∷ []) a.1 in
    let c = first_split (first (map (phase_fault ref) ps)) [] b.1 in
    record { some = ltb-true _ _ (unless_passes _ _ a.0); most = leb-true _ _ (unless_passes _ _ b.0); each = c.0 }

member_phases : (ref : Option (List ℕ)) (before : List Member) (m : Member) → is_phases m ≡ true → thread_member_fault ref before m ≡ None → Fit (members m.value) ref
unfolding thread_member_fault phases_fault
member_phases ref before m p h =
    let s = rw p at h in
    let a = first_split (unless (not (list_any is_event before)) (unsupported m.key)) (phases_fault ref m ∷ []) s in
    let b : phases_fault_in ref m (object_of m.value) ≡ None = (first_split (phases_fault ref m) [] a.1).0 in
    in_phases ref m (object_of m.value) b

abbrev value_of : Option Member → Option Json
value_of o = option_map (λ m. m.value) o

found_fits : (ref : Option (List ℕ)) (o : Option Member) → is_some (value_of o) ≡ true → IfSome o (Passes (thread_member_fault ref) is_phases) → Fit (members (unwrap_or (value_of o) null)) ref
found_fits ref None some h = absurd cc
found_fits ref (Some m) some h = member_phases ref h.before m h.is h.passes

found_at : (ref : Option (List ℕ)) (ms : List Member) → first_fault_in (thread_member_fault ref) [] ms ≡ None → has (codes "phases") ms ≡ true → Fit (members_at (codes "phases") ms) ref
unfolding at
found_at ref ms order some = found_fits ref (find is_phases ms) some (found_passes (thread_member_fault ref) is_phases [] ms order)

record Fits (ms : List Member) : Type 0 where
  pub some : 0 < length (phases ms)
  pub most : length (phases ms) ≤ 64
  pub each : AllByRecursion IsPhase (phases ms)

thread_fits : (ref : Option (List ℕ)) (ms : List Member) (b : Bool) → has (codes "phases") ms ≡ b → first_fault_in (thread_member_fault ref) [] ms ≡ None → is_idle ms ≡ false → Fits ms
thread_fits ref ms true e order left =
    let f = found_at ref ms order e in
    let l : idles (members_at (codes "phases") ms) ≡ false = rw e at left in
    let same : phases ms ≡ map member_phase (members_at (codes "phases") ms) = rw e refl in
    record {
      some = rw (same, length-map) f.some;
      most = rw (same, length-map) f.most;
      each = rw same (phases_fit ref (members_at (codes "phases") ms) f.each l);
    }
thread_fits ref ms false e order left =
    let l = rw e at left in
    let same : phases ms ≡ phase_of 1 ms ∷ [] = rw e refl in
    let one = phase_of_fits (thread_member_fault ref) (thread_member_stops ref) 1 ms (omega arith, omega arith) order (not_false (has_event ms) (or_parts (not (has_event ms)) false l).0) in
    record { some = rw same (omega arith); most = rw same (omega arith); each = rw same (one, tt) }

pub script_fits : (ms : List Member) → members_fault ms ≡ None → IsScript (script_of (rounds ms) (phases ms))
unfolding members_fault
script_fits ms h =
    let ref = thread_ref ms in
    let a = first_split (first_fault_in (thread_member_fault ref) [] ms) (missing_fault thread_keys ms ∷ unless (not (is_idle ms)) idle ∷ []) h in
    let b = first_split (missing_fault thread_keys ms) (unless (not (is_idle ms)) idle ∷ []) a.1 in
    let c = first_split (unless (not (is_idle ms)) idle) [] b.1 in
    let left = not_true (is_idle ms) (unless_passes (not (is_idle ms)) idle c.0) in
    let f = thread_fits ref ms (has (codes "phases") ms) refl a.0 left in
    record { rounds = rounds_fit ms (codes "loop"); some_phases = f.some; most_phases = f.most; phases = All-from_recursion IsPhase (phases ms) f.each }
