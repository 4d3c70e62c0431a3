-- The tests of a scenario, in their order. The fault of a tree is the first that fails.
use Rattle.std.specs.Prelude.{ℕ, ◌+◌, Bool, false, not, ◌&&◌, ◌||◌, nat_lt, nat_le, if◌then◌else◌, List, [], ◌∷◌, length, map, count_by, sum_by, Option, Some, None, is_some, option_and_then, codes}
use Rattle.std.specs.List.{list_any, list_all}
use Rattle.std.specs.Str.{bytes_eq}
use Rattle.json_order.specs.Json.{Json}
use Rattle.rtapp_scenario.specs.declared.key.EventKind.{EventKind}
use Rattle.rtapp_scenario.specs.declared.key.EventKind.TheVariants.{Run, Sleep, Timer}
use Rattle.rtapp_scenario.specs.Values.{Member, object_of, text_value, natural_within, at, members, members_at, is_at}
use Rattle.rtapp_scenario.specs.Faults.{Fault, no_tasks, duration, unsupported, value, name, too_many, idle, unless, first, first_fault_in}
use Rattle.rtapp_scenario.specs.Keys.{is_text, thread_keys, phase_keys, timer_keys, key_fault, missing_fault, kind_of, is_event}
use Rattle.rtapp_scenario.specs.Threads.{thread_ref, has_event, phases_in, instances}
use Rattle.limits.specs.Limits.{max_script_number}

-- ---- events

-- a timer's `ref` is that of the thread's first timer
abbrev pub other_ref : Option (List ℕ) → Member → Option Fault
other_ref None m = None
other_ref (Some ref) m =
    unless (not (bytes_eq m.key (codes "ref")) || is_text ref (text_value m.value))
    (unsupported (codes "ref"))

abbrev pub timer_member_fault : Option (List ℕ) → List Member → Member → Option Fault
timer_member_fault ref before m = first (key_fault timer_keys m ∷ other_ref ref m ∷ [])

-- the members in text order, and then what is missing
abbrev pub timer_fault : Option (List ℕ) → Option (List Member) → Member → Option Fault
timer_fault ref None m = Some (value m.key)
timer_fault ref (Some ms) m =
    first (first_fault_in (timer_member_fault ref) [] ms ∷ missing_fault timer_keys ms ∷ [])

-- `run` and `sleep` take 0 to 10^9 us, a timer takes an object
unfoldable pub event_value_fault : Option (List ℕ) → Option EventKind → Member → Option Fault
event_value_fault ref None m = None
event_value_fault ref (Some Run) m =
    unless (is_some (natural_within 0 max_script_number m.value)) (value m.key)
event_value_fault ref (Some Sleep) m =
    unless (is_some (natural_within 0 max_script_number m.value)) (value m.key)
event_value_fault ref (Some Timer) m = timer_fault ref (object_of m.value) m

-- the 65th event is refused before its value is read; all are counted, those of 0 us too
unfoldable pub event_fault : Option (List ℕ) → List Member → Member → Option Fault
event_fault ref before m =
    first (unless (nat_lt (count_by is_event before) 64) too_many
    ∷ event_value_fault ref (kind_of m.key) m ∷ [])

-- ---- phases

unfoldable pub phase_member_fault : Option (List ℕ) → List Member → Member → Option Fault
phase_member_fault ref before m =
    if is_event m then event_fault ref before m else key_fault phase_keys m

abbrev pub phase_fault_in : Option (List ℕ) → Member → Option (List Member) → Option Fault
phase_fault_in ref phase None = Some (value phase.key)
phase_fault_in ref phase (Some ms) = first_fault_in (phase_member_fault ref) [] ms

unfoldable pub phase_fault : Option (List ℕ) → Member → Option Fault
phase_fault ref phase = phase_fault_in ref phase (object_of phase.value)

-- 1 to 64 phases
abbrev pub phases_fault_in : Option (List ℕ) → Member → Option (List Member) → Option Fault
phases_fault_in ref m None = Some (value m.key)
phases_fault_in ref m (Some phases) =
    first (
    unless (nat_lt 0 (length phases)) (value m.key)
    ∷ unless (nat_le (length phases) 64) too_many
    ∷ first (map (phase_fault ref) phases)
    ∷ []
    )

unfoldable pub phases_fault : Option (List ℕ) → Member → Option Fault
phases_fault ref m = phases_fault_in ref m (object_of m.value)

-- ---- threads

abbrev pub is_phases : Member → Bool
is_phases m = is_at (codes "phases") m

-- a thread has either `phases` or events of its own, so of the two kinds the one that stands second
-- is refused
unfoldable pub thread_member_fault : Option (List ℕ) → List Member → Member → Option Fault
thread_member_fault ref before m =
    if is_phases m
    then first (unless (not (list_any is_event before)) (unsupported m.key)
    ∷ phases_fault ref m ∷ [])
    else (if is_event m
    then first (unless (not (list_any is_phases before)) (unsupported m.key)
    ∷ event_fault ref before m ∷ [])
    else key_fault thread_keys m)

-- a phase from which no event is left
abbrev pub is_idle : List Member → Bool
is_idle ms = list_any (λ phase. not (has_event phase)) (phases_in ms)

-- 1 to 64 bytes of codes 0x21 to 0x7e
abbrev pub is_name : List ℕ → Bool
is_name text =
    nat_lt 0 (length text) && nat_le (length text) 64
    && list_all (λ b. nat_le 33 b && nat_le b 126) text

-- the `ref` of each thread's timers
abbrev pub refs_in : List Member → List (Option (List ℕ))
refs_in threads = map (λ thread. thread_ref (members thread.value)) threads

-- a `ref` other than `unique` that several tasks would use: those of one thread, or also those of a
-- thread before it
unfoldable pub is_shared : List (Option (List ℕ)) → ℕ → Option (List ℕ) → Bool
is_shared refs tasks None = false
is_shared refs tasks (Some ref) =
    not (bytes_eq ref (codes "unique")) && (nat_lt 1 tasks || list_any (is_text ref) refs)

-- how many tasks threads are
abbrev pub tasks_in : List Member → ℕ
tasks_in threads = sum_by (λ thread. instances (members thread.value)) threads

-- of the members of one thread: each in text order, what is missing, and a phase that is idle
unfoldable pub members_fault : List Member → Option Fault
members_fault ms =
    first (
    first_fault_in (thread_member_fault (thread_ref ms)) [] ms
    ∷ missing_fault thread_keys ms
    ∷ unless (not (is_idle ms)) idle
    ∷ []
    )

abbrev pub members_fault_in : Option (List Member) → Member → Option Fault
members_fault_in None thread = Some (value thread.key)
members_fault_in (Some ms) thread = members_fault ms

-- of one thread: first its name
unfoldable pub own_fault : Member → Option Fault
own_fault thread =
    first (unless (is_name thread.key) name ∷ members_fault_in (object_of thread.value) thread ∷ [])

-- of one thread beside those before it: a `ref` that is shared, and then the count of tasks
unfoldable pub beside_fault : List (Option (List ℕ)) → ℕ → List Member → Option Fault
beside_fault refs tasks ms =
    first (
    unless (not (is_shared refs (instances ms) (thread_ref ms))) (unsupported (codes "ref"))
    ∷ unless (nat_le (tasks + instances ms) 256) too_many
    ∷ []
    )

abbrev pub thread_fault : List Member → Member → Option Fault
thread_fault before thread =
    first (own_fault thread
    ∷ beside_fault (refs_in before) (tasks_in before) (members thread.value) ∷ [])

-- ---- the root

abbrev pub threads_of : Json → List Member
threads_of root = members_at (codes "tasks") (members root)

-- in seconds, where it is one that is accepted
abbrev pub duration_of : Json → Option ℕ
duration_of root =
    option_and_then (natural_within 0 60)
    (at (codes "duration") (members_at (codes "global") (members root)))

abbrev pub root_member_fault : Member → Option Fault
root_member_fault m =
    unless (is_at (codes "tasks") m || is_at (codes "global") m) (unsupported m.key)

abbrev pub fault_of : Json → Option Fault
fault_of root =
    first (
    unless (nat_lt 0 (length (threads_of root))) no_tasks
    ∷ unless (is_some (duration_of root)) duration
    ∷ first (map root_member_fault (members root))
    ∷ first_fault_in thread_fault [] (threads_of root)
    ∷ []
    )
