-- What a thread says: its numbers, its phases with their events, and the reference of its timers.
use Rattle.std.specs.Prelude.{ℕ, Bool, true, false, if◌then◌else◌, List, [], ◌∷◌, map, Option, Some, None, is_some, option_and_then, unwrap_or, codes}
use Rattle.std.specs.Option.{option_map}
use Rattle.std.specs.List.{list_any}
use Rattle.json_order.specs.Json.{Json}
use Rattle.task_script.specs.declared.phase.Event.{Event}
use Rattle.task_script.specs.declared.phase.Event.TheVariants as events
use Rattle.rtapp_scenario.specs.declared.key.EventKind.{EventKind}
use Rattle.rtapp_scenario.specs.declared.key.EventKind.TheVariants.{Run, Sleep, Timer}
use Rattle.rtapp_scenario.specs.Values.{Member, text_value, natural_within, list_of, at, has, members, members_at, is_at}
use Rattle.rtapp_scenario.specs.Faults.{first}
use Rattle.rtapp_scenario.specs.Keys.{kind_of, numbers_in}
use Rattle.limits.specs.Limits.{max_script_number}

-- ---- numbers, with what a key that is left out stands for

-- the number at a key, from the least to the most, or the default
unfoldable pub number_at : List ℕ → ℕ → ℕ → ℕ → List Member → ℕ
number_at key least most default ms =
    unwrap_or (option_and_then (natural_within least most) (at key ms)) default

-- how many tasks a thread is
abbrev pub instances : List Member → ℕ
instances ms = number_at (codes "instance") 1 256 1 ms

-- microseconds from the admission to the start
abbrev pub delay : List Member → ℕ
delay ms = number_at (codes "delay") 0 max_script_number 0 ms

-- microseconds
abbrev pub runtime : List Member → ℕ
runtime ms = number_at (codes "dl-runtime") 0 9000000000000000 0 ms

abbrev pub period : List Member → ℕ
period ms = number_at (codes "dl-period") 0 9000000000000000 (runtime ms) ms

abbrev pub deadline : List Member → ℕ
deadline ms = number_at (codes "dl-deadline") 0 9000000000000000 (period ms) ms

-- rounds over the phases; none for -1, which is the default: no end
abbrev pub rounds : List Member → Option ℕ
rounds ms = option_and_then (natural_within 1 max_script_number) (at (codes "loop") ms)

-- repetitions of a phase
abbrev pub count : List Member → ℕ
count ms = number_at (codes "loop") 1 max_script_number 1 ms

-- none where the text names none, which means domain 0
abbrev pub cpus : List Member → Option (List ℕ)
cpus ms = option_map (λ items. numbers_in items) (option_and_then list_of (at (codes "cpus") ms))

-- ---- events

-- microseconds of an event, by its kind
abbrev pub event_of : Option EventKind → Json → Option Event
event_of None v = None
event_of (Some Run) v = option_map events.Run (natural_within 1 max_script_number v)
event_of (Some Sleep) v = option_map events.Sleep (natural_within 1 max_script_number v)
event_of (Some Timer) v =
    option_map events.Timer
    (option_and_then (natural_within 1 max_script_number) (at (codes "period") (members v)))

-- the event of a member; an event of 0 us is dropped
unfoldable pub event_of_member : Member → Option Event
event_of_member m = event_of (kind_of m.key) m.value

abbrev pub has_event : List Member → Bool
has_event ms = list_any (λ m. is_some (event_of_member m)) ms

-- ---- phases

-- the members of each phase: events of its own make a thread one phase
abbrev pub phases_in : List Member → List (List Member)
phases_in ms =
    if has (codes "phases") ms
    then map (λ phase. members phase.value) (members_at (codes "phases") ms) else ms ∷ []

-- ---- timers

abbrev pub is_timer : Option EventKind → Bool
is_timer None = false
is_timer (Some Run) = false
is_timer (Some Sleep) = false
is_timer (Some Timer) = true

-- the value of a member that is a timer
unfoldable pub timer_at : Member → Option Json
timer_at m = if is_timer (kind_of m.key) then Some m.value else None

abbrev pub first_timer_in : List Member → Option Json
first_timer_in ms = first (map timer_at ms)

-- the first timer of a phase, or of a thread's own
unfoldable pub timer_of : Member → Option Json
timer_of m =
    if is_at (codes "phases") m
    then first (map (λ phase. first_timer_in (members phase.value)) (members m.value))
    else timer_at m

abbrev pub ref_of : Json → Option (List ℕ)
ref_of timer = option_and_then text_value (at (codes "ref") (members timer))

-- the `ref` of a thread's first timer in text order
unfoldable pub thread_ref : List Member → Option (List ℕ)
thread_ref ms = option_and_then ref_of (first (map timer_of ms))
