-- The keys of the profile, as tables (rt-app's JSON keys; ranges, defaults and limits are own).
use Rattle.std.specs.Prelude.{ℕ, ◌==◌, Bool, true, false, not, ◌&&◌, ◌||◌, nat_lt, if◌then◌else◌, List, [], ◌∷◌, ◌++◌, length, map, find, take, drop, Option, Some, None, is_some, unwrap_or, codes}
use Rattle.std.specs.Option.{option_map, option_map_or}
use Rattle.std.specs.List.{list_any, list_all}
use Rattle.std.specs.Char.{is_ascii_digit}
use Rattle.std.specs.Str.{bytes_eq}
use Rattle.json_order.specs.Json.{Json}
use Rattle.rtapp_scenario.specs.declared.key.EventKind.{EventKind}
use Rattle.rtapp_scenario.specs.declared.key.EventKind.TheVariants.{Run, Sleep, Timer}
use Rattle.rtapp_scenario.specs.Values.{Member, numeral_of, list_of, text_value, natural_within, has}
use Rattle.rtapp_scenario.specs.Faults.{Fault, unsupported, value, policy, unless, first}
use Rattle.limits.specs.Limits.{max_script_number}

-- ---- what may stand at a key

pub data KeyTakes : Type 0 where
  -- a whole number, from the least to the most
  whole : ℕ → ℕ → KeyTakes
  -- -1, or a whole number from 1 to 10^9
  loops : KeyTakes
  -- this text
  this_text : List ℕ → KeyTakes
  -- a text
  any_text : KeyTakes
  -- one or more different whole numbers 0 to 511
  cpu_list : KeyTakes
  -- whatever stands there
  anything : KeyTakes

-- the number at a key that takes one; -1 is none
abbrev pub natural_taken : KeyTakes → Json → Option ℕ
natural_taken (whole least most) v = natural_within least most v
natural_taken loops v = natural_within 1 max_script_number v
natural_taken (this_text text) v = None
natural_taken any_text v = None
natural_taken cpu_list v = None
natural_taken anything v = None

-- a text that is this one
abbrev pub is_text : List ℕ → Option (List ℕ) → Bool
is_text word None = false
is_text word (Some text) = bytes_eq text word

-- the numbers of a list
abbrev pub numbers_in : List Json → List ℕ
numbers_in items = map (λ v. unwrap_or (natural_within 0 511 v) 0) items

-- each is a whole number 0 to 511 that does not stand before it
abbrev pub cpus_after : List ℕ → List Json → Bool
cpus_after before [] = true
cpus_after before (v ∷ vs) =
    option_map_or (λ n. not (list_any (λ m. m == n) before) && cpus_after (before ++ n ∷ []) vs)
    (natural_within 0 511 v) false

unfoldable pub are_cpus : List Json → Bool
are_cpus items = nat_lt 0 (length items) && cpus_after [] items

unfoldable pub takes : KeyTakes → Json → Bool
takes (whole least most) v = is_some (natural_within least most v)
takes loops v =
    is_text (codes "-1") (numeral_of v) || is_some (natural_within 1 max_script_number v)
takes (this_text text) v = is_text text (text_value v)
takes any_text v = is_some (text_value v)
takes cpu_list v = option_map_or are_cpus (list_of v) false
takes anything v = true

-- ---- the tables

-- a key, what it takes, the fault of another value, and the fault where the key is missing
pub record Row : Type 0 where
  pub key : List ℕ
  pub takes : KeyTakes
  pub refused : Fault
  pub missing : Option Fault

abbrev optional : List ℕ → KeyTakes → Row
optional key takes = record { key = key; takes = takes; refused = value key; missing = None }

abbrev required_key : List ℕ → KeyTakes → Row
required_key key takes =
    record { key = key; takes = takes; refused = value key; missing = Some (value key) }

-- microseconds of a runtime, deadline or period
abbrev time : KeyTakes
time = whole 0 9000000000000000

-- a thread's, beside `phases` and the keys of events
abbrev pub thread_keys : List Row
thread_keys =
    optional (codes "instance") (whole 1 256)
    ∷ optional (codes "loop") loops
    ∷ optional (codes "delay") (whole 0 max_script_number)
    ∷ record {
      key = codes "policy";
      takes = this_text (codes "SCHED_DEADLINE");
      refused = policy;
      missing = Some policy;
    }
    ∷ optional (codes "priority") anything
    ∷ required_key (codes "dl-runtime") time
    ∷ optional (codes "dl-period") time
    ∷ optional (codes "dl-deadline") time
    ∷ optional (codes "cpus") cpu_list
    ∷ []

-- a phase's, beside the keys of events
abbrev pub phase_keys : List Row
phase_keys = optional (codes "loop") (whole 1 max_script_number) ∷ []

-- a timer's
abbrev pub timer_keys : List Row
timer_keys =
    required_key (codes "ref") any_text
    ∷ required_key (codes "period") (whole 1 max_script_number)
    ∷ record {
      key = codes "mode";
      takes = this_text (codes "relative");
      refused = unsupported (codes "mode");
      missing = None;
    }
    ∷ []

abbrev pub by_row : Member → Option Row → Option Fault
by_row m None = Some (unsupported m.key)
by_row m (Some row) = unless (takes row.takes m.value) row.refused

-- the fault of a member by a table: a key that is not in it, or a value that its key does not take
unfoldable pub key_fault : List Row → Member → Option Fault
key_fault rows m = by_row m (find (λ row. bytes_eq m.key row.key) rows)

-- the first key of a table that is missing, where it has to be there
unfoldable pub missing_fault : List Row → List Member → Option Fault
missing_fault rows ms = first (map (λ row. if has row.key ms then None else row.missing) rows)

-- ---- events

-- the word with which an event's key begins
abbrev pub event_words : List (List ℕ × EventKind)
event_words = (codes "run", Run) ∷ (codes "sleep", Sleep) ∷ (codes "timer", Timer) ∷ []

-- a word, and no or more digits behind it
abbrev pub begins_with : List ℕ → List ℕ → Bool
begins_with word key =
    bytes_eq (take (length word) key) word && list_all is_ascii_digit (drop (length word) key)

-- which event a key is of; none where it is another key
unfoldable pub kind_of : List ℕ → Option EventKind
kind_of key = option_map (λ entry. entry.1) (find (λ entry. begins_with entry.0 key) event_words)

abbrev pub is_event : Member → Bool
is_event m = is_some (kind_of m.key)
