-- The threads that a line of a recording speaks of: who leaves and who comes at a switch, and who
-- is woken. The event sched_wakeup has the forms of sched_switch:
--
--     a-12 [003] d..2. 16.443377: sched_wakeup: comm=b pid=13 prio=-1 target_cpu=003
--     a-12 [003] 16.443377: sched_wakeup:      b:13 [4294967295] CPU:003
--     a 12 [003] 16.443377:     sched:sched_wakeup: comm=b pid=13 prio=-1 target_cpu=003
--
-- Its fields are those of the kernel's TP_printk (include/trace/events/sched.h), in older kernels
-- with `success=1`; trace-cmd prints the priority -1 as 4294967295 (own: so is any from 2^31 on
-- below 0). Text after `CPU:003` is ignored.
use Rattle.std.specs.Prelude.{ℕ, Bool, nat_lt, nat_le, if◌then◌else◌, List, [], ◌∷◌, drop, Option, Some, None, codes}
use Rattle.std.specs.Option.{option_map, option_map_or}
use Rattle.std.specs.List.{prefix_len}
use Rattle.std.specs.Char.{is_ascii_whitespace}
use Rattle.recorded_text.specs.Cuts.{first_cut, last_cut, end_trimmed, last_word, cut_front}
use Rattle.recorded_text.specs.Line.{◌>>=◌, number_of_digits, time_at, bracketed_at, below_at, by_first_mark, event_and_rest, LineView, Other, Bad, Seen, line_at}

-- without the white space at its start
unfoldable pub start_trimmed : List ℕ → List ℕ
start_trimmed text = drop (prefix_len is_ascii_whitespace text) text

-- what precedes the first space, or all
unfoldable pub front_word : List ℕ → List ℕ
front_word text = option_map_or (λ p. p.0) (first_cut (codes " ") text) (end_trimmed text)

-- a thread, and whether its priority is below 0
pub record ThreadView : Type 0 where
  pub name : List ℕ
  pub pid : ℕ
  pub below : Bool

-- a thread that leaves, and the letters of its state
pub record LeaverView : Type 0 where
  pub name : List ℕ
  pub pid : ℕ
  pub state : List ℕ

-- who leaves at a switch, if the line says so, and who comes
pub record ThreadsView : Type 0 where
  pub leaves : Option LeaverView
  pub comes : ThreadView

-- ---- who leaves

-- `prev_comm=NAME prev_pid=PID prev_prio=-1 prev_state=S`
unfoldable pub named_leaver : List ℕ → Option LeaverView
named_leaver text = do
  state ← cut_front (codes "prev_state=") (last_word text).1
  prio ← cut_front (codes "prev_prio=") (last_word (last_word text).0).1
  digits ← cut_front (codes "prev_pid=") (last_word (last_word (last_word text).0).0).1
  pid ← number_of_digits digits
  name ← first_cut (codes "prev_comm=") (last_word (last_word (last_word text).0).0).0
  Some (record { name = name.1; pid = pid; state = state })

-- `NAME:PID [-1] S`
unfoldable pub short_leaver : List ℕ → Option LeaverView
short_leaver text = do
  prio ← bracketed_at (last_word (last_word text).0).1
  q ← last_cut (codes ":") (last_word (last_word text).0).0
  pid ← number_of_digits q.1
  Some (record { name = start_trimmed q.0; pid = pid; state = (last_word text).1 })

-- ---- who comes

-- `.. ==> next_comm=NAME next_pid=PID`, and the priority
unfoldable pub named_threads : List ℕ → List ℕ → Option ThreadsView
named_threads front prio = do
  below ← below_at prio
  digits ← cut_front (codes "next_pid=") (last_word front).1
  pid ← number_of_digits digits
  p ← last_cut (codes " ==> next_comm=") (last_word front).0
  Some (record {
    leaves = named_leaver p.0;
    comes = record { name = p.1; pid = pid; below = below };
  })

-- `.. ==> NAME:PID`, and the priority
unfoldable pub short_threads : List ℕ → List ℕ → Option ThreadsView
short_threads front prio = do
  below ← below_at prio
  q ← last_cut (codes ":") front
  pid ← number_of_digits q.1
  p ← last_cut (codes " ==> ") q.0
  Some (record {
    leaves = short_leaver p.0;
    comes = record { name = p.1; pid = pid; below = below };
  })

-- the threads of a switch, by the event's fields
unfoldable pub threads_at : List ℕ → Option ThreadsView
threads_at tail =
    option_map_or (λ prio. named_threads (last_word tail).0 prio)
    (cut_front (codes "next_prio=") (last_word tail).1)
    (bracketed_at (last_word tail).1 >>= λ prio. short_threads (last_word tail).0 prio)

-- ---- who is woken

-- whether a priority is below 0, as a signed number or as one of 32 bits
unfoldable pub below_of_32 : List ℕ → Option Bool
below_of_32 text =
    option_map_or (λ digits. option_map (λ n. nat_lt 0 n) (number_of_digits digits))
    (cut_front (codes "-") text)
    (option_map (λ n. nat_le 2147483648 n) (number_of_digits text))

-- the number of a field `success=1`
abbrev pub success_at : List ℕ → Option ℕ
success_at word = cut_front (codes "success=") word >>= number_of_digits

-- without a field `success=1` at the end
unfoldable pub without_success : List ℕ → List ℕ
without_success text =
    option_map_or (λ n. (last_word text).0)
    (success_at (last_word text).1) text

-- `comm=NAME pid=PID prio=-1`
unfoldable pub named_woken : List ℕ → Option ThreadView
named_woken text = do
  prio ← cut_front (codes "prio=") (last_word text).1
  below ← below_of_32 prio
  digits ← cut_front (codes "pid=") (last_word (last_word text).0).1
  pid ← number_of_digits digits
  name ← first_cut (codes "comm=") (last_word (last_word text).0).0
  Some (record { name = name.1; pid = pid; below = below })

-- `NAME:PID [-1]`
unfoldable pub short_woken : List ℕ → Option ThreadView
short_woken text = do
  prio ← bracketed_at (last_word text).1
  below ← below_of_32 prio
  q ← last_cut (codes ":") (last_word text).0
  pid ← number_of_digits q.1
  Some (record { name = start_trimmed q.0; pid = pid; below = below })

-- `.. target_cpu=003`, and the digits
unfoldable pub woken_for : List ℕ → List ℕ → Option ThreadView
woken_for front digits = number_of_digits digits >>= λ cpu. named_woken (without_success front)

-- `.. CPU:003 ..`
unfoldable pub woken_on : List ℕ → Option ThreadView
woken_on tail = do
  p ← last_cut (codes " CPU:") tail
  cpu ← number_of_digits (front_word p.1)
  short_woken (without_success p.0)

-- the thread that is woken, by the event's fields
unfoldable pub woken_by_fields : List ℕ → Option ThreadView
woken_by_fields tail =
    option_map_or (λ digits. woken_for (last_word tail).0 digits)
    (cut_front (codes "target_cpu=") (last_word tail).1) (woken_on tail)

-- ---- a line

-- a line of another event or of none; one of sched_switch or sched_wakeup that is not as above; a
-- switch; a wake
pub data EventView : Type 0 where
  NoEvent : EventView
  BadEvent : EventView
  Switched : (time cpu : ℕ) → (threads : Option ThreadsView) → EventView
  Woken : (time : ℕ) → (thread : ThreadView) → EventView

-- what precedes the event, up to the colon of its time, and the event's fields
unfoldable pub wake_and_rest : List ℕ → Option (List ℕ × List ℕ)
wake_and_rest line =
    by_first_mark (first_cut (codes "sched:sched_wakeup: ") line)
    (first_cut (codes ": sched_wakeup: ") line)

-- a line with a time before the event is one of sched_wakeup
unfoldable pub headed_wake : List ℕ → List ℕ → EventView
headed_wake head tail =
    option_map_or (λ time. option_map_or (λ t. Woken time t) (woken_by_fields tail) BadEvent)
    (time_at (last_word head).1) NoEvent

unfoldable pub wake_in_line : List ℕ → EventView
wake_in_line line = option_map_or (λ p. headed_wake p.0 p.1) (wake_and_rest line) NoEvent

-- the threads of a line that is a switch
unfoldable pub threads_in_line : List ℕ → Option ThreadsView
threads_in_line line = event_and_rest line >>= λ p. threads_at p.1

-- a switch, as a comparison reads it, or a wake
abbrev pub event_by : LineView → List ℕ → EventView
event_by Other line = wake_in_line line
event_by Bad line = BadEvent
event_by (Seen s) line = Switched s.time s.cpu (threads_in_line line)

unfoldable pub event_in_line : List ℕ → EventView
event_in_line line = event_by (line_at line) line
