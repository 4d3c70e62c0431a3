-- A line of a recording: a switch, as ftrace, `trace-cmd report` or `perf script` print the
-- kernel's event sched_switch, or anything else.
--
--     a-12 [003] d..2. 16.443377: sched_switch: prev_comm=a .. ==> next_comm=b .. next_prio=-1
--     a-12 [003] 16.443377: sched_switch:      a:12 [-1] S ==> b:13 [-1]
--     a 12 [003] 16.443377:     sched:sched_switch: prev_comm=a .. next_prio=-1
--
-- The event's fields are those of the kernel's TP_printk (include/trace/events/sched.h); the short
-- form is that of libtraceevent's plugin, by which trace-cmd and perf print. Names may have spaces,
-- colons and `=` in them, so the fields are read from the right. What stands of the task that
-- leaves is not looked at (own).
use Rattle.std.specs.Prelude.{ℕ, ◌+◌, ◌-◌, ◌*◌, ◌/◌, Bool, false, ◌==◌, ◌&&◌, nat_lt, nat_le, if◌then◌else◌, List, [], ◌∷◌, length, take, drop, slice_index, Option, Some, None, codes}
use Rattle.std.specs.Option.{option_map, option_map_or, option_or}
use Rattle.std.specs.Char.{is_ascii_digit}
use Rattle.recorded_text.specs.Cuts.{first_cut, last_cut, end_trimmed, last_word, cut_front}

-- the one step after the other, where each gives something
infixl 10 ◌>>=◌
abbrev pub ◌>>=◌ : {A B : Type 0} → Option A → (A → Option B) → Option B
None >>= f = None
(Some x) >>= f = f x

-- ---- numbers

-- digits from the left, after the number so far
abbrev pub digits_on : ℕ → List ℕ → Option ℕ
digits_on n [] = Some n
digits_on n (c ∷ cs) = if is_ascii_digit c then digits_on (n * 10 + (c - 48)) cs else None

-- the number that 1 to 18 digits spell, zeros in front too
unfoldable pub number_of_digits : List ℕ → Option ℕ
number_of_digits text = if nat_lt 0 (length text) && nat_le (length text) 18 then digits_on 0 text
    else None

-- the microseconds behind the point: six digits, or nine of which the last three are cut off
unfoldable pub micros_at : List ℕ → Option ℕ
micros_at text =
    if length text == 6 then number_of_digits text
    else (if length text == 9 then option_map (λ n. n / 1000) (number_of_digits text) else None)

-- a time in microseconds; its seconds are below 2^40
unfoldable pub time_at : List ℕ → Option ℕ
time_at text = do
  p ← first_cut (codes ".") text
  s ← number_of_digits p.0
  f ← micros_at p.1
  if nat_lt s 1099511627776 then Some (s * 1000000 + f) else None

-- what stands in brackets
unfoldable pub bracketed_at : List ℕ → Option (List ℕ)
bracketed_at text =
    if nat_le 2 (length text) && slice_index text 0 == 91
    && slice_index text (length text - 1) == 93
    then Some (take (length text - 2) (drop 1 text)) else None

-- the CPU of a word `[003]`
unfoldable pub cpu_at : List ℕ → Option ℕ
cpu_at text = do
  inner ← bracketed_at text
  n ← number_of_digits inner
  if nat_lt n 65536 then Some n else None

-- the CPU: the last word before the time, or the one before where that is the column of flags
unfoldable pub cpu_before : List ℕ → Option ℕ
cpu_before front =
    let w = last_word front in option_or (cpu_at w.1) (cpu_at (last_word w.0).1)

-- whether a priority is below 0: that of a SCHED_DEADLINE task is -1
unfoldable pub below_at : List ℕ → Option Bool
below_at text =
    option_map_or (λ digits. option_map (λ n. nat_lt 0 n) (number_of_digits digits))
    (cut_front (codes "-") text) (option_map (λ n. false) (number_of_digits text))

-- ---- who comes

-- the name, where the priority is below 0
abbrev pub coming_name : Bool → List ℕ → Option (List ℕ)
coming_name below name = if below then Some name else None

-- `.. ==> next_comm=NAME next_pid=PID`, and the priority
unfoldable pub named_at : List ℕ → List ℕ → Option (Option (List ℕ))
named_at front prio = do
  below ← below_at prio
  pid ← cut_front (codes "next_pid=") (last_word front).1
  n ← number_of_digits pid
  p ← last_cut (codes " ==> next_comm=") (last_word front).0
  Some (coming_name below p.1)

-- `.. ==> NAME:PID`, and the priority
unfoldable pub short_at : List ℕ → List ℕ → Option (Option (List ℕ))
short_at front prio = do
  below ← below_at prio
  q ← last_cut (codes ":") front
  n ← number_of_digits q.1
  p ← last_cut (codes " ==> ") q.0
  Some (coming_name below p.1)

-- the event's fields: the priority is the last word, `next_prio=-1` or `[-1]`
unfoldable pub next_at : List ℕ → Option (Option (List ℕ))
next_at tail =
    let w = last_word tail in
    option_map_or (λ prio. named_at w.0 prio) (cut_front (codes "next_prio=") w.1)
    (bracketed_at w.1 >>= λ prio. short_at w.0 prio)

-- ---- a line

-- what a switch tells: when, on which CPU, and the name of the task that comes, if its priority is
-- below 0
pub record SwitchView : Type 0 where
  pub time : ℕ
  pub cpu : ℕ
  pub next : Option (List ℕ)

-- a line of another event or of none; one of sched_switch that is not as above; a switch
pub data LineView : Type 0 where
  Other : LineView
  Bad : LineView
  Seen : (s : SwitchView) → LineView

-- before and behind the colon at the end
unfoldable pub without_colon : List ℕ → Option (List ℕ)
without_colon text =
    last_cut (codes ":") (end_trimmed text) >>= λ q. if length q.1 == 0 then Some q.0 else None

-- what precedes the event, up to the colon of its time, and the event's fields: by perf's mark or
-- by ftrace's, whichever comes first. No name of a task is as long as either mark, so none is taken
-- for one
unfoldable pub by_first_mark : Option (List ℕ × List ℕ) → Option (List ℕ × List ℕ)
    → Option (List ℕ × List ℕ)
by_first_mark None ftrace = ftrace
by_first_mark (Some p) None = option_map (λ head. (head, p.1)) (without_colon p.0)
by_first_mark (Some p) (Some q) =
    if nat_lt (length q.0) (length p.0) then Some q
    else option_map (λ head. (head, p.1)) (without_colon p.0)

unfoldable pub event_and_rest : List ℕ → Option (List ℕ × List ℕ)
event_and_rest line =
    by_first_mark (first_cut (codes "sched:sched_switch: ") line)
    (first_cut (codes ": sched_switch: ") line)

-- the switch, where the CPU and the fields are there
unfoldable pub timed_at : ℕ → List ℕ → List ℕ → LineView
timed_at time front tail =
    option_map_or (λ cpu. option_map_or (λ next.
    Seen (record { time = time; cpu = cpu; next = next })) (next_at tail) Bad)
    (cpu_before front) Bad

-- a line with a time before the event is one of sched_switch
unfoldable pub headed_at : List ℕ → List ℕ → LineView
headed_at head tail =
    let w = last_word head in
    option_map_or (λ time. timed_at time w.0 tail) (time_at w.1) Other

unfoldable pub line_at : List ℕ → LineView
line_at line = option_map_or (λ p. headed_at p.0 p.1) (event_and_rest line) Other
