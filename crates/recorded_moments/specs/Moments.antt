-- What of a recording counts for tasks (own).
use Rattle.std.specs.Prelude.{◌≡◌, ℕ, ◌+◌, ◌==◌, ◌&&◌, ◌||◌, nat_le, Bool, true, false, if◌then◌else◌, List, [], ◌∷◌, bytes_eq, Option, Some, None, codes}
use Rattle.std.specs.Option.{option_map_or}
use Rattle.std.specs.List.{flat_map}
use Rattle.recorded_text.specs.Text.{split_lines}
use Rattle.recorded_text.specs.Threads.{ThreadView, LeaverView, ThreadsView, EventView, NoEvent, BadEvent, Switched, Woken, event_in_line}
use Rattle.recorded_jobs.specs.declared.moment.Leave.{Leave}
use Rattle.recorded_jobs.specs.declared.moment.Leave.TheVariants.{Ready, Blocked, Gone}
use Rattle.recorded_jobs.specs.declared.moment.What.{What}
use Rattle.recorded_jobs.specs.declared.moment.What.TheVariants.{Switch, Wake}
use Rattle.recorded_jobs.specs.declared.moment.Moment.{Moment}
use Rattle.recorded_moments.specs.declared.watched.Watched.{Watched}
use Rattle.recorded_moments.specs.declared.gathering.Wanted.{Wanted}
use Rattle.recorded_moments.specs.declared.fault.MomentsFault.{MomentsFault}
use Rattle.recorded_moments.specs.declared.fault.MomentsFault.TheVariants.{BadLine, Memory}

-- a task to look for: a thread of this name, or of this number if one is given
pub record WatchedView : Type 0 where
  pub name : List ℕ
  pub pid : Option ℕ

abbrev pub watched_view : Watched → WatchedView
watched_view w = record { name = w.name.now; pid = w.pid }

abbrev pub is_thread : WatchedView → List ℕ → ℕ → Bool
is_thread w name pid = option_map_or (λ own. own == pid) w.pid (bytes_eq w.name name)

-- the first of these tasks, which have the numbers from n on, that a thread is
unfoldable pub thread_number : ℕ → List WatchedView → List ℕ → ℕ → Option ℕ
thread_number n [] name pid = None
thread_number n (w ∷ ws) name pid =
    if is_thread w name pid then Some n else thread_number (n + 1) ws name pid

-- the number of a thread among the tasks, from 0
abbrev pub number_of : List WatchedView → List ℕ → ℕ → Option ℕ
number_of tasks name pid = thread_number 0 tasks name pid

-- a thread counts with a priority below 0, or with any if that is wanted
abbrev pub coming_number : Wanted → List WatchedView → ThreadView → Option ℕ
coming_number wanted tasks t =
    if t.below || wanted.any_policy then number_of tasks t.name t.pid else None

-- what the letters of a state say (Documentation/trace, the event sched_switch)
abbrev pub leave_by : List ℕ → Leave
leave_by state =
    if bytes_eq state (codes "R") || bytes_eq state (codes "R+") then Ready
    else (if bytes_eq state (codes "X") || bytes_eq state (codes "Z") then Gone else Blocked)

-- the task that leaves, and how
abbrev pub leaving_number : List WatchedView → Option LeaverView → Option ℕ
leaving_number tasks None = None
leaving_number tasks (Some l) = number_of tasks l.name l.pid

abbrev pub leaving_how : Option LeaverView → Leave
leaving_how None = Ready
leaving_how (Some l) = leave_by l.state

abbrev pub switch_what : Wanted → List WatchedView → Option ThreadsView → What
switch_what wanted tasks None = Switch None Ready None
switch_what wanted tasks (Some t) =
    Switch (leaving_number tasks t.leaves) (leaving_how t.leaves)
    (coming_number wanted tasks t.comes)

-- a moment, if its time counts
abbrev pub moments_inside : Wanted → Moment → List Moment
moments_inside wanted m =
    if nat_le wanted.from m.time && nat_le m.time wanted.to then m ∷ [] else []

abbrev pub moments_of_event : Wanted → List WatchedView → EventView → List Moment
moments_of_event wanted tasks NoEvent = []
moments_of_event wanted tasks BadEvent = []
moments_of_event wanted tasks (Switched time cpu threads) =
    moments_inside wanted
    (record { time = time; cpu = cpu; what = switch_what wanted tasks threads })
moments_of_event wanted tasks (Woken time t) =
    moments_inside wanted
    (record { time = time; cpu = 0; what = Wake (coming_number wanted tasks t) })

abbrev pub moments_of_line : Wanted → List WatchedView → List ℕ → List Moment
moments_of_line wanted tasks line = moments_of_event wanted tasks (event_in_line line)

abbrev pub is_bad_event : EventView → Bool
is_bad_event NoEvent = false
is_bad_event BadEvent = true
is_bad_event (Switched time cpu threads) = false
is_bad_event (Woken time t) = false

abbrev pub is_bad_event_line : List ℕ → Bool
is_bad_event_line line = is_bad_event (event_in_line line)

-- the moments of a text, in the order of its lines
abbrev pub moments_of_text : Wanted → List WatchedView → List ℕ → List Moment
moments_of_text wanted tasks text = flat_map (moments_of_line wanted tasks) (split_lines text)

-- the first bad one of these lines, which have the numbers from n on
unfoldable pub bad_event_from : ℕ → List (List ℕ) → Option ℕ
bad_event_from n [] = None
bad_event_from n (line ∷ lines) =
    if is_bad_event_line line then Some n else bad_event_from (n + 1) lines

-- the number, from 1, of the first bad line
abbrev pub first_bad_event : List ℕ → Option ℕ
first_bad_event text = bad_event_from 1 (split_lines text)

-- these are the moments of the text, which has no bad line
pub record AreMomentsOf (wanted : Wanted) (tasks : List WatchedView) (text : List ℕ)
    (moments : List Moment) : Type 0 where
  pub good : first_bad_event text ≡ None
  pub shown : moments ≡ moments_of_text wanted tasks text

-- what a fault says of the text
abbrev pub IsMomentsFault : List ℕ → MomentsFault → Type 0
IsMomentsFault text (BadLine n) = first_bad_event text ≡ Some n
IsMomentsFault text Memory = Unit {0}
