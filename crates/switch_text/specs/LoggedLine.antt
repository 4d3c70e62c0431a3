-- The line of what happens to a task. A wakeup is as ftrace prints its event sched_wakeup; the end
-- of a job, a throttle and a replenishment have lines of this project's own, in the same form.
use Rattle.std.specs.Prelude.{ℕ, ◌+◌, ◌/◌, ◌%◌, Bool, true, false, List, [], ◌++◌, codes, decimal, Option, Some, None}
use Rattle.domain_run.specs.declared.happened.What.{What}
use Rattle.domain_run.specs.declared.happened.What.TheVariants.{JobEnds, NextReleased, Spent, Cut, Replenished, Released, WokenSpent}
use Rattle.domain_run.specs.declared.happened.Happened.{Happened}
use Rattle.switch_text.specs.Line.{digits_in, pid_of, task_part, cpu_part, time_part}

-- a cut has none
abbrev pub has_line : What → Bool
has_line Cut = false
has_line JobEnds = true
has_line (NextReleased deadline) = true
has_line (Spent deadline) = true
has_line (Replenished deadline) = true
has_line (Released deadline) = true
has_line (WokenSpent deadline) = true

-- where a tick ends, the task itself stands in front of the line, and where one begins, idle (own)
abbrev pub stands_in_front : What → ℕ → Option ℕ
stands_in_front JobEnds number = Some number
stands_in_front (NextReleased deadline) number = Some number
stands_in_front (Spent deadline) number = Some number
stands_in_front _ number = None

-- the event's name (ftrace's sched_wakeup; the others are own)
abbrev pub event_name : What → List ℕ
event_name JobEnds = codes ": dl_job_end: comm="
event_name (NextReleased deadline) = codes ": sched_wakeup: comm="
event_name (Spent deadline) = codes ": dl_throttle: comm="
event_name Cut = []
event_name (Replenished deadline) = codes ": dl_replenish: comm="
event_name (Released deadline) = codes ": sched_wakeup: comm="
event_name (WokenSpent deadline) = codes ": dl_throttle: comm="

-- a time in the event's fields: seconds, and microseconds
unfoldable pub seconds_part : ℕ → List ℕ
seconds_part time = decimal (time / 1000000) ++ codes "." ++ digits_in 6 (time % 1000000)

unfoldable pub target_part : ℕ → List ℕ
target_part cpu = codes " prio=-1 target_cpu=" ++ digits_in 3 cpu

unfoldable pub deadline_part : ℕ → List ℕ
deadline_part deadline = codes " deadline=" ++ seconds_part deadline

-- the event's last fields: of a wakeup the priority and the CPU of the machine (ftrace's prio and
-- target_cpu), of a server's event the deadline of the server
abbrev pub last_fields : ℕ → What → List ℕ
last_fields cpu JobEnds = []
last_fields cpu (NextReleased deadline) = target_part cpu
last_fields cpu (Spent deadline) = deadline_part deadline
last_fields cpu Cut = []
last_fields cpu (Replenished deadline) = deadline_part deadline
last_fields cpu (Released deadline) = target_part cpu
last_fields cpu (WokenSpent deadline) = deadline_part deadline

-- the event and its fields, from the name of the task on
unfoldable pub event_fields : (ℕ → List ℕ) → ℕ → ℕ → What → List ℕ
event_fields names cpu number what =
    event_name what ++ names number
    ++ codes " pid=" ++ decimal (pid_of (Some number))
    ++ last_fields cpu what
    ++ codes "\n"

-- the line of what happens in a domain whose CPU 0 is this CPU of the machine, where tasks have
-- these names
unfoldable pub logged_line_of : (ℕ → List ℕ) → ℕ → Happened → List ℕ
logged_line_of names base h =
    task_part names (stands_in_front h.what h.number)
    ++ cpu_part (base + h.cpu)
    ++ time_part h.time
    ++ event_fields names (base + h.cpu) h.number h.what
