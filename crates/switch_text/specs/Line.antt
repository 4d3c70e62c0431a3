-- One line of the trace text: a switch as ftrace prints its event sched_switch.
--
-- The event's own fields, from prev_comm to next_prio, are ftrace's. The widths, the part before
-- them and the letters of the states are this project's own profile.
use Rattle.std.specs.Prelude.{ℕ, ◌+◌, ◌-◌, ◌/◌, ◌%◌, List, ◌++◌, length, replicate, codes, decimal, Option, Some, None}
use Rattle.draft.specs.Columns.{right}
use Rattle.domain_run.specs.Switch.{Switch}
use Rattle.domain_run.specs.declared.switch.PrevState.{PrevState}
use Rattle.domain_run.specs.declared.switch.PrevState.TheVariants.{Running, Preempted, Sleeping, Dead}

-- spaces after a text, as many as it is short of the width
abbrev pub padded_right : ℕ → List ℕ → List ℕ
padded_right width text = text ++ replicate (width - length text) 32

-- a number with zeros before it, as many as it is short of n digits
abbrev pub digits_in : ℕ → ℕ → List ℕ
digits_in width n = replicate (width - length (decimal n)) 48 ++ decimal n

-- the number that the trace shows for a task, and 0 for idle (own: 1000 above the task's number)
abbrev pub pid_of : Option ℕ → ℕ
pid_of None = 0
pid_of (Some number) = 1000 + number

-- -1 for a deadline task, 120 for idle (ftrace's prev_prio and next_prio)
abbrev pub prio_of : Option ℕ → List ℕ
prio_of None = codes "120"
prio_of (Some number) = codes "-1"

-- the name in front of a line
abbrev pub title_of : (ℕ → List ℕ) → Option ℕ → List ℕ
title_of names None = codes "<idle>"
title_of names (Some number) = names number

-- the name in the event's fields; each CPU has an idle task of its own (ftrace's prev_comm and
-- next_comm)
abbrev pub comm_of : (ℕ → List ℕ) → ℕ → Option ℕ → List ℕ
comm_of names cpu None = codes "swapper/" ++ decimal cpu
comm_of names cpu (Some number) = names number

-- the letters of prev_state
abbrev pub letters_of : PrevState → List ℕ
letters_of Running = codes "R"
letters_of Preempted = codes "R+"
letters_of Sleeping = codes "S"
letters_of Dead = codes "X"

-- whose place is taken
unfoldable pub task_part : (ℕ → List ℕ) → Option ℕ → List ℕ
task_part names prev =
    right 16 (title_of names prev) ++ codes "-" ++ padded_right 7 (decimal (pid_of prev))

-- on which CPU of the machine
unfoldable pub cpu_part : ℕ → List ℕ
cpu_part cpu = codes " [" ++ digits_in 3 cpu ++ codes "] d..2. "

-- when: seconds, and microseconds
unfoldable pub time_part : ℕ → List ℕ
time_part time = right 5 (decimal (time / 1000000)) ++ codes "." ++ digits_in 6 (time % 1000000)

-- the event's fields of who leaves
unfoldable pub prev_part : (ℕ → List ℕ) → ℕ → Option ℕ → PrevState → List ℕ
prev_part names cpu prev state =
    codes ": sched_switch: prev_comm=" ++ comm_of names cpu prev
    ++ codes " prev_pid=" ++ decimal (pid_of prev)
    ++ codes " prev_prio=" ++ prio_of prev
    ++ codes " prev_state=" ++ letters_of state

-- the event's fields of who comes
unfoldable pub next_part : (ℕ → List ℕ) → ℕ → Option ℕ → List ℕ
next_part names cpu next =
    codes " ==> next_comm=" ++ comm_of names cpu next
    ++ codes " next_pid=" ++ decimal (pid_of next)
    ++ codes " next_prio=" ++ prio_of next
    ++ codes "\n"

-- the line of a switch in a domain whose CPU 0 is this CPU of the machine, where tasks have these
-- names
unfoldable pub switch_line : (ℕ → List ℕ) → ℕ → Switch → List ℕ
switch_line names base s =
    task_part names s.prev
    ++ cpu_part (base + s.cpu)
    ++ time_part s.time
    ++ prev_part names (base + s.cpu) s.prev s.state
    ++ next_part names (base + s.cpu) s.next
