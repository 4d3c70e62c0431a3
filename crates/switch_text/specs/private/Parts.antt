-- A line in the parts that are kept ready. The trace text knows nothing of these words.
use Rattle.std.specs.Prelude.{ℕ, List, ◌++◌, codes, decimal, Option}
use Rattle.domain_run.specs.declared.switch.PrevState.{PrevState}
use Rattle.draft.specs.Columns.{right}
use Rattle.switch_text.specs.Line.{padded_right, pid_of, prio_of, comm_of, letters_of}

-- the second, and the point after it
abbrev pub second_part : ℕ → List ℕ
second_part second = right 5 (decimal second) ++ codes "."

-- the event's name
unfoldable pub event_part : List ℕ
event_part = codes ": sched_switch: prev_comm="

-- who leaves, from the name up to the state
unfoldable pub leaving_part : (ℕ → List ℕ) → ℕ → Option ℕ → List ℕ
leaving_part names cpu task =
    comm_of names cpu task
    ++ codes " prev_pid=" ++ decimal (pid_of task)
    ++ codes " prev_prio=" ++ prio_of task
    ++ codes " prev_state="

-- the same three, of what the trace calls a task
unfoldable pub task_text : List ℕ → List ℕ → List ℕ
task_text title pid = right 16 title ++ codes "-" ++ padded_right 7 pid

unfoldable pub leaving_text : List ℕ → List ℕ → Option ℕ → List ℕ
leaving_text comm pid task =
    comm
    ++ codes " prev_pid=" ++ pid
    ++ codes " prev_prio=" ++ prio_of task
    ++ codes " prev_state="

unfoldable pub coming_text : List ℕ → List ℕ → Option ℕ → List ℕ
coming_text comm pid task =
    comm
    ++ codes " next_pid=" ++ pid
    ++ codes " next_prio=" ++ prio_of task
    ++ codes "\n"

-- the state, and what stands before the name of who comes
abbrev pub state_part : PrevState → List ℕ
state_part state = letters_of state ++ codes " ==> next_comm="

-- who comes, from the name on
unfoldable pub coming_part : (ℕ → List ℕ) → ℕ → Option ℕ → List ℕ
coming_part names cpu task =
    comm_of names cpu task
    ++ codes " next_pid=" ++ decimal (pid_of task)
    ++ codes " next_prio=" ++ prio_of task
    ++ codes "\n"
