-- Worked rows of the events text, computed by the definitions.
use Rattle.std.specs.Prelude.{ℕ, ◌≡◌, List, [], ◌∷◌, ◌++◌, map, true, false, codes, refl, Some}
use Rattle.std.specs.Fmt.{digits}
use Rattle.domain_run.specs.declared.happened.What.{What}
use Rattle.domain_run.specs.declared.happened.What.TheVariants.{JobEnds, NextReleased, Spent, Cut, Replenished, Released, WokenSpent}
use Rattle.domain_run.specs.declared.happened.Happened.{Happened}
use Rattle.domain_run.specs.declared.switch.PrevState.TheVariants.{Sleeping}
use Rattle.switch_text.specs.Line.{task_part, cpu_part, time_part, prev_part, next_part, switch_line}
use Rattle.switch_text.specs.LoggedLine.{seconds_part, target_part, deadline_part, event_fields, logged_line_of}
use Rattle.switch_text.specs.Trace.{header}
use Rattle.switch_text.specs.Events.{LoggedView, in_sequence, lines_of_events, events_of}
use Rattle.switch_text.specs.SlicedEvents.{logged_runs, logged_runs_text, is_logged_by}
use Rattle.switch_text.specs.Examples.{at, numbered, run}

abbrev it : ℕ → What → ℕ → ℕ → Happened
it time what number cpu = record { time = time; what = what; number = number; cpu = cpu }

abbrev logged : ℕ → List Happened → LoggedView
logged base happened = record { base = base; names = numbered; happened = happened }

-- each line by its fields: a job ends
job_end :
    logged_line_of numbered 0 (it 4 JobEnds 1 0)
    ≡ codes "              T1-1001    [000] d..2.     0.000004: dl_job_end: comm=T1 pid=1001\n"
unfolding logged_line_of task_part cpu_part time_part event_fields digits
job_end = refl

-- its next one is released at once: the task's own line, on the CPU 64 of the machine
late_release :
    logged_line_of numbered 64 (it 4 (NextReleased 9) 1 0)
    ≡ codes "              T1-1001    [064] d..2.     0.000004: sched_wakeup: comm=T1 pid=1001 prio=-1 target_cpu=064\n"
unfolding logged_line_of task_part cpu_part time_part event_fields target_part digits
late_release = refl

-- a release at a tick's beginning: idle's line
release :
    logged_line_of numbered 0 (it 11000000 (Released 12000000) 2 0)
    ≡ codes "          <idle>-0       [000] d..2.    11.000000: sched_wakeup: comm=T2 pid=1002 prio=-1 target_cpu=000\n"
unfolding logged_line_of task_part cpu_part time_part event_fields target_part digits
release = refl

-- a budget that is spent
spent :
    logged_line_of numbered 0 (it 4 (Spent 12000002) 2 0)
    ≡ codes "              T2-1002    [000] d..2.     0.000004: dl_throttle: comm=T2 pid=1002 deadline=12.000002\n"
unfolding logged_line_of task_part cpu_part time_part event_fields deadline_part seconds_part digits
spent = refl

-- a replenishment, and a wake without budget
replenished :
    logged_line_of numbered 0 (it 4 (Replenished 6) 2 0)
    ≡ codes "          <idle>-0       [000] d..2.     0.000004: dl_replenish: comm=T2 pid=1002 deadline=0.000006\n"
unfolding logged_line_of task_part cpu_part time_part event_fields deadline_part seconds_part digits
replenished = refl

woken_spent :
    logged_line_of numbered 0 (it 4 (WokenSpent 6) 2 0)
    ≡ codes "          <idle>-0       [000] d..2.     0.000004: dl_throttle: comm=T2 pid=1002 deadline=0.000006\n"
unfolding logged_line_of task_part cpu_part time_part event_fields deadline_part seconds_part digits
woken_spent = refl

-- at one time: what ends a tick, what begins one, and then the switch; a cut has no line
one_time :
    events_of (run 0 (at 4 0 (Some 1) Sleeping (Some 2) ∷ []) ∷ [])
    (logged 0 (it 4 JobEnds 1 0 ∷ it 4 Cut 3 0 ∷ it 4 (Released 9) 2 0 ∷ []) ∷ [])
    ≡ header
    ++ logged_line_of numbered 0 (it 4 JobEnds 1 0)
    ++ logged_line_of numbered 0 (it 4 (Released 9) 2 0)
    ++ switch_line numbered 0 (at 4 0 (Some 1) Sleeping (Some 2))
unfolding events_of header lines_of_events in_sequence logged_line_of switch_line task_part cpu_part
    time_part event_fields target_part prev_part next_part digits
one_time = refl

-- two domains: by time, then by what happens, and of the same by the machine's CPU
two_domains :
    events_of []
    (logged 1 (it 4 (Spent 6) 1 0 ∷ it 4 (Replenished 8) 1 0 ∷ [])
    ∷ logged 0 (it 3 JobEnds 2 0 ∷ it 4 (Spent 7) 2 0 ∷ []) ∷ [])
    ≡ header
    ++ logged_line_of numbered 0 (it 3 JobEnds 2 0)
    ++ logged_line_of numbered 0 (it 4 (Spent 7) 2 0)
    ++ logged_line_of numbered 1 (it 4 (Spent 6) 1 0)
    ++ logged_line_of numbered 1 (it 4 (Replenished 8) 1 0)
unfolding events_of header lines_of_events in_sequence logged_line_of task_part cpu_part time_part
    event_fields deadline_part seconds_part digits
two_domains = refl

-- nothing that happens, and no switch: the header alone
nothing : events_of [] (logged 0 [] ∷ []) ≡ header
unfolding events_of header lines_of_events in_sequence
nothing = refl

-- at the time 4 the end of a tick is logged, and its spent budget; a release is not, nor a later
-- end
logged_by_four :
    map (is_logged_by 4) (it 3 (Released 9) 1 0 ∷ it 4 JobEnds 1 0 ∷ it 4 (Spent 6) 2 0
    ∷ it 4 (Released 9) 2 0 ∷ it 5 JobEnds 2 0 ∷ [])
    ≡ true ∷ true ∷ true ∷ false ∷ false ∷ []
logged_by_four = refl

-- a run that is made up to 4, and the rest of it: the events text of the whole
sliced :
    logged_runs_text (logged_runs (record {
      base = 0;
      names = numbered;
      at_hand = at 3 0 (Some 2) Sleeping (Some 1) ∷ [];
      to_come = at 4 0 (Some 1) Sleeping (Some 2) ∷ [];
      logged = it 4 JobEnds 1 0 ∷ [];
      to_log = it 4 (Released 9) 2 0 ∷ [];
    } ∷ []))
    ≡ header
    ++ switch_line numbered 0 (at 3 0 (Some 2) Sleeping (Some 1))
    ++ logged_line_of numbered 0 (it 4 JobEnds 1 0)
    ++ logged_line_of numbered 0 (it 4 (Released 9) 2 0)
    ++ switch_line numbered 0 (at 4 0 (Some 1) Sleeping (Some 2))
unfolding events_of header lines_of_events in_sequence logged_line_of switch_line task_part cpu_part
    time_part event_fields target_part prev_part next_part digits
sliced = refl
