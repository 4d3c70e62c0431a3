-- Worked rows, computed by the definitions.
use Rattle.std.specs.Prelude.{ℕ, ◌≡◌, ◌+◌, List, [], ◌∷◌, ◌++◌, codes, refl, Option, Some, None}
use Rattle.std.specs.Fmt.{digits}
use Rattle.domain_run.specs.Switch.{Switch}
use Rattle.domain_run.specs.declared.switch.PrevState.{PrevState}
use Rattle.domain_run.specs.declared.switch.PrevState.TheVariants.{Running, Preempted, Sleeping, Dead}
use Rattle.switch_text.specs.Line.{task_part, cpu_part, time_part, prev_part, next_part, switch_line}
use Rattle.switch_text.specs.Trace.{SwitchesView, entries_in_order, header, text_of_entries, trace_of}

abbrev pub at : ℕ → ℕ → Option ℕ → PrevState → Option ℕ → Switch
at time cpu prev state next =
    record { time = time; cpu = cpu; prev = prev; state = state; next = next }

-- T1, T2, ..
abbrev pub numbered : ℕ → List ℕ
numbered n = codes "T" ++ (48 + n) ∷ []

abbrev pub run : ℕ → List Switch → SwitchesView
run base switches = record { base = base; names = numbered; switches = switches }

-- the document's example of reclaiming: T1 sleeps at 2, T2 is throttled at 8
reclaiming_example :
    trace_of (run 0
    (at 0 0 None Running (Some 1) ∷ at 2 0 (Some 1) Sleeping (Some 2)
    ∷ at 8 0 (Some 2) Preempted (Some 1) ∷ []) ∷ [])
    ≡ codes "# tracer: nop\n"
    ++ codes "          <idle>-0       [000] d..2.     0.000000: sched_switch: prev_comm=swapper/0 prev_pid=0 prev_prio=120 prev_state=R ==> next_comm=T1 next_pid=1001 next_prio=-1\n"
    ++ codes "              T1-1001    [000] d..2.     0.000002: sched_switch: prev_comm=T1 prev_pid=1001 prev_prio=-1 prev_state=S ==> next_comm=T2 next_pid=1002 next_prio=-1\n"
    ++ codes "              T2-1002    [000] d..2.     0.000008: sched_switch: prev_comm=T2 prev_pid=1002 prev_prio=-1 prev_state=R+ ==> next_comm=T1 next_pid=1001 next_prio=-1\n"
unfolding trace_of header text_of_entries entries_in_order switch_line task_part cpu_part time_part prev_part next_part
    digits
reclaiming_example = refl

-- a task that is throttled inside a job, and has ended at 7
throttled_inside_a_job :
    trace_of (run 0
    (at 0 0 None Running (Some 1) ∷ at 2 0 (Some 1) Preempted None
    ∷ at 5 0 None Running (Some 1) ∷ at 7 0 (Some 1) Dead None ∷ []) ∷ [])
    ≡ codes "# tracer: nop\n"
    ++ codes "          <idle>-0       [000] d..2.     0.000000: sched_switch: prev_comm=swapper/0 prev_pid=0 prev_prio=120 prev_state=R ==> next_comm=T1 next_pid=1001 next_prio=-1\n"
    ++ codes "              T1-1001    [000] d..2.     0.000002: sched_switch: prev_comm=T1 prev_pid=1001 prev_prio=-1 prev_state=R+ ==> next_comm=swapper/0 next_pid=0 next_prio=120\n"
    ++ codes "          <idle>-0       [000] d..2.     0.000005: sched_switch: prev_comm=swapper/0 prev_pid=0 prev_prio=120 prev_state=R ==> next_comm=T1 next_pid=1001 next_prio=-1\n"
    ++ codes "              T1-1001    [000] d..2.     0.000007: sched_switch: prev_comm=T1 prev_pid=1001 prev_prio=-1 prev_state=X ==> next_comm=swapper/0 next_pid=0 next_prio=120\n"
unfolding trace_of header text_of_entries entries_in_order switch_line task_part cpu_part time_part prev_part next_part
    digits
throttled_inside_a_job = refl

-- the last switch of a task that has ended, after a minute, on the machine's CPU 511
ended :
    switch_line numbered 448 (at 59000500 63 (Some 7) Dead None)
    ≡ codes "              T7-1007    [511] d..2.    59.000500: sched_switch: prev_comm=T7 prev_pid=1007 prev_prio=-1 prev_state=X ==> next_comm=swapper/511 next_pid=0 next_prio=120\n"
unfolding switch_line task_part cpu_part time_part prev_part next_part digits
ended = refl

-- two domains: by time first, and at one time by the machine's CPU, whichever run is named first
two_domains :
    trace_of (run 1 (at 0 0 None Running (Some 2) ∷ [])
    ∷ run 0 (at 0 0 None Running (Some 1) ∷ at 4 0 (Some 1) Dead None ∷ []) ∷ [])
    ≡ codes "# tracer: nop\n"
    ++ switch_line numbered 0 (at 0 0 None Running (Some 1))
    ++ switch_line numbered 1 (at 0 0 None Running (Some 2))
    ++ switch_line numbered 0 (at 4 0 (Some 1) Dead None)
unfolding trace_of header text_of_entries entries_in_order switch_line task_part cpu_part time_part prev_part next_part
    digits
two_domains = refl

-- no run, or no switch: the header alone
no_switch : trace_of (run 0 [] ∷ []) ≡ codes "# tracer: nop\n"
unfolding trace_of header text_of_entries entries_in_order
no_switch = refl
