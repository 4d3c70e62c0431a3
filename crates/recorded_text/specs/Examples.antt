-- Worked rows, computed by the definitions.
use Rattle.std.specs.Prelude.{◌≡◌, Some, None, codes, refl}
use Rattle.recorded_text.specs.Cuts.{first_cut, last_cut, end_trimmed, last_word, cut_front}
use Rattle.recorded_text.specs.Line.{Other, Bad, Seen, number_of_digits, micros_at, time_at, bracketed_at, cpu_at, cpu_before, below_at, named_at, short_at, next_at, without_colon, by_first_mark, event_and_rest, timed_at, headed_at, line_at}
use Rattle.recorded_text.specs.Text.{split_lines, first_bad}

-- Linux 6.x, from tracefs
with_flags :
    line_at (codes "          filler-32166   [003] d..2.  1680.443377: sched_switch: prev_comm=filler prev_pid=32166 prev_prio=120 prev_state=R ==> next_comm=a next_pid=32167 next_prio=-1")
    ≡ Seen (record { time = 1680443377; cpu = 3; next = Some (codes "a") })
unfolding first_cut last_cut end_trimmed last_word cut_front number_of_digits micros_at time_at
    bracketed_at cpu_at cpu_before below_at named_at short_at next_at without_colon by_first_mark
    event_and_rest timed_at headed_at line_at
with_flags = refl

-- without the column of flags, to a task of another policy
without_flags :
    line_at (codes "               a-32167   [003]  1680.443380: sched_switch: prev_comm=a prev_pid=32167 prev_prio=-1 prev_state=S ==> next_comm=filler next_pid=32166 next_prio=120")
    ≡ Seen (record { time = 1680443380; cpu = 3; next = None })
unfolding first_cut last_cut end_trimmed last_word cut_front number_of_digits micros_at time_at
    bracketed_at cpu_at cpu_before below_at named_at short_at next_at without_colon by_first_mark
    event_and_rest timed_at headed_at line_at
without_flags = refl

-- as trace-cmd report prints it
of_trace_cmd :
    line_at (codes "          <idle>-0     [001]    25.000100: sched_switch:         swapper/1:0 [120] R ==> a b=c:7 [-1]")
    ≡ Seen (record { time = 25000100; cpu = 1; next = Some (codes "a b=c") })
unfolding first_cut last_cut end_trimmed last_word cut_front number_of_digits micros_at time_at
    bracketed_at cpu_at cpu_before below_at named_at short_at next_at without_colon by_first_mark
    event_and_rest timed_at headed_at line_at
of_trace_cmd = refl

-- as perf script prints it, with nanoseconds
of_perf :
    line_at (codes "         swapper     0 [011]  2591.012345999:       sched:sched_switch: prev_comm=swapper/11 prev_pid=0 prev_prio=120 prev_state=R ==> next_comm=next_pid=1 next_pid=12 next_prio=-1")
    ≡ Seen (record { time = 2591012345; cpu = 11; next = Some (codes "next_pid=1") })
unfolding first_cut last_cut end_trimmed last_word cut_front number_of_digits micros_at time_at
    bracketed_at cpu_at cpu_before below_at named_at short_at next_at without_colon by_first_mark
    event_and_rest timed_at headed_at line_at
of_perf = refl

-- another event, also of a task whose name reads as the event
of_another_event :
    line_at (codes "  <idle>-0 [000] 7.000001: sched_wakeup: comm=: sched_switch: pid=9 prio=-1 target_cpu=000") ≡ Other
unfolding first_cut last_cut end_trimmed last_word cut_front number_of_digits micros_at time_at
    bracketed_at cpu_at cpu_before below_at named_at short_at next_at without_colon by_first_mark
    event_and_rest timed_at headed_at line_at
of_another_event = refl

-- with both marks the first decides, and what follows it has no form of a switch
of_both_marks :
    line_at (codes "  a-7 [000] 7.000001: sched_switch: sched:sched_switch: a:7 [-1] S ==> b:8 [-1]x") ≡ Bad
unfolding first_cut last_cut end_trimmed last_word cut_front number_of_digits micros_at time_at
    bracketed_at cpu_at cpu_before below_at named_at short_at next_at without_colon by_first_mark
    event_and_rest timed_at headed_at line_at
of_both_marks = refl

-- a line that was cut
cut_short :
    line_at (codes "  a-7 [000] 7.000001: sched_switch: prev_comm=a prev_pid=7 prev_prio=-1 prev_state=R ==> next_comm=b next_pid=8") ≡ Bad
unfolding first_cut last_cut end_trimmed last_word cut_front number_of_digits micros_at time_at
    bracketed_at cpu_at cpu_before below_at named_at short_at next_at without_colon by_first_mark
    event_and_rest timed_at headed_at line_at
cut_short = refl

-- the first bad line is counted from 1, an unfinished last line too
second_is_bad : first_bad (codes "# tracer: nop\n 1.000000: sched_switch: \n 1.000000: sched_switch: ") ≡ Some 2
unfolding split_lines first_cut last_cut end_trimmed last_word cut_front number_of_digits micros_at time_at
    bracketed_at cpu_at cpu_before below_at named_at short_at next_at without_colon by_first_mark
    event_and_rest timed_at headed_at line_at
second_is_bad = refl
