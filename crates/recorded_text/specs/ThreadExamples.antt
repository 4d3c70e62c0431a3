-- Worked rows of wakes and of the threads of a switch, computed by the definitions.
use Rattle.std.specs.Prelude.{◌≡◌, true, false, Some, None, codes, refl}
use Rattle.recorded_text.specs.Cuts.{first_cut, last_cut, end_trimmed, last_word, cut_front}
use Rattle.recorded_text.specs.Line.{number_of_digits, micros_at, time_at, bracketed_at, cpu_at, cpu_before, below_at, named_at, short_at, next_at, without_colon, by_first_mark, event_and_rest, timed_at, headed_at, line_at}
use Rattle.recorded_text.specs.Threads.{start_trimmed, front_word, named_leaver, short_leaver, named_threads, short_threads, threads_at, below_of_32, without_success, named_woken, short_woken, woken_for, woken_on, woken_by_fields, wake_and_rest, headed_wake, wake_in_line, threads_in_line, event_in_line, NoEvent, BadEvent, Switched, Woken}

-- a wake, from tracefs
wake_of_ftrace :
    event_in_line (codes "              a-12      [003] d..2.    16.443377: sched_wakeup: comm=b pid=13 prio=-1 target_cpu=003")
    ≡ Woken 16443377 (record { name = codes "b"; pid = 13; below = true })
unfolding first_cut last_cut end_trimmed last_word cut_front number_of_digits micros_at time_at bracketed_at cpu_at cpu_before below_at named_at short_at next_at without_colon by_first_mark event_and_rest timed_at headed_at line_at start_trimmed front_word named_leaver short_leaver named_threads short_threads threads_at below_of_32 without_success named_woken short_woken woken_for woken_on woken_by_fields wake_and_rest headed_wake wake_in_line threads_in_line event_in_line
wake_of_ftrace = refl

-- as trace-cmd report prints it
wake_of_trace_cmd :
    event_in_line (codes "              a-12      [003]    16.443377: sched_wakeup:         b c:13 [4294967295] CPU:003")
    ≡ Woken 16443377 (record { name = codes "b c"; pid = 13; below = true })
unfolding first_cut last_cut end_trimmed last_word cut_front number_of_digits micros_at time_at bracketed_at cpu_at cpu_before below_at named_at short_at next_at without_colon by_first_mark event_and_rest timed_at headed_at line_at start_trimmed front_word named_leaver short_leaver named_threads short_threads threads_at below_of_32 without_success named_woken short_woken woken_for woken_on woken_by_fields wake_and_rest headed_wake wake_in_line threads_in_line event_in_line
wake_of_trace_cmd = refl

-- with a field of older kernels, and text at the end
wake_with_more :
    event_in_line (codes "              a-12      [003]    16.443377: sched_wakeup:         b:13 [120] success=1 CPU:003 x y")
    ≡ Woken 16443377 (record { name = codes "b"; pid = 13; below = false })
unfolding first_cut last_cut end_trimmed last_word cut_front number_of_digits micros_at time_at bracketed_at cpu_at cpu_before below_at named_at short_at next_at without_colon by_first_mark event_and_rest timed_at headed_at line_at start_trimmed front_word named_leaver short_leaver named_threads short_threads threads_at below_of_32 without_success named_woken short_woken woken_for woken_on woken_by_fields wake_and_rest headed_wake wake_in_line threads_in_line event_in_line
wake_with_more = refl

-- as perf script prints it
wake_of_perf :
    event_in_line (codes "a    12 [003] 16.443377:       sched:sched_wakeup: comm=b pid=13 prio=2147483648 success=1 target_cpu=003")
    ≡ Woken 16443377 (record { name = codes "b"; pid = 13; below = true })
unfolding first_cut last_cut end_trimmed last_word cut_front number_of_digits micros_at time_at bracketed_at cpu_at cpu_before below_at named_at short_at next_at without_colon by_first_mark event_and_rest timed_at headed_at line_at start_trimmed front_word named_leaver short_leaver named_threads short_threads threads_at below_of_32 without_success named_woken short_woken woken_for woken_on woken_by_fields wake_and_rest headed_wake wake_in_line threads_in_line event_in_line
wake_of_perf = refl

-- a wake that was cut
wake_cut :
    event_in_line (codes "              a-12      [003] d..2.    16.443377: sched_wakeup: comm=b pid=13 prio=-1")
    ≡ BadEvent
unfolding first_cut last_cut end_trimmed last_word cut_front number_of_digits micros_at time_at bracketed_at cpu_at cpu_before below_at named_at short_at next_at without_colon by_first_mark event_and_rest timed_at headed_at line_at start_trimmed front_word named_leaver short_leaver named_threads short_threads threads_at below_of_32 without_success named_woken short_woken woken_for woken_on woken_by_fields wake_and_rest headed_wake wake_in_line threads_in_line event_in_line
wake_cut = refl

-- who leaves and who comes at a switch
switch_of_ftrace :
    event_in_line (codes "  a b-11 [000] d..2. 5.000042: sched_switch: prev_comm=a b prev_pid=11 prev_prio=-1 prev_state=R+ ==> next_comm=c next_pid=12 next_prio=120")
    ≡ Switched 5000042 0 (Some (record {
      leaves = Some (record { name = codes "a b"; pid = 11; state = codes "R+" });
      comes = record { name = codes "c"; pid = 12; below = false };
    }))
unfolding first_cut last_cut end_trimmed last_word cut_front number_of_digits micros_at time_at bracketed_at cpu_at cpu_before below_at named_at short_at next_at without_colon by_first_mark event_and_rest timed_at headed_at line_at start_trimmed front_word named_leaver short_leaver named_threads short_threads threads_at below_of_32 without_success named_woken short_woken woken_for woken_on woken_by_fields wake_and_rest headed_wake wake_in_line threads_in_line event_in_line
switch_of_ftrace = refl

switch_of_trace_cmd :
    event_in_line (codes "  <idle>-0 [001] 25.000100: sched_switch:         swapper/1:0 [120] R ==> a:7 [-1]")
    ≡ Switched 25000100 1 (Some (record {
      leaves = Some (record { name = codes "swapper/1"; pid = 0; state = codes "R" });
      comes = record { name = codes "a"; pid = 7; below = true };
    }))
unfolding first_cut last_cut end_trimmed last_word cut_front number_of_digits micros_at time_at bracketed_at cpu_at cpu_before below_at named_at short_at next_at without_colon by_first_mark event_and_rest timed_at headed_at line_at start_trimmed front_word named_leaver short_leaver named_threads short_threads threads_at below_of_32 without_success named_woken short_woken woken_for woken_on woken_by_fields wake_and_rest headed_wake wake_in_line threads_in_line event_in_line
switch_of_trace_cmd = refl

-- a switch whose leaving part was lost
leaver_lost :
    event_in_line (codes "  <idle>-0 [001] 25.000100: sched_switch: x ==> next_comm=a next_pid=7 next_prio=-1")
    ≡ Switched 25000100 1 (Some (record {
      leaves = None;
      comes = record { name = codes "a"; pid = 7; below = true };
    }))
unfolding first_cut last_cut end_trimmed last_word cut_front number_of_digits micros_at time_at bracketed_at cpu_at cpu_before below_at named_at short_at next_at without_colon by_first_mark event_and_rest timed_at headed_at line_at start_trimmed front_word named_leaver short_leaver named_threads short_threads threads_at below_of_32 without_success named_woken short_woken woken_for woken_on woken_by_fields wake_and_rest headed_wake wake_in_line threads_in_line event_in_line
leaver_lost = refl
