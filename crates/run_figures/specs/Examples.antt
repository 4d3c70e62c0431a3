-- Worked rows: what is logged of a run.
use Rattle.std.specs.Prelude.{ℕ, ◌≡◌, true, false, negsuc, pos, List, [], ◌∷◌, ◌++◌, Option, Some, None, refl}
use Rattle.domain_run.specs.declared.happened.What.{What}
use Rattle.domain_run.specs.declared.happened.What.TheVariants.{JobEnds, NextReleased, Spent, Cut, Replenished, Released, WokenSpent}
use Rattle.domain_run.specs.declared.happened.Happened.{Happened}
use Rattle.domain_run.specs.Switch.{Switch}
use Rattle.domain_run.specs.declared.switch.PrevState.{PrevState}
use Rattle.domain_run.specs.declared.switch.PrevState.TheVariants.{Running, Preempted, Sleeping, Dead}
use Rattle.run_figures.specs.declared.job.Job.{Job}
use Rattle.run_figures.specs.declared.run.Admitted.{Admitted}
use Rattle.run_figures.specs.Runs.{RunView}
use Rattle.run_figures.specs.Jobs.{jobs_of}
use Rattle.run_figures.specs.Throttling.{throttled_us, preemptions}
use Rattle.run_figures.specs.Stays.{cpu_us, busy_us, migrations}
use Rattle.run_figures.specs.Again.{more_logged, more_switches}
use Rattle.run_figures.specs.Figures.{figures_of, cpu_of, is_late, outcomes, responses_of}

-- to a task at a time
abbrev at : ℕ → ℕ → What → Happened
at time number what = record { time = time; what = what; number = number; cpu = 0 }

abbrev switch : ℕ → ℕ → Option ℕ → PrevState → Option ℕ → Switch
switch time cpu prev state next =
    record { time = time; prev = prev; next = next; cpu = cpu; state = state }

abbrev job : ℕ → ℕ → Option ℕ → ℕ → Job
job release deadline ended throttled =
    record {
      release = release;
      deadline = deadline;
      ended = ended;
      throttled = throttled;
      cut = false;
    }

-- THROTTLED INSIDE A JOB: 2 us in each 5, and 4 us of work. Its end is 2 us after its deadline
abbrev task : Admitted
task = record { number = 1; runtime = 2; period = 5 }

abbrev throttled : RunView
throttled = record {
  cpus = 1;
  time = 11;
  tasks = task ∷ [];
  happened = at 0 1 (Released 5) ∷ at 2 1 (Spent 5) ∷ at 5 1 (Replenished 10) ∷ at 7 1 JobEnds ∷ [];
  switches = switch 0 0 None Running (Some 1) ∷ switch 2 0 (Some 1) Preempted None
      ∷ switch 5 0 None Running (Some 1) ∷ switch 7 0 (Some 1) Dead None ∷ [];
}

its_jobs : jobs_of throttled.happened 1 ≡ job 0 5 (Some 7) 1 ∷ []
its_jobs = refl

its_figures : figures_of throttled task ≡ record {
  number = 1;
  runtime = 2;
  period = 5;
  jobs = 1;
  late = 1;
  responses = Some (record { least = 7; mean = 7; most = 7; slack = negsuc 1 });
  throttled = 1;
  throttled_us = 3;
  preempted = 0;
  migrated = 0;
  cpu_us = 4;
}
its_figures = refl

its_cpu : cpu_of throttled 0 ≡ record { busy_us = 4; switches = 4 }
its_cpu = refl

-- A PERIOD Streamed AGAIN, twice: the run above, each time 11 us later. Counts and times are three
-- times as much; the least, the mean and the greatest are the same
released_again : more_logged 11 2 (at 0 1 (Released 5) ∷ at 7 1 JobEnds ∷ [])
    ≡ at 11 1 (Released 16) ∷ at 18 1 JobEnds ∷ at 22 1 (Released 27) ∷ at 29 1 JobEnds ∷ []
released_again = refl

abbrev streamed_again : RunView
streamed_again = record throttled {
  time = 33;
  happened = throttled.happened ++ more_logged 11 2 throttled.happened;
  switches = throttled.switches ++ more_switches 11 2 throttled.switches;
}

its_figures_again : figures_of streamed_again task ≡ record {
  number = 1;
  runtime = 2;
  period = 5;
  jobs = 3;
  late = 3;
  responses = Some (record { least = 7; mean = 7; most = 7; slack = negsuc 1 });
  throttled = 3;
  throttled_us = 9;
  preempted = 0;
  migrated = 0;
  cpu_us = 12;
}
its_figures_again = refl

its_cpu_again : cpu_of streamed_again 0 ≡ record { busy_us = 12; switches = 12 }
its_cpu_again = refl

-- THE MEAN IS ROUNDED DOWN: responses of 1 and 2; the slack is from the deadline
two_jobs : responses_of (outcomes (job 0 9 (Some 1) 0 ∷ job 10 15 (Some 12) 0 ∷ []))
    ≡ Some (record { least = 1; mean = 1; most = 2; slack = pos 3 })
two_jobs = refl

-- A LATE TIMER ends a job and releases the next, and what is spent then is spent by the next
next_job : jobs_of (at 0 1 (Released 8) ∷ at 6 1 JobEnds ∷ at 6 1 (NextReleased 14)
    ∷ at 6 1 (Spent 8) ∷ []) 1
    ≡ job 0 8 (Some 6) 0 ∷ job 6 14 None 1 ∷ []
next_job = refl

-- CUT: such a job has no end, and is not late; one under way is late once its deadline has passed
cut : jobs_of (at 0 1 (Released 5) ∷ at 3 2 (Released 9) ∷ at 7 1 Cut ∷ []) 1
    ≡ record { release = 0; deadline = 5; ended = None; throttled = 0; cut = true } ∷ []
cut = refl

cut_is_not_late : is_late 9
    (record { release = 0; deadline = 5; ended = None; throttled = 0; cut = true }) ≡ false
cut_is_not_late = refl

not_yet : is_late 5 (job 0 5 None 0) ≡ false
not_yet = refl

late_then : is_late 6 (job 0 5 None 0) ≡ true
late_then = refl

-- AN OPEN THROTTLE counts up to the end of the run, or to a leave
to_the_end : throttled_us 20 (at 0 1 (Released 5) ∷ at 2 1 (Spent 5) ∷ []) ≡ 18
to_the_end = refl

to_the_leave : throttled_us 20 (at 0 1 (Released 5) ∷ at 2 1 (WokenSpent 5) ∷ at 9 1 Cut ∷ []) ≡ 7
to_the_leave = refl

-- PREEMPTED: task 1 twice gives way to task 2; at 4 it is throttled then, and at 9 it is not
preempted : preemptions
    (at 4 1 (Spent 6) ∷ at 6 1 (Replenished 12) ∷ at 9 2 (Released 11) ∷ [])
    (switch 0 0 None Running (Some 1) ∷ switch 4 0 (Some 1) Preempted (Some 2)
    ∷ switch 7 0 (Some 2) Sleeping (Some 1) ∷ switch 9 0 (Some 1) Preempted (Some 2) ∷ []) 1
    ≡ 1
preempted = refl

-- MIGRATED: to CPU 1, stays there, and back; the first placement is none. Each CPU has its own time
abbrev moves : List Switch
moves =
    switch 0 0 None Running (Some 1) ∷ switch 2 0 (Some 1) Preempted (Some 2)
    ∷ switch 2 1 None Running (Some 1)
    ∷ switch 3 1 (Some 1) Sleeping None ∷ switch 5 1 None Running (Some 1)
    ∷ switch 6 0 (Some 2) Sleeping (Some 1) ∷ switch 6 1 (Some 1) Preempted None ∷ []

migrated : migrations moves 1 ≡ 2
migrated = refl

its_time : cpu_us 10 moves 1 ≡ 8
its_time = refl

first_cpu : busy_us 10 moves 0 ≡ 10
first_cpu = refl

second_cpu : busy_us 10 moves 1 ≡ 2
second_cpu = refl
