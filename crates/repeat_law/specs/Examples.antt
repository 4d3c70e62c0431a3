-- Worked rows: runs that repeat, at each pace.
use Rattle.std.specs.Prelude.{ℕ, pos, ◌≡◌, ◌==◌, ◌+◌, ◌*◌, if◌then◌else◌, List, [], ◌∷◌, Some, None, codes, nat_le, true, false, refl}
use Rattle.domain_run.specs.declared.task.Task.{Task}
use Rattle.domain_run.specs.declared.task.Condition.TheVariants.{Throttled, Blocked, Waiting}
use Rattle.domain_run.specs.declared.switch.PrevState.TheVariants.{Running, Sleeping}
use Rattle.domain_run.specs.declared.happened.Happened.{Happened}
use Rattle.domain_run.specs.declared.happened.What.TheVariants.{JobEnds, Released}
use Rattle.task_script.specs.declared.phase.Event.TheVariants.{Run, Sleep, Timer, Wait}
use Rattle.task_script.specs.script.ScriptView.{ScriptView}
use Rattle.domain_run.specs.declared.call.Call.TheVariants.{Advance}
use Rattle.domain_run.specs.Domain.{Domain}
use Rattle.domain_run.specs.Switch.{Switch}
use Rattle.domain_run.specs.Passing.{without_switches}
use Rattle.domain_run.specs.Tick.{ticked, ticks}
use Rattle.domain_run.specs.Run.{run_of}
use Rattle.domain_run.specs.Happened.{logged_by_ticks}
use Rattle.domain_run.specs.examples.Calling.{plain, reclaiming, admit, switch}
use Rattle.task_script.specs.Examples.{rounds, once, forever}
use Rattle.domain_run.specs.declared.pace.Pace.TheVariants.{Rests, Plays, Works}
use Rattle.domain_run.specs.declared.mark.TaskMark.{TaskMark}
use Rattle.domain_run.specs.Shift.{Shift, paced_task, shifted, just_later}
use Rattle.repeat_law.specs.Repeats.{switches_of, switches_again, happened_again}
use Rattle.domain_run.specs.Marks.{marked, paced_mark}

-- LATER: two tasks that reclaim, from 2 and from 0
abbrev reclaimed : ℕ → Domain
reclaimed n =
    run_of 1 1048576
    (admit 1 (reclaiming 4 8 8) (forever (Run 2 ∷ Sleep 6 ∷ []))
    ∷ admit 2 (reclaiming 4 8 8) (once (Run 100 ∷ [])) ∷ Advance n ∷ [])

tick_at_2 : ticked (shifted (just_later 5) (reclaimed 2))
    ≡ shifted (just_later 5) (ticked (reclaimed 2))
tick_at_2 = refl

ticks_from_0 : ticks 12 (shifted (just_later 1000) (reclaimed 0))
    ≡ shifted (just_later 1000) (ticks 12 (reclaimed 0))
ticks_from_0 = refl

-- PLAYS. A task of 2 in 5, with 2 us of work after each timer of 5, repeats after 5
abbrev playing : ScriptView → ℕ → Domain
playing script n = run_of 1 1048576 (admit 1 (plain 2 5 5) script ∷ Advance n ∷ [])

-- while it waits for its timer, at a place of its script
abbrev blocked : ScriptView → ℕ → ℕ → Task
blocked script place time =
    record {
      number = 1;
      cpu = 0;
      condition = Blocked time;
      work = 0;
      zero_lag = Some time;
      params = plain 2 5 5;
      server = record { deadline = Some time; left = pos 0 };
      cursor = record { script = script; place = place; reference = time };
      name = codes "T";
    }

abbrev endless : ScriptView
endless = forever (Run 2 ∷ Timer 5 ∷ [])

endless_at_10 : (playing endless 10).tasks ≡ blocked endless 0 10 ∷ []
endless_at_10 = refl

endless_at_15 : (playing endless 15).tasks ≡ blocked endless 0 15 ∷ []
endless_at_15 = refl

endless_again : paced_task 5 (Plays 1) (blocked endless 0 10) ≡ blocked endless 0 15
endless_again = refl

-- the same with four rounds: each period is a round, of two places
abbrev four : ScriptView
four = rounds (Some 4) (Run 2 ∷ Timer 5 ∷ [])

four_at_10 : (playing four 10).tasks ≡ blocked four 4 10 ∷ []
four_at_10 = refl

four_at_15 : (playing four 15).tasks ≡ blocked four 6 15 ∷ []
four_at_15 = refl

four_again : paced_task 5 (Plays 1) (blocked four 4 10) ≡ blocked four 6 15
four_again = refl

-- from 10 there are rounds for two periods and not for three: at 20 the script is at its end
two_fit : nat_le (4 + 2 * 1 * 2) (4 * 2) ≡ true
two_fit = refl

three_do_not : nat_le (4 + 3 * 1 * 2) (4 * 2) ≡ false
three_do_not = refl

four_at_20 : (playing four 20).tasks ≡ paced_task 10 (Plays 2) (blocked four 4 10) ∷ []
four_at_20 = refl

four_at_25 : (playing four 25).tasks ≡ []
four_at_25 = refl

-- a script without a timer: the reference stays
abbrev sleepy : ScriptView
sleepy = forever (Run 2 ∷ Sleep 6 ∷ [])

abbrev sleeping : ℕ → Task
sleeping time =
    record {
      number = 1;
      cpu = 0;
      condition = Blocked time;
      work = 0;
      zero_lag = None;
      params = reclaiming 4 8 8;
      server = record { deadline = Some time; left = pos 3145728 };
      cursor = record { script = sleepy; place = 0; reference = 0 };
      name = codes "T";
    }

abbrev deferring_timers : ℕ → Domain
deferring_timers n = run_of 1 1048576 (admit 1 (reclaiming 4 8 8) sleepy ∷ Advance n ∷ [])

sleepy_at_8 : (deferring_timers 8).tasks ≡ sleeping 8 ∷ []
sleepy_at_8 = refl

sleepy_at_16 : (deferring_timers 16).tasks ≡ sleeping 16 ∷ []
sleepy_at_16 = refl

sleepy_again : paced_task 8 (Plays 1) (sleeping 8) ≡ sleeping 16
sleepy_again = refl

-- WORKS. A task of 2 in 5 with work for a long time: in each 5 us, 2 us of it are done
abbrev long : ScriptView
long = once (Run 1000000000 ∷ [])

abbrev throttled : ℕ → ℕ → Task
throttled work time =
    record {
      number = 1;
      cpu = 0;
      condition = Throttled;
      work = work;
      zero_lag = None;
      params = plain 2 5 5;
      server = record { deadline = Some time; left = pos 0 };
      cursor = record { script = long; place = 1; reference = 0 };
      name = codes "T";
    }

long_at_10 : (playing long 10).tasks ≡ throttled 999999996 10 ∷ []
long_at_10 = refl

long_at_15 : (playing long 15).tasks ≡ throttled 999999994 15 ∷ []
long_at_15 = refl

long_again : paced_task 5 (Works 2) (throttled 999999996 10) ≡ throttled 999999994 15
long_again = refl

-- RESTS. A task that waits for a call, beside one that plays
abbrev waiting : Task
waiting =
    record {
      number = 2;
      cpu = 0;
      condition = Waiting;
      work = 0;
      zero_lag = None;
      params = plain 1 10 10;
      server = record { deadline = None; left = pos 0 };
      cursor = record { script = forever (Wait ∷ Run 1 ∷ []); place = 1; reference = 0 };
      name = codes "T";
    }

abbrev beside : ℕ → Domain
beside n =
    run_of 1 1048576
    (admit 1 (plain 2 5 5) endless
    ∷ admit 2 (plain 1 10 10) (forever (Wait ∷ Run 1 ∷ [])) ∷ Advance n ∷ [])

beside_at_10 : (beside 10).tasks ≡ blocked endless 0 10 ∷ waiting ∷ []
beside_at_10 = refl

beside_at_15 : (beside 15).tasks ≡ blocked endless 0 15 ∷ waiting ∷ []
beside_at_15 = refl

rests_again : paced_task 5 Rests waiting ≡ waiting
rests_again = refl

-- REPEATS. Both sides of a repeat, without the switches so far: after the period, and shifted
abbrev bare : ℕ → List ℕ → List Task → Domain
bare time used tasks =
    record {
      cpus = 1;
      limit = 1048576;
      time = time;
      tasks = tasks;
      used = used;
      curr = None ∷ [];
      switches = [];
    }

-- a round of four
abbrev a_round : Shift
a_round = record { micros = 5; pace = λ number. Plays 1 }

four_ticked : without_switches (ticks 5 (playing four 10))
    ≡ bare 15 (1 ∷ []) (blocked four 6 15 ∷ [])
four_ticked = refl

four_shifted : without_switches (shifted a_round (playing four 10))
    ≡ bare 15 (1 ∷ []) (blocked four 6 15 ∷ [])
four_shifted = refl

-- two microseconds of long work
abbrev two_done : Shift
two_done = record { micros = 5; pace = λ number. Works 2 }

long_ticked : without_switches (ticks 5 (playing long 10))
    ≡ bare 15 (1 ∷ []) (throttled 999999994 15 ∷ [])
long_ticked = refl

long_shifted : without_switches (shifted two_done (playing long 10))
    ≡ bare 15 (1 ∷ []) (throttled 999999994 15 ∷ [])
long_shifted = refl

-- a task that plays, and the other rests
abbrev rests_beside : Shift
rests_beside = record { micros = 5; pace = λ number. if number == 2 then Rests else Plays 1 }

beside_ticked : without_switches (ticks 5 (beside 10))
    ≡ bare 15 (1 ∷ 2 ∷ []) (blocked endless 0 15 ∷ waiting ∷ [])
beside_ticked = refl

beside_shifted : without_switches (shifted rests_beside (beside 10))
    ≡ bare 15 (1 ∷ 2 ∷ []) (blocked endless 0 15 ∷ waiting ∷ [])
beside_shifted = refl

-- MARKS of the task with four rounds
abbrev mark_at : ℕ → ℕ → TaskMark
mark_at round time =
    record {
      cpu = 0;
      condition = Blocked time;
      work = 0;
      zero_lag = Some time;
      server = record { deadline = Some time; left = pos 0 };
      round = round;
      step = 0;
      reference = time;
    }

mark_of_it : marked (mark_at 2 10) (blocked four 6 15) ≡ blocked four 4 10
mark_of_it = refl

mark_later : paced_mark true true 5 (Plays 1) (mark_at 2 10) ≡ mark_at 3 15
mark_later = refl

-- THE OUTPUT of a period, and of two
abbrev turn_at : ℕ → List Switch
turn_at time =
    switch time 0 None Running (Some 1) ∷ switch (time + 2) 0 (Some 1) Sleeping None ∷ []

first_switches : switches_of 5 (playing endless 10) ≡ turn_at 10
first_switches = refl

two_switches : switches_of 10 (playing endless 10)
    ≡ switch 10 0 None Running (Some 1) ∷ switch 12 0 (Some 1) Sleeping None
    ∷ switch 15 0 None Running (Some 1) ∷ switch 17 0 (Some 1) Sleeping None ∷ []
two_switches = refl

given_twice : switches_again 5 2 (turn_at 10)
    ≡ switch 10 0 None Running (Some 1) ∷ switch 12 0 (Some 1) Sleeping None
    ∷ switch 15 0 None Running (Some 1) ∷ switch 17 0 (Some 1) Sleeping None ∷ []
given_twice = refl

abbrev job_at : ℕ → List Happened
job_at time =
    record { time = time; what = Released (time + 5); number = 1; cpu = 0 }
    ∷ record { time = time + 2; what = JobEnds; number = 1; cpu = 0 } ∷ []

first_logged : logged_by_ticks 5 (playing endless 10) ≡ job_at 10
first_logged = refl

two_logged : logged_by_ticks 10 (playing endless 10) ≡ happened_again 5 2 (job_at 10)
two_logged = refl
