-- Worked rows of whole runs.
use Rattle.std.specs.Prelude.{ℕ, pos, neg_ℤ, ◌≡◌, List, [], ◌∷◌, Option, Some, None, option_map, refl}
use Rattle.task_script.specs.declared.phase.Event.TheVariants.{Run, Sleep, Timer}
use Rattle.cbs_rules.specs.declared.server.Server.{Server}
use Rattle.domain_run.specs.declared.task.Condition.TheVariants.{Throttled, Blocked}
use Rattle.domain_run.specs.declared.switch.PrevState.TheVariants.{Running, Preempted, Sleeping, Dead}
use Rattle.domain_run.specs.declared.call.Call.{Call}
use Rattle.domain_run.specs.declared.call.Call.TheVariants.{Advance, Limit}
use Rattle.domain_run.specs.Domain.{Domain}
use Rattle.domain_run.specs.Tick.{with_tick_begun, rate_of}
use Rattle.domain_run.specs.Run.{run_of}
use Rattle.domain_run.specs.examples.Calling.{plain, reclaiming, admit, switch, sum_after, server_in, condition_in, zero_lag_in, task_in}
use Rattle.task_script.specs.Examples.{once, forever}

abbrev left_by : ℕ → ℕ → Option Server
left_by deadline left = Some (record { deadline = Some deadline; left = pos left })

-- RECLAIMING EXAMPLE: two tasks of 4 in 8. The first blocks at 2 and is inactive from 4 on, so that
-- the second runs at half the rate until 8, where it is spent just as the first wakes
abbrev reclaimed : ℕ → Domain
reclaimed n =
    run_of 1 1048576
    (admit 1 (reclaiming 4 8 8) (forever (Run 2 ∷ Sleep 6 ∷ []))
    ∷ admit 2 (reclaiming 4 8 8) (once (Run 100 ∷ [])) ∷ Advance n ∷ [])

reclaimed_switches : (reclaimed 9).switches
    ≡ switch 0 0 None Running (Some 1) ∷ switch 2 0 (Some 1) Sleeping (Some 2)
    ∷ switch 8 0 (Some 2) Preempted (Some 1) ∷ []
reclaimed_switches = refl

reclaimed_zero_lag : zero_lag_in (reclaimed 2) 1 ≡ Some (Some 4)
reclaimed_zero_lag = refl

reclaimed_left_at_4 : server_in (reclaimed 4) 2 ≡ left_by 8 2097152
reclaimed_left_at_4 = refl

reclaimed_left_at_8 : server_in (reclaimed 8) 2 ≡ left_by 8 0
reclaimed_left_at_8 = refl

reclaimed_renewed : server_in (reclaimed 9) 1 ≡ left_by 16 3145728
reclaimed_renewed = refl

reclaimed_replenished : server_in (reclaimed 9) 2 ≡ left_by 16 4194304
reclaimed_replenished = refl

-- THROTTLED INSIDE A JOB: 2 us in each 5, and 4 us of work
abbrev throttled : ℕ → Domain
throttled n = run_of 1 1048576 (admit 1 (plain 2 5 5) (once (Run 4 ∷ [])) ∷ Advance n ∷ [])

throttled_switches : (throttled 11).switches
    ≡ switch 0 0 None Running (Some 1) ∷ switch 2 0 (Some 1) Preempted None
    ∷ switch 5 0 None Running (Some 1) ∷ switch 7 0 (Some 1) Dead None ∷ []
throttled_switches = refl

-- its zero-lag time is 10: until then its bandwidth is not given back
throttled_sum_at_10 : sum_after (throttled 10) ≡ 419430
throttled_sum_at_10 = refl

throttled_sum_at_11 : sum_after (throttled 11) ≡ 0
throttled_sum_at_11 = refl

-- ZERO START: the second task's first deadline is 3, before that of the first
abbrev started : ℕ → Domain
started n =
    run_of 1 1048576
    (admit 1 (plain 2 8 8) (once (Run 2 ∷ [])) ∷ admit 2 (plain 2 3 8) (once (Run 2 ∷ []))
    ∷ Advance n ∷ [])

started_switches : (started 5).switches
    ≡ switch 0 0 None Running (Some 2) ∷ switch 2 0 (Some 2) Dead (Some 1)
    ∷ switch 4 0 (Some 1) Dead None ∷ []
started_switches = refl

started_deadline : server_in (started 1) 2 ≡ left_by 3 1048576
started_deadline = refl

-- WAKE TEST IS STRICT: it blocks at 2 with zero-lag time 4, where it becomes inactive and wakes
-- with what was left
abbrev woken : ℕ → Domain
woken n = run_of 1 1048576 (admit 1 (plain 4 8 8) (forever (Run 2 ∷ Sleep 2 ∷ [])) ∷ Advance n ∷ [])

woken_blocked : condition_in (woken 4) 1 ≡ Some (Blocked 4)
woken_blocked = refl

woken_zero_lag : zero_lag_in (woken 4) 1 ≡ Some (Some 4)
woken_zero_lag = refl

woken_kept : server_in (with_tick_begun (woken 4)) 1 ≡ left_by 8 2097152
woken_kept = refl

woken_settled : zero_lag_in (with_tick_begun (woken 4)) 1 ≡ Some None
woken_settled = refl

-- SPENT WHILE BLOCKING: at 6 it wakes with no budget before its deadline of 8
abbrev spent : ℕ → Domain
spent n = run_of 1 1048576 (admit 1 (plain 4 8 8) (forever (Run 4 ∷ Sleep 2 ∷ [])) ∷ Advance n ∷ [])

spent_switches : (spent 13).switches
    ≡ switch 0 0 None Running (Some 1) ∷ switch 4 0 (Some 1) Sleeping None
    ∷ switch 8 0 None Running (Some 1) ∷ switch 12 0 (Some 1) Sleeping None ∷ []
spent_switches = refl

spent_server : server_in (spent 7) 1 ≡ left_by 8 0
spent_server = refl

spent_condition : condition_in (spent 7) 1 ≡ Some Throttled
spent_condition = refl

-- FRACTION AND CARRY: 551883 a tick; what a period spends too much, the next one lacks
abbrev carried : ℕ → Domain
carried n = run_of 1 996147 (admit 1 (reclaiming 4 8 8) (once (Run 1000 ∷ [])) ∷ Advance n ∷ [])

abbrev lacking : ℕ → ℕ → Option Server
lacking deadline missing = Some (record { deadline = Some deadline; left = neg_ℤ (pos missing) })

carried_at_8 : server_in (carried 8) 1 ≡ lacking 8 220760
carried_at_8 = refl

carried_at_16 : server_in (carried 16) 1 ≡ lacking 16 441520
carried_at_16 = refl

carried_at_23 : server_in (carried 23) 1 ≡ lacking 24 110397
carried_at_23 = refl

carried_switches : (carried 25).switches
    ≡ switch 0 0 None Running (Some 1) ∷ switch 23 0 (Some 1) Preempted None
    ∷ switch 24 0 None Running (Some 1) ∷ []
carried_switches = refl

-- THE LIMIT CHANGES THE RATE: 524288 a tick while the whole CPU may be given away, and 699051 from
-- 4 on, where three quarters may; what was charged before stays charged
abbrev slowed : List Call → Domain
slowed more = run_of 1 1048576 (admit 1 (reclaiming 4 8 8) (once (Run 1000 ∷ [])) ∷ Advance 4
    ∷ more)

abbrev slower : ℕ → List Call
slower n = Limit 786432 None ∷ Advance n ∷ []

-- the rate of a task in the next tick
abbrev rate_next : Domain → ℕ → Option ℕ
rate_next d number = option_map (rate_of (with_tick_begun d)) (task_in (with_tick_begun d) number)

slowed_rate_at_4 : rate_next (slowed []) 1 ≡ Some 524288
slowed_rate_at_4 = refl

slowed_rate_after : rate_next (slowed (slower 0)) 1 ≡ Some 699051
slowed_rate_after = refl

slowed_left_at_4 : server_in (slowed (slower 0)) 1 ≡ left_by 8 2097152
slowed_left_at_4 = refl

slowed_left_at_7 : server_in (slowed (slower 3)) 1 ≡ lacking 8 1
slowed_left_at_7 = refl

slowed_left_at_9 : server_in (slowed (slower 5)) 1 ≡ left_by 16 3495252
slowed_left_at_9 = refl

slowed_switches : (slowed (slower 5)).switches
    ≡ switch 0 0 None Running (Some 1) ∷ switch 7 0 (Some 1) Preempted None
    ∷ switch 8 0 None Running (Some 1) ∷ []
slowed_switches = refl

-- TWO CPUS: three tasks of one deadline. Task 2 belongs to CPU 0, task 1 to CPU 1; at 4 the second
-- CPU goes to the third
abbrev two_cpus : ℕ → Domain
two_cpus n = run_of 2 1048576 (
    admit 1 (plain 4 8 8) (forever (Run 4 ∷ Timer 8 ∷ []))
    ∷ admit 2 (plain 4 8 8) (forever (Run 4 ∷ Timer 8 ∷ []))
    ∷ admit 3 (plain 4 8 8) (forever (Run 4 ∷ Timer 8 ∷ []))
    ∷ Advance n ∷ [])

two_cpus_switches : (two_cpus 5).switches
    ≡ switch 0 0 None Running (Some 2) ∷ switch 0 1 None Running (Some 1)
    ∷ switch 4 0 (Some 2) Sleeping None ∷ switch 4 1 (Some 1) Sleeping (Some 3) ∷ []
two_cpus_switches = refl
