-- Worked rows of the promise.
use Rattle.std.specs.Prelude.{ℕ, ◌≡◌, ◌+◌, ◌*◌, pos, Bool, true, false, Option, List, [], ◌∷◌, Some, None, refl, sum_by, count_by}
use Rattle.cbs_rules.specs.declared.server.Server.{Server}
use Rattle.task_script.specs.declared.phase.Event.{Event}
use Rattle.task_script.specs.declared.phase.Event.TheVariants as event
use Rattle.task_script.specs.Examples.{once, forever}
use Rattle.domain_run.specs.declared.call.Call.{Call}
use Rattle.domain_run.specs.declared.task.Condition.TheVariants.{Ready, Blocked, Waiting, Leaving}
use Rattle.domain_run.specs.Tick.{ticks}
use Rattle.domain_run.specs.Run.{run_of}
use Rattle.domain_run.specs.examples.Calling.{plain, reclaiming, admit}
use Rattle.domain_run.specs.Domain.{Domain}
use Rattle.attr_check.specs.ParamsView.{ParamsView}
use Rattle.deadline_promise.specs.declared.demand.Demand.{Demand}
use Rattle.deadline_promise.specs.declared.answer.Promise.TheVariants as answer
use Rattle.deadline_promise.specs.Answer.{promise_to}
use Rattle.run_figures.specs.Jobs.{jobs_of}
use Rattle.run_figures.specs.Figures.{is_late}
use Rattle.deadline_promise.specs.Reach.{share_up, reach_in, reach}
use Rattle.deadline_promise.specs.KeptBudget.{work_from}
use Rattle.deadline_promise.specs.Promise.{due_left, logged_of_run}

-- HALF A CPU, rounded up
half : share_up (plain 4 8 8) ≡ 524289
half = refl

-- 2 us left, due at 8: nothing until 7, both until 8, and half of a CPU after that
abbrev two_left : Server
two_left = record { deadline = Some 8; left = pos 2097152 }

not_by_7 : reach_in 4 7 (plain 4 8 8) two_left Ready ≡ 0
not_by_7 = refl

by_8 : reach_in 4 8 (plain 4 8 8) two_left Ready ≡ 2097152
by_8 = refl

by_16 : reach_in 4 16 (plain 4 8 8) two_left Ready ≡ 2097152 + 8 * 524289
by_16 = refl

-- it rests: a wake at 4 would keep them, and one at 5 would give it 4 us, due at 13
kept_at_4 : reach_in 4 8 (plain 4 8 8) two_left Waiting ≡ 2097152
kept_at_4 = refl

renewed_at_5 : reach_in 5 12 (plain 4 8 8) two_left Waiting ≡ 0
renewed_at_5 = refl

by_13 : reach_in 5 13 (plain 4 8 8) two_left Waiting ≡ 4194304
by_13 = refl

-- one that was never awake is as one that is renewed, and one that leaves takes nothing
never_awake : reach_in 0 8 (plain 4 8 8) (record { deadline = None; left = pos 0 }) (Blocked 0)
    ≡ 4194304
never_awake = refl

leaves : reach_in 4 8 (plain 4 8 8) two_left Leaving ≡ 0
leaves = refl

-- THE STRETCH ACROSS THE END OF A ROUND: 4 us at its end, and 3 and 2 at the beginning of the next
abbrev across : List Event
across = event.Run 3 ∷ event.Run 2 ∷ event.Sleep 7 ∷ event.Run 4 ∷ []

within_the_round : work_from (forever across) 0 9 ≡ 5
within_the_round = refl

across_its_end : work_from (forever across) 3 9 ≡ 9
across_its_end = refl

to_the_end : work_from (once across) 3 9 ≡ 4
to_the_end = refl

-- A RUN of two tasks, which the second overruns: 3 us in each 8, of which it asks for 5
abbrev two : List Call
two =
    admit 1 (plain 3 8 8) (forever (event.Run 3 ∷ event.Timer 8 ∷ []))
    ∷ admit 2 (plain 3 8 8) (forever (event.Run 5 ∷ event.Timer 8 ∷ [])) ∷ []

abbrev late : ℕ → ℕ → List Call → ℕ → ℕ → ℕ
late cpus limit calls n number =
    count_by (is_late n) (jobs_of (logged_of_run cpus limit calls n) number)

-- until 8 both may take 3 us; after 2 ticks 1 us and 3 us are left, due at 8
reach_at_0 : sum_by (reach 0 8) (run_of 1 996147 two).tasks ≡ 6291456
reach_at_0 = refl

left_at_2 : sum_by (due_left 8) (ticks 2 (run_of 1 996147 two)).tasks ≡ 4194304
left_at_2 = refl

-- the first is never late, and the second is late by then
keeps : late 1 996147 two 17 1 ≡ 0
keeps = refl

overruns : late 1 996147 two 17 2 ≡ 1
overruns = refl

-- WITHOUT A PREMISE. Deadlines below the period: two tasks of 3 us, both due at 3
abbrev short_deadlines : List Call
short_deadlines =
    admit 1 (plain 3 3 8) (forever (event.Run 3 ∷ event.Timer 8 ∷ []))
    ∷ admit 2 (plain 3 3 8) (forever (event.Run 3 ∷ event.Timer 8 ∷ [])) ∷ []

late_by_3 : late 1 996147 short_deadlines 6 2 ≡ 1
late_by_3 = refl

-- two CPUs: two light tasks are due first, and keep a heavy one waiting
abbrev heavy : List Call
heavy =
    admit 1 (plain 2 10 10) (forever (event.Run 2 ∷ event.Timer 10 ∷ []))
    ∷ admit 2 (plain 2 10 10) (forever (event.Run 2 ∷ event.Timer 10 ∷ []))
    ∷ admit 3 (plain 10 11 11) (forever (event.Run 10 ∷ event.Timer 11 ∷ [])) ∷ []

late_on_two : late 2 996147 heavy 12 3 ≡ 1
late_on_two = refl

-- THE ANSWERS, by what a script asks for: of a task that is alone, and of one beside it that
-- reclaims, or has its deadline below its period
abbrev asks : Option ℕ → Option ℕ → Bool → Demand
asks work gap alike = record { work_max = work; gap_min = gap; alike = alike }

abbrev alone : Domain
alone = run_of 1 996147 (admit 1 (plain 3 8 8) (forever (event.Run 3 ∷ event.Timer 8 ∷ [])) ∷ [])

kept_answer : promise_to alone 1 (asks (Some 3) (Some 8) true) ≡ answer.NeverLate
kept_answer = refl

refused_answer : promise_to alone 2 (asks (Some 3) (Some 8) true) ≡ answer.Refused
refused_answer = refl

over_budget_answer : promise_to alone 1 (asks (Some 4) (Some 7) false) ≡ answer.OverBudget
over_budget_answer = refl

endless_work_answer : promise_to alone 1 (asks None None true) ≡ answer.OverBudget
endless_work_answer = refl

near_releases_answer : promise_to alone 1 (asks (Some 3) (Some 7) false) ≡ answer.NearReleases
near_releases_answer = refl

mixed_waits_answer : promise_to alone 1 (asks (Some 3) (Some 8) false) ≡ answer.MixedWaits
mixed_waits_answer = refl

-- no timer and no sleep
once_answer : promise_to alone 1 (asks (Some 3) None true) ≡ answer.NeverLate
once_answer = refl

abbrev beside : ParamsView → Domain
beside p =
    run_of 1 996147
    (admit 1 (plain 3 8 8) (forever (event.Run 3 ∷ event.Timer 8 ∷ []))
    ∷ admit 2 p (once (event.Run 2 ∷ [])) ∷ [])

reclaiming_answer : promise_to (beside (reclaiming 2 8 8)) 1 (asks (Some 3) (Some 8) true)
    ≡ answer.Reclaiming
reclaiming_answer = refl

short_deadline_answer : promise_to (beside (plain 2 7 8)) 1 (asks (Some 3) (Some 8) true)
    ≡ answer.ShortDeadline
short_deadline_answer = refl

several_cpus_answer : promise_to (run_of 2 996147 heavy) 3 (asks (Some 10) (Some 11) true)
    ≡ answer.SeveralCpus
several_cpus_answer = refl

-- the limit leaves no part of 2^20 for the one task, and one for it
abbrev limited : ℕ → Domain
limited limit =
    run_of 1 limit (admit 1 (plain 3 8 8) (forever (event.Run 3 ∷ event.Timer 8 ∷ [])) ∷ [])

full_limit_answer : promise_to (limited 1048576) 1 (asks (Some 3) (Some 8) true)
    ≡ answer.FullLimit
full_limit_answer = refl

just_below_answer : promise_to (limited 1048575) 1 (asks (Some 3) (Some 8) true)
    ≡ answer.NeverLate
just_below_answer = refl
