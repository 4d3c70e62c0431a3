-- Worked rows of the calls: replies, and what they leave.
use Rattle.std.specs.Prelude.{ℕ, pos, ◌≡◌, List, [], ◌∷◌, ◌++◌, Some, None, refl}
use Rattle.task_script.specs.declared.phase.Event.TheVariants as event
use Rattle.domain_run.specs.declared.switch.PrevState.TheVariants.{Running, Sleeping, Dead}
use Rattle.domain_run.specs.declared.call.Call.{Call}
use Rattle.domain_run.specs.declared.call.Call.TheVariants.{Regrade, Wake, Leave, Advance, Limit, Depart, Arrive}
use Rattle.domain_run.specs.declared.call.Reply.TheVariants.{Admitted, Changed, Woken, Left, Done, Set, Departed, Twice, Busy, NotListed, NotWaiting}
use Rattle.task_script.specs.script.ScriptView.{ScriptView}
use Rattle.domain_run.specs.Domain.{empty_domain}
use Rattle.domain_run.specs.Run.{run_of, replies_to}
use Rattle.domain_run.specs.examples.Calling.{plain, admit, switch, sum_after, server_in, zero_lag_in}
use Rattle.task_script.specs.Examples.{once, forever}

abbrev short : ScriptView
short = once (event.Run 1 ∷ [])

-- FULL DOMAIN AND NO BANDWIDTH: half a CPU may be given away. Where that is taken, a bandwidth of 0
-- still fits
abbrev full : List Call
full =
    admit 1 (plain 500 1000 1000) short ∷ admit 2 (plain 2 100 100) short
    ∷ admit 3 (plain 2 4000000 4000000) short ∷ []

full_replies : replies_to (empty_domain 1 524288) full ≡ Admitted ∷ Busy 524288 ∷ Admitted ∷ []
full_replies = refl

full_sum : sum_after (run_of 1 524288 full) ≡ 524288
full_sum = refl

-- ROUNDING DOWN ADMITS: three thirds, each rounded down, leave one unit
abbrev thirds : List Call
thirds =
    admit 1 (plain 10000 30000 30000) short ∷ admit 2 (plain 10000 30000 30000) short
    ∷ admit 3 (plain 10000 30000 30000) short
    ∷ admit 4 (plain 2 2000000 2000000) short ∷ admit 5 (plain 2 2000000 2000000) short ∷ []

thirds_replies : replies_to (empty_domain 1 1048576) thirds
    ≡ Admitted ∷ Admitted ∷ Admitted ∷ Admitted ∷ Busy 1048576 ∷ []
thirds_replies = refl

thirds_sum : sum_after (run_of 1 1048576 thirds) ≡ 1048576
thirds_sum = refl

-- a number that was admitted is refused before the bandwidth is looked at, also where its task is
-- gone
abbrev twice : List Call
twice =
    admit 1 (plain 1 2 2) short ∷ admit 1 (plain 2 2 2) short ∷ Advance 9
    ∷ admit 1 (plain 1 2 2) short ∷ []

twice_replies : replies_to (empty_domain 1 1048576) twice ≡ Admitted ∷ Twice ∷ Done 9 ∷ Twice ∷ []
twice_replies = refl

-- WAITING: the second wake finds it no longer waiting
abbrev waiting : List Call
waiting =
    admit 1 (plain 2 10 10) (forever (event.Wait ∷ event.Run 1 ∷ [])) ∷ Advance 3 ∷ Wake 1 ∷ Wake 1
    ∷ Wake 2 ∷ Advance 3 ∷ []

waiting_replies : replies_to (empty_domain 1 1048576) waiting
    ≡ Admitted ∷ Done 3 ∷ Woken ∷ NotWaiting ∷ NotListed ∷ Done 3 ∷ []
waiting_replies = refl

waiting_switches : (run_of 1 1048576 waiting).switches
    ≡ switch 3 0 None Running (Some 1) ∷ switch 4 0 (Some 1) Sleeping None ∷ []
waiting_switches = refl

waiting_zero_lag : zero_lag_in (run_of 1 1048576 waiting) 1 ≡ Some (Some 8)
waiting_zero_lag = refl

-- REGRADE: up to the cap, not above it
abbrev regrade : List Call
regrade =
    admit 1 (plain 2 8 8) short ∷ Regrade 1 (plain 4 8 8) None ∷ Regrade 1 (plain 5 8 8) None
    ∷ Regrade 7 (plain 2 8 8) None ∷ []

regrade_replies : replies_to (empty_domain 1 524288) regrade
    ≡ Admitted ∷ Changed ∷ Busy 524288 ∷ NotListed ∷ []
regrade_replies = refl

regrade_sum : sum_after (run_of 1 524288 regrade) ≡ 524288
regrade_sum = refl

-- the domain's bandwidth word refuses what the sum would allow, and nothing changes
regrade_by_the_word : replies_to (empty_domain 1 524288)
    (admit 1 (plain 2 8 8) short ∷ Regrade 1 (plain 4 8 8) (Some 393216) ∷ [])
    ≡ Admitted ∷ Busy 393216 ∷ []
regrade_by_the_word = refl

-- THE LIMIT: not below what the tasks have; then it holds for admissions, up and down
abbrev limits : List Call
limits =
    admit 1 (plain 2 8 8) short ∷ Limit 131072 None ∷ Limit 262144 None
    ∷ admit 2 (plain 2 8 8) short
    ∷ Limit 1048576 None ∷ admit 3 (plain 2 8 8) short ∷ []

limit_replies : replies_to (empty_domain 1 524288) limits
    ≡ Admitted ∷ Busy 262144 ∷ Set ∷ Busy 262144 ∷ Set ∷ Admitted ∷ []
limit_replies = refl

limit_sum : sum_after (run_of 1 524288 limits) ≡ 524288
limit_sum = refl

-- the domain's bandwidth word refuses what the sum would allow, and nothing changes
limit_by_the_word : replies_to (empty_domain 1 524288) (Limit 131072 (Some 262144) ∷ [])
    ≡ Busy 262144 ∷ []
limit_by_the_word = refl

-- LEAVING KEEPS BANDWIDTH UNTIL ZERO LAG: it ends at 2, with 2 us left of 4 in 8, so its zero-lag
-- time is 4
abbrev leaving : ℕ → List Call
leaving n =
    admit 1 (plain 4 8 8) (once (event.Run 100 ∷ [])) ∷ Advance 2 ∷ Leave 1 ∷ Leave 1 ∷ Advance n
    ∷ []

leaving_replies : replies_to (empty_domain 1 1048576) (leaving 2)
    ≡ Admitted ∷ Done 2 ∷ Left ∷ NotListed ∷ Done 2 ∷ []
leaving_replies = refl

leaving_switches : (run_of 1 1048576 (leaving 2)).switches
    ≡ switch 0 0 None Running (Some 1) ∷ switch 2 0 (Some 1) Dead None ∷ []
leaving_switches = refl

leaving_zero_lag : zero_lag_in (run_of 1 1048576 (leaving 2)) 1 ≡ Some (Some 4)
leaving_zero_lag = refl

leaving_sum_at_4 : sum_after (run_of 1 1048576 (leaving 2)) ≡ 524288
leaving_sum_at_4 = refl

leaving_sum_at_5 : sum_after (run_of 1 1048576 (leaving 3)) ≡ 0
leaving_sum_at_5 = refl

-- a sleeper that leaves keeps the zero-lag time that it has, which is 4 too, and is off the list
-- after it
abbrev sleeper : ℕ → List Call
sleeper n =
    admit 1 (plain 4 8 8) (forever (event.Run 2 ∷ event.Timer 100 ∷ [])) ∷ Advance 3 ∷ Leave 1
    ∷ Advance n ∷ []

sleeper_zero_lag : zero_lag_in (run_of 1 1048576 (sleeper 1)) 1 ≡ Some (Some 4)
sleeper_zero_lag = refl

sleeper_gone : zero_lag_in (run_of 1 1048576 (sleeper 2)) 1 ≡ None
sleeper_gone = refl

-- A TASK MOVES: it runs when it departs at 1, and is off the list at once, and its bandwidth with
-- it; its number does not come back. Where it arrives, at 5, it begins anew: its deadline is 13
abbrev goer : List Call
goer =
    admit 1 (plain 4 8 8) (forever (event.Run 2 ∷ event.Sleep 6 ∷ [])) ∷ Advance 1 ∷ Depart 1 ∷ []

goer_replies : replies_to (empty_domain 1 1048576)
    (goer ++ Depart 1 ∷ Advance 2 ∷ admit 1 (plain 4 8 8) short ∷ [])
    ≡ Admitted ∷ Done 1 ∷ Departed ∷ NotListed ∷ Done 2 ∷ Twice ∷ []
goer_replies = refl

goer_sum : sum_after (run_of 1 1048576 goer) ≡ 0
goer_sum = refl

goer_switches : (run_of 1 1048576 (goer ++ Advance 2 ∷ [])).switches
    ≡ switch 0 0 None Running (Some 1) ∷ switch 1 0 (Some 1) Dead None ∷ []
goer_switches = refl

abbrev comer : ℕ → List Call
comer n =
    Advance 5 ∷ Arrive 1 (84 ∷ []) (plain 4 8 8) (forever (event.Run 2 ∷ event.Sleep 6 ∷ []))
    ∷ Advance n ∷ []

comer_replies : replies_to (empty_domain 1 1048576) (comer 3) ≡ Done 5 ∷ Admitted ∷ Done 3 ∷ []
comer_replies = refl

comer_switches : (run_of 1 1048576 (comer 3)).switches
    ≡ switch 5 0 None Running (Some 1) ∷ switch 7 0 (Some 1) Sleeping None ∷ []
comer_switches = refl

comer_server : server_in (run_of 1 1048576 (comer 1)) 1
    ≡ Some (record { deadline = Some 13; left = pos 3145728 })
comer_server = refl
