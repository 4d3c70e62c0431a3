-- Worked rows of what happens: one for each kind, and for their order.
use Rattle.std.specs.Prelude.{ℕ, ◌≡◌, List, [], ◌∷◌, None, refl}
use Rattle.task_script.specs.declared.phase.Event.TheVariants.{Run, Sleep, Timer}
use Rattle.domain_run.specs.declared.happened.What.{What}
use Rattle.domain_run.specs.declared.happened.What.TheVariants.{JobEnds, NextReleased, Spent, Cut, Replenished, Released, WokenSpent}
use Rattle.domain_run.specs.declared.happened.Happened.{Happened}
use Rattle.domain_run.specs.declared.call.Call.{Call}
use Rattle.domain_run.specs.declared.call.Call.TheVariants.{Leave, Advance, Regrade}
use Rattle.domain_run.specs.Domain.{empty_domain}
use Rattle.domain_run.specs.Happened.{logged_by_calls}
use Rattle.domain_run.specs.examples.Calling.{plain, admit}
use Rattle.task_script.specs.Examples.{once, forever}

-- to which task on which CPU, at a time
abbrev at : ℕ → ℕ → ℕ → What → Happened
at time number cpu what = record { time = time; what = what; number = number; cpu = cpu }

abbrev logged_on : ℕ → List Call → List Happened
logged_on cpus calls = logged_by_calls (empty_domain cpus 1048576) calls

-- THROTTLED INSIDE A JOB: 2 us in each 5, and 4 us of work. Its end ends the job
throttled : logged_on 1 (admit 1 (plain 2 5 5) (once (Run 4 ∷ [])) ∷ Advance 11 ∷ [])
    ≡ at 0 1 0 (Released 5) ∷ at 2 1 0 (Spent 5) ∷ at 5 1 0 (Replenished 10) ∷ at 7 1 0 JobEnds ∷ []
throttled = refl

-- A LATE TIMER: 6 us of work each 4 us, on a CPU of its own. The job ends late, and the next one is
-- released at once; the budget is spent with the work, so it is throttled then, with the deadline
-- 8, which has come: the next tick replenishes it
late : logged_on 1 (admit 1 (plain 6 8 8) (forever (Run 6 ∷ Timer 4 ∷ [])) ∷ Advance 9 ∷ [])
    ≡ at 0 1 0 (Released 8) ∷ at 6 1 0 JobEnds ∷ at 6 1 0 (NextReleased 14)
    ∷ at 6 1 0 (Spent 8) ∷ at 8 1 0 (Replenished 16) ∷ []
late = refl

-- MORE WORK AT ONCE ends no job
more_work : logged_on 1 (admit 1 (plain 4 9 9) (once (Run 1 ∷ Run 1 ∷ Sleep 1 ∷ Run 1 ∷ []))
    ∷ Advance 4 ∷ [])
    ≡ at 0 1 0 (Released 9) ∷ at 2 1 0 JobEnds ∷ at 3 1 0 (Released 12) ∷ at 4 1 0 JobEnds ∷ []
more_work = refl

-- WOKEN WITHOUT BUDGET: it blocks with nothing left at 2 and wakes at 3, before its deadline
woken_spent : logged_on 1 (admit 1 (plain 2 5 5) (once (Run 2 ∷ Sleep 1 ∷ Run 1 ∷ [])) ∷ Advance 6
    ∷ [])
    ≡ at 0 1 0 (Released 5) ∷ at 2 1 0 JobEnds ∷ at 3 1 0 (Released 8) ∷ at 3 1 0 (WokenSpent 5)
    ∷ at 5 1 0 (Replenished 10) ∷ at 6 1 0 JobEnds ∷ []
woken_spent = refl

-- A CALL CUTS: the leave at 2 of a task with work left; of one that has ended it is refused, and
-- logs nothing
cut : logged_on 1 (admit 1 (plain 4 8 8) (once (Run 100 ∷ [])) ∷ Advance 2 ∷ Leave 1 ∷ Leave 1
    ∷ Advance 2 ∷ [])
    ≡ at 0 1 0 (Released 8) ∷ at 2 1 0 Cut ∷ []
cut = refl

-- A REGRADE changes the deadline of the jobs to come, not of one that is released
regraded : logged_on 1 (admit 1 (plain 3 6 8) (once (Run 2 ∷ Sleep 2 ∷ Run 1 ∷ [])) ∷ Advance 1
    ∷ Regrade 1 (plain 3 8 8) None ∷ Advance 4 ∷ [])
    ≡ at 0 1 0 (Released 6) ∷ at 2 1 0 JobEnds ∷ at 4 1 0 (Released 12) ∷ at 5 1 0 JobEnds ∷ []
regraded = refl

-- THE ORDER at one time: by kind, then by CPU, then by number. Tasks 4 and 2 belong to CPU 0, task
-- 1 to CPU 1, and they are admitted in this order: 4, 1, 2
order : logged_on 2 (admit 4 (plain 2 9 9) (once (Run 1 ∷ []))
    ∷ admit 1 (plain 2 8 9) (once (Run 1 ∷ []))
    ∷ admit 2 (plain 2 7 9) (once (Run 3 ∷ [])) ∷ Advance 1 ∷ [])
    ≡ at 0 2 0 (Released 7) ∷ at 0 4 0 (Released 9) ∷ at 0 1 1 (Released 8) ∷ at 1 1 1 JobEnds ∷ []
order = refl

-- After THE PLACEMENT: CPU 1 is home to both, and task 1, which is due sooner, runs there; so task
-- 3 is released on CPU 0, where it is placed in the same tick, and before task 1
placed_elsewhere : logged_on 2 (admit 1 (plain 2 5 9) (once (Run 1 ∷ []))
    ∷ admit 3 (plain 3 9 9) (once (Run 2 ∷ [])) ∷ Advance 1 ∷ [])
    ≡ at 0 3 0 (Released 9) ∷ at 0 1 1 (Released 5) ∷ at 1 1 1 JobEnds ∷ []
placed_elsewhere = refl
