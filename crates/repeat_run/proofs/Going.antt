-- What lasts for one period more may go on for a period, wherever it is.
use Rattle.std.proofs.Common.{◌≡◌, ℕ, suc, ◌+◌, ◌-◌, ◌*◌, ◌<◌, ◌≤◌, Option, Some, None, ap, arith}
use Rattle.std.specs.Prelude.{IfSome, IsTrue}
use Rattle.std.proofs.Math.Nat.{suc-mul, add-mul}
use Rattle.task_script.specs.script.ScriptView.{round_len}
use Rattle.domain_run.specs.declared.task.Task.{Task}
use Rattle.domain_run.specs.declared.task.Condition.{Condition}
use Rattle.domain_run.specs.declared.task.Condition.TheVariants.{Ready, Throttled, Blocked, Waiting, Leaving}
use Rattle.domain_run.specs.Conditions.{is_contending}
use Rattle.task_script.specs.script.Later.{place_on}
use Rattle.domain_run.specs.Later.{later_condition}
use Rattle.domain_run.specs.declared.pace.Pace.{Pace}
use Rattle.domain_run.specs.declared.pace.Pace.TheVariants.{Rests, Plays, Works}
use Rattle.domain_run.specs.Shift.{paced_task, MayGo}
use Rattle.repeat_law.specs.Repeats.{many_paces}

rounds_stay : (rounds : Option ℕ) (j r len place : ℕ) → IfSome rounds (λ n. place + (suc j * r) * len ≤ n * len) → IfSome rounds (λ n. place_on rounds ((j * r) * len) place + r * len ≤ n * len)
rounds_stay None j r len place h = tt
rounds_stay (Some n) j r len place h =
    let both = add-mul (j * r) r len in
    let same : (suc j * r) * len ≡ (j * r + r) * len = ap (λ (x : ℕ). x * len) (suc-mul j r) in
    omega (arith, h, same, both)

some_of_more : (j r : ℕ) → 0 < r → 0 < suc j * r
some_of_more j r some = let one = suc-mul j r in omega (arith, one, some)

pub contends_later : (k : ℕ) (c : Condition) → IsTrue (is_contending c) → IsTrue (is_contending (later_condition k c))
contends_later k Ready h = h
contends_later k Throttled h = h
contends_later k (Blocked u) h = h
contends_later k Waiting h = h
contends_later k Leaving h = h

work_stays : (j w work : ℕ) → suc j * w < work → w < work - j * w
work_stays j w work h = let one = suc-mul j w in omega (arith, one, h)

pub goes_again : (k j : ℕ) (p : Pace) (t : Task) → MayGo (many_paces (suc j) p) t → MayGo p (paced_task (j * k) (many_paces j p) t)
goes_again k j Rests t h = h
goes_again k j (Plays r) t h = λ some. rounds_stay t.cursor.script.rounds j r (round_len t.cursor.script) t.cursor.place (h (some_of_more j r some))
goes_again k j (Works w) t h = (contends_later (j * k) t.condition h.0, work_stays j w t.work h.1)
