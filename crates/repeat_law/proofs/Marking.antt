-- The marks of a task go at its pace.
use Rattle.std.proofs.Common.{◌≡◌, ℕ, zero, suc, ◌+◌, ◌-◌, ◌*◌, ◌<◌, ◌≤◌, Option, Some, None, refl, arith}
use Rattle.std.specs.Prelude.{is_some, IfSome}
use Rattle.std.proofs.Math.Nat.{add-mul, suc-mul}
use Rattle.std.proofs.lemmas.Nat.{mul-le}
use Rattle.task_script.specs.script.ScriptView.{round_len}
use Rattle.domain_run.specs.declared.task.Task.{Task}
use Rattle.domain_run.specs.declared.mark.TaskMark.{TaskMark}
use Rattle.domain_run.specs.declared.pace.Pace.{Pace}
use Rattle.domain_run.specs.declared.pace.Pace.TheVariants.{Rests, Plays, Works}
use Rattle.task_script.specs.script.Later.{later_reference, has_timer, place_on}
use Rattle.domain_run.specs.Later.{later_condition, later, later_server, later_task}
use Rattle.domain_run.specs.Shift.{paced_task, MayGo}
use Rattle.repeat_law.specs.Repeats.{many_paces}
use Rattle.domain_run.specs.Marks.{marked, round_on, later_mark, paced_mark}
use Rattle.repeat_law.specs.Marks.{MayBegin, begun_round, HasPeriods}

place_paced : (rounds : Option ℕ) (r round at step : ℕ) → round_on (is_some rounds) r at * round + step ≡ place_on rounds (r * round) (at * round + step)
place_paced None r round at step = refl
place_paced (Some n) r round at step = let both = add-mul at r round in omega (arith, both)

later_marked : (k r w : ℕ) (m : TaskMark) (t : Task) → marked (later_mark (is_some t.cursor.script.rounds) (has_timer t.cursor.script) k r w m) t ≡ later_task k r w (marked m t)
later_marked k r w m t =
    let p = place_paced t.cursor.script.rounds r (round_len t.cursor.script) m.round m.step in
    λ i. record t {
      cpu = m.cpu;
      condition = later_condition k m.condition;
      work = m.work - w;
      zero_lag = later k m.zero_lag;
      server = later_server k m.server;
      cursor = record t.cursor { place = p i; reference = later_reference (has_timer t.cursor.script) k m.reference };
    }

pub marks_paced : (k : ℕ) (p : Pace) (m : TaskMark) (t : Task) → marked (paced_mark (is_some t.cursor.script.rounds) (has_timer t.cursor.script) k p m) t ≡ paced_task k p (marked m t)
marks_paced k Rests m t = refl
marks_paced k (Plays r) m t = later_marked k r 0 m t
marks_paced k (Works w) m t = later_marked k 0 w m t

-- ---- what lasts

place_left : (n m r round at step : ℕ) → step < round → at + m * r + begun_round step ≤ n → at * round + step + m * r * round ≤ n * round
place_left n m r round at zero within h =
    let all = mul-le (at + m * r) round n round (omega (arith, h)) (omega arith) in
    let both = add-mul at (m * r) round in
    omega (arith, all, both)
place_left n m r round at (suc step) within h =
    let all = mul-le (suc (at + m * r)) round n round (omega (arith, h)) (omega arith) in
    let more = suc-mul (at + m * r) round in
    let both = add-mul at (m * r) round in
    omega (arith, all, more, both, within)

rounds_left : (m r round at step : ℕ) (rounds : Option ℕ) → step < round → IfSome rounds (λ n. at + m * r + begun_round step ≤ n) → IfSome rounds (λ n. at * round + step + m * r * round ≤ n * round)
rounds_left m r round at step None within h = tt
rounds_left m r round at step (Some n) within h = place_left n m r round at step within h

pub marks_go : (k m : ℕ) (p : Pace) (mark : TaskMark) (t : Task) → MayBegin k p mark → mark.step < round_len t.cursor.script → HasPeriods t.cursor.script.rounds m p mark → MayGo (many_paces m p) (marked mark t)
marks_go k m Rests mark t begins within h = record { waits = begins.0; idle = begins.1 }
marks_go k m (Plays r) mark t begins within h = λ some. rounds_left m r (round_len t.cursor.script) mark.round mark.step t.cursor.script.rounds within (h some)
marks_go k m (Works w) mark t begins within h = let long = begins.1 in (begins.0, omega (arith, h, long))
