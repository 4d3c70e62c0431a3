-- Two shifts of a task may change places.
use Rattle.std.proofs.Common.{◌≡◌, ℕ, ◌+◌, ◌-◌, ◌*◌, Bool, true, false, Option, Some, None, refl, arith}
use Rattle.task_script.specs.script.ScriptView.{round_len}
use Rattle.domain_run.specs.declared.task.Task.{Task}
use Rattle.domain_run.specs.declared.task.Condition.{Condition}
use Rattle.domain_run.specs.declared.task.Condition.TheVariants.{Ready, Throttled, Blocked, Waiting, Leaving}
use Rattle.task_script.specs.script.Later.{has_timer, place_on, later_reference}
use Rattle.domain_run.specs.Later.{later, later_condition, later_task}
use Rattle.domain_run.specs.declared.pace.Pace.{Pace}
use Rattle.domain_run.specs.declared.pace.Pace.TheVariants.{Rests, Plays, Works}
use Rattle.domain_run.specs.Shift.{paced_task}
use Rattle.repeat_law.specs.Repeats.{many_paces}

option_swapped : (a b : ℕ) (o : Option ℕ) → later b (later a o) ≡ later a (later b o)
option_swapped a b None = refl
option_swapped a b (Some x) = let e : x + a + b ≡ x + b + a = omega arith in λ i. Some (e i)

condition_swapped : (a b : ℕ) (c : Condition) → later_condition b (later_condition a c) ≡ later_condition a (later_condition b c)
condition_swapped a b Ready = refl
condition_swapped a b Throttled = refl
condition_swapped a b (Blocked x) = let e : x + a + b ≡ x + b + a = omega arith in λ i. Blocked (e i)
condition_swapped a b Waiting = refl
condition_swapped a b Leaving = refl

reference_swapped : (a b : ℕ) (timed : Bool) (r : ℕ) → later_reference timed b (later_reference timed a r) ≡ later_reference timed a (later_reference timed b r)
reference_swapped a b true r = omega arith
reference_swapped a b false r = refl

place_swapped : (rounds : Option ℕ) (r x place : ℕ) → place_on rounds x (place_on rounds r place) ≡ place_on rounds r (place_on rounds x place)
place_swapped None r x place = refl
place_swapped (Some n) r x place = omega arith

task_swapped : (a b r x w u : ℕ) (t : Task) → later_task b x u (later_task a r w t) ≡ later_task a r w (later_task b x u t)
task_swapped a b r x w u t =
    let len = round_len t.cursor.script in
    let c = condition_swapped a b t.condition in
    let z = option_swapped a b t.zero_lag in
    let s = option_swapped a b t.server.deadline in
    let f = reference_swapped a b (has_timer t.cursor.script) t.cursor.reference in
    let p = place_swapped t.cursor.script.rounds (r * len) (x * len) t.cursor.place in
    let k : t.work - w - u ≡ t.work - u - w = omega arith in
    λ i. record t { condition = c i; work = k i; zero_lag = z i; server = record t.server { deadline = s i }; cursor = record t.cursor { place = p i; reference = f i } }

-- a task goes j periods on and then one, or one and then j
pub paced_swapped : (k j : ℕ) (p : Pace) (t : Task) → paced_task (j * k) (many_paces j p) (paced_task k p t) ≡ paced_task k p (paced_task (j * k) (many_paces j p) t)
paced_swapped k j Rests t = refl
paced_swapped k j (Plays r) t = task_swapped k (j * k) r (j * r) 0 0 t
paced_swapped k j (Works w) t = task_swapped k (j * k) 0 0 w (j * w) t

-- the number stays
pub number_stays : (k : ℕ) (p : Pace) (t : Task) → (paced_task k p t).number ≡ t.number
number_stays k Rests t = refl
number_stays k (Plays r) t = refl
number_stays k (Works w) t = refl
