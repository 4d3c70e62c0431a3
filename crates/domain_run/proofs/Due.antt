-- Which tasks are due, and what parts 1 to 3 do to the others: nothing.
use Rattle.std.proofs.Common.{◌≡◌, ℕ, zero, suc, ◌+◌, ◌-◌, ◌^◌, ◌<◌, ◌≤◌, min, true, false, cond, ◌&&◌, Option, Some, None, List, [], ◌∷◌, ◌++◌, length, map, get_or, set, take, drop, length-append, refl, sym, ap, subst, ◌∙◌, arith}
use Rattle.std.specs.Prelude.{All, filter}
use Rattle.std.proofs.lemmas.Bool.{lt-leb}
use Rattle.std.proofs.lemmas.List.{get_or-map, get_or_default, get_or-set_same, set-get_or, set-set, length-set, length-map, length-take, length-drop}
use Rattle.std.proofs.lemmas.List.Elements.{All-cons, All-weaker}
use Rattle.std.proofs.lemmas.List.Edits.{map_over_more}
use Rattle.domain_run.specs.declared.task.Task.{Task}
use Rattle.domain_run.specs.declared.task.Condition.{Condition}
use Rattle.domain_run.specs.declared.task.Condition.TheVariants.{Ready, Throttled, Blocked, Waiting, Leaving}
use Rattle.domain_run.specs.Conditions.{is_throttled, is_over, has_come}
use Rattle.domain_run.specs.Parts.{is_listed}
use Rattle.domain_run.specs.Tick.{prepared}
use Rattle.domain_run.specs.Jump.{replenished_at, asks_at, gone_at, ticks_to, ticks_to_due_of, ticks_to_due}
use Rattle.due_times.specs.Timers.{least, AreLater}
use Rattle.domain_run.specs.private.Timers.{due_moment, due_of, IsTimerStep, AreNotDue}
use Rattle.domain_run.proofs.Jumping.{IsStill, prepared_still, filter_whole}

-- ---- before its time nothing is to be done to a task

not_come : (time : ℕ) (moment : Option ℕ) → time < due_moment moment → has_come time moment ≡ false
not_come time None h = refl
not_come time (Some u) h = lt-leb u time (omega (arith, h))

pub still_at : (time : ℕ) (t : Task) → time < due_of t → IsStill time t
still_at time t h =
    let a : time < due_moment (replenished_at t) = omega (arith, h) in
    let b : time < due_moment t.zero_lag = omega (arith, h) in
    let c : time < due_moment (asks_at t.condition) = omega (arith, h) in
    let e : time < due_moment (gone_at t) = omega (arith, h) in
    record {
      due = elim (is_throttled t.condition) as (λ x. time < due_moment (cond x t.server.deadline None) → (x && has_come time t.server.deadline) ≡ false) [
        | true ↦ λ k. not_come time t.server.deadline k
        | false ↦ λ k. refl
      ] a;
      lag = not_come time t.zero_lag b;
      listed = elim (is_listed t) as (λ x. time < due_moment (cond x None (Some 0)) → x ≡ true) [ true ↦ λ k. refl | false ↦ λ k. absurd (omega (arith, k)) ] e;
      over = asks t.condition c;
    }
  where
    asks : (k : Condition) → time < due_moment (asks_at k) → is_over time k ≡ false
    asks Ready h = refl
    asks Throttled h = refl
    asks (Blocked u) h = not_come time (Some u) h
    asks Waiting h = refl
    asks Leaving h = refl

least_each : (time : ℕ) (tasks : List Task) → time < least (map due_of tasks) → All (λ t. time < due_of t) tasks
least_each time [] h = λ k d within. absurd (omega (arith, within))
least_each time (t ∷ tasks) h = All-cons (λ u. time < due_of u) t tasks (omega (arith, h)) (least_each time tasks (omega (arith, h)))

pub still_each : (time : ℕ) (tasks : List Task) → time < least (map due_of tasks) → All (IsStill time) tasks
still_each time tasks h = All-weaker (λ t. time < due_of t) (IsStill time) (λ t k. still_at time t k) tasks (least_each time tasks h)

-- no task is due
pub none_due : (time : ℕ) (tasks : List Task) → time < least (map due_of tasks) → prepared time tasks ≡ tasks
none_due time tasks h = prepared_still time tasks (still_each time tasks h)

-- no task has left
pub none_gone : (tasks : List Task) → 0 < least (map due_of tasks) → filter is_listed tasks ≡ tasks
none_gone tasks h = filter_whole is_listed tasks (λ k d within. (still_each 0 tasks h k d within).listed)

-- ---- the ticks to the first time

min_each : (k a b : ℕ) → min k (min a b) ≡ min (min k a) (min k b)
min_each k a b = omega arith

min_less : (x y t : ℕ) → min x y - t ≡ min (x - t) (y - t)
min_less x y t = omega arith

either : (k t a b x y : ℕ) → min k a ≡ min k (x - t) → min k b ≡ min k (y - t) → min k (min a b) ≡ min k (min x y - t)
either k t a b x y p q = min_each k a b ∙ (λ i. min (p i) (q i)) ∙ sym (min_each k (x - t) (y - t)) ∙ ap (λ n. min k n) (sym (min_less x y t))

ticks_due : (time : ℕ) (moment : Option ℕ) → time ≤ 2 ^ 42 → min (2 ^ 42 - 1) (ticks_to time moment) ≡ min (2 ^ 42 - 1) (due_moment moment - time)
ticks_due time None early = omega (arith, early)
ticks_due time (Some u) early = refl

rest_due : (time : ℕ) (t : Task) → time ≤ 2 ^ 42 → min (2 ^ 42 - 1) (ticks_to_due_of time t) ≡ min (2 ^ 42 - 1) (due_of t - time)
rest_due time t early =
    let a = replenished_at t in
    let c = asks_at t.condition in
    let e = gone_at t in
    either (2 ^ 42 - 1) time (min (ticks_to time a) (ticks_to time t.zero_lag)) (min (ticks_to time c) (ticks_to time e)) (min (due_moment a) (due_moment t.zero_lag)) (min (due_moment c) (due_moment e))
    (either (2 ^ 42 - 1) time (ticks_to time a) (ticks_to time t.zero_lag) (due_moment a) (due_moment t.zero_lag) (ticks_due time a early) (ticks_due time t.zero_lag early))
    (either (2 ^ 42 - 1) time (ticks_to time c) (ticks_to time e) (due_moment c) (due_moment e) (ticks_due time c early) (ticks_due time e early))

rest_capped : (time : ℕ) (tasks : List Task) → time ≤ 2 ^ 42 → min (2 ^ 42 - 1) (ticks_to_due time tasks) ≡ min (2 ^ 42 - 1) (least (map due_of tasks) - time)
rest_capped time [] early = omega (arith, early)
rest_capped time (t ∷ tasks) early = either (2 ^ 42 - 1) time (ticks_to_due_of time t) (ticks_to_due time tasks) (due_of t) (least (map due_of tasks)) (rest_due time t early) (rest_capped time tasks early)

rest_most : (time : ℕ) (tasks : List Task) → ticks_to_due time tasks ≤ 2 ^ 42 - 1
rest_most time [] = omega arith
rest_most time (t ∷ tasks) = omega (arith, rest_most time tasks)

pub rest_least : (time : ℕ) (tasks : List Task) → time ≤ 2 ^ 42 → min (least (map due_of tasks) - time) (2 ^ 42 - 1) ≡ ticks_to_due time tasks
rest_least time tasks early = omega (arith, rest_capped time tasks early, rest_most time tasks)

-- ---- ONE PLACE, where its task is due

pub step_is : (tasks : List Task) (p : ℕ) (x y : Task) (f : Task → Task) → p < length tasks → x ≡ get_or tasks p x → y ≡ f x → IsTimerStep f p tasks (set tasks p y)
step_is tasks p x y f h read is = record { is = λ d. ap (set tasks p) (is ∙ ap f (read ∙ get_or_default tasks p x d h)) }

-- where it is not, nothing is to be done
pub step_none : (tasks : List Task) (p : ℕ) (f : Task → Task) → ((d : Task) → f (get_or tasks p d) ≡ get_or tasks p d) → IsTimerStep f p tasks tasks
step_none tasks p f still = record { is = λ d. sym (ap (set tasks p) (still d) ∙ set-get_or tasks p d) }

-- two changes of it, one after the other
pub step_then : (f g : Task → Task) (tasks mid new : List Task) (p : ℕ) → p < length tasks → IsTimerStep f p tasks mid → IsTimerStep g p mid new → IsTimerStep (λ t. g (f t)) p tasks new
step_then f g tasks mid new p h one two = record {
  is = λ d.
      two.is d
      ∙ (λ i. set (one.is d i) p (g (get_or (one.is d i) p d)))
      ∙ ap (λ t. set (set tasks p (f (get_or tasks p d))) p (g t)) (get_or-set_same tasks p (f (get_or tasks p d)) d h)
      ∙ set-set tasks p (f (get_or tasks p d)) (g (f (get_or tasks p d)));
}

-- ---- ALL PLACES one after another

pub some_task : (tasks : List Task) (p : ℕ) → p < length tasks → Task
some_task [] p h = absurd (omega (arith, h))
some_task (t ∷ tasks) p h = t

pub step_more : (f : Task → Task) (first now new : List Task) (p : ℕ) → p < length first → now ≡ map f (take p first) ++ drop p first → IsTimerStep f p now new → new ≡ map f (take (p + 1) first) ++ drop (p + 1) first
step_more f first now new p h written step =
    let d = some_task first p h in
    let within : p < length now = rw written (simp (length-append, length-map, length-take, length-drop) (omega (arith, h))) in
    step.is d ∙ map_over_more f first now p (get_or now p d) h written (get_or_default now p d (get_or now p d) within)

pub step_len : (f : Task → Task) (tasks new : List Task) (p : ℕ) → p < length tasks → IsTimerStep f p tasks new → length new ≡ length tasks
step_len f tasks new p h step =
    let d = some_task tasks p h in
    ap (λ (ts : List Task). length ts) (step.is d) ∙ length-set tasks p (f (get_or tasks p d))

-- ---- PLACES at which no task is due

-- a map that passes by the tasks that are not due
abbrev pub Passes : ℕ → (Task → Task) → Type 0
Passes time f = (t : Task) → time < due_of t → f t ≡ t

-- as the timers tell it
pub none_due_at : (time from to : ℕ) (times : List ℕ) (tasks : List Task) → times ≡ map due_of tasks → AreLater times time from to → AreNotDue tasks time from to
none_due_at time from to times tasks is later place d a b within =
    let len : length (map due_of tasks) ≡ length tasks = simp length-map in
    let many : length times ≡ length tasks = ap (λ (ns : List ℕ). length ns) is ∙ len in
    let read : get_or times place 0 ≡ due_of (get_or tasks place d) = ap (λ (ns : List ℕ). get_or ns place 0) is ∙ get_or-map due_of tasks place d 0 within in
    subst (λ (n : ℕ). time < n) read (later place a b (omega (arith, within, many)))

-- they are passed by
pass_by : (f : Task → Task) (first now : List Task) (n p : ℕ) → p + n ≤ length first → now ≡ map f (take p first) ++ drop p first → ((q : ℕ) (d : Task) → p ≤ q → q < p + n → f (get_or now q d) ≡ get_or now q d) → now ≡ map f (take (p + n) first) ++ drop (p + n) first
pass_by f first now zero p h written still = subst (λ m. now ≡ map f (take m first) ++ drop m first) (omega arith) written
pass_by f first now (suc n) p h written still =
    let here = step_more f first now now p (omega (arith, h)) written (step_none now p f (λ d. still p d (omega arith) (omega arith))) in
    subst (λ m. now ≡ map f (take m first) ++ drop m first) (omega arith)
    (pass_by f first now n (p + 1) (omega (arith, h)) here (λ q d a b. still q d (omega (arith, a)) (omega (arith, b))))

pub step_by : (time : ℕ) (f : Task → Task) (first now : List Task) (p r : ℕ) → Passes time f → p ≤ r → r ≤ length first → length now ≡ length first → AreNotDue now time p r → now ≡ map f (take p first) ++ drop p first → now ≡ map f (take r first) ++ drop r first
step_by time f first now p r passes from most same later written =
    let whole : p + (r - p) ≡ r = omega (arith, from) in
    subst (λ m. now ≡ map f (take m first) ++ drop m first) whole
    (pass_by f first now (r - p) p (omega (arith, whole, most)) written (λ q d a b. passes (get_or now q d) (later q d a (omega (arith, b, whole)) (omega (arith, b, whole, most, same)))))
