-- What is logged of one task, where a tick begins and where it ends: each of it, by its place in
-- the order.
use Rattle.std.proofs.Common.{◌≡◌, ℕ, ◌+◌, ◌-◌, ◌<◌, Bool, true, false, cond, eqb, ◌&&◌, List, [], ◌∷◌, refl, arith}
use Rattle.std.specs.Prelude.{All}
use Rattle.std.specs.List.{flat_map}
use Rattle.std.proofs.lemmas.List.Elements.{All-nil, All-cons, All-head, All-tail, All-append}
use Rattle.cbs_rules.specs.Serving.{charged}
use Rattle.edf_pick.specs.Places.{is_on_cpu}
use Rattle.domain_run.specs.declared.task.Task.{Task}
use Rattle.task_script.specs.declared.script.Segment.{Segment}
use Rattle.task_script.specs.declared.script.Segment.TheVariants.{Run as RunFor, Until, Wait as WaitFor, End as EndNow}
use Rattle.domain_run.specs.declared.happened.What.{What}
use Rattle.domain_run.specs.declared.happened.What.TheVariants.{JobEnds, NextReleased, Spent, Replenished, Released, WokenSpent}
use Rattle.domain_run.specs.declared.happened.Happened.{Happened}
use Rattle.task_script.specs.script.Segments.{passes_late_timer, next_segment}
use Rattle.domain_run.specs.Conditions.{is_throttled, is_over, has_come}
use Rattle.domain_run.specs.Parts.{replenish_due, unblocked, ran}
use Rattle.domain_run.specs.Domain.{Domain}
use Rattle.domain_run.specs.Tick.{rate_of}
use Rattle.domain_run.specs.Happened.{happened_to, due, job_due, logged_by_segment, logged_by_work, logged_by_budget, logged_by_run, logged_if_ran, logged_by_replenishment, logged_by_wake, logged_by_unblocking, kind_rank, with_happened, in_order, is_first}
use Rattle.domain_run.proofs.Keeping.{Same, same_ran}

-- ---- each of a list

each_one : (P : Happened → Type 0) (h : Happened) → P h → All P (h ∷ [])
each_one P h p = All-cons P h [] p (All-nil P)

each_two : (P : Happened → Type 0) (h g : Happened) → P h → P g → All P (h ∷ g ∷ [])
each_two P h g p q = All-cons P h (g ∷ []) p (each_one P g q)

each_if : (P : Happened → Type 0) (b : Bool) (hs : List Happened) → All P hs → All P (cond b hs [])
each_if P true hs all = all
each_if P false hs all = All-nil P

-- in its place among others
each_with : (P : Happened → Type 0) (h : Happened) (hs : List Happened) → P h → All P hs → All P (with_happened h hs)
each_with P h [] p all = each_one P h p
each_with P h (o ∷ os) p all =
    let first : P o = All-head P o os all in
    let more : All P (with_happened h os) = each_with P h os p (All-tail P o os all) in
    elim (is_first h o) as (λ b. All P (cond b (h ∷ o ∷ os) (o ∷ with_happened h os))) [
      | true ↦ All-cons P h (o ∷ os) p all
      | false ↦ All-cons P o (with_happened h os) first more
    ]

pub each_placed : (P : Happened → Type 0) (h : Happened) (hs : List Happened) → P h → All P hs → All P (with_happened h hs)
each_placed P h hs p all = each_with P h hs p all

pub each_in_order : (P : Happened → Type 0) (hs : List Happened) → All P hs → All P (in_order hs)
each_in_order P [] all = All-nil P
each_in_order P (h ∷ hs) all = each_with P h (in_order hs) (All-head P h hs all) (each_in_order P hs (All-tail P h hs all))

-- of each task of a list
pub each_task : (Q : Task → Type 0) (P : Happened → Type 0) (f : Task → List Happened) (tasks : List Task) → ((t : Task) → Q t → All P (f t)) → All Q tasks → All P (flat_map f tasks)
each_task Q P f [] has_logged all = All-nil P
each_task Q P f (t ∷ tasks) has_logged all = All-append P (f t) (flat_map f tasks) (has_logged t (All-head Q t tasks all)) (each_task Q P f tasks has_logged (All-tail Q t tasks all))

-- ---- WHERE A TICK BEGINS

pub each_replenishment : (P : Happened → Type 0) (time : ℕ) (t : Task) → ((w : What) → kind_rank w ≡ 4 → P (happened_to time t w)) → All P (logged_by_replenishment time t)
each_replenishment P time t is =
    let w : What = Replenished (due (replenish_due time t)) in
    each_if P (is_throttled t.condition && has_come time t.server.deadline) (happened_to time t w ∷ []) (each_one P (happened_to time t w) (is w refl))

pub each_wake : (P : Happened → Type 0) (time : ℕ) (t woken : Task) (s : Segment) → ((w : What) → 4 < kind_rank w → P (happened_to time t w)) → All P (logged_by_wake time t woken s)
each_wake P time t woken (RunFor n) is =
    let v : What = Released (job_due time t) in
    let w : What = WokenSpent (due woken) in
    All-cons P (happened_to time t v) (cond (is_throttled woken.condition) (happened_to time t w ∷ []) []) (is v (omega arith)) (each_if P (is_throttled woken.condition) (happened_to time t w ∷ []) (each_one P (happened_to time t w) (is w (omega arith))))
each_wake P time t woken (Until n) is = All-nil P
each_wake P time t woken WaitFor is = All-nil P
each_wake P time t woken EndNow is = All-nil P

pub each_unblocking : (P : Happened → Type 0) (time : ℕ) (t : Task) → ((w : What) → 4 < kind_rank w → P (happened_to time t w)) → All P (logged_by_unblocking time t)
each_unblocking P time t is =
    each_if P (is_over time t.condition) (logged_by_wake time t (unblocked time t) (next_segment t.cursor time).segment) (each_wake P time t (unblocked time t) (next_segment t.cursor time).segment is)

-- ---- WHERE A TICK ENDS

pub each_segment : (P : Happened → Type 0) (time : ℕ) (t : Task) (late : Bool) (s : Segment) → ((w : What) → kind_rank w < 2 → P (happened_to time t w)) → All P (logged_by_segment time t late s)
each_segment P time t late (RunFor n) is =
    let w : What = NextReleased (job_due time t) in
    each_if P late (happened_to time t JobEnds ∷ happened_to time t w ∷ []) (each_two P (happened_to time t JobEnds) (happened_to time t w) (is JobEnds (omega arith)) (is w (omega arith)))
each_segment P time t late (Until n) is = each_one P (happened_to time t JobEnds) (is JobEnds (omega arith))
each_segment P time t late WaitFor is = each_one P (happened_to time t JobEnds) (is JobEnds (omega arith))
each_segment P time t late EndNow is = each_one P (happened_to time t JobEnds) (is JobEnds (omega arith))

pub each_work : (P : Happened → Type 0) (time : ℕ) (t : Task) → ((w : What) → kind_rank w < 2 → P (happened_to time t w)) → All P (logged_by_work time t)
each_work P time t is =
    let late = passes_late_timer t.cursor time in
    let s = (next_segment t.cursor time).segment in
    each_if P (eqb t.work 0) (logged_by_segment time t late s) (each_segment P time t late s is)

pub each_budget : (P : Happened → Type 0) (time : ℕ) (t : Task) → ((w : What) → kind_rank w ≡ 2 → P (happened_to time t w)) → All P (logged_by_budget time t)
each_budget P time t is =
    let w : What = Spent (due t) in
    each_if P (is_throttled t.condition) (happened_to time t w ∷ []) (each_one P (happened_to time t w) (is w refl))

-- of the same task, as far as who it is
pub each_run : (P : Happened → Type 0) (time rate : ℕ) (t : Task) → ((u : Task) → Same t u → (w : What) → kind_rank w < 3 → P (happened_to (time + 1) u w)) → All P (logged_by_run time rate t)
each_run P time rate t is =
    let x : Task = record t { server = charged rate 1 t.server; work = t.work - 1 } in
    let y : Task = ran time rate t in
    All-append P (logged_by_work (time + 1) x) (logged_by_budget (time + 1) y)
    (each_work P (time + 1) x (λ w low. is x (record { number = refl; params = refl; cpu = refl }) w (omega (arith, low))))
    (each_budget P (time + 1) y (λ w at. is y (same_ran time rate t) w (omega (arith, at))))

pub each_end : (P : Happened → Type 0) (d : Domain) (t : Task) → ((u : Task) → Same t u → (w : What) → kind_rank w < 3 → P (happened_to (d.time + 1) u w)) → All P (logged_if_ran d t)
each_end P d t is = each_if P (is_on_cpu t.number d.curr) (logged_by_run d.time (rate_of d t) t) (each_run P d.time (rate_of d t) t is)
