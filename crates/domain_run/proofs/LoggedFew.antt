-- How much ticks tell at most, and how many switches an event makes.
use Rattle.std.proofs.Common.{◌≡◌, ℕ, zero, suc, ◌+◌, ◌-◌, ◌*◌, ◌≤◌, Bool, true, false, cond, eqb, ◌&&◌, List, [], ◌∷◌, ◌++◌, length, map, arith, length-append}
use Rattle.std.specs.Prelude.{filter}
use Rattle.std.specs.List.{flat_map}
use Rattle.std.proofs.lemmas.List.{length-map}
use Rattle.cbs_rules.specs.Serving.{charged}
use Rattle.edf_pick.specs.Places.{Places, placed, is_on_cpu}
use Rattle.edf_pick.specs.Moves.{same_occupant}
use Rattle.domain_run.specs.declared.task.Task.{Task}
use Rattle.task_script.specs.declared.script.Segment.{Segment}
use Rattle.task_script.specs.declared.script.Segment.TheVariants.{Run as RunFor, Until, Wait as WaitFor, End as EndNow}
use Rattle.domain_run.specs.declared.happened.What.TheVariants.{JobEnds, NextReleased, Spent, Replenished, WokenSpent}
use Rattle.domain_run.specs.declared.happened.Happened.{Happened}
use Rattle.domain_run.specs.Switch.{Switch}
use Rattle.task_script.specs.script.Segments.{passes_late_timer, next_segment}
use Rattle.domain_run.specs.Conditions.{is_throttled, is_over, has_come}
use Rattle.domain_run.specs.Parts.{replenish_due, settled, is_listed, unblocked, with_last_cpu, ran}
use Rattle.domain_run.specs.Switches.{prev_state_of, switches_from}
use Rattle.domain_run.specs.Domain.{Domain}
use Rattle.domain_run.specs.Tick.{candidates, prepared, with_tick_begun, ran_if, rate_of, ticks}
use Rattle.domain_run.specs.Happened.{happened_to, due, job_due, logged_by_segment, logged_by_work, logged_by_budget, logged_by_run, logged_if_ran, logged_by_replenishment, logged_by_wake, logged_by_unblocking, with_its_cpu, logged_to_begin, logged_by_beginning, logged_by_end, logged_by_tick, logged_by_ticks, logged_by_last_end}
use Rattle.domain_run.proofs.LoggedSorted.{length-in_order}

-- ---- WHAT HAPPENS: three things at most of each task, at each step of a tick

if_few : (n : ℕ) (b : Bool) (hs : List Happened) → length hs ≤ n → length (cond b hs []) ≤ n
if_few n true hs few = few
if_few n false hs few = omega arith

each_few : (f : Task → List Happened) (tasks : List Task) → ((t : Task) → length (f t) ≤ 3) → length (flat_map f tasks) ≤ 3 * length tasks
each_few f [] few = omega arith
each_few f (t ∷ tasks) few = omega (arith, length-append (f t) (flat_map f tasks), few t, each_few f tasks few)

replenishment_few : (time : ℕ) (t : Task) → length (logged_by_replenishment time t) ≤ 3
replenishment_few time t =
    if_few 3 (is_throttled t.condition && has_come time t.server.deadline) (happened_to time t (Replenished (due (replenish_due time t))) ∷ []) (omega arith)

wake_few : (time : ℕ) (t woken : Task) (s : Segment) → length (logged_by_wake time t woken s) ≤ 3
wake_few time t woken (RunFor n) =
    let spent = if_few 1 (is_throttled woken.condition) (happened_to time t (WokenSpent (due woken)) ∷ []) (omega arith) in
    omega (arith, spent)
wake_few time t woken (Until n) = omega arith
wake_few time t woken WaitFor = omega arith
wake_few time t woken EndNow = omega arith

unblocking_few : (time : ℕ) (t : Task) → length (logged_by_unblocking time t) ≤ 3
unblocking_few time t =
    if_few 3 (is_over time t.condition) (logged_by_wake time t (unblocked time t) (next_segment t.cursor time).segment) (wake_few time t (unblocked time t) (next_segment t.cursor time).segment)

segment_few : (time : ℕ) (t : Task) (late : Bool) (s : Segment) → length (logged_by_segment time t late s) ≤ 2
segment_few time t late (RunFor n) = if_few 2 late (happened_to time t JobEnds ∷ happened_to time t (NextReleased (job_due time t)) ∷ []) (omega arith)
segment_few time t late (Until n) = omega arith
segment_few time t late WaitFor = omega arith
segment_few time t late EndNow = omega arith

run_few : (time rate : ℕ) (t : Task) → length (logged_by_run time rate t) ≤ 3
run_few time rate t =
    let x : Task = record t { server = charged rate 1 t.server; work = t.work - 1 } in
    let y : Task = ran time rate t in
    let late = passes_late_timer x.cursor (time + 1) in
    let s = (next_segment x.cursor (time + 1)).segment in
    let work : length (logged_by_work (time + 1) x) ≤ 2 = if_few 2 (eqb x.work 0) (logged_by_segment (time + 1) x late s) (segment_few (time + 1) x late s) in
    let budget : length (logged_by_budget (time + 1) y) ≤ 1 = if_few 1 (is_throttled y.condition) (happened_to (time + 1) y (Spent (due y)) ∷ []) (omega arith) in
    omega (arith, length-append (logged_by_work (time + 1) x) (logged_by_budget (time + 1) y), work, budget)

end_few : (d : Domain) (t : Task) → length (logged_if_ran d t) ≤ 3
end_few d t = if_few 3 (is_on_cpu t.number d.curr) (logged_by_run d.time (rate_of d t) t) (run_few d.time (rate_of d t) t)

-- ---- and the list of tasks gets no longer

fewer : (p : Task → Bool) (tasks : List Task) → length (filter p tasks) ≤ length tasks
fewer p [] = omega arith
fewer p (t ∷ tasks) = elim (p t) as (λ b. length (cond b (t ∷ filter p tasks) (filter p tasks)) ≤ length (t ∷ tasks)) [
  | true ↦ omega (arith, fewer p tasks)
  | false ↦ omega (arith, fewer p tasks)
]

left_few : (time : ℕ) (tasks : List Task) → length (filter is_listed (map (settled time) (map (replenish_due time) tasks))) ≤ length tasks
left_few time tasks =
    omega (arith, fewer is_listed (map (settled time) (map (replenish_due time) tasks)), length-map (map (replenish_due time) tasks) (settled time), length-map tasks (replenish_due time))

begun_few : (d : Domain) → length (with_tick_begun d).tasks ≤ length d.tasks
begun_few d =
    let left = filter is_listed (map (settled d.time) (map (replenish_due d.time) d.tasks)) in
    let tasks = prepared d.time d.tasks in
    let places = placed d.cpus (candidates tasks) d.curr in
    omega (arith, length-map tasks (with_last_cpu places), length-map left (unblocked d.time), left_few d.time d.tasks)

pub ticks_few : (n : ℕ) (d : Domain) → length (ticks n d).tasks ≤ length d.tasks
ticks_few zero d = omega arith
ticks_few (suc n) d =
    let e = ticks n d in
    omega (arith, length-map (with_tick_begun e).tasks (ran_if (with_tick_begun e)), begun_few e, ticks_few n d)

beginning_few : (d : Domain) → length (logged_by_beginning d) ≤ 6 * length d.tasks
beginning_few d =
    let left = filter is_listed (map (settled d.time) (map (replenish_due d.time) d.tasks)) in
    let first = flat_map (logged_by_replenishment d.time) d.tasks in
    let second = flat_map (logged_by_unblocking d.time) left in
    let home = with_its_cpu (with_tick_begun d).curr in
    let begins : length (logged_by_beginning d) ≡ length first + length second =
    omega (arith, length-in_order (map home (logged_to_begin d)), length-map (logged_to_begin d) home, length-append first second) in
    omega (arith, begins, each_few (logged_by_replenishment d.time) d.tasks (replenishment_few d.time), each_few (logged_by_unblocking d.time) left (unblocking_few d.time), left_few d.time d.tasks)

ending_few : (d : Domain) → length (logged_by_end d) ≤ 3 * length d.tasks
ending_few d =
    let ends : length (logged_by_end d) ≡ length (flat_map (logged_if_ran d) d.tasks) = length-in_order (flat_map (logged_if_ran d) d.tasks) in
    omega (arith, ends, each_few (logged_if_ran d) d.tasks (end_few d))

tick_few : (d : Domain) → length (logged_by_tick d) ≤ 9 * length d.tasks
tick_few d =
    let b = with_tick_begun d in
    omega (arith, length-append (logged_by_beginning d) (logged_by_end b), beginning_few d, ending_few b, begun_few d)

-- of at most 256 tasks
pub logged_few : (n : ℕ) (d : Domain) → length d.tasks ≤ 256 → length (logged_by_ticks n d) ≤ 2304 * n
logged_few zero d few = omega arith
logged_few (suc n) d few =
    let e = ticks n d in
    omega (arith, length-append (logged_by_ticks n d) (logged_by_tick e), logged_few n d few, tick_few e, ticks_few n d, few)

-- ---- AN EVENT: a tick begins, and the last of so many ends

pub event_few : (k : ℕ) (d : Domain) → length d.tasks ≤ 256 → length (logged_by_beginning d ++ logged_by_last_end k d) ≤ 2304
event_few k d few =
    let e = ticks (k - 1) d in
    let b = with_tick_begun e in
    omega (arith, length-append (logged_by_beginning d) (logged_by_end b), beginning_few d, ending_few b, begun_few e, ticks_few (k - 1) d, few)

-- it makes a switch of each CPU at most
switches_few : (time : ℕ) (tasks : List Task) (cpu : ℕ) (before after : Places) → length (switches_from time tasks cpu before after) ≤ length before
switches_few time tasks cpu [] after = omega arith
switches_few time tasks cpu (p ∷ before) [] = omega arith
switches_few time tasks cpu (p ∷ before) (n ∷ after) =
    let more = switches_from time tasks (cpu + 1) before after in
    let s : Switch = record { time = time; prev = p; next = n; cpu = cpu; state = prev_state_of tasks p } in
    let rest = switches_few time tasks (cpu + 1) before after in
    elim (same_occupant p n) as (λ b. length (cond b more (s ∷ more)) ≤ length (p ∷ before)) [
      | true ↦ omega (arith, rest)
      | false ↦ omega (arith, rest)
    ]

pub begun_switches : (d : Domain) → length (with_tick_begun d).switches ≤ length d.switches + length d.curr
begun_switches d =
    let tasks = prepared d.time d.tasks in
    let more = switches_from d.time tasks 0 d.curr (placed d.cpus (candidates tasks) d.curr) in
    omega (arith, length-append d.switches more, switches_few d.time tasks 0 d.curr (placed d.cpus (candidates tasks) d.curr))
