-- How much the run of a section tells at most: 768 things where a tick begins, of at most 256
-- tasks, and 192 where it ends, of those on at most 64 CPUs.
use Rattle.std.proofs.Common.{◌≡◌, ◌≢◌, ℕ, zero, suc, ◌+◌, ◌-◌, ◌*◌, ◌^◌, ◌<◌, ◌≤◌, Bool, true, false, cond, eqb, leb, ltb, ◌&&◌, ◌||◌, Option, Some, None, List, [], ◌∷◌, length, map, filter, position, refl, sym, ap, ◌∙◌, length-append, arith}
use Rattle.std.specs.Prelude.{All}
use Rattle.std.specs.List.{flat_map, list_any}
use Rattle.std.proofs.lemmas.Bool.{eqb-true, ne_eqb, leb-false}
use Rattle.std.proofs.lemmas.List.{length-map, length_push}
use Rattle.std.proofs.lemmas.List.Elements.{All-head, All-tail, All-weaker}
use Rattle.edf_pick.specs.Places.{Places, is_task, is_on_cpu}
use Rattle.domain_run.specs.declared.task.Task.{Task}
use Rattle.task_script.specs.declared.script.Segment.{Segment}
use Rattle.task_script.specs.declared.script.Segment.TheVariants.{Run as RunFor, Until, Wait as WaitFor, End as EndNow}
use Rattle.task_script.specs.script.Segments.{passes_late_timer, next_segment}
use Rattle.domain_run.specs.declared.happened.What.TheVariants.{JobEnds, NextReleased, Spent, Replenished, WokenSpent}
use Rattle.domain_run.specs.declared.happened.Happened.{Happened}
use Rattle.domain_run.specs.declared.call.Call.{Call}
use Rattle.domain_run.specs.declared.call.Call.TheVariants.{Admit, Regrade, Wake, Leave, Advance, Limit, Depart, Arrive}
use Rattle.attr_check.specs.ParamsView.{ParamsView}
use Rattle.attr_check.specs.Ratio.{cap}
use Rattle.domain_run.specs.declared.call.Reply.TheVariants.{Admitted, Full, Twice, Busy}
use Rattle.domain_run.specs.Conditions.{is_throttled, is_over, has_come}
use Rattle.domain_run.specs.Parts.{replenish_due, settled, is_listed, unblocked, with_cpu, with_last_cpu, ran}
use Rattle.domain_run.specs.Domain.{Domain, empty_domain}
use Rattle.domain_run.specs.Tick.{sum_of, candidates, prepared, with_tick_begun, rate_of, ticks}
use Rattle.domain_run.specs.Calls.{admit_reply, new_task, with_task_listed, of_number, with_task_changed, with_new_params, blocked_until, ended_at, is_other, reply_to, is_refusal, after_granted, after_call}
use Rattle.domain_run.specs.Run.{after_calls}
use Rattle.domain_run.specs.Happened.{happened_to, due, job_due, logged_by_segment, logged_by_work, logged_by_budget, logged_by_run, logged_if_ran, logged_by_replenishment, logged_by_wake, logged_by_unblocking, with_its_cpu, logged_to_begin, logged_by_beginning, logged_by_end, logged_by_tick, logged_by_ticks, logged_by_call}
use Rattle.domain_run.proofs.CallerLemmas.{AreNumbered, HasKnown, has_call, has_opened, call_cpus, call_time, ticks_few, ticks_cpus, length-in_order, placed_is, prepared_apart, AllPairs-map, pairs_first, pairs_rest}
use Rattle.calls_text.specs.SectionView.{SectionView}
use Rattle.calls_text.specs.Limits.{IsSection}
use Rattle.switch_text.specs.LoggedLine.{has_line}
use Rattle.calls_trace.specs.Replay.{calls_in_section}
use Rattle.calls_trace.specs.DomainEvents.{logged_of}
use Rattle.calls_trace.specs.private.Calls.{ticks_given}
use Rattle.calls_trace.specs.private.LoggedSoFar.{with_lines, lines_logged_by}
use Rattle.calls_trace.proofs.Ready.{same_ticks}
use Rattle.calls_trace.proofs.LoggedLines.{section_time}
use Rattle.calls_trace.proofs.LoggedSoFar.{call_silent, lines_cons}

fewer : {X : Type 0} (p : X → Bool) (xs : List X) → length (filter p xs) ≤ length xs
fewer p [] = omega arith
fewer p (x ∷ xs) = elim (p x) as (λ b. length (cond b (x ∷ filter p xs) (filter p xs)) ≤ length (x ∷ xs)) [
  | true ↦ omega (arith, fewer p xs)
  | false ↦ omega (arith, fewer p xs)
]

if_few : (n : ℕ) (b : Bool) (hs : List Happened) → length hs ≤ n → length (cond b hs []) ≤ n
if_few n true hs few = few
if_few n false hs few = omega arith

each_few : (n : ℕ) (f : Task → List Happened) (tasks : List Task) → ((t : Task) → length (f t) ≤ n) → length (flat_map f tasks) ≤ n * length tasks
each_few n f [] few = omega arith
each_few n f (t ∷ tasks) few = omega (arith, length-append (f t) (flat_map f tasks), few t, each_few n f tasks few)

-- ---- WHERE A TICK BEGINS

replenishment_few : (time : ℕ) (t : Task) → length (logged_by_replenishment time t) ≤ 1
replenishment_few time t =
    if_few 1 (is_throttled t.condition && has_come time t.server.deadline) (happened_to time t (Replenished (due (replenish_due time t))) ∷ []) (omega arith)

wake_few : (time : ℕ) (t woken : Task) (s : Segment) → length (logged_by_wake time t woken s) ≤ 2
wake_few time t woken (RunFor n) =
    let spent = if_few 1 (is_throttled woken.condition) (happened_to time t (WokenSpent (due woken)) ∷ []) (omega arith) in
    omega (arith, spent)
wake_few time t woken (Until n) = omega arith
wake_few time t woken WaitFor = omega arith
wake_few time t woken EndNow = omega arith

unblocking_few : (time : ℕ) (t : Task) → length (logged_by_unblocking time t) ≤ 2
unblocking_few time t =
    if_few 2 (is_over time t.condition) (logged_by_wake time t (unblocked time t) (next_segment t.cursor time).segment) (wake_few time t (unblocked time t) (next_segment t.cursor time).segment)

left_few : (time : ℕ) (tasks : List Task) → length (filter is_listed (map (settled time) (map (replenish_due time) tasks))) ≤ length tasks
left_few time tasks =
    omega (arith, fewer is_listed (map (settled time) (map (replenish_due time) tasks)), length-map (map (replenish_due time) tasks) (settled time), length-map tasks (replenish_due time))

beginning_few : (d : Domain) → length (logged_by_beginning d) ≤ 3 * length d.tasks
beginning_few d =
    let left = filter is_listed (map (settled d.time) (map (replenish_due d.time) d.tasks)) in
    let first = flat_map (logged_by_replenishment d.time) d.tasks in
    let second = flat_map (logged_by_unblocking d.time) left in
    let home = with_its_cpu (with_tick_begun d).curr in
    let begins : length (logged_by_beginning d) ≡ length first + length second =
    omega (arith, length-in_order (map home (logged_to_begin d)), length-map (logged_to_begin d) home, length-append first second) in
    let one : length first ≤ 1 * length d.tasks = each_few 1 (logged_by_replenishment d.time) d.tasks (replenishment_few d.time) in
    let two : length second ≤ 2 * length left = each_few 2 (logged_by_unblocking d.time) left (unblocking_few d.time) in
    omega (arith, begins, one, two, left_few d.time d.tasks)

-- ---- WHERE IT ENDS: only those on CPUs tell something

segment_few : (time : ℕ) (t : Task) (late : Bool) (s : Segment) → length (logged_by_segment time t late s) ≤ 2
segment_few time t late (RunFor n) = if_few 2 late (happened_to time t JobEnds ∷ happened_to time t (NextReleased (job_due time t)) ∷ []) (omega arith)
segment_few time t late (Until n) = omega arith
segment_few time t late WaitFor = omega arith
segment_few time t late EndNow = omega arith

run_few : (time rate : ℕ) (t : Task) → length (logged_by_run time rate t) ≤ 3
run_few time rate t =
    let x : Task = record t { work = t.work - 1 } in
    let y : Task = ran time rate t in
    let late = passes_late_timer x.cursor (time + 1) in
    let s = (next_segment x.cursor (time + 1)).segment in
    let work : length (logged_by_work (time + 1) x) ≤ 2 = if_few 2 (eqb x.work 0) (logged_by_segment (time + 1) x late s) (segment_few (time + 1) x late s) in
    let budget : length (logged_by_budget (time + 1) y) ≤ 1 = if_few 1 (is_throttled y.condition) (happened_to (time + 1) y (Spent (due y)) ∷ []) (omega arith) in
    omega (arith, length-append (logged_by_work (time + 1) x) (logged_by_budget (time + 1) y), work, budget)

-- what those tasks log that pass a test
abbrev logged_of_those : (Task → Bool) → (Task → List Happened) → List Task → List Happened
logged_of_those p f tasks = flat_map (λ t. cond (p t) (f t) []) tasks

-- one test or another
either_cond : (a b : Bool) (hs : List Happened) → length (cond (a || b) hs []) ≤ length (cond a hs []) + length (cond b hs [])
either_cond true b hs = omega arith
either_cond false b hs = omega arith

either_few : (p q : Task → Bool) (f : Task → List Happened) (tasks : List Task) → length (logged_of_those (λ t. p t || q t) f tasks) ≤ length (logged_of_those p f tasks) + length (logged_of_those q f tasks)
either_few p q f [] = omega arith
either_few p q f (t ∷ tasks) =
    omega (
      arith,
      length-append (cond (p t || q t) (f t) []) (logged_of_those (λ u. p u || q u) f tasks),
      length-append (cond (p t) (f t) []) (logged_of_those p f tasks),
      length-append (cond (q t) (f t) []) (logged_of_those q f tasks),
      either_cond (p t) (q t) (f t),
      either_few p q f tasks,
    )

none_few : (p : Task → Bool) (f : Task → List Happened) (tasks : List Task) → All (λ t. p t ≡ false) tasks → length (logged_of_those p f tasks) ≤ 0
none_few p f [] none = omega arith
none_few p f (t ∷ tasks) none =
    let here = ap (λ (b : Bool). length (cond b (f t) [])) (All-head (λ u. p u ≡ false) t tasks none) in
    omega (arith, length-append (cond (p t) (f t) []) (logged_of_those p f tasks), here, none_few p f tasks (All-tail (λ u. p u ≡ false) t tasks none))

-- of one number is one task at most
one_few : (n : ℕ) (f : Task → List Happened) (tasks : List Task) → AreNumbered tasks → ((t : Task) → length (f t) ≤ 3) → length (logged_of_those (λ t. eqb n t.number) f tasks) ≤ 3
one_few n f [] numbered few = omega arith
one_few n f (t ∷ tasks) numbered few =
    elim (eqb n t.number) as (λ b. eqb n t.number ≡ b → length (logged_of_those (λ u. eqb n u.number) f (t ∷ tasks)) ≤ 3) [
      | true ↦ λ is.
          let same : n ≡ t.number = eqb-true n t.number is in
          let others : All (λ u. eqb n u.number ≡ false) tasks = All-weaker (λ (u : Task). t.number ≢ u.number) (λ u. eqb n u.number ≡ false) (λ u other. ne_eqb n u.number (λ e. other (sym same ∙ e))) tasks (pairs_first (λ (a b : Task). a.number ≢ b.number) t tasks numbered) in
          let here : length (cond (eqb n t.number) (f t) []) ≡ length (f t) = ap (λ (b : Bool). length (cond b (f t) [])) is in
          omega (arith, length-append (cond (eqb n t.number) (f t) []) (logged_of_those (λ u. eqb n u.number) f tasks), here, few t, none_few (λ u. eqb n u.number) f tasks others)
      | false ↦ λ is.
          let here : length (cond (eqb n t.number) (f t) []) ≡ 0 = ap (λ (b : Bool). length (cond b (f t) [])) is in
          omega (arith, length-append (cond (eqb n t.number) (f t) []) (logged_of_those (λ u. eqb n u.number) f tasks), here, one_few n f tasks (pairs_rest (λ (a b : Task). a.number ≢ b.number) t tasks numbered) few)
    ] refl

at_place_few : (o : Option ℕ) (f : Task → List Happened) (tasks : List Task) → AreNumbered tasks → ((t : Task) → length (f t) ≤ 3) → length (logged_of_those (λ t. is_task t.number o) f tasks) ≤ 3
at_place_few None f tasks numbered few = omega (arith, none_few (λ t. false) f tasks (λ i d within. refl))
at_place_few (Some n) f tasks numbered few = one_few n f tasks numbered few

running_few : (places : Places) (f : Task → List Happened) (tasks : List Task) → AreNumbered tasks → ((t : Task) → length (f t) ≤ 3) → length (logged_of_those (λ t. is_on_cpu t.number places) f tasks) ≤ 3 * length places
running_few [] f tasks numbered few = omega (arith, none_few (λ t. false) f tasks (λ i d within. refl))
running_few (o ∷ places) f tasks numbered few =
    omega (arith, either_few (λ t. is_task t.number o) (λ t. is_on_cpu t.number places) f tasks, at_place_few o f tasks numbered few, running_few places f tasks numbered few)

ending_few : (d : Domain) → AreNumbered d.tasks → length (logged_by_end d) ≤ 3 * length d.curr
ending_few d numbered =
    let ends : length (logged_by_end d) ≡ length (flat_map (logged_if_ran d) d.tasks) = length-in_order (flat_map (logged_if_ran d) d.tasks) in
    omega (arith, ends, running_few d.curr (λ t. logged_by_run d.time (rate_of d t) t) d.tasks numbered (λ t. run_few d.time (rate_of d t) t))

homed_number : (o : Option ℕ) (t : Task) → (with_cpu o t).number ≡ t.number
homed_number None t = refl
homed_number (Some cpu) t = refl

begun_numbered : (d : Domain) → AreNumbered d.tasks → AreNumbered (with_tick_begun d).tasks
begun_numbered d numbered =
    let places = (with_tick_begun d).curr in
    AllPairs-map (λ (a b : Task). a.number ≢ b.number) (with_last_cpu places) (λ a b other e. other (sym (homed_number (position (is_task a.number) places) a) ∙ e ∙ homed_number (position (is_task b.number) places) b)) (prepared d.time d.tasks) (prepared_apart d.time d.tasks numbered)

-- ---- A TICK, and ticks

-- what calls keep
record IsCounted (d : Domain) : Type 0 where
  known : HasKnown d
  most : d.cpus ≤ 64
  listed : length d.tasks ≤ 256

tick_few : (d : Domain) → IsCounted d → length (logged_by_tick d) ≤ 960
tick_few d is =
    let b = with_tick_begun d in
    let wide : length b.curr ≡ d.cpus = (placed_is d.cpus (candidates (prepared d.time d.tasks)) d.curr is.known.wide is.known.apart).wide in
    omega (arith, length-append (logged_by_beginning d) (logged_by_end b), beginning_few d, is.listed, ending_few b (begun_numbered d is.known.numbered), wide, is.most)

ticks_counted : (n : ℕ) (d : Domain) → IsCounted d → IsCounted (ticks n d)
ticks_counted n d is = record {
  known = has_call d (Advance n) is.known;
  most = omega (arith, ticks_cpus n d, is.most);
  listed = omega (arith, ticks_few n d, is.listed);
}

all_ticks_few : (n : ℕ) (d : Domain) → IsCounted d → length (logged_by_ticks n d) ≤ 960 * n
all_ticks_few zero d is = omega arith
all_ticks_few (suc n) d is =
    let e = ticks n d in
    omega (arith, length-append (logged_by_ticks n d) (logged_by_tick e), all_ticks_few n d is, tick_few e (ticks_counted n d is))

-- ---- CALLS

-- a task is admitted where there is room in the list
admitted_few : (a t c : Bool) (sum n : ℕ) → leb 256 n ≡ a → is_refusal (cond a Full (cond t Twice (cond c (Busy sum) Admitted))) ≡ false → n < 256
admitted_few true t c sum n is ok = absurd cc
admitted_few false t c sum n is ok = omega (arith, leb-false 256 n is)

listed_more : (d : Domain) (number : ℕ) (params : ParamsView) (t : Task) → is_refusal (admit_reply d number params) ≡ false → length (with_task_listed d t).tasks ≤ 256
listed_more d number params t ok =
    let room = admitted_few (leb 256 (length d.tasks)) (list_any (λ n. eqb n number) d.used) (ltb (cap d.cpus d.limit) (sum_of d.tasks + params.bw)) (sum_of d.tasks) (length d.tasks) refl ok in
    omega (arith, room, length_push d.tasks t)

listed_changed : (d : Domain) (number : ℕ) (f : Task → Task) → length d.tasks ≤ 256 → length (with_task_changed d number f).tasks ≤ 256
listed_changed d number f few = omega (arith, few, length-map d.tasks (of_number number f))

listed_granted : (d : Domain) (c : Call) → is_refusal (reply_to d c) ≡ false → length d.tasks ≤ 256 → length (after_granted d c).tasks ≤ 256
listed_granted d (Admit number name params delay script) ok few = listed_more d number params (new_task d number name params delay script) ok
listed_granted d (Regrade number params word) ok few = listed_changed d number (with_new_params params) few
listed_granted d (Wake number) ok few = listed_changed d number (blocked_until d.time) few
listed_granted d (Leave number) ok few = listed_changed d number (ended_at d.time) few
listed_granted d (Advance n) ok few = omega (arith, ticks_few n d, few)
listed_granted d (Limit limit word) ok few = few
listed_granted d (Depart number) ok few = omega (arith, fewer (is_other number) d.tasks, few)
listed_granted d (Arrive number name params script) ok few = listed_more d number params (new_task d number name params 0 script) ok

either_listed : (b : Bool) (d e : Domain) → length d.tasks ≤ 256 → (b ≡ false → length e.tasks ≤ 256) → length (cond b d e).tasks ≤ 256
either_listed true d e few more = few
either_listed false d e few more = more refl

call_counted : (d : Domain) (c : Call) → IsCounted d → IsCounted (after_call d c)
call_counted d c is = record {
  known = has_call d c is.known;
  most = omega (arith, call_cpus d c, is.most);
  listed = either_listed (is_refusal (reply_to d c)) d (after_granted d c) is.listed (λ ok. listed_granted d c ok is.listed);
}

silent_few : (d : Domain) (c : Call) → ticks_given c ≡ 0 → length (with_lines (logged_by_call d c)) ≤ 960 * ticks_given c
silent_few d c none = let silent = ap (λ (hs : List Happened). length hs) (call_silent d c none) in omega (arith, silent)

call_few : (d : Domain) (c : Call) → IsCounted d → length (with_lines (logged_by_call d c)) ≤ 960 * ticks_given c
call_few d (Admit number name params delay script) is = silent_few d (Admit number name params delay script) refl
call_few d (Regrade number params word) is = silent_few d (Regrade number params word) refl
call_few d (Wake number) is = silent_few d (Wake number) refl
call_few d (Leave number) is = silent_few d (Leave number) refl
call_few d (Advance n) is = omega (arith, fewer (λ h. has_line h.what) (logged_by_ticks n d), all_ticks_few n d is)
call_few d (Limit limit word) is = silent_few d (Limit limit word) refl
call_few d (Depart number) is = silent_few d (Depart number) refl
call_few d (Arrive number name params script) is = silent_few d (Arrive number name params script) refl

calls_few : (d : Domain) (cs : List Call) → IsCounted d → length (lines_logged_by d cs) + 960 * d.time ≤ 960 * (after_calls d cs).time
calls_few d [] is = omega arith
calls_few d (c ∷ cs) is =
    let e = after_call d c in
    let parts = ap (λ (hs : List Happened). length hs) (lines_cons d c cs) in
    omega (arith, parts, length-append (with_lines (logged_by_call d c)) (lines_logged_by e cs), call_few d c is, calls_few e cs (call_counted d c is), call_time d c, same_ticks c)

-- what has a line of what the run of a section logs
pub section_logged_few : (s : SectionView) → IsSection s → length (with_lines (logged_of s)) ≤ 960 * (2 ^ 42 - 1)
section_logged_few s is =
    let all = calls_few (empty_domain s.cpus s.limit) (calls_in_section s) (record { known = has_opened s.cpus s.limit is.some_cpus; most = is.most_cpus; listed = omega arith }) in
    omega (arith, all, section_time s is)
