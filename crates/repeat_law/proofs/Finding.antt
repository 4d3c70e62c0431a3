-- Two states whose marks agree up to a shift: the domain repeats.
use Rattle.std.proofs.Common.{◌≡◌, ℕ, zero, suc, ◌+◌, ◌≤◌, true, false, cond, ◌&&◌, eqb, Option, Some, None, List, [], ◌∷◌, length, map, refl, ap, sym, subst, ◌∙◌, arith}
use Rattle.std.specs.Prelude.{position}
use Rattle.cbs_rules.specs.declared.server.Server.{Server}
use Rattle.cbs_rules.specs.Serving.{replenished, woken, is_spent}
use Rattle.edf_pick.specs.Places.{is_task, is_on_cpu}
use Rattle.task_script.specs.declared.script.Segment.{Segment}
use Rattle.task_script.specs.declared.script.Segment.TheVariants.{Run as RunFor, Until, Wait as WaitFor, End}
use Rattle.task_script.specs.script.ScriptView.{ScriptView, CursorView}
use Rattle.task_script.specs.script.Segments.{next_segment}
use Rattle.domain_run.specs.declared.task.Task.{Task}
use Rattle.domain_run.specs.declared.task.Condition.TheVariants.{Ready, Throttled}
use Rattle.domain_run.specs.Conditions.{is_throttled, is_over, has_come}
use Rattle.domain_run.specs.Parts.{replenish_due, settled, enqueued, started, starts, unblocked, with_cpu, with_last_cpu, running_on, went_on, goes_on, ran}
use Rattle.domain_run.specs.Domain.{Domain}
use Rattle.domain_run.specs.Tick.{with_tick_begun, rate_of, ran_if, ticked, ticks}
use Rattle.domain_run.proofs.CallerLemmas.{ticks_time, ticks_cpus, ticks_limit}
use Rattle.domain_run.specs.declared.mark.TaskMark.{TaskMark}
use Rattle.domain_run.specs.Shift.{Shift, shifted_task}
use Rattle.repeat_law.specs.Repeats.{Repeats}
use Rattle.domain_run.specs.Marks.{marked, all_marked}
use Rattle.repeat_law.specs.Marks.{shifted_marks, IsSeenAgain}
use Rattle.repeat_law.proofs.Asking.{segment_script}
use Rattle.repeat_law.proofs.Paces.{charged_task}
use Rattle.repeat_law.proofs.Ticking.{left}
use Rattle.repeat_law.proofs.Lasting.{shorter_by, nobody_leaves}
use Rattle.repeat_law.proofs.Marking.{marks_paced}

-- ---- ticks change of a task what a mark keeps, and nothing else

module _ (m : TaskMark) where
  -- of a cursor only the script counts
  marked_script : (t : Task) (c : CursorView) → t.cursor.script ≡ c.script → marked m (record t { cursor = c }) ≡ marked m t
  marked_script t c same = sym (ap (λ (s : ScriptView). marked m (record t { cursor = record { script = s; place = 0; reference = 0 } })) same)

  marked_asked : (t : Task) (time : ℕ) → marked m (record t { cursor = (next_segment t.cursor time).cursor }) ≡ marked m t
  marked_asked t time = marked_script t (next_segment t.cursor time).cursor (segment_script t.cursor time)

  marked_replenished : (time : ℕ) (t : Task) → marked m (replenish_due time t) ≡ marked m t
  marked_replenished time t =
      let x : Task = record t { server = replenished t.params t.server; condition = Ready } in
      elim (is_throttled t.condition && has_come time t.server.deadline) as (λ b. marked m (cond b x t) ≡ marked m t) [ true ↦ refl | false ↦ refl ]

  marked_settled : (time : ℕ) (t : Task) → marked m (settled time t) ≡ marked m t
  marked_settled time t = elim (has_come time t.zero_lag) as (λ b. marked m (cond b (record t { zero_lag = None }) t) ≡ marked m t) [ true ↦ refl | false ↦ refl ]

  marked_enqueued : (time : ℕ) (s : Server) (t : Task) → marked m (enqueued time s t) ≡ marked m t
  marked_enqueued time s t =
      let x : Task = record t { server = replenished t.params s; condition = Ready } in
      let y : Task = record t { server = s; condition = Throttled } in
      let z : Task = record t { server = s; condition = Ready } in
      elim (is_spent s) as (λ a. marked m (cond a (cond (has_come time s.deadline) x y) z) ≡ marked m t) [
        | true ↦ elim (has_come time s.deadline) as (λ b. marked m (cond b x y) ≡ marked m t) [ true ↦ refl | false ↦ refl ]
        | false ↦ refl
      ]

  marked_started : (time : ℕ) (a : Segment) (t : Task) → marked m (started time a t) ≡ marked m t
  marked_started time (RunFor n) t = marked_enqueued time (woken t.params time t.server) (record t { zero_lag = None; work = n })
  marked_started time (Until u) t = refl
  marked_started time WaitFor t = refl
  marked_started time End t = refl

  marked_unblocked : (time : ℕ) (t : Task) → marked m (unblocked time t) ≡ marked m t
  marked_unblocked time t =
      let a = next_segment t.cursor time in
      elim (is_over time t.condition) as (λ b. marked m (cond b (starts time t a) t) ≡ marked m t) [
        | true ↦ marked_started time a.segment (record t { cursor = a.cursor }) ∙ marked_asked t time
        | false ↦ refl
      ]

  marked_homed : (o : Option ℕ) (t : Task) → marked m (with_cpu o t) ≡ marked m t
  marked_homed None t = refl
  marked_homed (Some cpu) t = refl

  marked_went_on : (time : ℕ) (a : Segment) (t : Task) → marked m (went_on time a t) ≡ marked m t
  marked_went_on time (RunFor n) t = refl
  marked_went_on time (Until u) t = refl
  marked_went_on time WaitFor t = refl
  marked_went_on time End t = refl

  marked_ran : (time rate : ℕ) (t : Task) → marked m (ran time rate t) ≡ marked m t
  marked_ran time rate t =
      let u = charged_task rate t in
      let a = next_segment t.cursor (time + 1) in
      elim (eqb u.work 0) as (λ b. marked m (cond b (goes_on (time + 1) u a) (running_on u)) ≡ marked m t) [
        | true ↦ marked_went_on (time + 1) a.segment (record u { cursor = a.cursor }) ∙ marked_asked t (time + 1)
        | false ↦ refl
      ]

  marked_ran_if : (d : Domain) (t : Task) → marked m (ran_if d t) ≡ marked m t
  marked_ran_if d t = elim (is_on_cpu t.number d.curr) as (λ b. marked m (cond b (ran d.time (rate_of d t) t) t) ≡ marked m t) [ true ↦ marked_ran d.time (rate_of d t) t | false ↦ refl ]

marked_map : (ms : List TaskMark) (f : Task → Task) → ((m : TaskMark) (t : Task) → marked m (f t) ≡ marked m t) → (ts : List Task) → all_marked ms (map f ts) ≡ all_marked ms ts
marked_map [] f same ts = refl
marked_map (m ∷ ms) f same [] = refl
marked_map (m ∷ ms) f same (t ∷ ts) = let a = same m t in let b = marked_map ms f same ts in λ i. a i ∷ b i

marked_ticked : (ms : List TaskMark) (d : Domain) → length d.tasks ≤ length (ticked d).tasks → all_marked ms (ticked d).tasks ≡ all_marked ms d.tasks
marked_ticked ms d long =
    let time = d.time in
    let e = with_tick_begun d in
    let one = map (replenish_due time) d.tasks in
    let awake = map (unblocked time) (left time d.tasks) in
    marked_map ms (ran_if e) (λ m t. marked_ran_if m e t) e.tasks
    ∙ marked_map ms (with_last_cpu e.curr) (λ m t. marked_homed m (position (is_task t.number) e.curr) t) awake
    ∙ marked_map ms (unblocked time) (λ m t. marked_unblocked m time t) (left time d.tasks)
    ∙ ap (all_marked ms) (nobody_leaves d long)
    ∙ marked_map ms (settled time) (λ m t. marked_settled m time t) one
    ∙ marked_map ms (replenish_due time) (λ m t. marked_replenished m time t) d.tasks

-- if everyone is there at the end, everyone is there after each tick
marked_ticks : (ms : List TaskMark) (j i : ℕ) (d : Domain) → length d.tasks ≤ length (ticks (i + j) d).tasks → all_marked ms (ticks i d).tasks ≡ all_marked ms d.tasks
marked_ticks ms j zero d long = refl
marked_ticks ms j (suc i) d long =
    let e : suc i + j ≡ i + suc j = omega arith in
    let before : length d.tasks ≤ length (ticks (i + suc j) d).tasks = subst (λ n. length d.tasks ≤ length (ticks n d).tasks) e long in
    let from_zero : 0 + i ≡ i = omega arith in
    let fewer : length (ticks i d).tasks ≤ length d.tasks = subst (λ n. length (ticks n d).tasks ≤ length d.tasks) from_zero (shorter_by 0 i d) in
    let after = shorter_by (suc i) j d in
    marked_ticked ms (ticks i d) (omega (arith, fewer, long, after)) ∙ marked_ticks ms (suc j) i d before

-- ---- the tasks of shifted marks are the shifted tasks

all_shifted : (s : Shift) (ms : List TaskMark) (ts : List Task) → all_marked (shifted_marks s ms ts) ts ≡ map (shifted_task s) (all_marked ms ts)
all_shifted s [] ts = refl
all_shifted s (m ∷ ms) [] = refl
all_shifted s (m ∷ ms) (t ∷ ts) = let a = marks_paced s.micros (s.pace t.number) m t in let b = all_shifted s ms ts in λ i. a i ∷ b i

ticks_used : (n : ℕ) (d : Domain) → (ticks n d).used ≡ d.used
ticks_used zero d = refl
ticks_used (suc n) d = ticks_used n d

found_tasks : (s : Shift) (d : Domain) (before after : List TaskMark) → IsSeenAgain s d before after → (ticks s.micros d).tasks ≡ map (shifted_task s) d.tasks
found_tasks s d before after is =
    let k = s.micros in
    let e : k + 0 ≡ k = omega arith in
    let everyone = is.everyone in
    let long : length d.tasks ≤ length (ticks (k + 0) d).tasks = subst (λ n. length d.tasks ≤ length (ticks n d).tasks) (sym e) (omega (arith, everyone)) in
    sym is.last
    ∙ marked_ticks after 0 k d long
    ∙ ap (λ ms. all_marked ms d.tasks) is.marks
    ∙ all_shifted s before d.tasks
    ∙ ap (map (shifted_task s)) is.first

pub found : (s : Shift) (d : Domain) (before after : List TaskMark) → IsSeenAgain s d before after → Repeats s d
found s d before after is =
    let cpus = ticks_cpus s.micros d in
    let limit = ticks_limit s.micros d in
    let time = ticks_time s.micros d in
    let used = ticks_used s.micros d in
    let tasks = found_tasks s d before after is in
    let curr = is.curr in
    record {
      again = λ i. record { cpus = cpus i; limit = limit i; time = time i; tasks = tasks i; used = used i; curr = curr i; switches = [] };
      long = is.long;
    }
