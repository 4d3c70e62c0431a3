-- Rounds and work that are left at the beginning of a period last through it.
use Rattle.std.proofs.Common.{◌≡◌, ℕ, zero, suc, ◌+◌, ◌-◌, ◌*◌, ◌<◌, ◌≤◌, Bool, true, false, cond, ◌&&◌, Option, Some, None, List, length, map, get_or, refl, ap, sym, subst, ◌∙◌, arith}
use Rattle.std.specs.Prelude.{All, IsTrue, IfSome, position}
use Rattle.std.proofs.lemmas.Bool.{false≢true}
use Rattle.std.proofs.Math.Nat.{suc-mul, add-mul}
use Rattle.std.proofs.lemmas.List.{length-map}
use Rattle.std.proofs.lemmas.List.Elements.{All-map}
use Rattle.cbs_rules.specs.Serving.{replenished, is_spent}
use Rattle.edf_pick.specs.Places.{is_task, is_on_cpu}
use Rattle.task_script.specs.script.ScriptView.{round_len}
use Rattle.domain_run.specs.declared.task.Task.{Task}
use Rattle.domain_run.specs.declared.task.Condition.TheVariants.{Ready, Throttled}
use Rattle.domain_run.specs.Conditions.{is_ready, is_throttled, is_contending, has_come}
use Rattle.domain_run.specs.Parts.{replenish_due, settled, is_listed, unblocked, with_cpu, with_last_cpu, ran}
use Rattle.domain_run.specs.Domain.{Domain}
use Rattle.domain_run.specs.Tick.{prepared, with_tick_begun, rate_of, ran_if, ticked, ticks}
use Rattle.domain_run.proofs.CallerLemmas.{same_replenished, same_settled, same_unblocked, length-filter_least}
use Rattle.task_script.specs.script.Later.{place_on}
use Rattle.domain_run.specs.declared.pace.Pace.{Pace}
use Rattle.domain_run.specs.declared.pace.Pace.TheVariants.{Rests, Plays, Works}
use Rattle.domain_run.specs.Shift.{Shift, paced_task, shifted_task, IsResting, MayGo, MayShift}
use Rattle.repeat_law.specs.Shift.{MayShiftFor, NeedsNothing}
use Rattle.repeat_law.specs.Repeats.{Outlasts, Repeats, many_paces, many, LastsFor}
use Rattle.repeat_law.proofs.Lists.{All-unmap, filter_all}
use Rattle.repeat_law.proofs.Parts.{contending_later, unblocked_contending, some_work}
use Rattle.repeat_law.proofs.Paces.{number_paced, never_ready, nothing_left, charged_task, unblocked_alone, ran_on_work, unblocked_is_on, ran_is_on, rounds_before, go_homed}
use Rattle.repeat_law.proofs.Dating.{IsShiftable, running_all, ticks_shiftable}
use Rattle.repeat_law.proofs.Ticking.{left, one_go, left_go, go_over, ran_if_number, homed_number}

-- ---- work that is longer than what is left of the period goes on, tick after tick

-- with q ticks left of the period
abbrev steady : ℕ → Pace → Pace
steady q Rests = Rests
steady q (Plays r) = Plays 0
steady q (Works w) = Works q

abbrev steadily : ℕ → Shift → Shift
steadily q s = record { micros = s.micros; pace = λ number. steady q (s.pace number) }

steady_unblocked : (time q : ℕ) (p : Pace) (t : Task) → MayGo (steady q p) t → MayGo (steady q p) (unblocked time t)
steady_unblocked time q Rests t h = subst IsResting (sym (unblocked_alone time t h)) h
steady_unblocked time q (Plays r) t h = nothing_left 0 (unblocked time t).cursor
steady_unblocked time q (Works w) t h = subst (λ u. MayGo (Works q) u) (sym (unblocked_contending time t h.0)) h

-- what a tick of running leaves of such work
ran_steady : (time rate q : ℕ) (t : Task) → suc q < t.work → ran time rate t ≡ record (charged_task rate t) { condition = cond (is_spent (charged_task rate t).server) Throttled Ready }
ran_steady time rate q t h = ran_on_work time rate t (some_work (t.work - 1) 0 (omega (arith, h)))

still_contends : (b : Bool) → is_contending (cond b Throttled Ready) ≡ true
still_contends true = refl
still_contends false = refl

steady_ran : (time rate q : ℕ) (p : Pace) (t : Task) → is_ready t.condition ≡ true → MayGo (steady (suc q) p) t → MayGo (steady q p) (ran time rate t)
steady_ran time rate q Rests t ready h = absurd (false≢true (never_ready t h ready))
steady_ran time rate q (Plays r) t ready h = nothing_left 0 (ran time rate t).cursor
steady_ran time rate q (Works w) t ready h =
    let work = h.1 in
    let more : q < t.work - 1 = omega (arith, work) in
    subst (λ u. MayGo (Works q) u) (sym (ran_steady time rate q t h.1)) (still_contends (is_spent (charged_task rate t).server), more)

steady_less : (q : ℕ) (p : Pace) (t : Task) → MayGo (steady (suc q) p) t → MayGo (steady q p) t
steady_less q Rests t h = h
steady_less q (Plays r) t h = h
steady_less q (Works w) t h = let work = h.1 in (h.0, omega (arith, work))

steady_ran_if : (d : Domain) (q : ℕ) (p : Pace) (t : Task) → (IsTrue (is_on_cpu t.number d.curr) → IsTrue (is_ready t.condition)) → MayGo (steady (suc q) p) t → MayGo (steady q p) (ran_if d t)
steady_ran_if d q p t ready h =
    elim (is_on_cpu t.number d.curr) as (λ b. is_on_cpu t.number d.curr ≡ b → MayGo (steady q p) (cond b (ran d.time (rate_of d t) t) t)) [
      | true ↦ λ there. steady_ran d.time (rate_of d t) q p t (ready there) h
      | false ↦ λ there. steady_less q p t h
    ] refl

module _ (s : Shift) where
  steady_prepared : (q : ℕ) (d : Domain) → MayShift (steadily q s) d.tasks → MayShift (steadily q s) (prepared d.time d.tasks)
  steady_prepared q d h =
      let ls = left d.time d.tasks in
      let may = left_go (steadily q s) d.time d.tasks h in
      go_over (steadily q s) (unblocked d.time) (λ t. (same_unblocked d.time t).number) ls (λ i x w. let t = get_or ls i x in steady_unblocked d.time q (s.pace t.number) t (may i x w))

  steady_begun : (q : ℕ) (d : Domain) → MayShift (steadily q s) d.tasks → MayShift (steadily q s) (with_tick_begun d).tasks
  steady_begun q d h =
      let e = with_tick_begun d in
      let ps = prepared d.time d.tasks in
      let may = steady_prepared q d h in
      go_over (steadily q s) (with_last_cpu e.curr) (λ t. homed_number (position (is_task t.number) e.curr) t) ps (λ i x w. let t = get_or ps i x in go_homed (position (is_task t.number) e.curr) (steady q (s.pace t.number)) t (may i x w))

  steady_ticked : (q : ℕ) (d : Domain) → IsShiftable d → MayShift (steadily (suc q) s) d.tasks → MayShift (steadily q s) (ticked d).tasks
  steady_ticked q d is h =
      let e = with_tick_begun d in
      let ready = running_all d is in
      let may = steady_begun (suc q) d h in
      go_over (steadily q s) (ran_if e) (ran_if_number e) e.tasks (λ i x w. let t = get_or e.tasks i x in steady_ran_if e q (s.pace t.number) t (ready i x w) (may i x w))

  steady_ticks : (i q : ℕ) (d : Domain) → IsShiftable d → MayShift (steadily (q + i) s) d.tasks → MayShift (steadily q s) (ticks i d).tasks
  steady_ticks zero q d is h = let e : q + 0 ≡ q = omega arith in subst (λ n. MayShift (steadily n s) d.tasks) e h
  steady_ticks (suc i) q d is h =
      let e : q + suc i ≡ suc q + i = omega arith in
      steady_ticked q (ticks i d) (ticks_shiftable i d is) (steady_ticks i (suc q) d is (subst (λ n. MayShift (steadily n s) d.tasks) e h))

-- ---- a tick back: what is left after it was left before it

before_ran : (time rate m q : ℕ) (p : Pace) (t : Task) → MayGo (steady (suc q) p) t → MayGo (many_paces m p) (ran time rate t) → (IsTrue (is_ready t.condition)) → MayGo (many_paces m p) t
before_ran time rate m q Rests t h after ready = h
before_ran time rate m q (Plays r) t h after ready = λ some. rounds_before (m * r) t.cursor (ran time rate t).cursor (ran_is_on time rate t) (after some)
before_ran time rate m q (Works w) t h after ready =
    let less : m * w < t.work - 1 = subst (λ n. m * w < n) (ap (λ (u : Task). u.work) (ran_steady time rate q t h.1)) after.1 in
    (h.0, omega (arith, less))

before_ran_if : (d : Domain) (m q : ℕ) (p : Pace) (t : Task) → (IsTrue (is_on_cpu t.number d.curr) → IsTrue (is_ready t.condition)) → MayGo (steady (suc q) p) t → MayGo (many_paces m p) (ran_if d t) → MayGo (many_paces m p) t
before_ran_if d m q p t ready h after =
    elim (is_on_cpu t.number d.curr) as (λ b. is_on_cpu t.number d.curr ≡ b → MayGo (many_paces m p) (cond b (ran d.time (rate_of d t) t) t) → MayGo (many_paces m p) t) [
      | true ↦ λ there a. before_ran d.time (rate_of d t) m q p t h a (ready there)
      | false ↦ λ there a. a
    ] refl after

before_homed : (o : Option ℕ) (p : Pace) (t : Task) → MayGo p (with_cpu o t) → MayGo p t
before_homed None p t h = h
before_homed (Some cpu) Rests t h = record { waits = h.waits; idle = h.idle }
before_homed (Some cpu) (Plays r) t h = h
before_homed (Some cpu) (Works w) t h = h

before_unblocked : (time m q : ℕ) (p : Pace) (t : Task) → MayGo (steady q p) t → MayGo (many_paces m p) (unblocked time t) → MayGo (many_paces m p) t
before_unblocked time m q Rests t h after = h
before_unblocked time m q (Plays r) t h after = λ some. rounds_before (m * r) t.cursor (unblocked time t).cursor (unblocked_is_on time t) (after some)
before_unblocked time m q (Works w) t h after = subst (λ u. MayGo (Works (m * w)) u) (unblocked_contending time t h.0) after

before_settled : (time m q : ℕ) (p : Pace) (t : Task) → MayGo (steady q p) t → MayGo (many_paces m p) (settled time t) → MayGo (many_paces m p) t
before_settled time m q Rests t h after = h
before_settled time m q (Plays r) t h after = elim (has_come time t.zero_lag) as (λ b. MayGo (Plays (m * r)) (cond b (record t { zero_lag = None }) t) → MayGo (Plays (m * r)) t) [ true ↦ λ a. a | false ↦ λ a. a ] after
before_settled time m q (Works w) t h after = elim (has_come time t.zero_lag) as (λ b. MayGo (Works (m * w)) (cond b (record t { zero_lag = None }) t) → MayGo (Works (m * w)) t) [ true ↦ λ a. a | false ↦ λ a. a ] after

before_replenished : (time m q : ℕ) (p : Pace) (t : Task) → MayGo (steady q p) t → MayGo (many_paces m p) (replenish_due time t) → MayGo (many_paces m p) t
before_replenished time m q Rests t h after = h
before_replenished time m q (Plays r) t h after =
    let x : Task = record t { server = replenished t.params t.server; condition = Ready } in
    elim (is_throttled t.condition && has_come time t.server.deadline) as (λ b. MayGo (Plays (m * r)) (cond b x t) → MayGo (Plays (m * r)) t) [ true ↦ λ a. a | false ↦ λ a. a ] after
before_replenished time m q (Works w) t h after =
    let x : Task = record t { server = replenished t.params t.server; condition = Ready } in
    elim (is_throttled t.condition && has_come time t.server.deadline) as (λ b. MayGo (Works (m * w)) (cond b x t) → MayGo (Works (m * w)) t) [ true ↦ λ a. (h.0, a.1) | false ↦ λ a. a ] after

-- nobody goes off the list, if its length is the same after
shorter : (d : Domain) → length (ticked d).tasks ≤ length d.tasks
shorter d =
    let e = with_tick_begun d in
    let xs = map (settled d.time) (map (replenish_due d.time) d.tasks) in
    let a = length-map e.tasks (ran_if e) in
    let b = length-map (prepared d.time d.tasks) (with_last_cpu e.curr) in
    let c = length-map (left d.time d.tasks) (unblocked d.time) in
    let f = length-filter_least is_listed xs in
    let g = length-map (map (replenish_due d.time) d.tasks) (settled d.time) in
    let h = length-map d.tasks (replenish_due d.time) in
    omega (arith, a, b, c, f, g, h)

pub shorter_by : (i j : ℕ) (d : Domain) → length (ticks (i + j) d).tasks ≤ length (ticks i d).tasks
shorter_by i zero d = let e : i + 0 ≡ i = omega arith in subst (λ n. length (ticks n d).tasks ≤ length (ticks i d).tasks) (sym e) (omega arith)
shorter_by i (suc j) d =
    let e : suc (i + j) ≡ i + suc j = omega arith in
    let one = shorter (ticks (i + j) d) in
    let more = shorter_by i j d in
    subst (λ n. length (ticks n d).tasks ≤ length (ticks i d).tasks) e (omega (arith, one, more))

pub nobody_leaves : (d : Domain) → length d.tasks ≤ length (ticked d).tasks → left d.time d.tasks ≡ map (settled d.time) (map (replenish_due d.time) d.tasks)
nobody_leaves d long =
    let e = with_tick_begun d in
    let xs = map (settled d.time) (map (replenish_due d.time) d.tasks) in
    let a = length-map e.tasks (ran_if e) in
    let b = length-map (prepared d.time d.tasks) (with_last_cpu e.curr) in
    let c = length-map (left d.time d.tasks) (unblocked d.time) in
    let g = length-map (map (replenish_due d.time) d.tasks) (settled d.time) in
    let h = length-map d.tasks (replenish_due d.time) in
    filter_all is_listed xs (omega (arith, long, a, b, c, g, h))

module _ (s : Shift) (m : ℕ) where
  back_over : (f : Task → Task) → ((t : Task) → (f t).number ≡ t.number) → (ts : List Task) → All (λ t. MayGo ((many m s).pace t.number) (f t) → MayGo ((many m s).pace t.number) t) ts → MayShift (many m s) (map f ts) → MayShift (many m s) ts
  back_over f number ts back h =
      let each = All-unmap (λ t. MayGo ((many m s).pace t.number) t) f ts h in
      λ i x w. let t = get_or ts i x in back i x w (subst (λ n. MayGo ((many m s).pace n) (f t)) (number t) (each i x w))

  before_tick : (q : ℕ) (d : Domain) → IsShiftable d → length d.tasks ≤ length (ticked d).tasks → MayShift (steadily (suc q) s) d.tasks → MayShift (many m s) (ticked d).tasks → MayShift (many m s) d.tasks
  before_tick q d is long h after =
      let time = d.time in
      let e = with_tick_begun d in
      let one = map (replenish_due time) d.tasks in
      let two = map (settled time) one in
      let ls = left time d.tasks in
      let ps = prepared time d.tasks in
      let S = steadily (suc q) s in
      let may_one = one_go S time d.tasks h in
      let may_left = left_go S time d.tasks h in
      let may_begun = steady_begun s (suc q) d h in
      let ready = running_all d is in
      let begun = back_over (ran_if e) (ran_if_number e) e.tasks (λ i x w. let t = get_or e.tasks i x in before_ran_if e m q (s.pace t.number) t (ready i x w) (may_begun i x w)) after in
      let placed = back_over (with_last_cpu e.curr) (λ t. homed_number (position (is_task t.number) e.curr) t) ps (λ i x w. let t = get_or ps i x in before_homed (position (is_task t.number) e.curr) ((many m s).pace t.number) t) begun in
      let awake = back_over (unblocked time) (λ t. (same_unblocked time t).number) ls (λ i x w. let t = get_or ls i x in before_unblocked time m (suc q) (s.pace t.number) t (may_left i x w)) placed in
      let all : MayShift (many m s) two = subst (λ ts. MayShift (many m s) ts) (nobody_leaves d long) awake in
      let first = back_over (settled time) (λ t. (same_settled time t).number) one (λ i x w. let t = get_or one i x in before_settled time m (suc q) (s.pace t.number) t (may_one i x w)) all in
      back_over (replenish_due time) (λ t. (same_replenished time t).number) d.tasks (λ i x w. let t = get_or d.tasks i x in before_replenished time m (suc q) (s.pace t.number) t (h i x w)) first

-- ---- at the end of the period

rounds_after : (m r place round : ℕ) (rounds : Option ℕ) → IfSome rounds (λ n. place + suc m * r * round ≤ n * round) → IfSome rounds (λ n. place_on rounds (r * round) place + m * r * round ≤ n * round)
rounds_after m r place round None h = tt
rounds_after m r place round (Some n) h =
    let both : suc m * r * round ≡ m * r * round + r * round = ap (λ x. x * round) (suc-mul m r) ∙ add-mul (m * r) r round in
    omega (arith, h, both)

go_after : (k m : ℕ) (p : Pace) (t : Task) → MayGo (many_paces (suc m) p) t → MayGo (many_paces m p) (paced_task k p t)
go_after k m Rests t h = h
go_after k m (Plays r) t h = λ some. let more : 0 < suc m * r = omega (arith, suc-mul m r, some) in rounds_after m r t.cursor.place (round_len t.cursor.script) t.cursor.script.rounds (h more)
go_after k m (Works w) t h =
    let all = h.1 in
    (contending_later k t.condition ∙ h.0, omega (arith, suc-mul m w, all))

module _ (s : Shift) (m : ℕ) (d : Domain) (is : IsShiftable d) (once : Repeats s d) (lasts : LastsFor (suc m) s d) where
  tasks_again : (ticks s.micros d).tasks ≡ map (shifted_task s) d.tasks
  tasks_again = ap (λ (e : Domain). e.tasks) once.again

  last_go : MayShift (many m s) (ticks s.micros d).tasks
  last_go =
      subst (λ ts. MayShift (many m s) ts) (sym tasks_again)
      (All-map (λ t. MayGo (many_paces m (s.pace t.number)) t) (shifted_task s) d.tasks
      (λ i x w. let t = get_or d.tasks i x in subst (λ n. MayGo (many_paces m (s.pace n)) (shifted_task s t)) (sym (number_paced s.micros (s.pace t.number) t)) (go_after s.micros m (s.pace t.number) t (lasts i x w))))

  same_length : length (ticks s.micros d).tasks ≡ length d.tasks
  same_length = ap (λ ts. length ts) tasks_again ∙ length-map d.tasks (shifted_task s)

  begin_steady : (p : Pace) (t : Task) → Outlasts s.micros p t → MayGo (many_paces (suc m) p) t → MayGo (steady s.micros p) t
  begin_steady Rests t long h = h
  begin_steady (Plays r) t long h = nothing_left 0 t.cursor
  begin_steady (Works w) t long h = (h.0, long)

  steady_at : (i q : ℕ) → q + i ≡ s.micros → MayShift (steadily q s) (ticks i d).tasks
  steady_at i q e =
      steady_ticks s i q d is
      (subst (λ n. MayShift (steadily n s) d.tasks) (sym e) (λ j x w. let t = get_or d.tasks j x in begin_steady (s.pace t.number) t (once.long j x w) (lasts j x w)))

  go_back : (q i : ℕ) → q + i ≡ s.micros → MayShift (many m s) (ticks i d).tasks
  go_back zero i e = let same : s.micros ≡ i = omega (arith, e) in subst (λ n. MayShift (many m s) (ticks n d).tasks) same last_go
  go_back (suc q) i e =
      let next : q + suc i ≡ s.micros = omega (arith, e) in
      let all : suc i + q ≡ s.micros = omega (arith, e) in
      let longer : length (ticks s.micros d).tasks ≤ length (ticks (suc i) d).tasks = subst (λ n. length (ticks n d).tasks ≤ length (ticks (suc i) d).tasks) all (shorter_by (suc i) q d) in
      let from_zero : 0 + i ≡ i = omega arith in
      let from : length (ticks i d).tasks ≤ length d.tasks = subst (λ n. length (ticks n d).tasks ≤ length d.tasks) from_zero (shorter_by 0 i d) in
      let same = same_length in
      before_tick s m q (ticks i d) (ticks_shiftable i d is) (omega (arith, longer, from, same)) (steady_at i (suc q) e) (go_back q (suc i) next)

  pub lasts_through : (n : ℕ) → n ≤ s.micros → MayShiftFor (many m s) n d
  lasts_through n within = λ i w. let e : s.micros - i + i ≡ s.micros = omega (arith, within, w) in go_back (s.micros - i) i e

-- ---- a pace that needs no rounds and no work lasts for ever

to_steady : (q : ℕ) (p : Pace) (t : Task) → NeedsNothing p → MayGo p t → MayGo (steady q p) t
to_steady q Rests t none h = h
to_steady q (Plays r) t none h = nothing_left 0 t.cursor
to_steady q (Works w) t none h = absurd none

of_steady : (q : ℕ) (p : Pace) (t : Task) → NeedsNothing p → MayGo (steady q p) t → MayGo p t
of_steady q Rests t none h = h
of_steady q (Plays r) t none h = λ some. absurd (omega (arith, none, some))
of_steady q (Works w) t none h = absurd none

pub forever : (s : Shift) (n : ℕ) (d : Domain) → IsShiftable d → ((number : ℕ) → NeedsNothing (s.pace number)) → MayShift s d.tasks → MayShiftFor s n d
forever s n d is none h i within =
    let begun : MayShift (steadily (0 + i) s) d.tasks = λ j x w. let t = get_or d.tasks j x in to_steady (0 + i) (s.pace t.number) t (none t.number) (h j x w) in
    let all = steady_ticks s i 0 d is begun in
    λ j x w. let t = get_or (ticks i d).tasks j x in of_steady 0 (s.pace t.number) t (none t.number) (all j x w)

many_need_nothing : (m : ℕ) (p : Pace) → NeedsNothing p → NeedsNothing (many_paces m p)
many_need_nothing m Rests none = none
many_need_nothing m (Plays r) none = let e : m * 0 ≡ 0 = omega arith in ap (λ x. m * x) none ∙ e
many_need_nothing m (Works w) none = none

pub always : (s : Shift) (m n : ℕ) (d : Domain) → IsShiftable d → ((number : ℕ) → NeedsNothing (s.pace number)) → LastsFor m s d → MayShiftFor (many m s) n d
always s m n d is none lasts = forever (many m s) n d is (λ number. many_need_nothing m (s.pace number) (none number)) lasts
