-- A tick of a shifted domain.
use Rattle.std.proofs.Common.{◌≡◌, ℕ, zero, suc, ◌+◌, Bool, true, false, cond, ◌||◌, eqb, Option, Some, None, List, [], ◌∷◌, ◌++◌, map, get_or, refl, ap, sym, subst, ◌∙◌, arith}
use Rattle.std.specs.Prelude.{All, IsTrue, IsSome, filter, find, option_map, unwrap_or, position}
use Rattle.std.proofs.lemmas.Bool.{false≢true}
use Rattle.std.proofs.lemmas.List.{map-append}
use Rattle.std.proofs.lemmas.List.Elements.{All-head, All-tail, All-map, All-filter}
use Rattle.grub_rules.specs.Sums.{total_bw, uinact}
use Rattle.grub_rules.specs.Rate as reclaiming
use Rattle.edf_pick.specs.Places.{Places, is_task, placed, is_on_cpu}
use Rattle.edf_pick.specs.Moves.{same_occupant}
use Rattle.domain_run.specs.declared.task.Task.{Task}
use Rattle.domain_run.specs.declared.switch.PrevState.{PrevState}
use Rattle.domain_run.specs.Conditions.{is_ready}
use Rattle.domain_run.specs.Parts.{replenish_due, settled, is_listed, unblocked, with_cpu, with_last_cpu, ran}
use Rattle.domain_run.specs.Switch.{Switch}
use Rattle.domain_run.specs.Switches.{left_in, left_by, prev_state_of, switches_from}
use Rattle.domain_run.specs.Domain.{Domain}
use Rattle.domain_run.specs.Tick.{share_of, shares, candidate_of, candidates, prepared, with_places, with_prepared, with_tick_begun, rate_of, ran_if, finished, ticked, ticks}
use Rattle.domain_run.proofs.CallerLemmas.{same_replenished, same_settled, same_unblocked, same_ran}
use Rattle.domain_run.specs.Later.{later, later_task, later_switch}
use Rattle.domain_run.specs.declared.pace.Pace.{Pace}
use Rattle.domain_run.specs.declared.pace.Pace.TheVariants.{Rests, Plays, Works}
use Rattle.domain_run.specs.Shift.{Shift, paced_task, shifted_task, shifted, MayGo, MayShift}
use Rattle.repeat_law.specs.Shift.{MayShiftFor}
use Rattle.repeat_law.proofs.Lists.{choice_over, map_over, filter_over, find_over, All-unmap}
use Rattle.repeat_law.proofs.Serving.{swap_add}
use Rattle.repeat_law.proofs.Asking.{IsOn}
use Rattle.repeat_law.proofs.Parts.{ready_later, contending_later, left_in_later, some_later}
use Rattle.repeat_law.proofs.Paces.{by_pace, number_paced, never_ready, ran_is_on, go_replenished, go_settled, go_unblocked, go_homed, homed_on, replenish_due_paced, settled_paced, listed_paced, unblocked_paced, with_last_cpu_paced, ran_paced, is_on_itself}
use Rattle.repeat_law.proofs.Choosing.{later_candidate, placed_later}
use Rattle.repeat_law.proofs.Dating.{IsDated, AreDated, IsShiftable, ready_contends, prepared_dated, running_all, ticks_shiftable}

-- ---- one task at a pace

pub deadline_later : (k : ℕ) (o : Option ℕ) → IsSome o → unwrap_or (later k o) 0 ≡ unwrap_or o 0 + k
deadline_later k None is = absurd (false≢true is)
deadline_later k (Some d) is = refl

candidate_later : (k r w : ℕ) (t : Task) → IsDated t → IsTrue (is_ready t.condition) → candidate_of (later_task k r w t) ≡ later_candidate k (candidate_of t)
candidate_later k r w t dated ready = let d = deadline_later k t.server.deadline (dated (ready_contends t.condition ready)) in λ i. record { deadline = d i; number = t.number; home = t.cpu }

candidate_paced : (k : ℕ) (p : Pace) (t : Task) → IsDated t → MayGo p t → IsTrue (is_ready t.condition) → candidate_of (paced_task k p t) ≡ later_candidate k (candidate_of t)
candidate_paced k Rests t dated h ready = absurd (false≢true (never_ready t h ready))
candidate_paced k (Plays r) t dated h ready = candidate_later k r 0 t dated ready
candidate_paced k (Works w) t dated h ready = candidate_later k 0 w t dated ready

share_paced : (k : ℕ) (p : Pace) (t : Task) → share_of (paced_task k p t) ≡ share_of t
share_paced k p t =
    let a = contending_later k t.condition in
    let b = some_later k t.zero_lag in
    by_pace (λ u. share_of u ≡ share_of t) k p t refl (λ r w i. record { cpu = t.cpu; bw = t.params.bw; active = a i || b i })

abbrev pub the_switch : ℕ → ℕ → Option ℕ → Option ℕ → PrevState → Switch
the_switch time cpu p n state = record { time = time; prev = p; next = n; cpu = cpu; state = state }

-- the tasks that are listed after part 2
abbrev pub left : ℕ → List Task → List Task
left time ts = filter is_listed (map (settled time) (map (replenish_due time) ts))

pub ran_if_number : (d : Domain) (t : Task) → (ran_if d t).number ≡ t.number
ran_if_number d t = elim (is_on_cpu t.number d.curr) as (λ b. (cond b (ran d.time (rate_of d t) t) t).number ≡ t.number) [ true ↦ (same_ran d.time (rate_of d t) t).number | false ↦ refl ]

pub ran_if_is_on : (d : Domain) (t : Task) → IsOn t.cursor.place t.cursor (ran_if d t).cursor
ran_if_is_on d t = elim (is_on_cpu t.number d.curr) as (λ b. IsOn t.cursor.place t.cursor (cond b (ran d.time (rate_of d t) t) t).cursor) [ true ↦ ran_is_on d.time (rate_of d t) t | false ↦ is_on_itself t.cursor t.cursor refl ]

pub homed_number : (o : Option ℕ) (t : Task) → (with_cpu o t).number ≡ t.number
homed_number None t = refl
homed_number (Some cpu) t = refl

module _ (s : Shift) where
  -- a part of a tick, at the pace of the task
  pub part_over : (f g : Task → Task) (t : Task) → (f t).number ≡ t.number → g (shifted_task s t) ≡ paced_task s.micros (s.pace t.number) (f t) → g (shifted_task s t) ≡ shifted_task s (f t)
  part_over f g t number e = e ∙ sym (λ i. paced_task s.micros (s.pace (number i)) (f t))

  pub go_over : (f : Task → Task) → ((t : Task) → (f t).number ≡ t.number) → (ts : List Task) → All (λ t. MayGo (s.pace t.number) (f t)) ts → MayShift s (map f ts)
  go_over f number ts h = All-map (λ t. MayGo (s.pace t.number) t) f ts (λ i x w. let t = get_or ts i x in subst (λ n. MayGo (s.pace n) (f t)) (sym (number t)) (h i x w))

  -- ---- PARTS 1 TO 3

  pub one_go : (time : ℕ) (ts : List Task) → MayShift s ts → MayShift s (map (replenish_due time) ts)
  one_go time ts h = go_over (replenish_due time) (λ t. (same_replenished time t).number) ts (λ i x w. let t = get_or ts i x in go_replenished time (s.pace t.number) t (h i x w))

  two_go : (time : ℕ) (ts : List Task) → MayShift s ts → MayShift s (map (settled time) ts)
  two_go time ts h = go_over (settled time) (λ t. (same_settled time t).number) ts (λ i x w. let t = get_or ts i x in go_settled time (s.pace t.number) t (h i x w))

  pub left_go : (time : ℕ) (ts : List Task) → MayShift s ts → MayShift s (left time ts)
  left_go time ts h = All-filter is_listed (λ t. MayGo (s.pace t.number) t) (map (settled time) (map (replenish_due time) ts)) (two_go time (map (replenish_due time) ts) (one_go time ts h))

  one_over : (time : ℕ) (ts : List Task) → MayShift s ts → map (replenish_due (time + s.micros)) (map (shifted_task s) ts) ≡ map (shifted_task s) (map (replenish_due time) ts)
  one_over time ts h = map_over (shifted_task s) (replenish_due time) (replenish_due (time + s.micros)) ts (λ i x w. let t = get_or ts i x in part_over (replenish_due time) (replenish_due (time + s.micros)) t (same_replenished time t).number (replenish_due_paced s.micros time (s.pace t.number) t (h i x w)))

  two_over : (time : ℕ) (ts : List Task) → MayShift s ts → map (settled (time + s.micros)) (map (shifted_task s) ts) ≡ map (shifted_task s) (map (settled time) ts)
  two_over time ts h = map_over (shifted_task s) (settled time) (settled (time + s.micros)) ts (λ i x w. let t = get_or ts i x in part_over (settled time) (settled (time + s.micros)) t (same_settled time t).number (settled_paced s.micros time (s.pace t.number) t (h i x w)))

  pub left_over : (time : ℕ) (ts : List Task) → MayShift s ts → left (time + s.micros) (map (shifted_task s) ts) ≡ map (shifted_task s) (left time ts)
  left_over time ts h =
      let one = one_over time ts h in
      let two = two_over time (map (replenish_due time) ts) (one_go time ts h) in
      (λ i. filter is_listed (map (settled (time + s.micros)) (one i)))
      ∙ (λ i. filter is_listed (two i))
      ∙ filter_over (shifted_task s) is_listed (λ t. listed_paced s.micros (s.pace t.number) t) (map (settled time) (map (replenish_due time) ts))

  prepared_over : (time : ℕ) (ts : List Task) → MayShift s ts → All (λ t. MayGo (s.pace t.number) (unblocked time t)) (left time ts) → prepared (time + s.micros) (map (shifted_task s) ts) ≡ map (shifted_task s) (prepared time ts)
  prepared_over time ts h after =
      let ls = left time ts in
      let off = left_over time ts h in
      let may = left_go time ts h in
      (λ i. map (unblocked (time + s.micros)) (off i))
      ∙ map_over (shifted_task s) (unblocked time) (unblocked (time + s.micros)) ls (λ i x w. let t = get_or ls i x in part_over (unblocked time) (unblocked (time + s.micros)) t (same_unblocked time t).number (unblocked_paced s.micros time (s.pace t.number) t (may i x w) (after i x w)))

  -- ---- PART 4

  first_over : (t u : Task) (rest more : List Task) → map candidate_of rest ≡ map (later_candidate s.micros) (map candidate_of more) → (b : Bool) → (IsTrue b → candidate_of u ≡ later_candidate s.micros (candidate_of t))
      → map candidate_of (cond b (u ∷ rest) rest) ≡ map (later_candidate s.micros) (map candidate_of (cond b (t ∷ more) more))
  first_over t u rest more same true is = let c = is refl in λ i. c i ∷ same i
  first_over t u rest more same false is = same

  candidates_over : (ts : List Task) → AreDated ts → MayShift s ts → candidates (map (shifted_task s) ts) ≡ map (later_candidate s.micros) (candidates ts)
  candidates_over [] dated h = refl
  candidates_over (t ∷ ts) dated h =
      let p = s.pace t.number in
      let a = by_pace (λ u. is_ready u.condition ≡ is_ready t.condition) s.micros p t refl (λ r w. ready_later s.micros t.condition) in
      let rest = filter (λ u. is_ready u.condition) (map (shifted_task s) ts) in
      let more = filter (λ u. is_ready u.condition) ts in
      (λ i. map candidate_of (cond (a i) (shifted_task s t ∷ rest) rest))
      ∙ first_over t (shifted_task s t) rest more (candidates_over ts (All-tail IsDated t ts dated) (All-tail (λ u. MayGo (s.pace u.number) u) t ts h)) (is_ready t.condition) (candidate_paced s.micros p t (All-head IsDated t ts dated) (All-head (λ u. MayGo (s.pace u.number) u) t ts h))

  -- ---- PART 5

  left_by_over : (o : Option Task) → left_by (option_map (shifted_task s) o) ≡ left_by o
  left_by_over None = refl
  left_by_over (Some t) = by_pace (λ u. left_in u.condition ≡ left_in t.condition) s.micros (s.pace t.number) t refl (λ r w. left_in_later s.micros t.condition)

  state_over : (ts : List Task) (o : Option ℕ) → prev_state_of (map (shifted_task s) ts) o ≡ prev_state_of ts o
  state_over ts None = refl
  state_over ts (Some n) =
      let e = find_over (shifted_task s) (λ t. eqb t.number n) (λ t. eqb t.number n) (λ t. let same = number_paced s.micros (s.pace t.number) t in λ i. eqb (same i) n) ts in
      (λ i. left_by (e i)) ∙ left_by_over (find (λ t. eqb t.number n) ts)

  switches_over : (time : ℕ) (ts : List Task) (cpu : ℕ) (before after : Places) → switches_from (time + s.micros) (map (shifted_task s) ts) cpu before after ≡ map (later_switch s.micros) (switches_from time ts cpu before after)
  switches_over time ts cpu [] after = refl
  switches_over time ts cpu (p ∷ before) [] = refl
  switches_over time ts cpu (p ∷ before) (n ∷ after) =
      let more = switches_over time ts (cpu + 1) before after in
      let state = state_over ts p in
      (λ i. cond (same_occupant p n) (more i) (the_switch (time + s.micros) cpu p n (state i) ∷ more i))
      ∙ choice_over (map (later_switch s.micros)) (same_occupant p n) (switches_from time ts (cpu + 1) before after) (the_switch time cpu p n (prev_state_of ts p) ∷ switches_from time ts (cpu + 1) before after)

  -- ---- what begins

  with_places_over : (d : Domain) (ts : List Task) (places : Places) → with_places (shifted s d) (map (shifted_task s) ts) places ≡ shifted s (with_places d ts places)
  with_places_over d ts places =
      let tasks = map_over (shifted_task s) (with_last_cpu places) (with_last_cpu places) ts (λ i x w. let t = get_or ts i x in part_over (with_last_cpu places) (with_last_cpu places) t (homed_number (position (is_task t.number) places) t) (with_last_cpu_paced s.micros (s.pace t.number) places t)) in
      let new = switches_over d.time ts 0 d.curr places in
      let logged : map (later_switch s.micros) d.switches ++ switches_from (d.time + s.micros) (map (shifted_task s) ts) 0 d.curr places ≡ map (later_switch s.micros) (d.switches ++ switches_from d.time ts 0 d.curr places) = (λ i. map (later_switch s.micros) d.switches ++ new i) ∙ sym (map-append (later_switch s.micros) d.switches (switches_from d.time ts 0 d.curr places)) in
      λ i. record (shifted s d) { tasks = tasks i; curr = places; switches = logged i }

  -- ---- what the tasks that a tick leaves log of those before

  pub begun_after : (d : Domain) → MayShift s (ticked d).tasks → All (λ t. MayGo (s.pace t.number) (ran_if (with_tick_begun d) t)) (with_tick_begun d).tasks
  begun_after d after =
      let e = with_tick_begun d in
      let each = All-unmap (λ t. MayGo (s.pace t.number) t) (ran_if e) e.tasks after in
      λ i x w. let t = get_or e.tasks i x in subst (λ n. MayGo (s.pace n) (ran_if e t)) (ran_if_number e t) (each i x w)

  pub left_after : (d : Domain) → MayShift s d.tasks → MayShift s (ticked d).tasks → All (λ t. MayGo (s.pace t.number) (unblocked d.time t)) (left d.time d.tasks)
  left_after d h after =
      let e = with_tick_begun d in
      let ls = left d.time d.tasks in
      let may = left_go d.time d.tasks h in
      let later_on : Task → Type 0 = λ t. MayGo (s.pace t.number) (ran_if e t) in
      let homed = All-unmap later_on (with_last_cpu e.curr) (map (unblocked d.time) ls) (begun_after d after) in
      let each = All-unmap (λ t. later_on (with_last_cpu e.curr t)) (unblocked d.time) ls homed in
      λ i x w.
      let t = get_or ls i x in
      let u = unblocked d.time t in
      let at = position (is_task u.number) e.curr in
      let v = with_cpu at u in
      let number = homed_number at u ∙ (same_unblocked d.time t).number in
      go_unblocked d.time (s.pace t.number) t (ran_if e v) (may i x w)
      (subst (λ n. MayGo (s.pace n) (ran_if e v)) number (each i x w))
      (subst (λ c. IsOn c.place c (ran_if e v).cursor) (homed_on at u) (ran_if_is_on e v))

  pub begun_go : (d : Domain) → MayShift s d.tasks → MayShift s (ticked d).tasks → MayShift s (with_tick_begun d).tasks
  begun_go d h after =
      let e = with_tick_begun d in
      let ps = prepared d.time d.tasks in
      let may = go_over (unblocked d.time) (λ t. (same_unblocked d.time t).number) (left d.time d.tasks) (left_after d h after) in
      go_over (with_last_cpu e.curr) (λ t. homed_number (position (is_task t.number) e.curr) t) ps (λ i x w. let t = get_or ps i x in go_homed (position (is_task t.number) e.curr) (s.pace t.number) t (may i x w))

  pub prepared_go : (d : Domain) → MayShift s d.tasks → MayShift s (ticked d).tasks → MayShift s (prepared d.time d.tasks)
  prepared_go d h after = go_over (unblocked d.time) (λ t. (same_unblocked d.time t).number) (left d.time d.tasks) (left_after d h after)

  pub begun_over : (d : Domain) → AreDated d.tasks → MayShift s d.tasks → MayShift s (ticked d).tasks → with_tick_begun (shifted s d) ≡ shifted s (with_tick_begun d)
  begun_over d dated h after =
      let ts = prepared d.time d.tasks in
      let e = prepared_over d.time d.tasks h (left_after d h after) in
      let c = candidates_over ts (prepared_dated d.time d.tasks dated) (prepared_go d h after) in
      let p = placed_later s.micros d.cpus (candidates ts) d.curr in
      (λ i. with_prepared (shifted s d) (e i))
      ∙ (λ i. with_places (shifted s d) (map (shifted_task s) ts) (placed d.cpus (c i) d.curr))
      ∙ (λ i. with_places (shifted s d) (map (shifted_task s) ts) (p i))
      ∙ with_places_over d ts (placed d.cpus (candidates ts) d.curr)

  -- ---- PART 6

  shares_over : (ts : List Task) → shares (map (shifted_task s) ts) ≡ shares ts
  shares_over [] = refl
  shares_over (t ∷ ts) = let a = share_paced s.micros (s.pace t.number) t in let b = shares_over ts in λ i. a i ∷ b i

  pub sum_over : (ts : List Task) → total_bw (shares (map (shifted_task s) ts)) ≡ total_bw (shares ts)
  sum_over ts = ap total_bw (shares_over ts)

  pub rate_over : (d : Domain) (t : Task) → rate_of (shifted s d) (shifted_task s t) ≡ rate_of d t
  rate_over d t =
      let p = s.pace t.number in
      let e = shares_over d.tasks in
      let params = by_pace (λ u. u.params ≡ t.params) s.micros p t refl (λ r w. refl) in
      let cpu = by_pace (λ u. u.cpu ≡ t.cpu) s.micros p t refl (λ r w. refl) in
      λ i. reclaiming.rate (params i) (uinact (cpu i) (e i)) (total_bw (e i)) d.cpus d.limit

  ran_if_over : (d : Domain) (t : Task) → (IsTrue (is_on_cpu t.number d.curr) → IsTrue (is_ready t.condition)) → MayGo (s.pace t.number) t → MayGo (s.pace t.number) (ran_if d t) → ran_if (shifted s d) (shifted_task s t) ≡ paced_task s.micros (s.pace t.number) (ran_if d t)
  ran_if_over d t ready h after =
      let k = s.micros in
      let p = s.pace t.number in
      let u = shifted_task s t in
      let n = number_paced k p t in
      let rate = rate_over d t in
      let r = rate_of d t in
      (λ i. cond (is_on_cpu (n i) d.curr) (ran (d.time + k) (rate i) u) u)
      ∙ (elim (is_on_cpu t.number d.curr) as (λ b. is_on_cpu t.number d.curr ≡ b → MayGo p (cond b (ran d.time r t) t) → cond b (ran (d.time + k) r u) u ≡ paced_task k p (cond b (ran d.time r t) t)) [
        | true ↦ λ there a. ran_paced k d.time r p t (ready there) h a
        | false ↦ λ there a. refl
      ] refl after)

  finished_over : (d : Domain) → All (λ t. IsTrue (is_on_cpu t.number d.curr) → IsTrue (is_ready t.condition)) d.tasks → MayShift s d.tasks → All (λ t. MayGo (s.pace t.number) (ran_if d t)) d.tasks → finished (shifted s d) ≡ shifted s (finished d)
  finished_over d ready h after =
      let time = swap_add d.time 1 s.micros in
      let tasks = map_over (shifted_task s) (ran_if d) (ran_if (shifted s d)) d.tasks (λ i x w. let t = get_or d.tasks i x in part_over (ran_if d) (ran_if (shifted s d)) t (ran_if_number d t) (ran_if_over d t (ready i x w) (h i x w) (after i x w))) in
      λ i. record (shifted s d) { time = time i; tasks = tasks i }

  -- ---- a tick, and ticks

  pub ticked_over : (d : Domain) → IsShiftable d → MayShift s d.tasks → MayShift s (ticked d).tasks → ticked (shifted s d) ≡ shifted s (ticked d)
  ticked_over d is h after =
      let e = begun_over d is.dated h after in
      (λ i. finished (e i)) ∙ finished_over (with_tick_begun d) (running_all d is) (begun_go d h after) (begun_after d after)

  pub ticks_over : (n : ℕ) (d : Domain) → IsShiftable d → MayShiftFor s n d → ticks n (shifted s d) ≡ shifted s (ticks n d)
  ticks_over zero d is h = refl
  ticks_over (suc n) d is h =
      let before = ticks_over n d is (λ i within. h i (omega (arith, within))) in
      let first = h n (omega arith) in
      let last = h (suc n) (omega arith) in
      (λ i. ticked (before i)) ∙ ticked_over (ticks n d) (ticks_shiftable n d is) first last
