-- A task whose script keeps its budget is on time, tick after tick.
use Rattle.std.proofs.Common.{◌≡◌, ℕ, zero, suc, ◌+◌, ◌≤◌, Bool, true, false, cond, eqb, Option, Some, None, List, [], ◌∷◌, ◌++◌, length, map, refl, sym, ap, subst, ◌∙◌, arith}
use Rattle.std.specs.Prelude.{All, AllPairs, filter, position}
use Rattle.std.specs.List.{flat_map}
use Rattle.std.proofs.lemmas.List.{length-map}
use Rattle.std.proofs.lemmas.List.Elements.{All-nil, All-append, All-head, All-filter, All-map, All-weaker, filter-append}
use Rattle.attr_check.specs.ParamsView.{ParamsView}
use Rattle.cbs_rules.specs.declared.server.Server.{Server}
use Rattle.edf_pick.specs.Places.{Places, is_task, is_on_cpu}
use Rattle.task_script.specs.script.ScriptView.{CursorView}
use Rattle.domain_run.specs.declared.task.Task.{Task}
use Rattle.domain_run.specs.declared.task.Condition.{Condition}
use Rattle.domain_run.specs.declared.task.Condition.TheVariants.{Ready, Throttled, Blocked, Waiting, Leaving}
use Rattle.domain_run.specs.declared.happened.Happened.{Happened}
use Rattle.domain_run.specs.Parts.{replenish_due, settled, is_listed, unblocked, with_cpu, with_last_cpu, ran}
use Rattle.domain_run.specs.Domain.{Domain}
use Rattle.domain_run.specs.Tick.{prepared, with_tick_begun, rate_of, ran_if, ticked, ticks}
use Rattle.domain_run.specs.Happened.{logged_by_run, logged_if_ran, logged_by_replenishment, with_its_cpu, logged_to_begin, logged_by_beginning, logged_by_end, logged_by_tick, logged_by_ticks}
use Rattle.run_figures.specs.declared.job.Job.{Job}
use Rattle.run_figures.specs.Jobs.{of_task}
use Rattle.deadline_promise.proofs.Kept.{IsPaced, IsFit, IsCalm}
use Rattle.deadline_promise.proofs.Same.{same_replenished, same_settled, same_unblocked, same_homed, same_ran_if}
use Rattle.deadline_promise.proofs.Ticking.{Running, HasRoom, rate_plain, ready_is, begun_running, begun_room, ticks_calm}
use Rattle.deadline_promise.proofs.Jobs.{over_in, open_after, over_more, open_more, over_homed, open_homed}
use Rattle.deadline_promise.proofs.OnTime.{Runs, OnTimeIn, MidIn, Mid, AreOnTime, AreMid}
use Rattle.deadline_promise.proofs.Waking.{Begins, logged_to_wake, woken_up, begins}
use Rattle.deadline_promise.proofs.Ending.{IsDone, IsBefore, Ends, no_pairs, ends}
use Rattle.deadline_promise.proofs.Own.{own, own_order, own_homed, own_prepared, own_begun, own_ticked, logged_of_begin, logged_of_end}

append_none : {X : Type 0} (xs : List X) → xs ++ [] ≡ xs
append_none [] = refl
append_none (x ∷ xs) = ap (λ ys. x ∷ ys) (append_none xs)

-- ---- PARTS 1 TO 3 of the tasks of a number
list_begins : (time : ℕ) (o : Option Job) (ts : List Task) → All IsPaced ts → All IsFit ts → AreOnTime time ts o
    → Begins time o (flat_map (logged_by_replenishment time) ts ++ logged_to_wake time (map (replenish_due time) ts)) (woken_up time (map (replenish_due time) ts))
list_begins time o [] paced fit on = record { few = omega arith; over = refl; tasks = on }
list_begins time o (t ∷ []) paced fit on =
    subst (λ l. Begins time o (l ++ logged_to_wake time (replenish_due time t ∷ [])) (woken_up time (replenish_due time t ∷ []))) (sym (append_none (logged_by_replenishment time t)))
    (begins time o t (All-head IsPaced t [] paced) (All-head IsFit t [] fit) on)
list_begins time o (t ∷ u ∷ ts) paced fit on = absurd on

few_pairs : (hs : List Happened) → length hs ≤ 1 → AllPairs IsBefore hs
few_pairs hs few i j d less within = absurd (omega (arith, few, less, within))

-- what is logged of them where a tick begins
beginning_of : (n : ℕ) (d : Domain) → length (of_task n (logged_to_begin d)) ≤ 1 → of_task n (logged_by_beginning d) ≡ map (with_its_cpu (with_tick_begun d).curr) (of_task n (logged_to_begin d))
beginning_of n d few =
    let w = with_its_cpu (with_tick_begun d).curr in
    let hs = logged_to_begin d in
    let homed = own_homed n (with_tick_begun d).curr hs in
    let long : length (map w (of_task n hs)) ≡ length (of_task n hs) = simp length-map in
    let short : length (of_task n (map w hs)) ≤ 1 = omega (arith, few, ap (λ (l : List Happened). length l) homed, long) in
    own_order n (map w hs) (few_pairs (of_task n (map w hs)) short) ∙ homed

mid_homed : (time : ℕ) (places : Places) (ts : List Task) (o : Option Job) → AreMid time ts o → AreMid time (map (with_last_cpu places) ts) o
mid_homed time places [] o h = h
mid_homed time places (t ∷ []) o h = by_place (position (is_task t.number) places)
  where
    by_place : (q : Option ℕ) → Mid time (with_cpu q t) o
    by_place None = h
    by_place (Some cpu) = h
mid_homed time places (t ∷ u ∷ ts) o h = absurd h

-- ---- PART 6 of the tasks of a number
still_on_time : (time : ℕ) (p : ParamsView) (s : Server) (work : ℕ) (c : CursorView) (o : Option Job) (k : Condition) → MidIn time p s work c o k → OnTimeIn (time + 1) p s work c o k
still_on_time time p s work c o Ready r = record {
  release = r.release;
  past = omega (arith, r.past);
  due = r.due;
  throttled = r.throttled;
  job = r.job;
  some = r.some;
  fits = r.fits;
  refers = r.refers;
}
still_on_time time p s work c o Throttled h = absurd h
still_on_time time p s work c o (Blocked u) r = r
still_on_time time p s work c o Waiting h = absurd h
still_on_time time p s work c o Leaving h = h

pub list_ends : (e : Domain) (period : ℕ) (o : Option Job) (ts : List Task) → All (Running e) ts → All (HasRoom e.time) ts → All (λ t. t.params.period ≡ period) ts → AreMid e.time ts o
    → Ends (e.time + 1) period o (flat_map (logged_if_ran e) ts) (map (ran_if e) ts)
list_ends e period o [] running room same mid = record { rising = no_pairs; over = All-nil (IsDone period); tasks = mid }
list_ends e period o (t ∷ []) running room same mid =
    let r = All-head (Running e) t [] running in
    let p = All-head (λ (u : Task). u.params.period ≡ period) t [] same in
    subst (λ l. Ends (e.time + 1) period o l (ran_if e t ∷ [])) (sym (append_none (logged_if_ran e t)))
    (subst (λ k. Ends (e.time + 1) k o (logged_if_ran e t) (ran_if e t ∷ [])) p
    (elim (is_on_cpu t.number e.curr) as (λ b. is_on_cpu t.number e.curr ≡ b → Ends (e.time + 1) t.params.period o (cond b (logged_by_run e.time (rate_of e t) t) []) (cond b (ran e.time (rate_of e t) t) t ∷ [])) [
      | true ↦ λ s.
          let ready = r.2 s in
          let runs : Runs e.time t.params t.server t.work t.cursor o = subst (MidIn e.time t.params t.server t.work t.cursor o) (ready_is t.condition ready) mid.1 in
          subst (λ k. Ends (e.time + 1) t.params.period o (logged_by_run e.time k t) (ran e.time k t ∷ [])) (sym (rate_plain e t r.0))
          (ends e.time o t r.0 (r.1.fit.lifted ready) mid.0 runs (λ x at. All-head (HasRoom e.time) t [] room x ready at))
      | false ↦ λ s. record { rising = no_pairs; over = All-nil (IsDone t.params.period); tasks = (mid.0, still_on_time e.time t.params t.server t.work t.cursor o t.condition mid.1) }
    ] refl))
list_ends e period o (t ∷ u ∷ ts) running room same mid = absurd mid

-- ---- A TICK
-- the period of the tasks stays
abbrev pub HasPeriod : ℕ → Task → Type 0
HasPeriod period t = t.params.period ≡ period

period_map : (period : ℕ) (f : Task → Task) → ((t : Task) → (f t).params ≡ t.params) → (ts : List Task) → All (HasPeriod period) ts → All (HasPeriod period) (map f ts)
period_map period f same ts all =
    All-map (HasPeriod period) f ts (All-weaker (HasPeriod period) (λ t. HasPeriod period (f t)) (λ t h. ap (λ (p : ParamsView). p.period) (same t) ∙ h) ts all)

period_woken : (period time : ℕ) (ts : List Task) → All (HasPeriod period) ts → All (HasPeriod period) (woken_up time (map (replenish_due time) ts))
period_woken period time ts all =
    let one = map (replenish_due time) ts in
    let two = map (settled time) one in
    period_map period (unblocked time) (λ t. (same_unblocked time t).params) (filter is_listed two)
    (All-filter is_listed (HasPeriod period) two
    (period_map period (settled time) (λ t. (same_settled time t).params) one (period_map period (replenish_due time) (λ t. (same_replenished time t).params) ts all)))

-- what some ticks log of the tasks of a number, and how they leave them
pub record StaysOnTime (n period time : ℕ) (o : Option Job) (logged : List Happened) (after : List Task) : Type 0 where
  pub over : All (IsDone period) (over_in o (of_task n logged))
  pub tasks : AreOnTime time (own n after) (open_after o (of_task n logged))
  pub periods : All (HasPeriod period) (own n after)

module _ (n period : ℕ) (d : Domain) (o : Option Job) (calm : IsCalm d) (on : AreOnTime d.time (own n d.tasks) o) (periods : All (HasPeriod period) (own n d.tasks)) where
  tick_begins : Begins d.time o (of_task n (logged_to_begin d)) (own n (prepared d.time d.tasks))
  tick_begins =
      let is_own : Task → Bool = λ t. eqb t.number n in
      let b = list_begins d.time o (own n d.tasks) (All-filter is_own IsPaced d.tasks calm.paced) (All-filter is_own IsFit d.tasks calm.fit) on in
      subst (λ hs. Begins d.time o hs (own n (prepared d.time d.tasks))) (sym (logged_of_begin n d))
      (subst (Begins d.time o (flat_map (logged_by_replenishment d.time) (own n d.tasks) ++ logged_to_wake d.time (map (replenish_due d.time) (own n d.tasks)))) (sym (own_prepared n d.time d.tasks)) b)

  begun_periods : All (HasPeriod period) (own n (with_tick_begun d).tasks)
  begun_periods =
      subst (All (HasPeriod period)) (sym (own_begun n d))
      (period_map period (with_last_cpu (with_tick_begun d).curr) (λ t. (same_homed (with_tick_begun d).curr t).params) (own n (prepared d.time d.tasks))
      (subst (All (HasPeriod period)) (sym (own_prepared n d.time d.tasks)) (period_woken period d.time (own n d.tasks) periods)))

  tick_ends : Ends (d.time + 1) period (open_after o (of_task n (logged_to_begin d))) (flat_map (logged_if_ran (with_tick_begun d)) (own n (with_tick_begun d).tasks)) (map (ran_if (with_tick_begun d)) (own n (with_tick_begun d).tasks))
  tick_ends =
      let e = with_tick_begun d in
      let is_own : Task → Bool = λ t. eqb t.number n in
      let q = open_after o (of_task n (logged_to_begin d)) in
      let mid : AreMid d.time (own n e.tasks) q = subst (λ ts. AreMid d.time ts q) (sym (own_begun n d)) (mid_homed d.time e.curr (own n (prepared d.time d.tasks)) q tick_begins.tasks) in
      list_ends e period q (own n e.tasks) (All-filter is_own (Running e) e.tasks (begun_running d calm)) (All-filter is_own (HasRoom d.time) e.tasks (begun_room d calm)) begun_periods mid

  tick_logs : of_task n (logged_by_tick d) ≡ map (with_its_cpu (with_tick_begun d).curr) (of_task n (logged_to_begin d)) ++ flat_map (logged_if_ran (with_tick_begun d)) (own n (with_tick_begun d).tasks)
  tick_logs =
      let e = with_tick_begun d in
      let one = beginning_of n d tick_begins.few in
      let ended = logged_of_end n e in
      let two : of_task n (logged_by_end e) ≡ flat_map (logged_if_ran e) (own n e.tasks) =
      own_order n (flat_map (logged_if_ran e) e.tasks) (subst (AllPairs IsBefore) (sym ended) tick_ends.rising) ∙ ended in
      filter-append (λ (h : Happened). eqb h.number n) (logged_by_beginning d) (logged_by_end e) ∙ (λ i. one i ++ two i)

  pub tick_on_time : StaysOnTime n period (d.time + 1) o (logged_by_tick d) (ticked d).tasks
  tick_on_time =
      let e = with_tick_begun d in
      let w = with_its_cpu e.curr in
      let hs = of_task n (logged_to_begin d) in
      let q = open_after o hs in
      let f = flat_map (logged_if_ran e) (own n e.tasks) in
      let homed : open_after o (map w hs) ≡ q = open_homed e.curr o hs in
      let over_is : over_in o (of_task n (logged_by_tick d)) ≡ over_in q f =
      ap (over_in o) tick_logs ∙ over_more o (map w hs) f
      ∙ (λ i. (over_homed e.curr o hs ∙ tick_begins.over) i ++ over_in (homed i) f) in
      let open_is : open_after o (of_task n (logged_by_tick d)) ≡ open_after q f =
      ap (open_after o) tick_logs ∙ open_more o (map w hs) f ∙ ap (λ x. open_after x f) homed in
      record {
        over = subst (All (IsDone period)) (sym over_is) tick_ends.over;
        tasks = subst (λ ts. AreOnTime (d.time + 1) ts (open_after o (of_task n (logged_by_tick d)))) (sym (own_ticked n d))
            (subst (AreOnTime (d.time + 1) (map (ran_if e) (own n e.tasks))) (sym open_is) tick_ends.tasks);
        periods = subst (All (HasPeriod period)) (sym (own_ticked n d)) (period_map period (ran_if e) (λ t. (same_ran_if e t).params) (own n e.tasks) begun_periods);
      }

-- ---- ANY NUMBER OF TICKS
pub ticks_on_time : (k n period : ℕ) (d : Domain) → IsCalm d → AreOnTime d.time (own n d.tasks) None → All (HasPeriod period) (own n d.tasks) → StaysOnTime n period (ticks k d).time None (logged_by_ticks k d) (ticks k d).tasks
ticks_on_time zero n period d calm on periods = record { over = All-nil (IsDone period); tasks = on; periods = periods }
ticks_on_time (suc k) n period d calm on periods =
    let e = ticks k d in
    let before = ticks_on_time k n period d calm on periods in
    let hs = of_task n (logged_by_ticks k d) in
    let gs = of_task n (logged_by_tick e) in
    let o = open_after None hs in
    let tick = tick_on_time n period e o (ticks_calm k d calm) before.tasks before.periods in
    let logged : of_task n (logged_by_ticks k d ++ logged_by_tick e) ≡ hs ++ gs = filter-append (λ (h : Happened). eqb h.number n) (logged_by_ticks k d) (logged_by_tick e) in
    record {
      over = subst (All (IsDone period)) (sym (ap (over_in None) logged ∙ over_more None hs gs)) (All-append (IsDone period) (over_in None hs) (over_in o gs) before.over tick.over);
      tasks = subst (AreOnTime (e.time + 1) (own n (ticked e).tasks)) (sym (ap (open_after None) logged ∙ open_more None hs gs)) tick.tasks;
      periods = tick.periods;
    }
