-- Zero-lag times are deferred where running tasks stop: what is left of each is the same.
use Rattle.std.proofs.Common.{◌≡◌, ◌≢◌, ℕ, zero, suc, ◌+◌, ◌-◌, ◌*◌, ◌/◌, ◌<◌, ◌≤◌, Bool, true, false, cond, eqb, ◌||◌, ◌&&◌, not, Option, Some, None, List, [], ◌∷◌, length, map, get_or, set, refl, sym, ap, ◌∙◌, subst, arith, eq-eqb}
use Rattle.std.specs.Prelude.{ℤ, pos, nat_le, ◌-ℤ◌, All, AllPairs, IfSome, is_none}
use Rattle.std.proofs.lemmas.Bool.{le-leb, leb-true}
use Rattle.std.proofs.lemmas.List.{get_or_default, get_or-map, length-map}
use Rattle.std.proofs.lemmas.List.Elements.{All-map}
use Rattle.attr_check.specs.ParamsView.{ParamsView}
use Rattle.cbs_rules.specs.declared.server.Server.{Server}
use Rattle.cbs_rules.specs.Budget.{budget, above_zero}
use Rattle.grub_rules.specs.Lag as lag
use Rattle.due_times.specs.declared.charges.OpenCharge.{OpenCharge}
use Rattle.task_script.specs.declared.script.Segment.{Segment}
use Rattle.task_script.specs.declared.script.Segment.TheVariants.{Run as RunFor, Until, Wait as WaitFor, End}
use Rattle.task_script.specs.script.Segments.{next_segment}
use Rattle.domain_run.specs.declared.task.Task.{Task}
use Rattle.domain_run.specs.declared.task.Condition.{Condition}
use Rattle.domain_run.specs.declared.task.Condition.TheVariants.{Blocked, Waiting, Leaving}
use Rattle.domain_run.specs.Conditions.{is_contending, is_leaving}
use Rattle.domain_run.specs.Parts.{with_last_cpu, running_on, stopped, went_on, goes_on}
use Rattle.domain_run.specs.private.Paying.{ran_until}
use Rattle.domain_run.specs.private.TaskTable.{without_zero_lag, HasItsCharge, leapt, LastsIf}
use Rattle.domain_run.specs.private.DeferringTimers.{with_lag, with_lags, awake, passed_bare, leapt_bare, IsBare, IsWithoutLag, MayDefer}
use Rattle.domain_run.specs.private.Owed.{charge_of_task, owed, IsOpen, IsOpenIf, AreOpen, passed_by, time_passed}
use Rattle.edf_pick.specs.Places.{Places}
use Rattle.domain_run.specs.Domain.{Domain}
use Rattle.domain_run.specs.Jump.{under_way, ticks_to_event}
use Rattle.domain_run.specs.Tick.{share_of, shares, sum_of, with_tick_begun, ticked, ticks}
use Rattle.grub_rules.specs.declared.share.Share.{Share}
use Rattle.std.proofs.lemmas.List.Sums.{sum_by-cons}
use Rattle.due_times.specs.Timers.{least}
use Rattle.domain_run.specs.private.Timers.{due_of}
use Rattle.domain_run.proofs.Due.{still_each}
use Rattle.domain_run.specs.Sound.{HasNoTaskTwice, IsSound, IsAdmitted, IsDomain}
use Rattle.domain_run.proofs.Keeping.{Same}
use Rattle.domain_run.proofs.Leaping.{leapt_one}
use Rattle.domain_run.proofs.Leapt.{same_leapt}
use Rattle.domain_run.proofs.Jumping.{RunsIf, map_alike, map_twice}
use Rattle.domain_run.proofs.Later.{map_set_to, orphan_passes, charge_seen, pass_one, pass_view}
use Rattle.domain_run.proofs.Paying.{is_Ready}
use Rattle.domain_run.proofs.KeptRunning.{map_itself}
use Rattle.domain_run.proofs.Owed.{alike_owed}
use Rattle.domain_run.proofs.Placing.{one_index}
use Rattle.domain_run.proofs.Chargings.{nobody_here, same_stranger}
use Rattle.due_times.specs.OpenCharges.{charge_by, IsAhead}
use Rattle.domain_run.proofs.DeferringTimers.{defer_back, lists_same, either_lag, lag_contending, lags_all, lags_map, read_lags, length_lags, home_with, jump_lags}

-- ---- A TASK THAT STOPS with a zero-lag time has it again

kept_none : (past : ℕ) (u : Task) → u.zero_lag ≡ None → with_lag past u.zero_lag (without_zero_lag u) ≡ u
kept_none past u none = ap (λ o. with_lag past o (without_zero_lag u)) none ∙ (λ i. record u { zero_lag = (sym none) i })

-- the time with which a task stops is ahead
stop_lag : (past time : ℕ) (p : ParamsView) (s : Server) (P : Option ℕ → Type 0) → past ≤ time → P None → ((z : ℕ) → nat_le z past ≡ false → P (Some z)) → P (lag.zero_lag p time s)
stop_lag past time p s P order none some = elim s.deadline as (λ o. P (lag.lag_at p time o s.left)) [
  | None ↦ none
  | Some d ↦ by_test (d - above_zero s.left * p.period / budget p) (nat_le (d - above_zero s.left * p.period / budget p) time) refl
]
  where
    by_test : (z : ℕ) (b : Bool) → nat_le z time ≡ b → P (cond b None (Some z))
    by_test z true e = none
    by_test z false e = some z (by_past (nat_le z past) refl)
      where
        by_past : (b : Bool) → nat_le z past ≡ b → nat_le z past ≡ false
        by_past true f = absurd (let h : z ≤ time = omega (arith, order, leb-true z past f) in let g : true ≡ false = sym (le-leb z time h) ∙ e in cc)
        by_past false f = f

stop_back : (past time : ℕ) (k : Condition) (u : Task) → past ≤ time → is_contending k ≡ false → with_lag past (stopped time k u).zero_lag (without_zero_lag (stopped time k u)) ≡ stopped time k u
stop_back past time k u order resting = stop_lag past time u.params u.server (λ o. with_lag past o (record u { condition = k; zero_lag = None }) ≡ record u { condition = k; zero_lag = o }) order refl (λ z ahead.
    ap (λ b. cond (b || nat_le z past) (record u { condition = k; zero_lag = None }) (record u { condition = k; zero_lag = Some z })) resting
    ∙ ap (λ b. cond b (record u { condition = k; zero_lag = None }) (record u { condition = k; zero_lag = Some z })) ahead)

pub lag_back : (past time ticks : ℕ) (left : ℤ) (x : Task) → past ≤ time → x.zero_lag ≡ None → with_lag past (ran_until time ticks left x).zero_lag (without_zero_lag (ran_until time ticks left x)) ≡ ran_until time ticks left x
lag_back past time ticks left x order none =
    let y : Task = record x { server = record x.server { left = left }; work = x.work - ticks } in
    elim (eqb y.work 0) as (λ b. with_lag past (cond b (goes_on time y (next_segment y.cursor time)) (running_on y)).zero_lag (without_zero_lag (cond b (goes_on time y (next_segment y.cursor time)) (running_on y))) ≡ cond b (goes_on time y (next_segment y.cursor time)) (running_on y)) [
      | true ↦ went_back (next_segment y.cursor time).segment (record y { cursor = (next_segment y.cursor time).cursor }) none
      | false ↦ kept_none past (running_on y) none
    ]
  where
    went_back : (s : Segment) (u : Task) → u.zero_lag ≡ None → with_lag past (went_on time s u).zero_lag (without_zero_lag (went_on time s u)) ≡ went_on time s u
    went_back (RunFor n) u e = kept_none past (running_on (record u { work = n })) e
    went_back (Until w) u e = stop_back past time (Blocked w) u order refl
    went_back WaitFor u e = stop_back past time Waiting u order refl
    went_back End u e = stop_back past time Leaving u order refl

set_lags : (past : ℕ) (lags : List (Option ℕ)) (tasks : List Task) (p : ℕ) (l : Option ℕ) (t : Task) → p < length lags → p < length tasks → with_lags past (set lags p l) (set tasks p t) ≡ set (with_lags past lags tasks) p (with_lag past l t)
set_lags past [] tasks p l t h g = absurd (omega (arith, h))
set_lags past (o ∷ lags) [] p l t h g = absurd (omega (arith, g))
set_lags past (o ∷ lags) (u ∷ tasks) zero l t h g = refl
set_lags past (o ∷ lags) (u ∷ tasks) (suc p) l t h g = ap (λ ts. with_lag past o u ∷ ts) (set_lags past lags tasks p l t (omega (arith, h)) (omega (arith, g)))

-- ---- ONE CPU, whose open charge is left

module _ (time k cpu : ℕ) (charges : List (Option OpenCharge)) (tasks : List Task) (s : OpenCharge) (there : get_or charges cpu None ≡ Some s) where
  bare_twice : (charges : List (Option OpenCharge)) (ts : List Task) → map (passed_bare time k charges) ts ≡ map without_zero_lag (map (time_passed time k charges) ts)
  bare_twice charges ts = sym (map_twice without_zero_lag (time_passed time k charges) (passed_bare time k charges) ts (λ i d h. refl))

  -- no listed task has an open charge there
  pub orphan_bare : All (λ t. t.number ≡ s.number → t.cpu ≡ cpu → ⊥) tasks → map (passed_bare time k (set charges cpu None)) tasks ≡ map (passed_bare time k charges) tasks
  orphan_bare none = bare_twice (set charges cpu None) tasks ∙ ap (map without_zero_lag) (orphan_passes time k cpu charges tasks s there none) ∙ sym (bare_twice charges tasks)

  pub orphan_lags : (past : ℕ) (lags : List (Option ℕ)) → All (λ t. t.number ≡ s.number → t.cpu ≡ cpu → ⊥) tasks → map (time_passed time k (set charges cpu None)) (with_lags past lags tasks) ≡ map (time_passed time k charges) (with_lags past lags tasks)
  orphan_lags past lags none = orphan_passes time k cpu charges (with_lags past lags tasks) s there (lags_all (λ t. t.number ≡ s.number → t.cpu ≡ cpu → ⊥) past lags tasks (λ i d h l. either_lag (λ u. u.number ≡ s.number → u.cpu ≡ cpu → ⊥) past l (get_or tasks i d) (none i d h) (λ z. none i d h)))

  module _ (p : ℕ) (x : Task) (inside : p < length tasks) (read : x ≡ get_or tasks p x) (number : x.number ≡ s.number) (home : x.cpu ≡ cpu) (numbered : AllPairs (λ a b. a.number ≢ b.number) tasks) where
    charging_there : charge_of_task charges x ≡ Some s
    charging_there = ap (λ c. charge_by x.number (get_or charges c None)) home ∙ ap (charge_by x.number) there ∙ ap (λ b. cond b (Some s) None) (eq-eqb s.number x.number (sym number))

    apart : (i : ℕ) (d : Task) → i < length tasks → i ≢ p → (get_or tasks i d).number ≢ s.number
    apart i d h other e = other (one_index tasks i p d d numbered h inside (e ∙ sym number ∙ ap (λ (t : Task). t.number) (read ∙ get_or_default tasks p x d inside)))

    is_there : (d : Task) → get_or tasks p d ≡ x
    is_there d = sym (read ∙ get_or_default tasks p x d inside)

    pub finished_bare : (y : Task) → y.cpu ≡ x.cpu → y ≡ ran_until time k (x.server.left -ℤ pos (s.rate * k)) x → map (passed_bare time k (set charges cpu None)) (set tasks p (without_zero_lag y)) ≡ map (passed_bare time k charges) tasks
    finished_bare y stays is =
        map_set_to (passed_bare time k (set charges cpu None)) (passed_bare time k charges) tasks p (without_zero_lag y)
        (λ i d h other. ap (λ o. without_zero_lag (passed_by time k o (get_or tasks i d))) (same_stranger charges cpu s (get_or tasks i d) there (apart i d h other)))
        (λ d.
        ap (λ o. without_zero_lag (passed_by time k o (without_zero_lag y))) (nobody_here charges cpu (without_zero_lag y) (stays ∙ home))
        ∙ ap without_zero_lag is
        ∙ sym (ap (passed_bare time k charges) (is_there d) ∙ ap (λ o. without_zero_lag (passed_by time k o x)) charging_there))

    pub finished_lags : (past : ℕ) (lags : List (Option ℕ)) (y : Task) → past ≤ time → p < length lags → x.zero_lag ≡ None → is_contending x.condition ≡ true → y.cpu ≡ x.cpu → y ≡ ran_until time k (x.server.left -ℤ pos (s.rate * k)) x → map (time_passed time k (set charges cpu None)) (with_lags past (set lags p y.zero_lag) (set tasks p (without_zero_lag y))) ≡ map (time_passed time k charges) (with_lags past lags tasks)
    finished_lags past lags y order wide none contends stays is =
        let back : with_lag past y.zero_lag (without_zero_lag y) ≡ y = subst (λ u. with_lag past u.zero_lag (without_zero_lag u) ≡ u) (sym is) (lag_back past time k (x.server.left -ℤ pos (s.rate * k)) x order none) in
        let many = length_lags past lags tasks in
        ap (map (time_passed time k (set charges cpu None))) (set_lags past lags tasks p y.zero_lag (without_zero_lag y) wide inside ∙ ap (set (with_lags past lags tasks) p) back)
        ∙ map_set_to (time_passed time k (set charges cpu None)) (time_passed time k charges) (with_lags past lags tasks) p y
        (λ i d h other.
        let within : i < length tasks = omega (arith, h, many) in
        let seen = read_lags past lags tasks i d within in
        let one = either_lag (λ u. u.number ≡ (get_or tasks i d).number) past (get_or lags i None) (get_or tasks i d) refl (λ z. refl) in
        ap (λ o. passed_by time k o (get_or (with_lags past lags tasks) i d)) (same_stranger charges cpu s (get_or (with_lags past lags tasks) i d) there (λ e. apart i d within other (sym (ap (λ (u : Task). u.number) seen ∙ one) ∙ e))))
        (λ d.
        ap (λ o. passed_by time k o y) (nobody_here charges cpu y (stays ∙ home))
        ∙ is
        ∙ sym (ap (time_passed time k charges) (read_lags past lags tasks p d inside ∙ ap (with_lag past (get_or lags p None)) (is_there d) ∙ lag_contending past (get_or lags p None) x contends) ∙ ap (λ o. passed_by time k o x) charging_there))

-- ---- NONE ENDS

module _ (upto time k : ℕ) (charges : List (Option OpenCharge)) (items : List Task) (ahead : (t : Task) → IfSome (charge_of_task charges t) (λ s. IsAhead upto s × (upto + k < s.end))) (waits : AreOpen charges items) where
  one_lag : (past : ℕ) (lag : Option ℕ) (x : Task) → IsOpenIf charges x → time_passed time k charges (with_lag past lag (owed upto charges x)) ≡ with_lag past lag (time_passed time k charges (owed upto charges x))
  one_lag past lag x wait = by_charge (charge_of_task charges x) refl wait
    where
      same_charge : charge_of_task charges (with_lag past lag (owed upto charges x)) ≡ charge_of_task charges x
      same_charge = either_lag (λ u. charge_of_task charges u ≡ charge_of_task charges x) past lag (owed upto charges x) (charge_seen upto charges x) (λ z. charge_seen upto charges x)

      by_charge : (o : Option OpenCharge) → charge_of_task charges x ≡ o → IfSome o (λ s. IsOpen s x) → time_passed time k charges (with_lag past lag (owed upto charges x)) ≡ with_lag past lag (time_passed time k charges (owed upto charges x))
      by_charge None e w =
          ap (λ o. passed_by time k o (with_lag past lag (owed upto charges x))) (same_charge ∙ e)
          ∙ ap (with_lag past lag) (sym (ap (λ o. passed_by time k o (owed upto charges x)) (charge_seen upto charges x ∙ e)))
      by_charge (Some s) e w =
          let ready : is_contending x.condition ≡ true = ap is_contending (is_Ready x.condition w.ready) in
          let before : is_contending (owed upto charges x).condition ≡ true = ap is_contending (alike_owed upto charges x).condition ∙ ready in
          let after : is_contending (owed (upto + k) charges x).condition ≡ true = ap is_contending (alike_owed (upto + k) charges x).condition ∙ ready in
          let made = pass_one upto time k charges x (charge_of_task charges x) refl (ahead x) wait in
          ap (time_passed time k charges) (lag_contending past lag (owed upto charges x) before)
          ∙ made
          ∙ sym (lag_contending past lag (owed (upto + k) charges x) after)
          ∙ ap (with_lag past lag) (sym made)

  pub pass_lags : (past : ℕ) (lags : List (Option ℕ)) → with_lags past lags (map (owed (upto + k) charges) items) ≡ map (time_passed time k charges) (with_lags past lags (map (owed upto charges) items))
  pass_lags past lags =
      ap (with_lags past lags) (pass_view upto time k charges items ahead waits)
      ∙ sym (lags_map (time_passed time k charges) (time_passed time k charges) past past lags (map (owed upto charges) items) (All-map (λ t. (lag : Option ℕ) → time_passed time k charges (with_lag past lag t) ≡ with_lag past lag (time_passed time k charges t)) (owed upto charges) items (λ i d h lag. one_lag past lag (get_or items i d) (waits i d h))))

  pub pass_bare : All IsBare (map (owed upto charges) items) → map (owed (upto + k) charges) items ≡ map (passed_bare time k charges) (map (owed upto charges) items)
  pass_bare bare =
      let many : length (map (owed upto charges) items) ≡ length items = simp length-map in
      let same = map_itself without_zero_lag (map (owed (upto + k) charges) items) (All-map (λ t. without_zero_lag t ≡ t) (owed (upto + k) charges) items (λ i d h.
      let x = get_or items i d in
      let none : x.zero_lag ≡ None = sym (alike_owed upto charges x).zero_lag ∙ ap (λ (t : Task). t.zero_lag) (sym (get_or-map (owed upto charges) items i d d h)) ∙ (bare i d (omega (arith, h, many))).lag in
      let after : (owed (upto + k) charges x).zero_lag ≡ None = (alike_owed (upto + k) charges x).zero_lag ∙ none in
      λ j. record (owed (upto + k) charges x) { zero_lag = (sym after) j })) in
      sym same
      ∙ ap (map without_zero_lag) (pass_view upto time k charges items ahead waits)
      ∙ map_twice without_zero_lag (time_passed time k charges) (passed_bare time k charges) (map (owed upto charges) items) (λ i d h. refl)

-- ---- A LEAP

pub leapt_lags : (past time k : ℕ) (places : Places) (cpus limit : ℕ) (tasks : List Task) (charges : List (Option OpenCharge)) (lags : List (Option ℕ)) → HasNoTaskTwice places → All (λ t. with_last_cpu places t ≡ t) tasks → All (HasItsCharge places cpus limit tasks charges) tasks → map (time_passed time k charges) (with_lags past lags tasks) ≡ map (leapt time k places cpus limit tasks) (with_lags past lags tasks)
leapt_lags past time k places cpus limit tasks charges lags apart homed right = map_alike (time_passed time k charges) (leapt time k places cpus limit tasks) (with_lags past lags tasks)
    (lags_all (λ u. time_passed time k charges u ≡ leapt time k places cpus limit tasks u) past lags tasks (λ i d h lag.
    let t = get_or tasks i d in
    leapt_one time k places cpus limit tasks charges (with_lag past lag t) apart (home_with places past lag t ∙ ap (with_lag past lag) (homed i d h)) (either_lag (λ u. HasItsCharge places cpus limit tasks charges u) past lag t (right i d h) (λ z. right i d h))))

-- of a domain under way, it is so many ticks with the zero-lag times
pub leap_lags_is : (e : Domain) (before after : List (Option ℕ)) (k time : ℕ) (tasks : List Task) → 0 < k → k ≤ ticks_to_event (under_way e) → time ≡ (under_way e).time + (k - 1) → All IsWithoutLag e.tasks
    → All (LastsIf k (under_way e).curr (under_way e).cpus (under_way e).limit (under_way e).tasks) (under_way e).tasks
    → with_lags (time - 1) after tasks ≡ map (leapt time k (under_way e).curr (under_way e).cpus (under_way e).limit (under_way e).tasks) (with_lags (time - 1) before (under_way e).tasks)
    → awake after (record (under_way e) { time = time; tasks = tasks }) ≡ ticks k (awake before e)
leap_lags_is e before after k time tasks some quiet time-is plain lasts tasks-are =
    let u = under_way e in
    let b = with_tick_begun e in
    let at : time ≡ e.time + k = omega (arith, time-is, some) in
    let past : time - 1 ≡ e.time + (k - 1) = omega (arith, time-is, some) in
    let runs : All (RunsIf b k) b.tasks = λ i x h on_one. let r = lasts i x h on_one in record { ready = is_Ready (get_or b.tasks i x).condition r.ready; worked = r.worked; lasted = r.lasted } in
    let all = tasks-are ∙ (λ i. map (leapt (at i) k u.curr u.cpus u.limit u.tasks) (with_lags (past i) before u.tasks)) in
    (λ i. record u { time = at i; tasks = all i }) ∙ sym (jump_lags e before k some plain (omega (arith, quiet)) runs)

pub leapt_is_bare : (time k : ℕ) (places : Places) (cpus limit : ℕ) (tasks ts : List Task) → All IsBare ts → All IsBare (map (leapt_bare time k places cpus limit tasks) ts)
leapt_is_bare time k places cpus limit tasks ts bare = All-map IsBare (leapt_bare time k places cpus limit tasks) ts (λ i d h. record { lag = refl; fixed = ap (λ p. p.reclaim) (same_leapt time k places cpus limit tasks (get_or ts i d)).params ∙ (bare i d h).fixed })

pub same_leapt_bare : (time k : ℕ) (places : Places) (cpus limit : ℕ) (tasks : List Task) (t : Task) → Same t (leapt_bare time k places cpus limit tasks t)
same_leapt_bare time k places cpus limit tasks t = let a = same_leapt time k places cpus limit tasks t in record { number = a.number; params = a.params; cpu = a.cpu }

-- ---- THE WHOLE DOMAIN

sum_lags : (past : ℕ) (lags : List (Option ℕ)) (tasks : List Task) → sum_of (with_lags past lags tasks) ≡ sum_of tasks
sum_lags past [] tasks = refl
sum_lags past (lag ∷ lags) [] = refl
sum_lags past (lag ∷ lags) (t ∷ tasks) =
    let same = either_lag (λ u. u.params.bw ≡ t.params.bw) past lag t refl (λ z. refl) in
    omega (arith, sum_first (with_lag past lag t) (with_lags past lags tasks), sum_first t tasks, sum_lags past lags tasks, same)
  where
    sum_first : (t : Task) (tasks : List Task) → sum_of (t ∷ tasks) ≡ t.params.bw + sum_of tasks
    sum_first t tasks = sum_by-cons (λ (s : Share). s.bw) (share_of t) (shares tasks)

-- it stays a domain
pub domain_lags : (e : Domain) (past : ℕ) (lags : List (Option ℕ)) (tasks : List Task) → IsDomain e → tasks ≡ with_lags past lags e.tasks → IsDomain (record e { tasks = tasks })
domain_lags e past lags tasks is made =
    let s = is.steady in
    let len = length_lags past lags e.tasks in
    subst (λ ts. IsDomain (record e { tasks = ts })) (sym made) (record {
      steady = record {
        early = s.early;
        cpus = s.cpus;
        limit = s.limit;
        within = rw (sum_lags past lags e.tasks) s.within;
        listed = omega (arith, len, s.listed);
        sound = lags_all (IsSound e.time) past lags e.tasks (λ i d h lag. let t = get_or e.tasks i d in let b = s.sound i d h in either_lag (IsSound e.time) past lag t b (λ z. record { served = b.served; spent = b.spent; lifted = b.lifted; dated = b.dated; busy = b.busy; timed = b.timed }));
        homes = lags_all (λ t. t.cpu < e.cpus) past lags e.tasks (λ i d h lag. either_lag (λ u. u.cpu < e.cpus) past lag (get_or e.tasks i d) (s.homes i d h) (λ z. s.homes i d h));
        numbered = λ i j d less within.
            let there : j < length e.tasks = omega (arith, within, len) in
            let here : i < length e.tasks = omega (arith, less, there) in
            let a = ap (λ (t : Task). t.number) (read_lags past lags e.tasks i d here) ∙ number (get_or lags i None) (get_or e.tasks i d) in
            let b = ap (λ (t : Task). t.number) (read_lags past lags e.tasks j d there) ∙ number (get_or lags j None) (get_or e.tasks j d) in
            λ same. s.numbered i j d less there (sym a ∙ same ∙ b);
        known = lags_all (λ t. IsAdmitted e.used t.number) past lags e.tasks (λ i d h lag. either_lag (λ u. IsAdmitted e.used u.number) past lag (get_or e.tasks i d) (s.known i d h) (λ z. s.known i d h));
        wide = s.wide;
        apart = s.apart;
      };
      traced = record { switches = is.traced.switches; rising = is.traced.rising; on_cpu = is.traced.on_cpu };
    })
  where
    number : (lag : Option ℕ) (t : Task) → (with_lag past lag t).number ≡ t.number
    number lag t = either_lag (λ u. u.number ≡ t.number) past lag t refl (λ z. refl)

-- with what was deferred each is as before
pub back_all : (time : ℕ) (lags : List (Option ℕ)) (tasks : List Task) → All (MayDefer time) tasks → ((i : ℕ) (d : Task) → i < length tasks → get_or lags i None ≡ (get_or tasks i d).zero_lag) → with_lags time lags (map without_zero_lag tasks) ≡ tasks
back_all time lags tasks may are =
    let len : length (map without_zero_lag tasks) ≡ length tasks = simp length-map in
    lists_same (with_lags time lags (map without_zero_lag tasks)) tasks (length_lags time lags (map without_zero_lag tasks) ∙ len) (λ i d h.
    read_lags time lags (map without_zero_lag tasks) i d (omega (arith, h, len))
    ∙ (λ j. with_lag time (are i d h j) (get_or-map without_zero_lag tasks i d d h j))
    ∙ defer_back time (get_or tasks i d) (may i d h))

pub defer_bare : (time : ℕ) (tasks : List Task) → All (MayDefer time) tasks → All IsBare (map without_zero_lag tasks)
defer_bare time tasks may = All-map IsBare without_zero_lag tasks (λ i d h. record { lag = refl; fixed = (may i d h).fixed })

pub same_bared : (t : Task) → Same t (without_zero_lag t)
same_bared t = record { number = refl; params = refl; cpu = refl }

-- none is due at once, so none has ended
pub all_plain : (tasks : List Task) → All IsBare tasks → 0 < least (map due_of tasks) → All IsWithoutLag tasks
all_plain tasks bare later i d h =
    let t = get_or tasks i d in
    let b = bare i d h in
    let still = still_each 0 tasks later i d h in
    record { lag = b.lag; stays = not_true (is_leaving t.condition) (ap (λ o. not (is_leaving t.condition && is_none o)) (sym b.lag) ∙ still.listed); fixed = b.fixed }
  where
    not_true : (x : Bool) → not (x && true) ≡ true → x ≡ false
    not_true true e = absurd cc
    not_true false e = refl

pub ticks_time : (k : ℕ) (d : Domain) → (ticks k d).time ≡ d.time + k
ticks_time zero d = omega arith
ticks_time (suc k) d = omega (arith, ticks_time k d)

pub ticks_twice : (m k : ℕ) (d : Domain) → ticks k (ticks m d) ≡ ticks (m + k) d
ticks_twice m zero d = let same : m ≡ m + 0 = omega arith in ap (λ n. ticks n d) same
ticks_twice m (suc k) d = let next : suc (m + k) ≡ m + suc k = omega arith in ap ticked (ticks_twice m k d) ∙ ap (λ n. ticks n d) next
