-- What many ticks at once do to each task, by the budgets that a caller tells.
use Rattle.std.proofs.Common.{◌≡◌, ◌≢◌, ℕ, zero, suc, ◌+◌, ◌-◌, ◌*◌, ◌^◌, ◌<◌, ◌≤◌, max, Bool, true, false, cond, eqb, ◌||◌, Option, Some, None, List, [], ◌∷◌, length, map, get_or, refl, sym, ap, subst, ◌∙◌, arith, eq-eqb}
use Rattle.std.specs.Prelude.{ℤ, pos, neg_ℤ, ◌-ℤ◌, ◌<ℤ◌, ◌≤ℤ◌, All, Any, AllPairs, IsTrue, IfSome, find, position, slice_get, slice_index_or, option_map, unsigned_abs}
use Rattle.std.specs.List.{list_any}
use Rattle.std.proofs.lemmas.Int.{ints}
use Rattle.std.proofs.lemmas.Bool.{ne_eqb, eqb-true}
use Rattle.std.proofs.lemmas.List.{length-map}
use Rattle.std.proofs.lemmas.List.Elements.{All-map, All-weaker}
use Rattle.std.proofs.lemmas.Option.{slice_get_within}
use Rattle.std.proofs.Math.Nat.{div-le_of_le-mul}
use Rattle.attr_check.specs.ParamsView.{ParamsView}
use Rattle.attr_check.specs.Ratio.{cap}
use Rattle.grub_rules.specs.Rate.{div_up, charged_bw}
use Rattle.grub_rules.specs.Rate as reclaiming
use Rattle.grub_rules.proofs.CallerLemmas.{taken_is, used_most}
use Rattle.edf_pick.specs.Places.{Places, is_on_cpu}
use Rattle.domain_run.specs.declared.task.Task.{Task}
use Rattle.domain_run.specs.declared.task.Condition.{Condition}
use Rattle.domain_run.specs.declared.task.Condition.TheVariants.{Ready, Throttled, Blocked, Waiting, Leaving}
use Rattle.domain_run.specs.Conditions.{is_ready}
use Rattle.domain_run.specs.Domain.{Domain, IsLimit}
use Rattle.task_script.specs.declared.script.Segment.{Segment}
use Rattle.task_script.specs.declared.script.Segment.TheVariants.{Run as RunFor, Until, Wait as WaitFor, End}
use Rattle.domain_run.specs.Bounds.{IsNear}
use Rattle.domain_run.specs.Parts.{went_on}
use Rattle.domain_run.specs.Tick.{sum_of, rate_of, prepared, with_tick_begun, ticks}
use Rattle.domain_run.specs.Sound.{IsTimed, IsSound, IsSteady, IsPlacement, IsDomain, IsSwitch, IsAdmitted}
use Rattle.domain_run.specs.Jump.{under_way, running_numbers, running_of, running_if, running, ticks_to_event, IsCharged, AreCharged}
use Rattle.domain_run.specs.private.Paying.{ran_until, index_of, paid_at, paid, MayPay, MayPayIf}
use Rattle.domain_run.proofs.Keeping.{Same, same_itself, same_either, AllPairs-map, sum-map}
use Rattle.domain_run.proofs.Placing.{running_ready}
use Rattle.domain_run.proofs.KeptRunning.{first_is, first_passes, first_none}
use Rattle.domain_run.proofs.Jumping.{map_alike, RunsIf, jumped, jump_is}
use Rattle.domain_run.proofs.Ticking.{begun_is}
use Rattle.domain_run.proofs.Tracing.{AreRunning, tick_traced}
use Rattle.limits.specs.Limits.{unit}

-- ---- who runs

-- a task runs on a CPU where it is among those that run
runs_among : (number : ℕ) (places : Places) → is_on_cpu number places ≡ list_any (λ n. eqb n number) (running_numbers places)
runs_among number [] = refl
runs_among number (None ∷ places) = runs_among number places
runs_among number (Some n ∷ places) = ap (λ b. eqb n number || b) (runs_among number places)

-- the i-th of those that run
pub record IsThere (places : Places) (number i : ℕ) : Type 0 where
  pub at : slice_get (running_numbers places) i ≡ Some number
  pub runs_there : is_on_cpu number places ≡ true

pub there : (places : Places) (number i : ℕ) → position (λ n. eqb n number) (running_numbers places) ≡ Some i → IsThere places number i
there places number i e =
    let p : ℕ → Bool = λ n. eqb n number in
    let at = first_passes p (running_numbers places) i (sym (first_is p (running_numbers places)) ∙ e) in
    record {
      at = at.1 ∙ ap (λ n. Some n) (eqb-true at.0 number at.2);
      runs_there = runs_among number places ∙ found p (running_numbers places) i at.0 at.1 at.2;
    }
  where
    found : (p : ℕ → Bool) (xs : List ℕ) (i x : ℕ) → slice_get xs i ≡ Some x → p x ≡ true → list_any p xs ≡ true
    found p [] i x e is = absurd cc
    found p (y ∷ xs) zero x e is = let same : y ≡ x = cc in rw (ap p same ∙ is) refl
    found p (y ∷ xs) (suc i) x e is = elim (p y) as (λ b. (b || list_any p xs) ≡ true) [ true ↦ refl | false ↦ found p xs i x e is ]

pub nowhere : (places : Places) (number : ℕ) → position (λ n. eqb n number) (running_numbers places) ≡ None → is_on_cpu number places ≡ false
nowhere places number e =
    let p : ℕ → Bool = λ n. eqb n number in
    runs_among number places ∙ first_none p (running_numbers places) (sym (first_is p (running_numbers places)) ∙ e)

-- a number finds its task
pub find_here : (tasks : List Task) (k : ℕ) (d : Task) → AllPairs (λ a b. a.number ≢ b.number) tasks → k < length tasks → find (λ t. eqb t.number (get_or tasks k d).number) tasks ≡ Some (get_or tasks k d)
find_here [] k d numbered h = absurd (omega (arith, h))
find_here (t ∷ tasks) zero d numbered h = ap (λ b. cond b (Some t) (find (λ u. eqb u.number t.number) tasks)) (eq-eqb t.number t.number refl)
find_here (t ∷ tasks) (suc k) d numbered h =
    let u = get_or tasks k d in
    let other : eqb t.number u.number ≡ false = ne_eqb t.number u.number (numbered zero (suc k) d (omega arith) h) in
    let rest : AllPairs (λ a b. a.number ≢ b.number) tasks = λ i j e less within. numbered (suc i) (suc j) e (omega arith) (omega arith) in
    ap (λ b. cond b (Some t) (find (λ v. eqb v.number u.number) tasks)) other ∙ find_here tasks k d rest (omega (arith, h))

-- the i-th running task is that task
running_there : (e : Domain) (k i : ℕ) (d : Task) → AllPairs (λ a b. a.number ≢ b.number) e.tasks → k < length e.tasks → index_of (running_numbers e.curr) (get_or e.tasks k d) ≡ Some i → running e i ≡ Some (running_of e (get_or e.tasks k d))
running_there e k i d numbered h at =
    let t = get_or e.tasks k d in
    ap (running_if e) (there e.curr t.number i at).at ∙ ap (option_map (running_of e)) (find_here e.tasks k d numbered h)

pub is_Ready : (c : Condition) → IsTrue (is_ready c) → c ≡ Ready
is_Ready Ready h = refl
is_Ready Throttled h = absurd cc
is_Ready (Blocked u) h = absurd cc
is_Ready Waiting h = absurd cc
is_Ready Leaving h = absurd cc

-- ---- what is logged of the budgets, task by task

pub charged_there : (e : Domain) (ticks : ℕ) (budgets : List ℤ) (k i : ℕ) (d : Task) → AllPairs (λ a b. a.number ≢ b.number) e.tasks → AreCharged e ticks budgets → k < length e.tasks → index_of (running_numbers e.curr) (get_or e.tasks k d) ≡ Some i → IsCharged e ticks (running_of e (get_or e.tasks k d)) (slice_index_or budgets i (pos 0))
charged_there e ticks budgets k i d numbered are h at = are.each i (running_of e (get_or e.tasks k d)) (running_there e k i d numbered h at)

-- a task that runs runs on until the last tick
pub runs_each : (e : Domain) (ticks : ℕ) (budgets : List ℤ) → AllPairs (λ a b. a.number ≢ b.number) e.tasks → IsPlacement e → AreCharged e ticks budgets → All (RunsIf e ticks) e.tasks
runs_each e ticks budgets numbered placed are k d h = by_index (index_of (running_numbers e.curr) (get_or e.tasks k d)) refl
  where
    by_index : (o : Option ℕ) → index_of (running_numbers e.curr) (get_or e.tasks k d) ≡ o → RunsIf e ticks (get_or e.tasks k d)
    by_index None at on_one = let no : true ≡ false = sym on_one ∙ nowhere e.curr (get_or e.tasks k d).number at in absurd cc
    by_index (Some i) at on_one =
        let t = get_or e.tasks k d in
        let is = charged_there e ticks budgets k i d numbered are h at in
        record { ready = is_Ready t.condition (running_ready e numbered placed k d h on_one); worked = is.worked; lasted = is.lasted }

-- and has the budget that is logged
paid_each : (e : Domain) (time ticks : ℕ) (budgets : List ℤ) → AllPairs (λ a b. a.number ≢ b.number) e.tasks → AreCharged e ticks budgets
    → All (λ t. paid time (running_numbers e.curr) ticks budgets t ≡ cond (is_on_cpu t.number e.curr) (ran_until time ticks (t.server.left -ℤ pos (rate_of e t * ticks)) t) t) e.tasks
paid_each e time ticks budgets numbered are k d h = by_index (index_of (running_numbers e.curr) (get_or e.tasks k d)) refl
  where
    by_index : (o : Option ℕ) → index_of (running_numbers e.curr) (get_or e.tasks k d) ≡ o
        → paid_at time ticks budgets o (get_or e.tasks k d) ≡ cond (is_on_cpu (get_or e.tasks k d).number e.curr) (ran_until time ticks ((get_or e.tasks k d).server.left -ℤ pos (rate_of e (get_or e.tasks k d) * ticks)) (get_or e.tasks k d)) (get_or e.tasks k d)
    by_index None at =
        let t = get_or e.tasks k d in
        sym (ap (λ b. cond b (ran_until time ticks (t.server.left -ℤ pos (rate_of e t * ticks)) t) t) (nowhere e.curr t.number at))
    by_index (Some i) at =
        let t = get_or e.tasks k d in
        let is = charged_there e ticks budgets k i d numbered are h at in
        ap (λ left. ran_until time ticks left t) is.charged
        ∙ sym (ap (λ b. cond b (ran_until time ticks (t.server.left -ℤ pos (rate_of e t * ticks)) t) t) (there e.curr t.number i at).runs_there)

-- ---- ranges

rate_slow : (p : ParamsView) (inactive sum cpus limit : ℕ) → p.bw ≤ 2 ^ 20 → IsLimit limit → sum ≤ cap cpus limit → reclaiming.rate p inactive sum cpus limit ≤ 2 ^ 32
rate_slow p inactive sum cpus limit small is within =
    let t = unsigned_abs (charged_bw p inactive sum cpus limit) in
    let most : t ≤ 2 ^ 20 = omega (arith, taken_is p inactive sum cpus limit, small, used_most sum cpus limit within, is.1) in
    let q : div_up (t * unit) limit ≤ 2 ^ 27 = div-le_of_le-mul limit (omega (arith, most, is.0, is.1)) in
    elim p.reclaim as (λ b. cond b (max 1 (div_up (t * unit) limit)) unit ≤ 2 ^ 32) [ true ↦ omega (arith, q) | false ↦ omega arith ]

low_by : (left budget : ℤ) (rate j : ℕ) → rate ≤ 2 ^ 32 → pos (rate * j) <ℤ left → budget ≡ left -ℤ pos (rate * suc j) → neg_ℤ (pos (2 ^ 32)) ≤ℤ budget
low_by left budget rate j slow lasted is =
    let times : rate * suc j ≡ rate + rate * j = omega arith in
    omega (arith, ints, slow, lasted, is, times)

low_of : (left budget : ℤ) (rate ticks : ℕ) → 0 < ticks → rate ≤ 2 ^ 32 → pos (rate * (ticks - 1)) <ℤ left → budget ≡ left -ℤ pos (rate * ticks) → neg_ℤ (pos (2 ^ 32)) ≤ℤ budget
low_of left budget rate zero some slow lasted is = absurd (omega (arith, some))
low_of left budget rate (suc j) some slow lasted is = let same : suc j - 1 ≡ j = omega arith in low_by left budget rate j slow (subst (λ n. pos (rate * n) <ℤ left) same lasted) is

pub may_pay : (e : Domain) (ticks : ℕ) (budgets : List ℤ) → IsSteady e → IsPlacement e → 0 < ticks → AreCharged e ticks budgets → All (MayPayIf (running_numbers e.curr) ticks budgets) e.tasks
may_pay e ticks budgets steady placed some are k d h = by_index (index_of (running_numbers e.curr) (get_or e.tasks k d)) refl
  where
    by_index : (o : Option ℕ) → index_of (running_numbers e.curr) (get_or e.tasks k d) ≡ o → IfSome o (MayPay ticks budgets (get_or e.tasks k d))
    by_index None at = tt
    by_index (Some i) at =
        let t = get_or e.tasks k d in
        let is = charged_there e ticks budgets k i d steady.numbered are h at in
        let here = there e.curr t.number i at in
        let sound : IsSound e.time t = steady.sound k d h in
        record {
          ready = running_ready e steady.numbered placed k d h here.runs_there;
          within = omega (arith, slice_get_within (running_numbers e.curr) i t.number here.at, are.many);
          worked = is.worked;
          low = λ small. low_of t.server.left (slice_index_or budgets i (pos 0)) (rate_of e t) ticks some (rate_slow t.params _ (sum_of e.tasks) e.cpus e.limit small steady.limit steady.within) is.lasted is.charged;
          high = omega (arith, ints, is.charged, sound.served.high);
        }

-- ---- THE JUMP, as the code has it

pub paid_is : (d : Domain) (k : ℕ) (budgets : List ℤ) (time : ℕ) (tasks : List Task) → IsSteady (under_way d) → IsPlacement (under_way d) → 0 < k → k ≤ ticks_to_event (under_way d) → AreCharged (under_way d) k budgets
    → time ≡ (under_way d).time + (k - 1) → tasks ≡ map (paid time (running_numbers (under_way d).curr) k budgets) (under_way d).tasks
    → record (under_way d) { time = time; tasks = tasks } ≡ ticks k d
paid_is d k budgets time tasks steady placed some quiet-is are time-is tasks-are =
    let e = under_way d in
    let b = with_tick_begun d in
    let at : time ≡ d.time + k = omega (arith, time-is, some) in
    let runs : All (RunsIf b k) b.tasks = λ i x h on_one. let r = runs_each e k budgets steady.numbered placed are i x h on_one in record { ready = r.ready; worked = r.worked; lasted = r.lasted } in
    let alike : map (paid time (running_numbers e.curr) k budgets) e.tasks ≡ map (jumped b k) b.tasks =
    map_alike (paid time (running_numbers e.curr) k budgets) (jumped b k) b.tasks (λ i x h. paid_each e time k budgets steady.numbered are i x h ∙ ap (λ n. let t = get_or b.tasks i x in cond (is_on_cpu t.number b.curr) (ran_until n k (t.server.left -ℤ pos (rate_of b t * k)) t) t) at) in
    let all = tasks-are ∙ alike in
    (λ i. record e { time = at i; tasks = all i }) ∙ sym (jump_is d k some (omega (arith, quiet-is)) runs)

-- ---- what it keeps

near_later : (time later : ℕ) (o : Option ℕ) → time ≤ later → IfSome o (IsNear time) → IfSome o (IsNear later)
near_later time later None h is = tt
near_later time later (Some u) h is = omega (arith, h, is)

timed_later : (time later : ℕ) (c : Condition) (reference : ℕ) → time ≤ later → IsTimed time c reference → IsTimed later c reference
timed_later time later Ready r h is = omega (arith, h, is)
timed_later time later Throttled r h is = omega (arith, h, is)
timed_later time later (Blocked u) r h is = (omega (arith, h, is.0), is.1)
timed_later time later Waiting r h is = omega (arith, h, is)
timed_later time later Leaving r h is = tt

pub sound_later : (time later : ℕ) (tasks : List Task) → time ≤ later → All (IsSound time) tasks → All (IsSound later) tasks
sound_later time later tasks h all k d within =
    let t = get_or tasks k d in
    let is : IsSound time t = all k d within in
    record {
      served = record { near = near_later time later t.server.deadline h is.served.near; low = is.served.low; high = is.served.high };
      spent = is.spent;
      lifted = is.lifted;
      dated = is.dated;
      busy = is.busy;
      timed = timed_later time later t.condition t.cursor.reference h is.timed;
    }

same_went_on : (time : ℕ) (s : Segment) (t u : Task) → Same t u → Same t (went_on time s u)
same_went_on time (RunFor n) t u h = record { number = h.number; params = h.params; cpu = h.cpu }
same_went_on time (Until x) t u h = record { number = h.number; params = h.params; cpu = h.cpu }
same_went_on time WaitFor t u h = record { number = h.number; params = h.params; cpu = h.cpu }
same_went_on time End t u h = record { number = h.number; params = h.params; cpu = h.cpu }

pub same_ran_until : (time ticks : ℕ) (left : ℤ) (t : Task) → Same t (ran_until time ticks left t)
same_ran_until time ticks left t = same_either _ t _ _ (same_went_on time _ t _ (record { number = refl; params = refl; cpu = refl })) (record { number = refl; params = refl; cpu = refl })

pub same_paid : (time : ℕ) (running : List ℕ) (ticks : ℕ) (budgets : List ℤ) (t : Task) → Same t (paid time running ticks budgets t)
same_paid time running ticks budgets t = by_index (index_of running t)
  where
    by_index : (o : Option ℕ) → Same t (paid_at time ticks budgets o t)
    by_index None = same_itself t
    by_index (Some i) = same_ran_until time ticks (slice_index_or budgets i (pos 0)) t

-- a later time, and other tasks of the same numbers, parameters and CPUs
pub later_is : (e : Domain) (f : Task → Task) (time : ℕ) (tasks : List Task) → IsDomain e → ((t : Task) → Same t (f t)) → e.time ≤ time → time ≤ 2 ^ 42 → tasks ≡ map f e.tasks → All (IsSound time) tasks → IsDomain (record e { time = time; tasks = tasks })
later_is e f time tasks is same later early e-tasks sound =
    let s = is.steady in
    let len : length (map f e.tasks) ≡ length e.tasks = simp length-map in
    let number : (t : Task) → (f t).number ≡ t.number = λ t. (same t).number in
    record {
      steady = record {
        early = early;
        cpus = s.cpus;
        limit = s.limit;
        within = rw (e-tasks, sum-map f (λ t. (same t).params) e.tasks) s.within;
        listed = rw e-tasks (omega (arith, len, s.listed));
        sound = sound;
        homes = rw e-tasks (All-map (λ t. t.cpu < e.cpus) f e.tasks (All-weaker (λ t. t.cpu < e.cpus) (λ t. (f t).cpu < e.cpus) (λ t h. subst (λ c. c < e.cpus) (sym (same t).cpu) h) e.tasks s.homes));
        numbered = rw e-tasks (AllPairs-map (λ a b. a.number ≢ b.number) f (λ a b h k. h (sym (number a) ∙ k ∙ number b)) e.tasks s.numbered);
        known = rw e-tasks (All-map (λ t. IsAdmitted e.used t.number) f e.tasks (All-weaker (λ t. IsAdmitted e.used t.number) (λ t. IsAdmitted e.used (f t).number) (λ t h. subst (IsAdmitted e.used) (sym (number t)) h) e.tasks s.known));
        wide = s.wide;
        apart = s.apart;
      };
      traced = record {
        switches = All-weaker (IsSwitch e.cpus e.time e.used) (IsSwitch e.cpus time e.used) (λ s h. record { past = omega (arith, h.past, later); inside = h.inside; prev = h.prev; next = h.next }) e.switches is.traced.switches;
        rising = is.traced.rising;
        on_cpu = is.traced.on_cpu;
      };
    }

-- ---- a tick that has begun

running_from : (e : Domain) → IsSteady e → IsPlacement e → AreRunning e.used e.curr
running_from e is at cpu n h = on_cpu_by (at.running cpu n h)
  where
    on_cpu_by : Any (λ t. (t.number ≡ n) × (t.cpu ≡ cpu) × IsTrue (is_ready t.condition) × (pos 0 <ℤ t.server.left)) e.tasks → IsAdmitted e.used n
    on_cpu_by (k, t, within, same, facts) = subst (IsAdmitted e.used) (ap (λ x. x.number) same ∙ facts.0) (is.known k t within)

pub under_way_is : (d : Domain) → IsDomain d → d.time < 2 ^ 42 → All (IsSound d.time) (prepared d.time d.tasks) → IsDomain (under_way d) × IsPlacement (under_way d)
under_way_is d is early sound =
    let keeps = begun_is d is.steady sound in
    let s = keeps.0 in (
      record {
        steady = record {
          early = omega (arith, early);
          cpus = s.cpus;
          limit = s.limit;
          within = s.within;
          listed = s.listed;
          sound = sound_later d.time (d.time + 1) (with_tick_begun d).tasks (omega arith) s.sound;
          homes = s.homes;
          numbered = s.numbered;
          known = s.known;
          wide = s.wide;
          apart = s.apart;
        };
        traced = tick_traced d (prepared d.time d.tasks) (with_tick_begun d).tasks (with_tick_begun d).curr is.steady.wide is.traced (running_from (with_tick_begun d) s keeps.1);
      },
      record { running = keeps.1.running; apart = keeps.1.apart },
    )
