-- Many ticks at once are so many single ticks.
use Rattle.std.proofs.Common.{◌≡◌, ℕ, zero, suc, ◌+◌, ◌-◌, ◌*◌, ◌<◌, ◌≤◌, min, Bool, true, false, cond, eqb, ◌||◌, ◌&&◌, not, Option, Some, None, List, [], ◌∷◌, ◌++◌, map, get_or, refl, sym, ap, ◌∙◌, arith, eq-eqb}
use Rattle.std.specs.Prelude.{ℤ, pos, ◌-ℤ◌, ◌<ℤ◌, int_le, All, filter, position, is_none, is_some, option_map, unwrap_or}
use Rattle.std.proofs.lemmas.Int.{ints}
use Rattle.std.proofs.lemmas.Bool.{lt-leb, ne_eqb}
use Rattle.std.proofs.Math.Nat.{mul-le-mul}
use Rattle.std.proofs.lemmas.List.{append-nil, map-append}
use Rattle.std.proofs.lemmas.List.Elements.{All-cons, All-map, All-weaker}
use Rattle.cbs_rules.specs.Serving.{charged}
use Rattle.grub_rules.specs.declared.share.Share.{Share}
use Rattle.grub_rules.specs.Sums.{total_bw, uinact}
use Rattle.grub_rules.specs.Rate as reclaiming
use Rattle.edf_pick.specs.declared.candidate.Candidate.{Candidate}
use Rattle.edf_pick.specs.Places.{Places, is_task, is_on_cpu, placed}
use Rattle.domain_run.specs.declared.task.Task.{Task}
use Rattle.domain_run.specs.declared.task.Condition.{Condition}
use Rattle.domain_run.specs.declared.task.Condition.TheVariants.{Ready, Throttled, Blocked, Waiting, Leaving}
use Rattle.domain_run.specs.Switch.{Switch}
use Rattle.domain_run.specs.Conditions.{is_ready, is_throttled, is_contending, is_leaving, is_over, has_come}
use Rattle.task_script.specs.script.Segments.{next_segment}
use Rattle.domain_run.specs.Parts.{replenish_due, settled, is_listed, unblocked, with_last_cpu, with_cpu, running_on, goes_on, after_charge, ran}
use Rattle.edf_pick.specs.Moves.{same_occupant}
use Rattle.domain_run.specs.Switches.{prev_state_of, switches_from}
use Rattle.domain_run.specs.Domain.{Domain}
use Rattle.domain_run.specs.Tick.{share_of, shares, candidate_of, candidates, prepared, with_places, with_prepared, with_tick_begun, rate_of, ran_if, finished, ticked, ticks}
use Rattle.domain_run.specs.Jump.{replenished_at, asks_at, gone_at, ticks_to, ticks_to_due_of, ticks_to_due}
use Rattle.domain_run.specs.private.RunQueue.{candidate_at, ready_of}
use Rattle.domain_run.specs.private.Paying.{ran_until}
use Rattle.domain_run.proofs.Counting.{one, candidates_first}
use Rattle.domain_run.proofs.KeptRunning.{map_itself, rehomed, stays}

-- ---- a change that the choice and the sums do not see

-- the same task, as parts 1 to 5 see it
pub record Alike (t u : Task) : Type 0 where
  pub number : u.number ≡ t.number
  pub params : u.params ≡ t.params
  pub cpu : u.cpu ≡ t.cpu
  pub condition : u.condition ≡ t.condition
  pub zero_lag : u.zero_lag ≡ t.zero_lag
  pub deadline : u.server.deadline ≡ t.server.deadline

pub share_alike : (t u : Task) → Alike t u → share_of u ≡ share_of t
share_alike t u same = λ i. record { cpu = same.cpu i; bw = (same.params i).bw; active = is_contending (same.condition i) || is_some (same.zero_lag i) }

pub shares_alike : (f : Task → Task) → ((t : Task) → Alike t (f t)) → (tasks : List Task) → shares (map f tasks) ≡ shares tasks
shares_alike f same [] = refl
shares_alike f same (t ∷ tasks) =
    let first = share_alike t (f t) (same t) in
    let more = shares_alike f same tasks in
    λ i. first i ∷ more i

ready_alike : (t u : Task) → Alike t u → ready_of u ≡ ready_of t
ready_alike t u same = λ i. candidate_at (same.number i) (same.cpu i) (cond (is_ready (same.condition i)) (Some (unwrap_or (same.deadline i) 0)) None)

pub candidates_alike : (f : Task → Task) → ((t : Task) → Alike t (f t)) → (tasks : List Task) → candidates (map f tasks) ≡ candidates tasks
candidates_alike f same [] = refl
candidates_alike f same (t ∷ tasks) =
    let first = ready_alike t (f t) (same t) in
    let more = candidates_alike f same tasks in
    candidates_first (f t) (map f tasks) ∙ (λ i. one (first i) ++ more i) ∙ sym (candidates_first t tasks)

pub rest_alike : (time : ℕ) (t u : Task) → Alike t u → ticks_to_due_of time u ≡ ticks_to_due_of time t
rest_alike time t u same =
    λ i. min (min (ticks_to time (cond (is_throttled (same.condition i)) (same.deadline i) None)) (ticks_to time (same.zero_lag i))) (min (ticks_to time (asks_at (same.condition i))) (ticks_to time (cond (not (is_leaving (same.condition i) && is_none (same.zero_lag i))) None (Some 0))))

-- ---- parts 1 to 3 have nothing to do

pub record IsStill (time : ℕ) (t : Task) : Type 0 where
  pub due : (is_throttled t.condition && has_come time t.server.deadline) ≡ false
  pub lag : has_come time t.zero_lag ≡ false
  pub listed : is_listed t ≡ true
  pub over : is_over time t.condition ≡ false

pub map_alike : {X Y : Type 0} (f g : X → Y) (xs : List X) → All (λ x. f x ≡ g x) xs → map f xs ≡ map g xs
map_alike f g [] all = refl
map_alike f g (x ∷ xs) all =
    let rest : All (λ y. f y ≡ g y) xs = λ k d w. all (suc k) d (omega arith) in
    let first : f x ≡ g x = all zero x (omega arith) in
    let more = map_alike f g xs rest in
    λ i. first i ∷ more i

pub map_twice : {X : Type 0} (g f h : X → X) (xs : List X) → All (λ x. g (f x) ≡ h x) xs → map g (map f xs) ≡ map h xs
map_twice g f h [] all = refl
map_twice g f h (x ∷ xs) all =
    let rest : All (λ y. g (f y) ≡ h y) xs = λ k d w. all (suc k) d (omega arith) in
    let first : g (f x) ≡ h x = all zero x (omega arith) in
    let more = map_twice g f h xs rest in
    λ i. first i ∷ more i

pub filter_whole : {X : Type 0} (p : X → Bool) (xs : List X) → All (λ x. p x ≡ true) xs → filter p xs ≡ xs
filter_whole p [] all = refl
filter_whole p (x ∷ xs) all =
    let rest : All (λ y. p y ≡ true) xs = λ k d h. all (suc k) d (omega arith) in
    ap (λ b. cond b (x ∷ filter p xs) (filter p xs)) (all zero x (omega arith)) ∙ ap (λ ys. x ∷ ys) (filter_whole p xs rest)

pub prepared_still : (time : ℕ) (tasks : List Task) → All (IsStill time) tasks → prepared time tasks ≡ tasks
prepared_still time tasks still =
    let due : map (replenish_due time) tasks ≡ tasks = map_itself (replenish_due time) tasks (λ k d h. let t = get_or tasks k d in rw (still k d h).due refl) in
    let lag : map (settled time) tasks ≡ tasks = map_itself (settled time) tasks (λ k d h. let t = get_or tasks k d in rw (still k d h).lag refl) in
    let listed : filter is_listed tasks ≡ tasks = filter_whole is_listed tasks (λ k d h. (still k d h).listed) in
    let over : map (unblocked time) tasks ≡ tasks = map_itself (unblocked time) tasks (λ k d h. let t = get_or tasks k d in rw (still k d h).over refl) in
    ap (λ ts. map (unblocked time) (filter is_listed (map (settled time) ts))) due
    ∙ ap (λ ts. map (unblocked time) (filter is_listed ts)) lag
    ∙ ap (map (unblocked time)) listed
    ∙ over

not_yet : (time j : ℕ) (moment : Option ℕ) → 0 < j → j ≤ ticks_to (time + 1) moment → has_come (time + j) moment ≡ false
not_yet time j None some h = refl
not_yet time j (Some u) some h = lt-leb u (time + j) (omega (arith, some, h))

-- before the first time at which something is to be done
pub still_before : (time j : ℕ) (t : Task) → 0 < j → j ≤ ticks_to_due_of (time + 1) t → IsStill (time + j) t
still_before time j t some h =
    let clock = time + 1 in
    let a : j ≤ ticks_to clock (replenished_at t) = omega (arith, h) in
    let b : j ≤ ticks_to clock t.zero_lag = omega (arith, h) in
    let c : j ≤ ticks_to clock (asks_at t.condition) = omega (arith, h) in
    let e : j ≤ ticks_to clock (gone_at t) = omega (arith, h) in
    record {
      due = elim (is_throttled t.condition) as (λ x. j ≤ ticks_to clock (cond x t.server.deadline None) → (x && has_come (time + j) t.server.deadline) ≡ false) [
        | true ↦ λ h. not_yet time j t.server.deadline some h
        | false ↦ λ h. refl
      ] a;
      lag = not_yet time j t.zero_lag some b;
      listed = elim (is_listed t) as (λ x. j ≤ ticks_to clock (cond x None (Some 0)) → x ≡ true) [ true ↦ λ h. refl | false ↦ λ h. absurd (omega (arith, h, some)) ] e;
      over = asks t.condition c;
    }
  where
    asks : (k : Condition) → j ≤ ticks_to (time + 1) (asks_at k) → is_over (time + j) k ≡ false
    asks Ready h = refl
    asks Throttled h = refl
    asks (Blocked u) h = not_yet time j (Some u) some h
    asks Waiting h = refl
    asks Leaving h = refl

pub rest_each : (time j : ℕ) (tasks : List Task) → j ≤ ticks_to_due time tasks → All (λ t. j ≤ ticks_to_due_of time t) tasks
rest_each time j [] h = λ k d within. absurd (omega (arith, within))
rest_each time j (t ∷ tasks) h = All-cons (λ u. j ≤ ticks_to_due_of time u) t tasks (omega (arith, h)) (rest_each time j tasks (omega (arith, h)))

-- ---- A NUMBER OF TICKS OF RUNNING, none of which is the last of anything

abbrev pub slid : Domain → ℕ → Task → Task
slid b j t = cond (is_on_cpu t.number b.curr) (record t { server = charged (rate_of b t) j t.server; work = t.work - j }) t

abbrev pub slid_all : Domain → ℕ → Domain
slid_all b j = record b { time = b.time + j; tasks = map (slid b j) b.tasks }

pub alike_slid : (b : Domain) (j : ℕ) (t : Task) → Alike t (slid b j t)
alike_slid b j t =
    elim (is_on_cpu t.number b.curr) as (λ x. Alike t (cond x (record t { server = charged (rate_of b t) j t.server; work = t.work - j }) t)) [
      | true ↦ record { number = refl; params = refl; cpu = refl; condition = refl; zero_lag = refl; deadline = refl }
      | false ↦ record { number = refl; params = refl; cpu = refl; condition = refl; zero_lag = refl; deadline = refl }
    ]

-- ---- what begins in each of these ticks is nothing

homed_ready : (o : Option ℕ) (places : Places) (t : Task) → position (is_task t.number) places ≡ o → ready_of (with_cpu o t) ≡ option_map (rehomed places) (ready_of t)
homed_ready None places t e =
    elim (is_ready t.condition) as (λ b. candidate_at t.number t.cpu (cond b (Some (candidate_of t).deadline) None) ≡ option_map (rehomed places) (candidate_at t.number t.cpu (cond b (Some (candidate_of t).deadline) None))) [
      | true ↦ ap (λ (at : Option ℕ). Some (record (candidate_of t) { home = unwrap_or at t.cpu })) (sym e)
      | false ↦ refl
    ]
homed_ready (Some cpu) places t e =
    elim (is_ready t.condition) as (λ b. candidate_at t.number cpu (cond b (Some (candidate_of t).deadline) None) ≡ option_map (rehomed places) (candidate_at t.number t.cpu (cond b (Some (candidate_of t).deadline) None))) [
      | true ↦ ap (λ (at : Option ℕ). Some (record (candidate_of t) { home = unwrap_or at t.cpu })) (sym e)
      | false ↦ refl
    ]

one_map : (f : Candidate → Candidate) (o : Option Candidate) → one (option_map f o) ≡ map f (one o)
one_map f None = refl
one_map f (Some c) = refl

candidates_homed : (places : Places) (tasks : List Task) → candidates (map (with_last_cpu places) tasks) ≡ map (rehomed places) (candidates tasks)
candidates_homed places [] = refl
candidates_homed places (t ∷ tasks) =
    let first : one (ready_of (with_last_cpu places t)) ≡ map (rehomed places) (one (ready_of t)) = ap one (homed_ready (position (is_task t.number) places) places t refl) ∙ one_map (rehomed places) (ready_of t) in
    let more = candidates_homed places tasks in
    candidates_first (with_last_cpu places t) (map (with_last_cpu places) tasks)
    ∙ (λ i. first i ++ more i)
    ∙ sym (map-append (rehomed places) (one (ready_of t)) (candidates tasks))
    ∙ ap (map (rehomed places)) (sym (candidates_first t tasks))

homed_again : (o : Option ℕ) (t u : Task) → u.cpu ≡ (with_cpu o t).cpu → with_cpu o u ≡ u
homed_again None t u e = refl
homed_again (Some cpu) t u e = ap (λ (c : ℕ). record u { cpu = c }) (sym e)

homed_number : (o : Option ℕ) (t : Task) → (with_cpu o t).number ≡ t.number
homed_number None t = refl
homed_number (Some cpu) t = refl

-- who is at home stays there
homed_slid : (places : Places) (f : Task → Task) → ((t : Task) → Alike t (f t)) → (tasks : List Task) → map (with_last_cpu places) (map f (map (with_last_cpu places) tasks)) ≡ map f (map (with_last_cpu places) tasks)
homed_slid places f same [] = refl
homed_slid places f same (t ∷ tasks) =
    let o = position (is_task t.number) places in
    let h = with_last_cpu places t in
    let u = f h in
    let number : u.number ≡ t.number = (same h).number ∙ homed_number o t in
    let first : with_last_cpu places u ≡ u = ap (λ n. with_cpu (position (is_task n) places) u) number ∙ homed_again o t u (same h).cpu in
    let more = homed_slid places f same tasks in
    λ i. first i ∷ more i

same_itself : (o : Option ℕ) → same_occupant o o ≡ true
same_itself None = refl
same_itself (Some n) = eq-eqb n n refl

no_switches : (time : ℕ) (tasks : List Task) (cpu : ℕ) (places : Places) → switches_from time tasks cpu places places ≡ []
no_switches time tasks cpu [] = refl
no_switches time tasks cpu (o ∷ places) =
    let s : Switch = record { time = time; prev = o; next = o; cpu = cpu; state = prev_state_of tasks o } in
    ap (λ b. cond b (switches_from time tasks (cpu + 1) places places) (s ∷ switches_from time tasks (cpu + 1) places places)) (same_itself o) ∙ no_switches time tasks (cpu + 1) places

pub begun_still : (d : Domain) (j : ℕ) → 0 < j → j ≤ ticks_to_due (d.time + 1) (with_tick_begun d).tasks → with_tick_begun (slid_all (with_tick_begun d) j) ≡ slid_all (with_tick_begun d) j
begun_still d j some h =
    let b = with_tick_begun d in
    let w = prepared d.time d.tasks in
    let f = slid b j in
    let same = alike_slid b j in
    let c = slid_all b j in
    let still : All (IsStill c.time) c.tasks =
    All-map (IsStill c.time) f b.tasks
    (All-weaker (λ t. j ≤ ticks_to_due_of (d.time + 1) t) (λ t. IsStill c.time (f t)) (λ t k. still_before d.time j (f t) some (rw (rest_alike (d.time + 1) t (f t) (same t)) k)) b.tasks (rest_each (d.time + 1) j b.tasks h)) in
    let ready : candidates c.tasks ≡ map (rehomed b.curr) (candidates w) = candidates_alike f same b.tasks ∙ candidates_homed b.curr w in
    let charges : placed c.cpus (candidates c.tasks) c.curr ≡ c.curr = ap (λ cs. placed c.cpus cs c.curr) ready ∙ stays d.cpus (candidates w) d.curr b.curr in
    let home : map (with_last_cpu c.curr) c.tasks ≡ c.tasks = homed_slid b.curr f same w in
    let none : c.switches ++ switches_from c.time c.tasks 0 c.curr c.curr ≡ c.switches = ap (λ (ss : List Switch). c.switches ++ ss) (no_switches c.time c.tasks 0 c.curr) ∙ append-nil c.switches in
    ap (with_prepared c) (prepared_still c.time c.tasks still)
    ∙ ap (with_places c c.tasks) charges
    ∙ (λ i. record c { tasks = home i; switches = none i })

-- ---- a tick of running more

-- where it runs: it is ready, and neither its work nor its budget ends before the last of so many
-- ticks
pub record Runs (b : Domain) (ticks : ℕ) (t : Task) : Type 0 where
  pub ready : t.condition ≡ Ready
  pub worked : ticks ≤ t.work
  pub lasted : pos (rate_of b t * (ticks - 1)) <ℤ t.server.left

abbrev pub RunsIf : Domain → ℕ → Task → Type 0
RunsIf b ticks t = is_on_cpu t.number b.curr ≡ true → Runs b ticks t

pub rate_slid : (b : Domain) (j : ℕ) (t u : Task) → u.params ≡ t.params → u.cpu ≡ t.cpu → rate_of (slid_all b j) u ≡ rate_of b t
rate_slid b j t u params cpu =
    let all = shares_alike (slid b j) (alike_slid b j) b.tasks in
    λ i. reclaiming.rate (params i) (uinact (cpu i) (all i)) (total (all i)) b.cpus b.limit
  where
    total : List Share → ℕ
    total ss = total_bw ss

pub less_twice : (left : ℤ) (rate j : ℕ) → left -ℤ pos (rate * j) -ℤ pos (rate * 1) ≡ left -ℤ pos (rate * suc j)
less_twice left rate j =
    let times : rate * suc j ≡ rate + rate * j = omega arith in
    let once : rate * 1 ≡ rate = omega arith in
    omega (arith, ints, times, once)

-- a task that ran so many ticks
abbrev pub run_by : ℕ → ℤ → ℕ → Task → Task
run_by time left work t = after_charge time (record t { server = record t.server { left = left }; work = work })

pub ran_slid : (b : Domain) (j : ℕ) (t : Task) → ran_if (slid_all b j) (slid b j t) ≡ cond (is_on_cpu t.number b.curr) (run_by (b.time + suc j) (t.server.left -ℤ pos (rate_of b t * suc j)) (t.work - suc j) t) t
ran_slid b j t = by_runs (is_on_cpu t.number b.curr) refl
  where
    x : Task
    x = record t { server = charged (rate_of b t) j t.server; work = t.work - j }

    by_runs : (s : Bool) → is_on_cpu t.number b.curr ≡ s → ran_if (slid_all b j) (cond s x t) ≡ cond s (run_by (b.time + suc j) (t.server.left -ℤ pos (rate_of b t * suc j)) (t.work - suc j) t) t
    by_runs true e =
        let rate = rate_slid b j t x refl refl in
        let time : b.time + j + 1 ≡ b.time + suc j = omega arith in
        let left = less_twice t.server.left (rate_of b t) j in
        let work : t.work - j - 1 ≡ t.work - suc j = omega arith in
        ap (λ s. cond s (ran (b.time + j) (rate_of (slid_all b j) x) x) x) e
        ∙ ap (λ r. ran (b.time + j) r x) rate
        ∙ (λ i. run_by (time i) (left i) (work i) t)
    by_runs false e = ap (λ s. cond s (ran (b.time + j) (rate_of (slid_all b j) t) t) t) e

-- where nothing ends in it, it only slides on
pub run_on : (b : Domain) (j k : ℕ) (t : Task) → suc j < k → Runs b k t → run_by (b.time + suc j) (t.server.left -ℤ pos (rate_of b t * suc j)) (t.work - suc j) t ≡ record t { server = charged (rate_of b t) (suc j) t.server; work = t.work - suc j }
run_on b j k t less runs =
    let left = t.server.left -ℤ pos (rate_of b t * suc j) in
    let more : eqb (t.work - suc j) 0 ≡ false = ne_eqb (t.work - suc j) 0 (λ e. absurd (omega (arith, e, less, runs.worked))) in
    let most : rate_of b t * suc j ≤ rate_of b t * (k - 1) = mul-le-mul (omega arith) (omega (arith, less)) in
    let unspent : int_le left (pos 0) ≡ false = above left (omega (arith, ints, runs.lasted, most)) in
    let u : Task = record t { server = record t.server { left = left }; work = t.work - suc j } in
    ap (λ s. cond s (goes_on (b.time + suc j) u (next_segment t.cursor (b.time + suc j))) (running_on u)) more
    ∙ ap (λ s. record u { condition = cond s Throttled Ready }) unspent
    ∙ ap (λ k. record u { condition = k }) (sym runs.ready)
  where
    above : (z : ℤ) → pos 0 <ℤ z → int_le z (pos 0) ≡ false
    above z h = grind (arith, ints)

pub slid_more : (b : Domain) (j k : ℕ) (t : Task) → suc j < k → RunsIf b k t → ran_if (slid_all b j) (slid b j t) ≡ slid b (suc j) t
slid_more b j k t less runs =
    ran_slid b j t
    ∙ elim (is_on_cpu t.number b.curr) as (λ s. (s ≡ true → Runs b k t) → cond s (run_by (b.time + suc j) (t.server.left -ℤ pos (rate_of b t * suc j)) (t.work - suc j) t) t ≡ cond s (record t { server = charged (rate_of b t) (suc j) t.server; work = t.work - suc j }) t) [
      | true ↦ λ r. run_on b j k t less (r refl)
      | false ↦ λ r. refl
    ] runs

-- so each of these ticks leaves that
pub finished_slid : (b : Domain) (j k : ℕ) → suc j < k → All (RunsIf b k) b.tasks → finished (slid_all b j) ≡ slid_all b (suc j)
finished_slid b j k less runs =
    let time : b.time + j + 1 ≡ b.time + suc j = omega arith in
    let tasks = map_twice (ran_if (slid_all b j)) (slid b j) (slid b (suc j)) b.tasks (λ i d h. slid_more b j k (get_or b.tasks i d) less (runs i d h)) in
    λ i. record b { time = time i; tasks = tasks i }

-- at the beginning nothing has run
pub slid_none : (b : Domain) → slid_all b 0 ≡ b
slid_none b =
    let time : b.time + 0 ≡ b.time = omega arith in
    let tasks = map_itself (slid b 0) b.tasks (λ i d h. none (get_or b.tasks i d)) in
    λ i. record b { time = time i; tasks = tasks i }
  where
    none : (t : Task) → slid b 0 t ≡ t
    none t =
        let rate = rate_of b t in
        let nought : rate * 0 ≡ 0 = omega arith in
        let left : t.server.left -ℤ pos (rate * 0) ≡ t.server.left = omega (arith, ints, nought) in
        let work : t.work - 0 ≡ t.work = omega arith in
        elim (is_on_cpu t.number b.curr) as (λ s. cond s (record t { server = charged rate 0 t.server; work = t.work - 0 }) t ≡ t) [
          | true ↦ λ i. record t { server = record t.server { left = left i }; work = work i }
          | false ↦ refl
        ]

-- ---- THE JUMP

-- before its last tick nothing ends
pub ticks_slid : (d : Domain) (k j : ℕ) → j < k → k - 1 ≤ ticks_to_due (d.time + 1) (with_tick_begun d).tasks → All (RunsIf (with_tick_begun d) k) (with_tick_begun d).tasks → ticks (suc j) d ≡ finished (slid_all (with_tick_begun d) j)
ticks_slid d k zero h quiet runs = ap finished (sym (slid_none (with_tick_begun d)))
ticks_slid d k (suc j) h quiet runs =
    ap ticked (ticks_slid d k j (omega (arith, h)) quiet runs ∙ finished_slid (with_tick_begun d) j k h runs)
    ∙ ap finished (begun_still d (suc j) (omega arith) (omega (arith, quiet, h)))

-- a task that runs has run in all of them
abbrev pub jumped : Domain → ℕ → Task → Task
jumped b k t = cond (is_on_cpu t.number b.curr) (ran_until (b.time + k) k (t.server.left -ℤ pos (rate_of b t * k)) t) t

pub jump_is : (d : Domain) (k : ℕ) → 0 < k → k - 1 ≤ ticks_to_due (d.time + 1) (with_tick_begun d).tasks → All (RunsIf (with_tick_begun d) k) (with_tick_begun d).tasks → ticks k d ≡ record (with_tick_begun d) { time = d.time + k; tasks = map (jumped (with_tick_begun d) k) (with_tick_begun d).tasks }
jump_is d zero some quiet runs = absurd (omega (arith, some))
jump_is d (suc j) some quiet runs =
    let b = with_tick_begun d in
    let time : b.time + j + 1 ≡ b.time + suc j = omega arith in
    let tasks = map_twice (ran_if (slid_all b j)) (slid b j) (jumped b (suc j)) b.tasks (λ i e h. ran_slid b j (get_or b.tasks i e)) in
    ticks_slid d (suc j) j (omega arith) quiet runs ∙ (λ i. record b { time = time i; tasks = tasks i })
