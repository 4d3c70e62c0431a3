-- A tick, and ticks, on one CPU.
use Rattle.std.proofs.Common.{◌≡◌, ℕ, zero, suc, ◌+◌, ◌-◌, ◌*◌, ◌≤◌, ◌<◌, Bool, true, false, cond, ◌&&◌, leb, Option, Some, None, List, length, map, get_or, refl, ap, sym, ◌∙◌, subst, arith}
use Rattle.std.specs.Prelude.{All, IsTrue, IsSome, filter, position, unwrap_or, sum_by}
use Rattle.std.specs.List.{list_any}
use Rattle.std.proofs.lemmas.Bool.{false≢true, leb-true, leb-false}
use Rattle.std.proofs.lemmas.List.Elements.{All-map, All-filter, All-weaker}
use Rattle.std.proofs.Math.Nat.{mul-le-mul_right}
use Rattle.attr_check.specs.ParamsView.{ParamsView}
use Rattle.grub_rules.specs.Sums.{uinact}
use Rattle.grub_rules.specs.Rate as reclaiming
use Rattle.cbs_rules.specs.Budget.{above_zero}
use Rattle.cbs_rules.specs.declared.server.Server.{Server}
use Rattle.edf_pick.specs.declared.candidate.Candidate.{Candidate}
use Rattle.edf_pick.specs.Places.{Places, is_task, is_on_cpu, placed}
use Rattle.domain_run.specs.declared.task.Task.{Task}
use Rattle.domain_run.specs.declared.task.Condition.{Condition}
use Rattle.domain_run.specs.declared.task.Condition.TheVariants.{Ready, Throttled, Blocked, Waiting, Leaving}
use Rattle.domain_run.specs.Conditions.{is_ready, is_throttled, is_contending, has_come}
use Rattle.domain_run.specs.Parts.{replenish_due, settled, is_listed, unblocked, with_cpu, with_last_cpu, ran}
use Rattle.domain_run.specs.Domain.{Domain}
use Rattle.domain_run.specs.Tick.{shares, sum_of, candidates, prepared, with_tick_begun, rate_of, ran_if, ticked, ticks}
use Rattle.domain_run.proofs.CallerLemmas.{ticks_numbered}
use Rattle.deadline_promise.specs.Reach.{share_up, due_by, reach_from, reach_kept, reach_in, reach, IsUncrowded}
use Rattle.deadline_promise.proofs.Kept.{IsPaced, IsFit, IsSet, IsCalm}
use Rattle.deadline_promise.proofs.Reaching.{due, not_due, nothing, resting_bound}
use Rattle.deadline_promise.proofs.Parts.{replenish_due_comes, settled_comes, unblocked_comes, homed_comes, later_reach, ran_comes, ran_unit_reach}
use Rattle.deadline_promise.proofs.Fitting.{replenish_due_set, settled_set, unblocked_set, homed_set, ran_fit}
use Rattle.deadline_promise.proofs.Choosing.{and_both, one_placed, first_runs, of_tasks}
use Rattle.deadline_promise.proofs.Same.{same_replenished, same_settled, same_unblocked, same_homed, same_ran_if, prepared_apart}
use Rattle.deadline_promise.proofs.OnCpu.{running_ready}
use Rattle.deadline_promise.proofs.Sums.{sum_less, sum_filter, sum_falls, sum_shares, sum_has, any_over, none_any}
use Rattle.limits.specs.Limits.{unit}

-- ---- parts 1 to 3

abbrev Between : Task → Type 0
Between t = IsPaced t × IsFit t

abbrev Within : ℕ → Task → Type 0
Within time t = IsPaced t × IsSet time t

each : (P Q : Task → Type 0) (f : Task → Task) → ((t : Task) → P t → Q (f t)) → (ts : List Task) → All P ts → All Q (map f ts)
each P Q f keeps ts h = All-map Q f ts (All-weaker P (λ t. Q (f t)) keeps ts h)

due_within : (time : ℕ) (ts : List Task) → All Between ts → All (Within time) (map (replenish_due time) ts)
due_within time ts h = each Between (Within time) (replenish_due time) (λ t y. ((replenish_due_comes time time t y.0).0, replenish_due_set time t y.0 y.1)) ts h

settled_within : (time : ℕ) (ts : List Task) → All (Within time) ts → All (Within time) (filter is_listed (map (settled time) ts))
settled_within time ts h = All-filter is_listed (Within time) (map (settled time) ts) (each (Within time) (Within time) (settled time) (λ t y. ((settled_comes time time t y.0).0, settled_set time time t y.1)) ts h)

prepared_within : (time : ℕ) (ts : List Task) → All Between ts → All (Within time) (prepared time ts)
prepared_within time ts h =
    let one = map (replenish_due time) ts in
    let listed = filter is_listed (map (settled time) one) in
    each (Within time) (Within time) (unblocked time) (λ t y. ((unblocked_comes time time t y.0).0, unblocked_set time t y.0 y.1)) listed (settled_within time one (due_within time ts h))

prepared_reach : (time x : ℕ) (ts : List Task) → All Between ts → sum_by (reach time x) (prepared time ts) ≤ sum_by (reach time x) ts
prepared_reach time x ts h =
    let f = reach time x in
    let one = map (replenish_due time) ts in
    let two = map (settled time) one in
    let listed = filter is_listed two in
    let w = due_within time ts h in
    let a : sum_by f one ≤ sum_by f ts = sum_less f f (replenish_due time) ts (All-weaker Between (λ t. f (replenish_due time t) ≤ f t) (λ t y. (replenish_due_comes time x t y.0).1) ts h) in
    let b : sum_by f two ≤ sum_by f one = sum_less f f (settled time) one (All-weaker (Within time) (λ t. f (settled time t) ≤ f t) (λ t y. (settled_comes time x t y.0).1) one w) in
    let c : sum_by f listed ≤ sum_by f two = sum_filter f is_listed two in
    let e : sum_by f (prepared time ts) ≤ sum_by f listed = sum_less f f (unblocked time) listed (All-weaker (Within time) (λ t. f (unblocked time t) ≤ f t) (λ t y. (unblocked_comes time x t y.0).1) listed (settled_within time one w)) in
    omega (arith, a, b, c, e)

share_of_task : Task → ℕ
share_of_task t = share_up t.params

same_share : (a b : Task) → b.params ≡ a.params → share_up b.params ≤ share_up a.params
same_share a b e = omega (arith, ap (λ (p : ParamsView). p.bw) e)

map_shares : (g : Task → Task) → ((t : Task) → (g t).params ≡ t.params) → (ts : List Task) → sum_by (λ (t : Task). share_up t.params) (map g ts) ≤ sum_by (λ (t : Task). share_up t.params) ts
map_shares g same ts = sum_less (λ (t : Task). share_up t.params) (λ (t : Task). share_up t.params) g ts (λ k d h. let t = get_or ts k d in same_share t (g t) (same t))

prepared_shares : (time : ℕ) (ts : List Task) → sum_by (λ (t : Task). share_up t.params) (prepared time ts) ≤ sum_by (λ (t : Task). share_up t.params) ts
prepared_shares time ts =
    let one = map (replenish_due time) ts in
    let two = map (settled time) one in
    omega (
      arith,
      map_shares (replenish_due time) (λ t. (same_replenished time t).params) ts,
      map_shares (settled time) (λ t. (same_settled time t).params) one,
      sum_filter (λ (t : Task). share_up t.params) is_listed two,
      map_shares (unblocked time) (λ t. (same_unblocked time t).params) (filter is_listed two),
    )

-- ---- part 6, one task

-- as part 6 finds it
abbrev pub Running : Domain → Task → Type 0
Running e t = IsPaced t × IsSet e.time t × (IsTrue (is_on_cpu t.number e.curr) → IsTrue (is_ready t.condition))

homed_running : (e : Domain) (o : Option ℕ) (t : Task) → Running e t → Running e (with_cpu o t)
homed_running e None t h = h
homed_running e (Some cpu) t h = ((homed_comes e.time e.time (Some cpu) t h.0).0, homed_set e.time (Some cpu) t h.1, h.2)

pub rate_plain : (e : Domain) (t : Task) → IsPaced t → rate_of e t ≡ unit
rate_plain e t h = ap (λ b. reclaiming.rate (record t.params { reclaim = b }) (uinact t.cpu (shares e.tasks)) (sum_of e.tasks) e.cpus e.limit) h.share.plain

abbrev Done : Domain → ℕ → ℕ → Task → Type 0
Done e x bound u = IsPaced u × IsFit u × (reach (e.time + 1) x u ≤ bound)

pub ran_if_done : (e : Domain) (x : ℕ) (t : Task) → Running e t → Done e x (reach e.time x t) (ran_if e t)
ran_if_done e x t h =
    let b = is_on_cpu t.number e.curr in
    elim b as (λ y. b ≡ y → Done e x (reach e.time x t) (cond y (ran e.time (rate_of e t) t) t)) [
      | true ↦ λ s.
          let ready = h.2 s in
          let comes = ran_comes e.time x t h.0 ready (h.1.fit.lifted ready) in
          subst (λ r. Done e x (reach e.time x t) (ran e.time r t)) (sym (rate_plain e t h.0)) (comes.0, ran_fit e.time unit t, comes.1)
      | false ↦ λ s. (h.0, h.1.fit, later_reach e.time x t h.0)
    ] refl

has_deadline : (o : Option ℕ) (x : ℕ) → IsSome o → leb (unwrap_or o 0) x ≡ true → (d : ℕ) × (o ≡ Some d) × (d ≤ x)
has_deadline None x is e = absurd (false≢true is)
has_deadline (Some d) x is e = (d, refl, leb-true d x e)

ready_contends : (c : Condition) → IsTrue (is_ready c) → IsTrue (is_contending c)
ready_contends Ready is = refl
ready_contends Throttled is = refl
ready_contends (Blocked u) is = is
ready_contends Waiting is = is
ready_contends Leaving is = is

-- ready, due by x; and one that runs
abbrev due_task : ℕ → Task → Bool
due_task x t = is_ready t.condition && leb (unwrap_or t.server.deadline 0) x

abbrev chosen_task : Places → ℕ → Task → Bool
chosen_task places x t = is_ready t.condition && (is_on_cpu t.number places && leb (unwrap_or t.server.deadline 0) x)

ran_if_falls : (e : Domain) (x : ℕ) (t : Task) → Running e t → chosen_task e.curr x t ≡ true → reach (e.time + 1) x (ran_if e t) + unit ≤ reach e.time x t
ran_if_falls e x t h is =
    let a = and_both (is_ready t.condition) (is_on_cpu t.number e.curr && leb (unwrap_or t.server.deadline 0) x) is in
    let b = and_both (is_on_cpu t.number e.curr) (leb (unwrap_or t.server.deadline 0) x) a.1 in
    let d = has_deadline t.server.deadline x (h.0.dated (ready_contends t.condition a.0)) b.1 in
    let falls = ran_unit_reach e.time x d.0 t h.0 a.0 d.1 d.2 (h.1.fit.lifted a.0) in
    let same : ran_if e t ≡ ran e.time unit t = ap (λ s. cond s (ran e.time (rate_of e t) t) t) b.0 ∙ ap (λ r. ran e.time r t) (rate_plain e t h.0) in
    omega (arith, falls, ap (reach (e.time + 1) x) same)

-- nothing of it is due
none_due : (p : ParamsView) (x : ℕ) (o : Option ℕ) (s : Server) → s.deadline ≡ o → leb (unwrap_or o 0) x ≡ false → reach_kept p x o s.left ≡ 0
none_due p x None s e late = refl
none_due p x (Some d) s e late =
    let l : x < d = leb-false d x late in
    omega (arith, not_due x d (above_zero s.left) l, nothing (share_up p) x d (omega (arith, l)))

ahead_reach : (p : ParamsView) (time x : ℕ) (o : Option ℕ) (n : ℕ) → n ≡ 0 → has_come time o ≡ false → (d : ℕ) → o ≡ Some d → reach_from p x d n ≤ share_up p * (x - (time + 1))
ahead_reach p time x o n none ahead d e =
    let l : time < d = leb-false d time (sym (ap (has_come time) e) ∙ ahead) in
    let more : (x - d) * share_up p ≤ (x - (time + 1)) * share_up p = mul-le-mul_right (share_up p) (omega (arith, l)) in
    let zero_due : due_by x d n ≤ n = elim (leb d x) as (λ b. cond b n 0 ≤ n) [ true ↦ omega arith | false ↦ omega arith ] in
    omega (arith, none, more, zero_due)

throttled_reach : (p : ParamsView) (time x : ℕ) (o : Option ℕ) (s : Server) → above_zero s.left ≡ 0 → has_come time o ≡ false → reach_kept p x o s.left ≤ share_up p * (x - (time + 1))
throttled_reach p time x None s none ahead = omega arith
throttled_reach p time x (Some d) s none ahead = ahead_reach p time x (Some d) (above_zero s.left) none ahead d refl

-- where none is due, each takes at most its share from the next tick on
ran_if_low : (e : Domain) (x : ℕ) (t : Task) → Running e t → due_task x t ≡ false → reach (e.time + 1) x (ran_if e t) ≤ share_up t.params * (x - (e.time + 1))
ran_if_low e x t h none =
    let done = ran_if_done e x t h in
    let stays : is_on_cpu t.number e.curr ≡ false → ran_if e t ≡ t = λ s. ap (λ b. cond b (ran e.time (rate_of e t) t) t) s in
    let most = share_up t.params * (x - (e.time + 1)) in
    let p = t.params in
    let s = t.server in
    elim t.condition as (λ c. t.condition ≡ c → reach (e.time + 1) x (ran_if e t) ≤ most) [
      | Ready ↦ λ is.
          let late : leb (unwrap_or s.deadline 0) x ≡ false = sym (ap (λ c. is_ready c && leb (unwrap_or s.deadline 0) x) is) ∙ none in
          omega (arith, done.2, ap (reach_in e.time x p s) is, none_due p x s.deadline s refl late)
      | Throttled ↦ λ is.
          let rests = stays (not_ready Throttled is refl) in
          let thr : IsTrue (is_throttled t.condition) = ap is_throttled is in
          omega (arith, ap (reach (e.time + 1) x) rests, ap (reach_in (e.time + 1) x p s) is, throttled_reach p e.time x s.deadline s (h.1.fit.spent thr) (h.1.ahead thr))
      | Blocked u ↦ λ is. omega (arith, ap (reach (e.time + 1) x) (stays (not_ready (Blocked u) is refl)), ap (reach_in (e.time + 1) x p s) is, resting_bound p h.0.share (e.time + 1) x s.deadline s.left h.0.whole)
      | Waiting ↦ λ is. omega (arith, ap (reach (e.time + 1) x) (stays (not_ready Waiting is refl)), ap (reach_in (e.time + 1) x p s) is, resting_bound p h.0.share (e.time + 1) x s.deadline s.left h.0.whole)
      | Leaving ↦ λ is. omega (arith, ap (reach (e.time + 1) x) (stays (not_ready Leaving is refl)), ap (reach_in (e.time + 1) x p s) is)
    ] refl
  where
    not_ready : (c : Condition) → t.condition ≡ c → is_ready c ≡ false → is_on_cpu t.number e.curr ≡ false
    not_ready c is other =
        elim (is_on_cpu t.number e.curr) as (λ b. is_on_cpu t.number e.curr ≡ b → b ≡ false) [
          | true ↦ λ y. absurd (false≢true (sym other ∙ sym (ap is_ready is) ∙ h.2 y))
          | false ↦ λ y. refl
        ] refl

-- ---- a tick

homed_due : (x : ℕ) (o : Option ℕ) (t : Task) → due_task x (with_cpu o t) ≡ due_task x t
homed_due x None t = refl
homed_due x (Some cpu) t = refl

homed_chosen : (places : Places) (x : ℕ) (o : Option ℕ) (t : Task) → chosen_task places x (with_cpu o t) ≡ chosen_task places x t
homed_chosen places x None t = refl
homed_chosen places x (Some cpu) t = refl

chosen_there : (d : Domain) (x : ℕ) → IsCalm d → list_any (due_task x) (with_tick_begun d).tasks ≡ true → list_any (chosen_task (with_tick_begun d).curr x) (with_tick_begun d).tasks ≡ true
chosen_there d x is some =
    let ts = prepared d.time d.tasks in
    let places = placed d.cpus (candidates ts) d.curr in
    let one = any_over (with_last_cpu places) (due_task x) (λ t. homed_due x (position (is_task t.number) places) t) ts in
    let two = any_over (with_last_cpu places) (chosen_task places x) (λ t. homed_chosen places x (position (is_task t.number) places) t) ts in
    let there : list_any (λ (c : Candidate). leb c.deadline x) (candidates ts) ≡ true = of_tasks (λ c. leb c.deadline x) ts ∙ sym one ∙ some in
    let on_one : list_any (λ (c : Candidate). is_on_cpu c.number places && leb c.deadline x) (candidates ts) ≡ true =
    subst (λ n. list_any (λ (c : Candidate). is_on_cpu c.number (placed n (candidates ts) d.curr) && leb c.deadline x) (candidates ts) ≡ true) (sym is.one) (first_runs x (candidates ts) d.curr is.wide there) in
    two ∙ sym (of_tasks (λ c. is_on_cpu c.number places && leb c.deadline x) ts) ∙ on_one

pub begun_running : (d : Domain) → IsCalm d → All (Running (with_tick_begun d)) (with_tick_begun d).tasks
begun_running d is =
    let ts = prepared d.time d.tasks in
    let places = placed d.cpus (candidates ts) d.curr in
    let e = with_tick_begun d in
    let between : All Between d.tasks = λ k x h. (is.paced k x h, is.fit k x h) in
    let within = prepared_within d.time d.tasks between in
    let ready : All (λ t. IsTrue (is_on_cpu t.number places) → IsTrue (is_ready t.condition)) ts =
    subst (λ n. All (λ t. IsTrue (is_on_cpu t.number (placed n (candidates ts) d.curr)) → IsTrue (is_ready t.condition)) ts) (sym is.one)
    (running_ready ts d.curr is.wide (prepared_apart d.time d.tasks is.numbered)) in
    All-map (Running e) (with_last_cpu places) ts (λ k x h. let t = get_or ts k x in let w = within k x h in homed_running e (position (is_task t.number) places) t (w.0, w.1, ready k x h))

begun_reach : (d : Domain) (x : ℕ) → IsCalm d → sum_by (reach d.time x) (with_tick_begun d).tasks ≤ sum_by (reach d.time x) d.tasks
begun_reach d x is =
    let ts = prepared d.time d.tasks in
    let places = placed d.cpus (candidates ts) d.curr in
    let between : All Between d.tasks = λ k y h. (is.paced k y h, is.fit k y h) in
    let within = prepared_within d.time d.tasks between in
    omega (
      arith,
      prepared_reach d.time x d.tasks between,
      sum_less (reach d.time x) (reach d.time x) (with_last_cpu places) ts
          (λ k y h. let t = get_or ts k y in (homed_comes d.time x (position (is_task t.number) places) t (within k y h).0).1),
    )

begun_shares : (d : Domain) → IsCalm d → sum_by (λ (t : Task). share_up t.params) (with_tick_begun d).tasks ≤ unit
begun_shares d is =
    let ts = prepared d.time d.tasks in
    let places = placed d.cpus (candidates ts) d.curr in
    omega (arith, is.shares, prepared_shares d.time d.tasks, map_shares (with_last_cpu places) (λ t. (same_homed places t).params) ts)

ticked_room : (d : Domain) → IsCalm d → IsUncrowded (ticked d)
ticked_room d is x later =
    let e = with_tick_begun d in
    let ts = e.tasks in
    let running = begun_running d is in
    let before = is.room x (omega (arith, later)) in
    let f = reach (d.time + 1) x in
    let h = reach d.time x in
    let some = list_any (due_task x) ts in
    elim some as (λ b. some ≡ b → sum_by f (map (ran_if e) ts) ≤ unit * (x - (d.time + 1))) [
      | true ↦ λ y.
          omega (
            arith,
            later,
            before,
            begun_reach d x is,
            sum_falls unit f h (ran_if e) (chosen_task e.curr x) ts
                (All-weaker (Running e) (λ t. f (ran_if e t) ≤ h t) (λ t r. (ran_if_done e x t r).2) ts running)
                (All-weaker (Running e) (λ t. chosen_task e.curr x t ≡ true → f (ran_if e t) + unit ≤ h t) (λ t r. ran_if_falls e x t r) ts running)
                (chosen_there d x is y),
          )
      | false ↦ λ y.
          let none = none_any (due_task x) ts y in
          let k = x - (d.time + 1) in
          let low : sum_by f (map (ran_if e) ts) ≤ sum_by (λ (t : Task). share_up t.params * k) ts =
          sum_less f (λ (t : Task). share_up t.params * k) (ran_if e) ts (λ i z g. ran_if_low e x (get_or ts i z) (running i z g) (none i z g)) in
          omega (arith, low, sum_shares (λ (t : Task). share_up t.params) k ts, mul-le-mul_right k (begun_shares d is))
    ] refl

-- a tick keeps the promise
pub ticked_calm : (d : Domain) → IsCalm d → IsCalm (ticked d)
ticked_calm d is =
    let ts = prepared d.time d.tasks in
    let e = with_tick_begun d in
    let running = begun_running d is in
    record {
      one = is.one;
      wide = ap (λ n. length (placed n (candidates ts) d.curr)) is.one ∙ (one_placed (candidates ts) d.curr is.wide).0;
      numbered = ticks_numbered 1 d is.numbered;
      paced = each (Running e) IsPaced (ran_if e) (λ t r. (ran_if_done e 0 t r).0) e.tasks running;
      fit = each (Running e) IsFit (ran_if e) (λ t r. (ran_if_done e 0 t r).1) e.tasks running;
      shares = omega (arith, begun_shares d is, map_shares (ran_if e) (λ t. (same_ran_if e t).params) e.tasks);
      room = ticked_room d is;
    }

pub ticks_calm : (n : ℕ) (d : Domain) → IsCalm d → IsCalm (ticks n d)
ticks_calm zero d is = is
ticks_calm (suc n) d is = ticked_calm (ticks n d) (ticks_calm n d is)

-- ---- room

abbrev pub HasRoom : ℕ → Task → Type 0
HasRoom time t = (x : ℕ) → IsTrue (is_ready t.condition) → t.server.deadline ≡ Some x → above_zero t.server.left ≤ unit * (x - time)

pub ready_is : (c : Condition) → IsTrue (is_ready c) → c ≡ Ready
ready_is Ready h = refl
ready_is Throttled h = absurd (false≢true h)
ready_is (Blocked u) h = absurd (false≢true h)
ready_is Waiting h = absurd (false≢true h)
ready_is Leaving h = absurd (false≢true h)

left_reach : (time y x : ℕ) (t : Task) → IsTrue (is_ready t.condition) → t.server.deadline ≡ Some x → x ≤ y → above_zero t.server.left ≤ reach time y t
left_reach time y x t ready at come =
    omega (
      arith,
      ap (reach_in time y t.params t.server) (ready_is t.condition ready),
      ap (λ o. reach_kept t.params y o t.server.left) at,
      due y x (above_zero t.server.left) come,
    )

-- of any tasks for which there is room
room_of : (time : ℕ) (ts : List Task) → ((x : ℕ) → time ≤ x → sum_by (reach time x) ts ≤ unit * (x - time)) → All (HasRoom time) ts
room_of time ts room k z h x ready at =
    let t = get_or ts k z in
    elim (leb time x) as (λ b. leb time x ≡ b → above_zero t.server.left ≤ unit * (x - time)) [
      | true ↦ λ e. omega (arith, left_reach time x x t ready at (omega arith), sum_has (reach time x) ts k z h, room x (leb-true time x e))
      | false ↦ λ e. omega (arith, left_reach time time x t ready at (omega (arith, leb-false time x e)), sum_has (reach time time) ts k z h, room time (omega arith))
    ] refl

pub task_room : (d : Domain) → IsCalm d → All (HasRoom d.time) d.tasks
task_room d is = room_of d.time d.tasks is.room

-- and where part 6 finds them
pub begun_room : (d : Domain) → IsCalm d → All (HasRoom d.time) (with_tick_begun d).tasks
begun_room d is = room_of d.time (with_tick_begun d).tasks (λ x later. omega (arith, begun_reach d x is, is.room x later))
