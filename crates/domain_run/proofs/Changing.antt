-- A call on one listed task keeps what every domain keeps.
use Rattle.std.proofs.Common.{◌≡◌, ℕ, zero, suc, ◌+◌, ◌-◌, ◌^◌, ◌<◌, ◌≤◌, Bool, true, false, cond, eqb, ltb, ◌&&◌, Option, Some, None, List, [], ◌∷◌, length, map, refl, sym, ap, ◌∙◌, subst, arith, eq-eqb}
use Rattle.std.specs.Prelude.{All, AllPairs, IsTrue, ◌≢◌, find, not}
use Rattle.std.specs.List.{list_any}
use Rattle.std.proofs.lemmas.Bool.{ltb-false, eqb-true}
use Rattle.std.proofs.lemmas.List.{length-map}
use Rattle.std.proofs.lemmas.List.Elements.{All-map, All-weaker, All-cons}
use Rattle.std.proofs.lemmas.List.Sums.{sum_by-cons}
use Rattle.attr_check.specs.ParamsView.{ParamsView}
use Rattle.attr_check.specs.Ratio.{cap}
use Rattle.grub_rules.specs.declared.share.Share.{Share}
use Rattle.domain_run.specs.declared.task.Task.{Task}
use Rattle.domain_run.specs.declared.task.Condition.{Condition}
use Rattle.domain_run.specs.declared.task.Condition.TheVariants.{Ready, Throttled, Blocked, Waiting, Leaving}
use Rattle.domain_run.specs.declared.call.Reply.TheVariants.{Changed, Woken, Busy, NotWaiting}
use Rattle.domain_run.specs.Conditions.{is_leaving, is_waiting}
use Rattle.domain_run.specs.Domain.{Domain}
use Rattle.domain_run.specs.Tick.{share_of, shares, sum_of}
use Rattle.domain_run.specs.Calls.{task_of, of_number, with_task_changed, regrade_reply, with_new_params, wake_reply, blocked_until, ended_at}
use Rattle.domain_run.specs.Sound.{IsSound, IsTimed, IsSteady, IsDomain}
use Rattle.domain_run.proofs.Keeping.{AllPairs-map, sum-map}
use Rattle.domain_run.proofs.Tracing.{listed_traced}
use Rattle.domain_run.proofs.Counting.{ended_same}

abbrev Differ : List Task → Type 0
Differ tasks = AllPairs (λ a b. a.number ≢ b.number) tasks

-- of a list, its first element against the others, and the others
first_differs : (t : Task) (tasks : List Task) → Differ (t ∷ tasks) → All (λ u. t.number ≢ u.number) tasks
first_differs t tasks all k d h = all zero (suc k) d (omega arith) (omega arith)

rest_differ : (t : Task) (tasks : List Task) → Differ (t ∷ tasks) → Differ tasks
rest_differ t tasks all i j d less within = all (suc i) (suc j) d (omega arith) (omega arith)

-- no task of a number
abbrev HasNone : ℕ → List Task → Type 0
HasNone number tasks = All (λ u. u.number ≢ number) tasks

none_first : (number : ℕ) (t : Task) (tasks : List Task) → HasNone number (t ∷ tasks) → t.number ≢ number
none_first number t tasks all = all zero t (omega arith)

none_rest : (number : ℕ) (t : Task) (tasks : List Task) → HasNone number (t ∷ tasks) → HasNone number tasks
none_rest number t tasks all k d h = all (suc k) d (omega arith)

not_equal : (a b : ℕ) → a ≢ b → eqb a b ≡ false
not_equal a b h = elim (eqb a b) as (λ x. eqb a b ≡ x → x ≡ false) [ true ↦ λ e. absurd (h (eqb-true a b e)) | false ↦ λ e. refl ] refl

none_left : (number : ℕ) (t : Task) (tasks : List Task) → Differ (t ∷ tasks) → eqb t.number number ≡ true → HasNone number tasks
none_left number t tasks differ e =
    let same : t.number ≡ number = eqb-true t.number number e in
    All-weaker (λ u. t.number ≢ u.number) (λ u. u.number ≢ number) (λ u h k. h (same ∙ sym k)) tasks (first_differs t tasks differ)

abbrev is_live : ℕ → Task → Bool
is_live number t = eqb t.number number && not (is_leaving t.condition)

find_none : (number : ℕ) (tasks : List Task) (t : Task) → HasNone number tasks → find (is_live number) tasks ≡ Some t → ⊥
find_none number [] t none e = absurd cc
find_none number (u ∷ tasks) t none e = find_none number tasks t (none_rest number u tasks none) (sym (rw (not_equal u.number number (none_first number u tasks none)) refl) ∙ e)

map_none : (f : Task → Task) (number : ℕ) (tasks : List Task) → HasNone number tasks → map (of_number number f) tasks ≡ tasks
map_none f number [] none = refl
map_none f number (u ∷ tasks) none =
    let e : of_number number f u ≡ u = rw (not_equal u.number number (none_first number u tasks none)) refl in
    rw (e, map_none f number tasks (none_rest number u tasks none)) refl

-- what holds of the one live task of a number holds of all of that number
only_one : (P : Task → Type 0) (number : ℕ) (tasks : List Task) (t : Task) → Differ tasks → find (is_live number) tasks ≡ Some t → P t → All (λ u. u.number ≡ number → P u) tasks
only_one P number [] t differ e holds = absurd cc
only_one P number (u ∷ tasks) t differ e holds =
    let Q : Task → Type 0 = λ v. v.number ≡ number → P v in
    elim (eqb u.number number) as (λ b. eqb u.number number ≡ b → cond (b && not (is_leaving u.condition)) (Some u) (find (is_live number) tasks) ≡ Some t → All Q (u ∷ tasks)) [
      | true ↦ λ here found. let none = none_left number u tasks differ here in elim (not (is_leaving u.condition)) as (λ b. cond b (Some u) (find (is_live number) tasks) ≡ Some t → All Q (u ∷ tasks)) [
        | true ↦ λ is. let same : u ≡ t = cc in All-cons Q u tasks (λ n. subst P (sym same) holds) (All-weaker (λ v. v.number ≢ number) Q (λ v h k. absurd (h k)) tasks none)
        | false ↦ λ is. absurd (find_none number tasks t none is)
      ] found
      | false ↦ λ here found. All-cons Q u tasks (λ n. let no : true ≡ false = sym (eq-eqb u.number number n) ∙ here in absurd cc) (only_one P number tasks t (rest_differ u tasks differ) found holds)
    ] refl e

-- ---- sums

sum_first : (t : Task) (tasks : List Task) → sum_of (t ∷ tasks) ≡ t.params.bw + sum_of tasks
sum_first t tasks = sum_by-cons (λ (s : Share). s.bw) (share_of t) (shares tasks)

sum_regraded : (number : ℕ) (p : ParamsView) (tasks : List Task) (t : Task) → Differ tasks → find (is_live number) tasks ≡ Some t → sum_of (map (of_number number (with_new_params p)) tasks) + t.params.bw ≡ sum_of tasks + p.bw
sum_regraded number p [] t differ e = absurd cc
sum_regraded number p (u ∷ tasks) t differ e =
    let more = map (of_number number (with_new_params p)) tasks in
    elim (eqb u.number number) as (λ b. eqb u.number number ≡ b → cond (b && not (is_leaving u.condition)) (Some u) (find (is_live number) tasks) ≡ Some t → sum_of (cond b (with_new_params p u) u ∷ more) + t.params.bw ≡ sum_of (u ∷ tasks) + p.bw) [
      | true ↦ λ here found. let none = none_left number u tasks differ here in elim (not (is_leaving u.condition)) as (λ b. cond b (Some u) (find (is_live number) tasks) ≡ Some t → sum_of (with_new_params p u ∷ more) + t.params.bw ≡ sum_of (u ∷ tasks) + p.bw) [
        | true ↦ λ is. let same : u ≡ t = cc in
            let bw : u.params.bw ≡ t.params.bw = ap (λ x. x.params.bw) same in
            let kept : sum_of more ≡ sum_of tasks = ap sum_of (map_none (with_new_params p) number tasks none) in
            omega (arith, sum_first (with_new_params p u) more, sum_first u tasks, bw, kept)
        | false ↦ λ is. absurd (find_none number tasks t none is)
      ] found
      | false ↦ λ here found. let rest = sum_regraded number p tasks t (rest_differ u tasks differ) found in omega (arith, sum_first u more, sum_first u tasks, rest)
    ] refl e

sum_kept : (f : Task → Task) → ((t : Task) → (f t).params ≡ t.params) → (number : ℕ) (tasks : List Task) → sum_of (map (of_number number f) tasks) ≡ sum_of tasks
sum_kept f keeps number tasks = sum-map (of_number number f) (λ t. elim (eqb t.number number) as (λ b. (cond b (f t) t).params ≡ t.params) [ true ↦ keeps t | false ↦ refl ]) tasks

-- ---- each change keeps a task sound

pub regraded_sound : (time : ℕ) (p : ParamsView) (t : Task) → IsSound time t → IsSound time (with_new_params p t)
regraded_sound time p t h = record { served = h.served; spent = h.spent; lifted = h.lifted; dated = h.dated; busy = h.busy; timed = h.timed }

waiting_timed : (time reference : ℕ) (c : Condition) → is_waiting c ≡ true → IsTimed time c reference → reference ≤ time
waiting_timed time reference Ready e h = absurd cc
waiting_timed time reference Throttled e h = absurd cc
waiting_timed time reference (Blocked u) e h = absurd cc
waiting_timed time reference Waiting e h = h
waiting_timed time reference Leaving e h = absurd cc

pub released_sound : (time : ℕ) (t : Task) → time ≤ 2 ^ 42 → is_waiting t.condition ≡ true → IsSound time t → IsSound time (blocked_until time t)
released_sound time t early e h =
    let following = waiting_timed time t.cursor.reference t.condition e h.timed in
    record { served = h.served; spent = λ x. absurd cc; lifted = λ x. absurd cc; dated = λ x. absurd cc; busy = λ x. absurd cc; timed = (omega arith, omega arith) }

-- ---- each call keeps a domain

-- a change of one task that keeps its number and its CPU
pub record IsTransition (f : Task → Task) : Type 0 where
  pub number : (t : Task) → (f t).number ≡ t.number
  pub cpu : (t : Task) → (f t).cpu ≡ t.cpu

pub one_transition : (number : ℕ) (f : Task → Task) → IsTransition f → IsTransition (of_number number f)
one_transition number f is = record {
  number = λ t. elim (eqb t.number number) as (λ b. (cond b (f t) t).number ≡ t.number) [ true ↦ is.number t | false ↦ refl ];
  cpu = λ t. elim (eqb t.number number) as (λ b. (cond b (f t) t).cpu ≡ t.cpu) [ true ↦ is.cpu t | false ↦ refl ];
}

changed_steady : (d : Domain) (f : Task → Task) → IsTransition f → IsSteady d → sum_of (map f d.tasks) ≤ cap d.cpus d.limit → All (IsSound d.time) (map f d.tasks) → IsSteady (record d { tasks = map f d.tasks })
changed_steady d f transition is within sound =
    let e : length (map f d.tasks) ≡ length d.tasks = simp length-map in
    record {
      early = is.early;
      cpus = is.cpus;
      limit = is.limit;
      within = within;
      listed = omega (arith, is.listed);
      sound = sound;
      homes = All-map (λ t. t.cpu < d.cpus) f d.tasks (All-weaker (λ t. t.cpu < d.cpus) (λ t. (f t).cpu < d.cpus) (λ t h. subst (λ c. c < d.cpus) (sym (transition.cpu t)) h) d.tasks is.homes);
      numbered = AllPairs-map (λ a b. a.number ≢ b.number) f (λ a b h same. h (sym (transition.number a) ∙ same ∙ transition.number b)) d.tasks is.numbered;
      known = All-map (λ t. IsTrue (list_any (λ n. eqb n t.number) d.used)) f d.tasks
          (All-weaker (λ t. IsTrue (list_any (λ n. eqb n t.number) d.used)) (λ t. IsTrue (list_any (λ n. eqb n (f t).number) d.used)) (λ t h. ap (λ m. list_any (λ n. eqb n m) d.used) (transition.number t) ∙ h) d.tasks is.known);
      wide = is.wide;
      apart = is.apart;
    }

changed_is : (d : Domain) (number : ℕ) (f : Task → Task) → IsTransition f → IsDomain d → sum_of (map (of_number number f) d.tasks) ≤ cap d.cpus d.limit → All (IsSound d.time) (map (of_number number f) d.tasks) → IsDomain (with_task_changed d number f)
changed_is d number f transition is within sound = record {
  steady = changed_steady d (of_number number f) (one_transition number f transition) is.steady within sound;
  traced = listed_traced d (with_task_changed d number f) refl refl refl refl (λ n h. h) is.traced;
}

not_busy : (b : Bool) (s : ℕ) → cond b (Busy s) Changed ≡ Changed → b ≡ false
not_busy true s e = absurd cc
not_busy false s e = refl

may_transition : (d : Domain) (p : ParamsView) (o : Option Task) → regrade_reply d p None o ≡ Changed → (t : Task) × (o ≡ Some t) × (sum_of d.tasks - t.params.bw + p.bw ≤ cap d.cpus d.limit)
may_transition d p None e = absurd cc
may_transition d p (Some t) e = (t, refl, ltb-false (cap d.cpus d.limit) (sum_of d.tasks - t.params.bw + p.bw) (not_busy (ltb (cap d.cpus d.limit) (sum_of d.tasks - t.params.bw + p.bw)) (sum_of d.tasks) e))

pub regrade_keeps : (d : Domain) (number : ℕ) (p : ParamsView) → IsDomain d → regrade_reply d p None (task_of d number) ≡ Changed → All (IsSound d.time) (map (of_number number (with_new_params p)) d.tasks) → IsDomain (with_task_changed d number (with_new_params p))
regrade_keeps d number p is reply sound =
    let g = may_transition d p (task_of d number) reply in
    let sum = sum_regraded number p d.tasks g.0 is.steady.numbered g.1 in
    changed_is d number (with_new_params p) (record { number = λ t. refl; cpu = λ t. refl }) is (omega (arith, sum, g.2)) sound

woken_waits : (o : Option Task) → wake_reply o ≡ Woken → (t : Task) × (o ≡ Some t) × (is_waiting t.condition ≡ true)
woken_waits None e = absurd cc
woken_waits (Some t) e = (t, refl, elim (is_waiting t.condition) as (λ b. cond b Woken NotWaiting ≡ Woken → b ≡ true) [ true ↦ λ h. refl | false ↦ λ h. absurd cc ] e)

-- where a wake is granted, the task of the number waits
pub woken_may : (d : Domain) (number : ℕ) → IsSteady d → wake_reply (task_of d number) ≡ Woken → All (λ t. t.number ≡ number → IsTrue (is_waiting t.condition) × (d.time ≤ 2 ^ 42)) d.tasks
woken_may d number is reply =
    let g = woken_waits (task_of d number) reply in
    only_one (λ t. IsTrue (is_waiting t.condition) × (d.time ≤ 2 ^ 42)) number d.tasks g.0 is.numbered g.1 (g.2, is.early)

pub wake_keeps : (d : Domain) (number : ℕ) → IsDomain d → All (IsSound d.time) (map (of_number number (blocked_until d.time)) d.tasks) → IsDomain (with_task_changed d number (blocked_until d.time))
wake_keeps d number is sound =
    changed_is d number (blocked_until d.time) (record { number = λ t. refl; cpu = λ t. refl }) is (rw (sum_kept (blocked_until d.time) (λ t. refl) number d.tasks) is.steady.within) sound

pub ended_change : (time : ℕ) → IsTransition (ended_at time)
ended_change time = record { number = λ t. (ended_same time t).number; cpu = λ t. (ended_same time t).cpu }

pub leave_keeps : (d : Domain) (number : ℕ) → IsDomain d → All (IsSound d.time) (map (of_number number (ended_at d.time)) d.tasks) → IsDomain (with_task_changed d number (ended_at d.time))
leave_keeps d number is sound =
    changed_is d number (ended_at d.time) (ended_change d.time) is (rw (sum_kept (ended_at d.time) (λ t. (ended_same d.time t).params) number d.tasks) is.steady.within) sound
