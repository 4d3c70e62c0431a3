-- What a caller of a domain shows of its keys, its time and its refusals, call by call.
use Rattle.std.proofs.Common.{◌≡◌, ℕ, zero, suc, ◌+◌, ◌-◌, ◌<◌, ◌≤◌, Bool, true, false, cond, eqb, ltb, leb, ◌&&◌, ◌||◌, Option, Some, None, List, [], ◌∷◌, ◌++◌, length, map, get_or, set, eq-eqb, refl, sym, ap, inl, inr, ◌∙◌, arith}
use Rattle.std.specs.Prelude.{All, AllPairs, ◌≢◌, IsTrue, Contains, find, filter, not, is_some, option_map, sum_by}
use Rattle.std.specs.List.{list_any}
use Rattle.std.proofs.lemmas.Bool.{cases_lt, ltb-true, eqb-true, ne_eqb}
use Rattle.std.proofs.lemmas.List.{map-append, get_or_default}
use Rattle.std.proofs.lemmas.List.Folds.{list_any_at}
use Rattle.std.proofs.lemmas.List.Elements.{All-map}
use Rattle.std.proofs.lemmas.List.Kept.{AllPairs-cons}
use Rattle.std.proofs.lemmas.List.Sums.{sum_by-cons}
use Rattle.grub_rules.specs.declared.share.Share.{Share}
use Rattle.attr_check.specs.ParamsView.{ParamsView}
use Rattle.attr_check.specs.Ratio.{cap}
use Rattle.task_script.specs.script.ScriptView.{ScriptView}
use Rattle.domain_run.specs.declared.task.Task.{Task}
use Rattle.domain_run.specs.declared.task.Condition.TheVariants.{Leaving}
use Rattle.domain_run.specs.declared.call.Call.{Call}
use Rattle.domain_run.specs.declared.call.Call.TheVariants.{Admit, Regrade, Wake, Leave, Advance, Limit, Depart, Arrive}
use Rattle.domain_run.specs.declared.call.Reply.TheVariants.{Admitted, Changed, Departed, Full, Twice, Busy}
use Rattle.domain_run.specs.Conditions.{is_contending, is_leaving}
use Rattle.domain_run.specs.Parts.{stopped}
use Rattle.domain_run.specs.Domain.{Domain}
use Rattle.domain_run.specs.Tick.{share_of, shares, sum_of, ticked, ticks}
use Rattle.domain_run.specs.Calls.{admit_reply, new_task, with_task_listed, task_of, of_number, with_task_changed, with_new_params, regrade_reply, wake_reply, blocked_until, leave_reply, ended_at, limit_reply, with_limit, depart_reply, is_other, after_departure, reply_to, is_refusal, after_granted, after_call}
use Rattle.domain_run.specs.Views.{view_of, view_in, name_in}
use Rattle.domain_run.specs.Busy.{LacksRoomFor, LacksRoomToChange}
use Rattle.domain_run.specs.Keys.{key_of, keys, has_task, listed_keys, AreKept, key_with_bw}
use Rattle.domain_run.proofs.KeptKeys as kept
-- passed on to callers who run the definitions in another order
pub use Rattle.domain_run.proofs.Admitting.{with_number_contains, sum_push, IsGranted, granted_is}
pub use Rattle.domain_run.proofs.KeptKeys.{AreNumbered, ticks_numbered}
pub use Rattle.domain_run.proofs.OrderLists.{Reordered, ends, next, swaps, chain, same_order, turned, mapped, filtered, filter_mapped}
pub use Rattle.domain_run.proofs.OrderLists.{same_length, same_any, same_found, before_same, apart_reordered}
pub use Rattle.domain_run.proofs.OrderTicks.{Alike, relisted, same_sum_of, ticks_alike, alike_switches}
pub use Rattle.domain_run.proofs.OrderGathered.{gathered, gather, gathered_both}
pub use Rattle.domain_run.proofs.Logging.{logs_none, logs_more, logs_silent}
pub use Rattle.domain_run.proofs.LoggedRising.{IsSooner, IsSoonerUnlessCut, IsRising}
pub use Rattle.domain_run.proofs.LoggedIn.{IsLoggedIn, run_logs, run_rises, run_cpus}
pub use Rattle.domain_run.proofs.Coming.{ticks_then, to_come_after, to_come_later, calls_later}
pub use Rattle.domain_run.proofs.Passing.{after_call_after, after_calls_after, ticks_after, logged_by_ticks_after}
pub use Rattle.domain_run.proofs.LoggedIn.{HasKnown, has_call, has_opened}
pub use Rattle.domain_run.proofs.LoggedRising.{IsBeginning, IsEnd, beginning_is, ending_is}
pub use Rattle.domain_run.proofs.LoggedSorted.{pairs_first, pairs_rest, length-in_order}
pub use Rattle.domain_run.proofs.LoggedFew.{ticks_few, logged_few, event_few, begun_switches}
pub use Rattle.domain_run.proofs.Tracing.{AllPairs-append, before_time}
pub use Rattle.domain_run.proofs.Keeping.{same_replenished, same_settled, same_unblocked, same_ran, AllPairs-map, length-filter_least}
pub use Rattle.domain_run.proofs.OpenCharging.{AreCandidates, placed_is}
pub use Rattle.domain_run.proofs.Repeating.{ready_later, throttled_later, contending_later, sound_paced, IsGoing, going}
pub use Rattle.domain_run.proofs.Placing.{ready_in, runs_at, one_index}
pub use Rattle.domain_run.proofs.KeptKeys.{ticked_numbered}
pub use Rattle.domain_run.proofs.OrderTicks.{prepared_apart}

and_left : (a b : Bool) → (a && b) ≡ true → a ≡ true
and_left true b e = refl
and_left false b e = e

-- ---- keys and time: `AreKept` begins, and goes on from tick to tick

pub kept_itself : (tasks : List Task) → AreKept tasks tasks
kept_itself tasks = kept.kept_itself tasks

pub kept_more : (first then last : List Task) → AreKept first then → AreKept then last → AreKept first last
kept_more first then last one two = kept.kept_more first then last one two

-- who is listed after was listed before
pub kept_listed : (before after : List Task) (number : ℕ) → AreKept before after → has_task after number ≡ true → has_task before number ≡ true
kept_listed before after number is e = kept.kept_listed before after number is e

-- any number of ticks, where numbers are apart as in every domain (`IsDomain`, `steady.numbered`)
pub ticks_kept : (k : ℕ) (d : Domain) → kept.AreNumbered d.tasks → AreKept d.tasks (ticks k d).tasks
ticks_kept k d numbered = kept.ticks_kept k d numbered

-- the step of a loop of ticks
pub ticks_more : (k : ℕ) (d : Domain) → ticked (ticks k d) ≡ ticks (k + 1) d
ticks_more k d = let e : suc k ≡ k + 1 = omega arith in ap (λ n. ticks n d) e

pub ticks_time : (k : ℕ) (d : Domain) → (ticks k d).time ≡ d.time + k
ticks_time zero d = omega arith
ticks_time (suc k) d = omega (arith, ticks_time k d)

pub ticks_cpus : (k : ℕ) (d : Domain) → (ticks k d).cpus ≡ d.cpus
ticks_cpus zero d = refl
ticks_cpus (suc k) d = ticks_cpus k d

pub ticks_limit : (k : ℕ) (d : Domain) → (ticks k d).limit ≡ d.limit
ticks_limit zero d = refl
ticks_limit (suc k) d = ticks_limit k d

-- a view is there exactly where the task is listed
seen_where_listed : (number : ℕ) (tasks : List Task) → is_some (find (λ t. eqb t.number number) tasks) ≡ has_task tasks number
seen_where_listed number [] = refl
seen_where_listed number (t ∷ tasks) =
    elim (eqb t.number number) as (λ b. is_some (cond b (Some t) (find (λ u. eqb u.number number) tasks)) ≡ (b || has_task tasks number)) [ true ↦ refl | false ↦ seen_where_listed number tasks ]

viewed_by : {X Y : Type 0} (f : X → Y) (o : Option X) → is_some (option_map f o) ≡ is_some o
viewed_by f None = refl
viewed_by f (Some x) = refl

pub view_where_listed : (d : Domain) (number : ℕ) → is_some (view_in d number) ≡ has_task d.tasks number
view_where_listed d number = viewed_by view_of (find (λ t. eqb t.number number) d.tasks) ∙ seen_where_listed number d.tasks

pub name_where_listed : (d : Domain) (number : ℕ) → is_some (name_in d number) ≡ has_task d.tasks number
name_where_listed d number = viewed_by (λ (t : Task). t.name) (find (λ t. eqb t.number number) d.tasks) ∙ seen_where_listed number d.tasks

-- a task that has not ended has its key
live_in : (number : ℕ) (tasks : List Task) (t : Task) → find (λ u. eqb u.number number && not (is_leaving u.condition)) tasks ≡ Some t → Contains (keys tasks) (number, t.params.bw)
live_in number [] t e = absurd cc
live_in number (u ∷ tasks) t e =
    elim (eqb u.number number && not (is_leaving u.condition)) as (λ b. (eqb u.number number && not (is_leaving u.condition)) ≡ b → cond b (Some u) (find (λ u. eqb u.number number && not (is_leaving u.condition)) tasks) ≡ Some t → Contains (keys (u ∷ tasks)) (number, t.params.bw)) [
      | true ↦ λ is found.
          let same : u ≡ t = cc in
          let named : u.number ≡ number = eqb-true u.number number (and_left (eqb u.number number) _ is) in
          let there : 0 < length (keys (u ∷ tasks)) = omega arith in
          let key : (u.number, u.params.bw) ≡ (number, t.params.bw) = λ i. (named i, (same i).params.bw) in
          (0, there, key)
      | false ↦ λ is found. let rest = live_in number tasks t found in (suc rest.0, omega (arith, rest.1), rest.2)
    ] refl e

pub live_key : (d : Domain) (number : ℕ) (t : Task) → task_of d number ≡ Some t → Contains (keys d.tasks) (number, t.params.bw)
live_key d number t e = live_in number d.tasks t e

pub live_listed : (d : Domain) (number : ℕ) (t : Task) → task_of d number ≡ Some t → has_task d.tasks number ≡ true
live_listed d number t e =
    let at = live_key d number t e in
    kept.has_key d.tasks number ∙ list_any_at (λ k. eqb k.0 number) (keys d.tasks) at.0 (number, t.params.bw) at.1 (eq-eqb _ number (ap (λ (k : ℕ × ℕ). k.0) at.2))

-- where numbers are apart, a number has one bandwidth
pub one_bw : (ks : List (ℕ × ℕ)) (number a b : ℕ) → AllPairs (λ k l. k.0 ≢ l.0) ks → Contains ks (number, a) → Contains ks (number, b) → a ≡ b
one_bw ks number a b apart one two =
    let there : get_or ks two.0 (number, a) ≡ (number, b) = get_or_default ks two.0 (number, a) (number, b) two.1 ∙ two.2 in
    elim (cases_lt one.0 two.0) [
      | inl less ↦ absurd (apart one.0 two.0 (number, a) less two.1 (ap (λ (k : ℕ × ℕ). k.0) one.2 ∙ sym (ap (λ (k : ℕ × ℕ). k.0) there)))
      | inr most ↦ elim (cases_lt two.0 one.0) [
        | inl less ↦ absurd (apart two.0 one.0 (number, a) less one.1 (ap (λ (k : ℕ × ℕ). k.0) there ∙ sym (ap (λ (k : ℕ × ℕ). k.0) one.2)))
        | inr least ↦ let same : one.0 ≡ two.0 = omega (arith, most, least) in ap (λ (k : ℕ × ℕ). k.1) (sym one.2 ∙ ap (λ n. get_or ks n (number, a)) same ∙ there)
      ]
    ]

-- ---- what each call does to the keys

pub refused_keeps : (d : Domain) (c : Call) → IsTrue (is_refusal (reply_to d c)) → after_call d c ≡ d
refused_keeps d c refused = ap (λ b. cond b d (after_granted d c)) refused

pub admitted_keys : (d : Domain) (number : ℕ) (name : List ℕ) (params : ParamsView) (delay : ℕ) (script : ScriptView) → reply_to d (Admit number name params delay script) ≡ Admitted
    → keys (after_call d (Admit number name params delay script)).tasks ≡ keys d.tasks ++ (number, params.bw) ∷ []
admitted_keys d number name params delay script e =
    let t = new_task d number name params delay script in
    ap (λ r. keys (cond (is_refusal r) d (with_task_listed d t)).tasks) e ∙ map-append key_of d.tasks (t ∷ [])

key_regraded : (number : ℕ) (p : ParamsView) (t : Task) → key_of (of_number number (with_new_params p) t) ≡ key_with_bw number p.bw (key_of t)
key_regraded number p t =
    elim (eqb t.number number) as (λ b. key_of (cond b (with_new_params p t) t) ≡ cond b (t.number, p.bw) (key_of t)) [ true ↦ refl | false ↦ refl ]

keys_regraded : (number : ℕ) (p : ParamsView) (tasks : List Task) → keys (map (of_number number (with_new_params p)) tasks) ≡ map (key_with_bw number p.bw) (keys tasks)
keys_regraded number p [] = refl
keys_regraded number p (t ∷ tasks) =
    ap (λ k. k ∷ keys (map (of_number number (with_new_params p)) tasks)) (key_regraded number p t) ∙ ap (λ ks. key_with_bw number p.bw (key_of t) ∷ ks) (keys_regraded number p tasks)

pub regraded_keys : (d : Domain) (number : ℕ) (p : ParamsView) (word : Option ℕ) → reply_to d (Regrade number p word) ≡ Changed
    → keys (after_call d (Regrade number p word)).tasks ≡ map (key_with_bw number p.bw) (keys d.tasks)
regraded_keys d number p word e =
    ap (λ r. keys (cond (is_refusal r) d (with_task_changed d number (with_new_params p))).tasks) e ∙ keys_regraded number p d.tasks

-- a key in the place of one, where numbers are apart: what a list kept beside the tasks does
keys_absent : (number bw : ℕ) (ks : List (ℕ × ℕ)) → All (λ k. number ≢ k.0) ks → map (key_with_bw number bw) ks ≡ ks
keys_absent number bw [] all = refl
keys_absent number bw (k ∷ ks) all =
    let other : eqb k.0 number ≡ false = ne_eqb k.0 number (λ e. all zero k (omega arith) (sym e)) in
    let rest : All (λ l. number ≢ l.0) ks = λ i d h. all (suc i) d (omega arith) in
    ap (λ b. cond b (k.0, bw) k ∷ map (key_with_bw number bw) ks) other ∙ ap (λ ls. k ∷ ls) (keys_absent number bw ks rest)

pub with_bw_at : (number bw : ℕ) (ks : List (ℕ × ℕ)) (i : ℕ) (d : ℕ × ℕ) → AllPairs (λ k l. k.0 ≢ l.0) ks → i < length ks → (get_or ks i d).0 ≡ number → map (key_with_bw number bw) ks ≡ set ks i (number, bw)
with_bw_at number bw [] i d apart within at = absurd (omega (arith, within))
with_bw_at number bw (k ∷ ks) zero d apart within at =
    let others : All (λ l. number ≢ l.0) ks = λ j e h same. apart zero (suc j) e (omega arith) (omega arith) (at ∙ same) in
    let here : key_with_bw number bw k ≡ (number, bw) = ap (λ b. cond b (k.0, bw) k) (eq-eqb k.0 number at) ∙ ap (λ n. (n, bw)) at in
    ap (λ l. l ∷ map (key_with_bw number bw) ks) here ∙ ap (λ ls. (number, bw) ∷ ls) (keys_absent number bw ks others)
with_bw_at number bw (k ∷ ks) (suc i) d apart within at =
    let rest : AllPairs (λ l m. l.0 ≢ m.0) ks = λ j n e less inside. apart (suc j) (suc n) e (omega arith) (omega arith) in
    let there : i < length ks = omega arith in
    let other : eqb k.0 number ≡ false = ne_eqb k.0 number (λ e. apart zero (suc i) d (omega arith) (omega arith) (e ∙ sym at)) in
    ap (λ b. cond b (k.0, bw) k ∷ map (key_with_bw number bw) ks) other ∙ ap (λ ls. k ∷ ls) (with_bw_at number bw ks i d rest there at)

-- the keys of a domain have numbers apart
pub keys_apart : (tasks : List Task) → kept.AreNumbered tasks → AllPairs (λ k l. k.0 ≢ l.0) (keys tasks)
keys_apart [] numbered = λ i j d less within. absurd (omega (arith, within))
keys_apart (t ∷ tasks) numbered =
    AllPairs-cons (λ k l. k.0 ≢ l.0) (key_of t) (keys tasks)
    (All-map (λ (k : ℕ × ℕ). t.number ≢ k.0) key_of tasks (kept.others_first t tasks numbered))
    (keys_apart tasks (kept.others_rest t tasks numbered))

either_keys : (b : Bool) (d e : Domain) → keys e.tasks ≡ keys d.tasks → keys (cond b d e).tasks ≡ keys d.tasks
either_keys true d e same = refl
either_keys false d e same = same

keys_changed : (d : Domain) (number : ℕ) (f : Task → Task) → ((t : Task) → (f t).number ≡ t.number) → ((t : Task) → (f t).params ≡ t.params) → keys (with_task_changed d number f).tasks ≡ keys d.tasks
keys_changed d number f same kept_params =
    kept.keys_map (of_number number f)
    (λ t. elim (eqb t.number number) as (λ b. (cond b (f t) t).number ≡ t.number) [ true ↦ same t | false ↦ refl ])
    (λ t. elim (eqb t.number number) as (λ b. (cond b (f t) t).params ≡ t.params) [ true ↦ kept_params t | false ↦ refl ])
    d.tasks

-- a wake keeps the keys, whatever the reply
pub wake_keys : (d : Domain) (number : ℕ) → keys (after_call d (Wake number)).tasks ≡ keys d.tasks
wake_keys d number = either_keys (is_refusal (wake_reply (task_of d number))) d (with_task_changed d number (blocked_until d.time)) (keys_changed d number (blocked_until d.time) (λ t. refl) (λ t. refl))

-- so does a leave: the task stays listed until a tick takes it off
pub leave_keys : (d : Domain) (number : ℕ) → keys (after_call d (Leave number)).tasks ≡ keys d.tasks
leave_keys d number =
    let same : (t : Task) → ((ended_at d.time t).number ≡ t.number) × ((ended_at d.time t).params ≡ t.params) =
    λ t. elim (is_contending t.condition) as (λ b. ((cond b (stopped d.time Leaving t) (record t { condition = Leaving })).number ≡ t.number) × ((cond b (stopped d.time Leaving t) (record t { condition = Leaving })).params ≡ t.params)) [ true ↦ (refl, refl) | false ↦ (refl, refl) ] in
    either_keys (is_refusal (leave_reply (task_of d number))) d (with_task_changed d number (ended_at d.time)) (keys_changed d number (ended_at d.time) (λ t. (same t).0) (λ t. (same t).1))

-- a depart takes the key of the number away
keys_others : (number : ℕ) (tasks : List Task) → keys (filter (is_other number) tasks) ≡ filter (λ k. not (eqb k.0 number)) (keys tasks)
keys_others number [] = refl
keys_others number (t ∷ tasks) =
    let rest = filter (is_other number) tasks in
    let left = filter (λ (k : ℕ × ℕ). not (eqb k.0 number)) (keys tasks) in
    elim (eqb t.number number) as (λ b. keys (cond (not b) (t ∷ rest) rest) ≡ cond (not b) (key_of t ∷ left) left) [ true ↦ keys_others number tasks | false ↦ ap (λ ks. key_of t ∷ ks) (keys_others number tasks) ]

pub departed_keys : (d : Domain) (number : ℕ) → reply_to d (Depart number) ≡ Departed → keys (after_call d (Depart number)).tasks ≡ filter (λ k. not (eqb k.0 number)) (keys d.tasks)
departed_keys d number e =
    ap (λ r. keys (cond (is_refusal r) d (after_departure d number)).tasks) e ∙ keys_others number d.tasks

-- an arrival is an admission without a delay
pub arrived_keys : (d : Domain) (number : ℕ) (name : List ℕ) (params : ParamsView) (script : ScriptView) → reply_to d (Arrive number name params script) ≡ Admitted
    → keys (after_call d (Arrive number name params script)).tasks ≡ keys d.tasks ++ (number, params.bw) ∷ []
arrived_keys d number name params script e = admitted_keys d number name params 0 script e

-- ---- time, CPUs and limit

-- the ticks that a call makes
abbrev pub ticks_of : Call → ℕ
ticks_of (Admit number name params delay script) = 0
ticks_of (Regrade number params word) = 0
ticks_of (Wake number) = 0
ticks_of (Leave number) = 0
ticks_of (Advance n) = n
ticks_of (Limit limit word) = 0
ticks_of (Depart number) = 0
ticks_of (Arrive number name params script) = 0

either_time : (b : Bool) (d e : Domain) → e.time ≡ d.time → (cond b d e).time ≡ d.time + 0
either_time true d e same = omega arith
either_time false d e same = omega (arith, same)

pub call_time : (d : Domain) (c : Call) → (after_call d c).time ≡ d.time + ticks_of c
call_time d (Admit number name params delay script) = either_time (is_refusal (admit_reply d number params)) d (after_granted d (Admit number name params delay script)) refl
call_time d (Regrade number params word) = either_time (is_refusal (regrade_reply d params word (task_of d number))) d (after_granted d (Regrade number params word)) refl
call_time d (Wake number) = either_time (is_refusal (wake_reply (task_of d number))) d (after_granted d (Wake number)) refl
call_time d (Leave number) = either_time (is_refusal (leave_reply (task_of d number))) d (after_granted d (Leave number)) refl
call_time d (Advance n) = ticks_time n d
call_time d (Limit limit word) = either_time (is_refusal (limit_reply d limit word)) d (after_granted d (Limit limit word)) refl
call_time d (Depart number) = either_time (is_refusal (depart_reply (task_of d number))) d (after_departure d number) refl
call_time d (Arrive number name params script) = either_time (is_refusal (admit_reply d number params)) d (after_granted d (Arrive number name params script)) refl

-- the same CPUs and the same limit, and so the same cap
pub record SameMachine (d e : Domain) : Type 0 where
  pub cpus : e.cpus ≡ d.cpus
  pub limit : e.limit ≡ d.limit

either_machine : (b : Bool) (d e : Domain) → SameMachine d e → SameMachine d (cond b d e)
either_machine true d e same = record { cpus = refl; limit = refl }
either_machine false d e same = same

-- a call that sets no limit keeps CPUs and limit
abbrev pub sets_limit : Call → Bool
sets_limit (Limit limit word) = true
sets_limit c = false

pub call_machine : (d : Domain) (c : Call) → sets_limit c ≡ false → SameMachine d (after_call d c)
call_machine d (Admit number name params delay script) is = either_machine (is_refusal (admit_reply d number params)) d (after_granted d (Admit number name params delay script)) (record { cpus = refl; limit = refl })
call_machine d (Regrade number params word) is = either_machine (is_refusal (regrade_reply d params word (task_of d number))) d (after_granted d (Regrade number params word)) (record { cpus = refl; limit = refl })
call_machine d (Wake number) is = either_machine (is_refusal (wake_reply (task_of d number))) d (after_granted d (Wake number)) (record { cpus = refl; limit = refl })
call_machine d (Leave number) is = either_machine (is_refusal (leave_reply (task_of d number))) d (after_granted d (Leave number)) (record { cpus = refl; limit = refl })
call_machine d (Advance n) is = record { cpus = ticks_cpus n d; limit = ticks_limit n d }
call_machine d (Limit limit word) is = absurd cc
call_machine d (Depart number) is = either_machine (is_refusal (depart_reply (task_of d number))) d (after_departure d number) (record { cpus = refl; limit = refl })
call_machine d (Arrive number name params script) is = either_machine (is_refusal (admit_reply d number params)) d (after_granted d (Arrive number name params script)) (record { cpus = refl; limit = refl })

either_cpus : (b : Bool) (d e : Domain) → e.cpus ≡ d.cpus → (cond b d e).cpus ≡ d.cpus
either_cpus true d e same = refl
either_cpus false d e same = same

-- no call changes the number of CPUs
pub call_cpus : (d : Domain) (c : Call) → (after_call d c).cpus ≡ d.cpus
call_cpus d (Admit number name params delay script) = (call_machine d (Admit number name params delay script) refl).cpus
call_cpus d (Regrade number params word) = (call_machine d (Regrade number params word) refl).cpus
call_cpus d (Wake number) = (call_machine d (Wake number) refl).cpus
call_cpus d (Leave number) = (call_machine d (Leave number) refl).cpus
call_cpus d (Advance n) = ticks_cpus n d
call_cpus d (Limit limit word) = either_cpus (is_refusal (limit_reply d limit word)) d (with_limit limit d) refl
call_cpus d (Depart number) = either_cpus (is_refusal (depart_reply (task_of d number))) d (after_departure d number) refl
call_cpus d (Arrive number name params script) = (call_machine d (Arrive number name params script) refl).cpus

either_tasks : (b : Bool) (d e : Domain) → e.tasks ≡ d.tasks → (cond b d e).tasks ≡ d.tasks
either_tasks true d e same = refl
either_tasks false d e same = same

-- a change of the limit keeps the list
pub limit_tasks : (d : Domain) (limit : ℕ) (word : Option ℕ) → (after_call d (Limit limit word)).tasks ≡ d.tasks
limit_tasks d limit word = either_tasks (is_refusal (limit_reply d limit word)) d (with_limit limit d) refl

-- ---- what Busy logs, by the definitions alone

pub admit_busy : (d : Domain) (number : ℕ) (params : ParamsView) (seen : ℕ) → sum_of d.tasks ≤ cap d.cpus d.limit → admit_reply d number params ≡ Busy seen → LacksRoomFor d params.bw seen
admit_busy d number params seen within e = busy_by (leb 256 (length d.tasks)) (list_any (λ n. eqb n number) d.used) (ltb (cap d.cpus d.limit) (sum_of d.tasks + params.bw)) refl e
  where
    busy_by : (a b c : Bool) → ltb (cap d.cpus d.limit) (sum_of d.tasks + params.bw) ≡ c → cond a Full (cond b Twice (cond c (Busy (sum_of d.tasks)) Admitted)) ≡ Busy seen → LacksRoomFor d params.bw seen
    busy_by true b c is k = absurd cc
    busy_by false true c is k = absurd cc
    busy_by false false false is k = absurd cc
    busy_by false false true is k =
        let same : sum_of d.tasks ≡ seen = cc in
        record { within = omega (arith, within, same); above = omega (arith, ltb-true (cap d.cpus d.limit) (sum_of d.tasks + params.bw) is, same) }

pub regrade_busy : (d : Domain) (number : ℕ) (p : ParamsView) (seen : ℕ) → sum_of d.tasks ≤ cap d.cpus d.limit → regrade_reply d p None (task_of d number) ≡ Busy seen → LacksRoomToChange d number p.bw seen
regrade_busy d number p seen within e = busy_by (task_of d number) refl e
  where
    busy_if : (t : Task) (c : Bool) → task_of d number ≡ Some t → ltb (cap d.cpus d.limit) (sum_of d.tasks - t.params.bw + p.bw) ≡ c → cond c (Busy (sum_of d.tasks)) Changed ≡ Busy seen → LacksRoomToChange d number p.bw seen
    busy_if t false is test k = absurd cc
    busy_if t true is test k =
        let same : sum_of d.tasks ≡ seen = cc in
        let more : cap d.cpus d.limit < seen - t.params.bw + p.bw = omega (arith, ltb-true (cap d.cpus d.limit) (sum_of d.tasks - t.params.bw + p.bw) test, same) in
        record { within = omega (arith, within, same); above = rw is more }

    busy_by : (o : Option Task) → task_of d number ≡ o → regrade_reply d p None o ≡ Busy seen → LacksRoomToChange d number p.bw seen
    busy_by None is k = absurd cc
    busy_by (Some t) is k = busy_if t (ltb (cap d.cpus d.limit) (sum_of d.tasks - t.params.bw + p.bw)) is refl k

-- ---- what is kept beside the tasks, one item for each in their order

-- a number has an item where its task is listed
pub beside_listed : {X : Type 0} (key : X → ℕ × ℕ) (xs : List X) (tasks : List Task) (number : ℕ) → map key xs ≡ keys tasks → list_any (λ x. eqb (key x).0 number) xs ≡ has_task tasks number
beside_listed {X = X} key xs tasks number same = any_by xs ∙ ap (λ ks. list_any (λ (k : ℕ × ℕ). eqb k.0 number) ks) same ∙ sym (kept.has_key tasks number)
  where
    any_by : (ys : List X) → list_any (λ x. eqb (key x).0 number) ys ≡ list_any (λ (k : ℕ × ℕ). eqb k.0 number) (map key ys)
    any_by [] = refl
    any_by (y ∷ ys) = ap (λ b. eqb (key y).0 number || b) (any_by ys)

-- after ticks: the items of the tasks that have a view still
pub beside_kept : {X : Type 0} (key : X → ℕ × ℕ) (xs : List X) (before : List Task) (d : Domain) → map key xs ≡ keys before → AreKept before d.tasks → map key (filter (λ x. is_some (view_in d (key x).0)) xs) ≡ keys d.tasks
beside_kept {X = X} key xs before d same is = left xs ∙ ap (λ ks. listed_keys ks d.tasks) same ∙ sym is
  where
    left : (ys : List X) → map key (filter (λ x. is_some (view_in d (key x).0)) ys) ≡ listed_keys (map key ys) d.tasks
    left [] = refl
    left (y ∷ ys) =
        let there = filter (λ x. is_some (view_in d (key x).0)) ys in
        ap (λ b. map key (cond b (y ∷ there) there)) (view_where_listed d (key y).0)
        ∙ elim (has_task d.tasks (key y).0) as (λ b. map key (cond b (y ∷ there) there) ≡ cond b (key y ∷ listed_keys (map key ys) d.tasks) (listed_keys (map key ys) d.tasks)) [ true ↦ ap (λ ks. key y ∷ ks) (left ys) | false ↦ left ys ]

-- the first of some keys is not that of another
first_apart : (k : ℕ × ℕ) (front back : List (ℕ × ℕ)) (number bw : ℕ) → AllPairs (λ l m. l.0 ≢ m.0) (k ∷ (front ++ (number, bw) ∷ back)) → k.0 ≢ number
first_apart k front back number bw apart =
    let others : All (λ m. k.0 ≢ m.0) (front ++ (number, bw) ∷ back) = λ j e h. apart zero (suc j) e (omega arith) (omega arith) in
    all_between (λ m. k.0 ≢ m.0) front (number, bw) back others
  where
    all_between : (P : ℕ × ℕ → Type 0) (xs : List (ℕ × ℕ)) (x : ℕ × ℕ) (ys : List (ℕ × ℕ)) → All P (xs ++ x ∷ ys) → P x
    all_between P [] x ys all = all zero x (omega arith)
    all_between P (y ∷ xs) x ys all = all_between P xs x ys (λ j e h. all (suc j) e (omega arith))

-- after a regrade: the one item of the number
pub with_bw_between : (number old bw : ℕ) (front back : List (ℕ × ℕ)) → AllPairs (λ k l. k.0 ≢ l.0) (front ++ (number, old) ∷ back) → map (key_with_bw number bw) (front ++ (number, old) ∷ back) ≡ front ++ (number, bw) ∷ back
with_bw_between number old bw [] back apart = with_bw_at number bw ((number, old) ∷ back) 0 (number, old) apart (omega arith) refl
with_bw_between number old bw (k ∷ front) back apart =
    let rest : AllPairs (λ l m. l.0 ≢ m.0) (front ++ (number, old) ∷ back) = λ j n e less inside. apart (suc j) (suc n) e (omega arith) (omega arith) in
    let other : eqb k.0 number ≡ false = ne_eqb k.0 number (first_apart k front back number old apart) in
    ap (λ b. cond b (k.0, bw) k ∷ map (key_with_bw number bw) (front ++ (number, old) ∷ back)) other ∙ ap (λ ls. k ∷ ls) (with_bw_between number old bw front back rest)

-- after a depart: all items but the one of the number
others_stay : (number : ℕ) (ks : List (ℕ × ℕ)) → All (λ k. number ≢ k.0) ks → filter (λ k. not (eqb k.0 number)) ks ≡ ks
others_stay number [] all = refl
others_stay number (k ∷ ks) all =
    let other : eqb k.0 number ≡ false = ne_eqb k.0 number (λ e. all zero k (omega arith) (sym e)) in
    let rest : All (λ l. number ≢ l.0) ks = λ i d h. all (suc i) d (omega arith) in
    let kept = filter (λ (l : ℕ × ℕ). not (eqb l.0 number)) ks in
    ap (λ b. cond (not b) (k ∷ kept) kept) other ∙ ap (λ ls. k ∷ ls) (others_stay number ks rest)

pub without_between : (number bw : ℕ) (front back : List (ℕ × ℕ)) → AllPairs (λ k l. k.0 ≢ l.0) (front ++ (number, bw) ∷ back) → filter (λ k. not (eqb k.0 number)) (front ++ (number, bw) ∷ back) ≡ front ++ back
without_between number bw [] back apart =
    let others : All (λ l. number ≢ l.0) back = λ j e h. apart zero (suc j) e (omega arith) (omega arith) in
    let kept = filter (λ (l : ℕ × ℕ). not (eqb l.0 number)) back in
    ap (λ b. cond (not b) ((number, bw) ∷ kept) kept) (eq-eqb number number refl) ∙ others_stay number back others
without_between number bw (k ∷ front) back apart =
    let rest : AllPairs (λ l m. l.0 ≢ m.0) (front ++ (number, bw) ∷ back) = λ j n e less inside. apart (suc j) (suc n) e (omega arith) (omega arith) in
    let other : eqb k.0 number ≡ false = ne_eqb k.0 number (first_apart k front back number bw apart) in
    let kept = filter (λ (l : ℕ × ℕ). not (eqb l.0 number)) (front ++ (number, bw) ∷ back) in
    ap (λ b. cond (not b) (k ∷ kept) kept) other ∙ ap (λ ls. k ∷ ls) (without_between number bw front back rest)

-- the sum of the domain is that of the keys
pub sum_of_keys : (tasks : List Task) → sum_of tasks ≡ sum_by (λ k. k.1) (keys tasks)
sum_of_keys [] = refl
sum_of_keys (t ∷ tasks) = omega (arith, sum_by-cons (λ (s : Share). s.bw) (share_of t) (shares tasks), sum_by-cons (λ (k : ℕ × ℕ). k.1) (key_of t) (keys tasks), sum_of_keys tasks)

-- ---- the sum of bandwidths, task by task

pub sum_first : (t : Task) (tasks : List Task) → sum_of (t ∷ tasks) ≡ t.params.bw + sum_of tasks
sum_first t tasks = sum_by-cons (λ (s : Share). s.bw) (share_of t) (shares tasks)
