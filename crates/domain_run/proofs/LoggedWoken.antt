-- What parts 1 to 3 log of the tasks of a list in one walk: the same as in two, in another order.
use Rattle.std.proofs.Common.{◌≡◌, ℕ, zero, suc, ◌+◌, ◌-◌, ◌<◌, ◌≤◌, true, false, cond, List, [], ◌∷◌, ◌++◌, length, map, get_or, take, drop, refl, sym, ap, ◌∙◌, subst, arith}
use Rattle.std.specs.Prelude.{All, AllPairs, filter}
use Rattle.std.specs.List.{flat_map}
use Rattle.std.specs.List.Sorted.{IsPermutation}
use Rattle.std.proofs.lemmas.Grind.{flat_map-append}
use Rattle.std.proofs.lemmas.List.{append-nil}
use Rattle.std.proofs.lemmas.List.Elements.{All-nil, All-cons}
use Rattle.std.proofs.lemmas.List.Sorted.{IsPermutation-map, IsPermutation-sym}
use Rattle.edf_pick.specs.Places.{Places}
use Rattle.domain_run.specs.declared.task.Task.{Task}
use Rattle.domain_run.specs.declared.happened.Happened.{Happened}
use Rattle.domain_run.specs.Domain.{Domain}
use Rattle.domain_run.specs.Happened.{logged_by_replenishment, logged_by_unblocking, in_order, with_its_cpu}
use Rattle.domain_run.specs.Log.{LogView, HasLogged}
use Rattle.domain_run.specs.Parts.{replenish_due, settled, is_listed}
use Rattle.domain_run.specs.private.TaskTable.{timers_served, IsWoken}
use Rattle.domain_run.specs.private.TransitionLog.{logged_of_parts, logged_of_task, logged_at_home, IsApart, GoHome}
use Rattle.domain_run.specs.private.Timers.{due_of, AreNotDue}
use Rattle.domain_run.proofs.Due.{still_at}
use Rattle.domain_run.proofs.Jumping.{IsStill}
use Rattle.domain_run.proofs.Keeping.{AllPairs-map}
use Rattle.domain_run.proofs.KeptKeys.{AreNumbered}
use Rattle.domain_run.proofs.Logging.{logs_none, logs_more, logs_home}
use Rattle.domain_run.proofs.LoggedChanges.{logged_both, logged_nothing, logged_alike}
use Rattle.domain_run.proofs.LoggedRising.{beginning_apart}
use Rattle.domain_run.proofs.LoggedSorted.{pairs_mixed, order_alike}
use Rattle.domain_run.proofs.LoggedTicks.{parts_still}
use Rattle.domain_run.proofs.Woken.{Walked, walk_more, woken_still, walk_done}

-- ---- ONE TASK: one that goes off the list, and one that stays

pub logged_gone : (time : ℕ) (t : Task) → is_listed (timers_served time t) ≡ false → logged_of_task time t ≡ logged_by_replenishment time t
logged_gone time t gone =
    ap (λ b. (logged_by_replenishment time t ++ []) ++ flat_map (logged_by_unblocking time) (cond b (timers_served time t ∷ []) [])) gone
    ∙ append-nil (logged_by_replenishment time t ++ []) ∙ append-nil (logged_by_replenishment time t)

pub logged_kept : (time : ℕ) (t : Task) → is_listed (timers_served time t) ≡ true → logged_of_task time t ≡ logged_by_replenishment time t ++ logged_by_unblocking time (timers_served time t)
logged_kept time t stays =
    let R = logged_by_replenishment time t in
    let U = logged_by_unblocking time (timers_served time t) in
    ap (λ b. (R ++ []) ++ flat_map (logged_by_unblocking time) (cond b (timers_served time t ∷ []) [])) stays
    ∙ (λ i. append-nil R i ++ append-nil U i)

logged_still : (time : ℕ) (t : Task) → time < due_of t → logged_of_task time t ≡ []
logged_still time t h = parts_still time (t ∷ []) (All-cons (IsStill time) t [] (still_at time t h) (All-nil (IsStill time)))

-- ---- ALL OF THEM

-- so far: those before a place were logged
pub record WalkLogs (time : ℕ) (first now : List Task) (place : ℕ) (before after : LogView) : Type 0 where
  pub walked : Walked time first now place
  pub logged : HasLogged before (flat_map (logged_of_task time) walked.done) after

pub log_begins : (time : ℕ) (first : List Task) (log : LogView) → WalkLogs time first first 0 log log
log_begins time first log = record { walked = record { done = []; rest = first; first_is = refl; now_is = refl; place_is = refl }; logged = logs_none log }

logged_push : (time : ℕ) (done : List Task) (t : Task) → flat_map (logged_of_task time) done ++ logged_of_task time t ≡ flat_map (logged_of_task time) (done ++ t ∷ [])
logged_push time done t =
    ap (λ hs. flat_map (logged_of_task time) done ++ hs) (sym (append-nil (logged_of_task time t)))
    ∙ sym (flat_map-append (logged_of_task time) done (t ∷ []))

pub log_step : (time : ℕ) (first now new : List Task) (p next : ℕ) (a b c : LogView) → WalkLogs time first now p a b → p < length now → IsWoken time p now new next → ((d : Task) → HasLogged b (logged_of_task time (get_or now p d)) c) → WalkLogs time first new next a c
log_step time first now new p next a b c w h one logged =
    let more = walk_more time first now new p next w.walked h one in
    let t = more.task in
    let own : HasLogged b (logged_of_task time t) c = subst (λ u. HasLogged b (logged_of_task time u) c) (more.read t) (logged t) in
    record {
      walked = more.walked;
      logged = subst (λ hs. HasLogged a hs c) (logged_push time w.walked.done t ∙ ap (λ ts. flat_map (logged_of_task time) ts) (sym more.done_is))
          (logs_more (flat_map (logged_of_task time) w.walked.done) (logged_of_task time t) a b c w.logged own);
    }

-- those that are not due are passed by
log_on : (time : ℕ) (first now : List Task) (n p : ℕ) (a b : LogView) → WalkLogs time first now p a b → p + n ≤ length now → ((q : ℕ) (d : Task) → p ≤ q → q < p + n → time < due_of (get_or now q d)) → WalkLogs time first now (p + n) a b
log_on time first now zero p a b w h later = subst (λ m. WalkLogs time first now m a b) (omega arith) w
log_on time first now (suc n) p a b w h later =
    let within : p < length now = omega (arith, h) in
    let one = woken_still time now p within (λ d. later p d (omega arith) (omega arith)) in
    let none = λ (d : Task). subst (λ hs. HasLogged b hs b) (sym (logged_still time (get_or now p d) (later p d (omega arith) (omega arith)))) (logs_none b) in
    subst (λ m. WalkLogs time first now m a b) (omega arith)
    (log_on time first now n (p + 1) a b (log_step time first now now p (p + 1) a b b w within one none) (omega (arith, h)) (λ q d x y. later q d (omega (arith, x)) (omega (arith, y))))

pub log_by : (time : ℕ) (first now : List Task) (p r : ℕ) (a b : LogView) → WalkLogs time first now p a b → p ≤ r → r ≤ length now → AreNotDue now time p r → WalkLogs time first now r a b
log_by time first now p r a b w from most later =
    let whole : p + (r - p) ≡ r = omega (arith, from) in
    subst (λ m. WalkLogs time first now m a b) whole
    (log_on time first now (r - p) p a b w (omega (arith, whole, most)) (λ q d x y. later q d x (omega (arith, y, whole)) (omega (arith, y, whole, most))))

pub log_ends : (time : ℕ) (first now : List Task) (p : ℕ) (a b : LogView) → WalkLogs time first now p a b → length now ≤ p → HasLogged a (flat_map (logged_of_task time) first) b
log_ends time first now p a b w h = subst (λ ts. HasLogged a (flat_map (logged_of_task time) ts) b) (walk_done time first now p w.walked h) w.logged

-- where none is due
pub none_log : (time : ℕ) (tasks : List Task) → All (IsStill time) tasks → flat_map (logged_of_task time) tasks ≡ []
none_log time tasks still = logged_nothing (logged_of_task time) tasks (λ k d h. let t = get_or tasks k d in parts_still time (t ∷ []) (All-cons (IsStill time) t [] (still k d h) (All-nil (IsStill time))))

-- ---- in its order, and at home, it is what two walks log

unblocked_each : (time : ℕ) (tasks : List Task) → flat_map (λ t. flat_map (logged_by_unblocking time) (filter is_listed (timers_served time t ∷ []))) tasks ≡ flat_map (logged_by_unblocking time) (filter is_listed (map (settled time) (map (replenish_due time) tasks)))
unblocked_each time [] = refl
unblocked_each time (t ∷ tasks) =
    let s = timers_served time t in
    let rest = filter is_listed (map (settled time) (map (replenish_due time) tasks)) in
    let U = logged_by_unblocking time in
    let more = unblocked_each time tasks in
    ap (λ hs. flat_map U (filter is_listed (s ∷ [])) ++ hs) more
    ∙ elim (is_listed s) as (λ b. flat_map U (cond b (s ∷ []) []) ++ flat_map U rest ≡ flat_map U (cond b (s ∷ rest) rest)) [
      | true ↦ ap (λ hs. hs ++ flat_map U rest) (append-nil (U s))
      | false ↦ refl
    ]

pub walk_mixed : (time : ℕ) (tasks : List Task) → IsPermutation (flat_map (logged_of_task time) tasks) (logged_of_parts time tasks)
walk_mixed time tasks =
    let R = logged_by_replenishment time in
    let V : Task → List Happened = λ t. flat_map (logged_by_unblocking time) (filter is_listed (timers_served time t ∷ [])) in
    let each : flat_map (λ t. R t ++ V t) tasks ≡ flat_map (logged_of_task time) tasks = logged_alike (λ t. R t ++ V t) (logged_of_task time) tasks (λ i d h. let t = get_or tasks i d in ap (λ hs. hs ++ V t) (sym (append-nil (R t)))) in
    subst (λ hs. IsPermutation hs (logged_of_parts time tasks)) each
    (subst (λ hs. IsPermutation (flat_map (λ t. R t ++ V t) tasks) (flat_map R tasks ++ hs)) (unblocked_each time tasks) (logged_both R V tasks))

pub walk_home : (places : Places) (time : ℕ) (tasks : List Task) (a b c : LogView) → AreNumbered tasks → HasLogged a (flat_map (logged_of_task time) tasks) b → c.wanted ≡ b.wanted → c.room ≡ b.room → GoHome places (length a.happened) b.happened c.happened → HasLogged a (logged_at_home places time tasks) c
walk_home places time tasks a b c numbered logged wanted room homes =
    let hs = logged_of_parts time tasks in
    let gs = flat_map (logged_of_task time) tasks in
    let f = with_its_cpu places in
    let d : Domain = record { cpus = 0; limit = 0; time = time; tasks = tasks; used = []; curr = places; switches = [] } in
    let apart : AllPairs IsApart hs = beginning_apart d numbered in
    let mixed : IsPermutation hs gs = IsPermutation-sym gs hs (walk_mixed time tasks) in
    let same : in_order (map f gs) ≡ in_order (map f hs) = order_alike (map f hs) (map f gs) (IsPermutation-map f hs gs mixed) (AllPairs-map IsApart f (λ x y h. h) hs apart) in
    subst (λ ks. HasLogged a ks c) same (logs_home places gs a b c (pairs_mixed hs gs mixed apart) logged wanted room homes)
