-- What the parts of a tick keep of a task: its number and its parameters.
use Rattle.std.proofs.Common.{◌≡◌, ℕ, ◌+◌, ◌<◌, Bool, true, false, cond, Option, Some, None, List, map, refl, sym, ◌∙◌, length, arith}
use Rattle.std.specs.Prelude.{AllPairs, ◌≢◌, filter, position}
use Rattle.std.proofs.lemmas.List.{get_or-map, length-map}
use Rattle.std.proofs.lemmas.List.Kept.{AllPairs-filter}
use Rattle.cbs_rules.specs.declared.server.Server.{Server}
use Rattle.cbs_rules.specs.Serving.{is_spent, woken}
use Rattle.edf_pick.specs.Places.{Places, is_task, is_on_cpu}
use Rattle.task_script.specs.declared.script.Segment.{Segment}
use Rattle.task_script.specs.declared.script.Segment.TheVariants.{Run as RunFor, Until, Wait as WaitFor, End}
use Rattle.task_script.specs.script.Segments.{next_segment}
use Rattle.domain_run.specs.declared.task.Task.{Task}
use Rattle.domain_run.specs.Conditions.{is_over, has_come}
use Rattle.domain_run.specs.Parts.{replenish_due, settled, is_listed, enqueued, started, unblocked, with_cpu, with_last_cpu, went_on, ran}
use Rattle.domain_run.specs.Domain.{Domain}
use Rattle.domain_run.specs.Tick.{prepared, ran_if}
use Rattle.domain_run.proofs.CallerLemmas.{AreNumbered}

pub record Same (t u : Task) : Type 0 where
  pub number : u.number ≡ t.number
  pub params : u.params ≡ t.params

same_itself : (t : Task) → Same t t
same_itself t = record { number = refl; params = refl }

same_either : (b : Bool) (t x y : Task) → Same t x → Same t y → Same t (cond b x y)
same_either true t x y p q = p
same_either false t x y p q = q

pub same_replenished : (time : ℕ) (t : Task) → Same t (replenish_due time t)
same_replenished time t = same_either _ t _ t (record { number = refl; params = refl }) (same_itself t)

pub same_settled : (time : ℕ) (t : Task) → Same t (settled time t)
same_settled time t = same_either _ t _ t (record { number = refl; params = refl }) (same_itself t)

same_contending : (time : ℕ) (s : Server) (t : Task) → Same t (enqueued time s t)
same_contending time s t =
    let same : (u : Task) → u.number ≡ t.number → u.params ≡ t.params → Same t u = λ u a b. record { number = a; params = b } in
    same_either (is_spent s) t _ _ (same_either (has_come time s.deadline) t _ _ (same _ refl refl) (same _ refl refl)) (same _ refl refl)

same_started : (time : ℕ) (s : Segment) (t u : Task) → Same t u → Same t (started time s u)
same_started time (RunFor n) t u h =
    let woken_up = same_contending time (woken u.params time u.server) (record u { zero_lag = None; work = n }) in
    record { number = woken_up.number ∙ h.number; params = woken_up.params ∙ h.params }
same_started time (Until x) t u h = record { number = h.number; params = h.params }
same_started time WaitFor t u h = record { number = h.number; params = h.params }
same_started time End t u h = record { number = h.number; params = h.params }

pub same_unblocked : (time : ℕ) (t : Task) → Same t (unblocked time t)
same_unblocked time t =
    same_either (is_over time t.condition) t _ t (same_started time (next_segment t.cursor time).segment t (record t { cursor = (next_segment t.cursor time).cursor }) (record { number = refl; params = refl })) (same_itself t)

same_with_cpu : (o : Option ℕ) (t : Task) → Same t (with_cpu o t)
same_with_cpu None t = same_itself t
same_with_cpu (Some cpu) t = record { number = refl; params = refl }

pub same_homed : (places : Places) (t : Task) → Same t (with_last_cpu places t)
same_homed places t = same_with_cpu (position (is_task t.number) places) t

same_went_on : (time : ℕ) (s : Segment) (t u : Task) → Same t u → Same t (went_on time s u)
same_went_on time (RunFor n) t u h = record { number = h.number; params = h.params }
same_went_on time (Until x) t u h = record { number = h.number; params = h.params }
same_went_on time WaitFor t u h = record { number = h.number; params = h.params }
same_went_on time End t u h = record { number = h.number; params = h.params }

pub same_ran : (time rate : ℕ) (t : Task) → Same t (ran time rate t)
same_ran time rate t =
    same_either _ t _ _ (same_went_on (time + 1) _ t _ (record { number = refl; params = refl })) (record { number = refl; params = refl })

pub same_ran_if : (d : Domain) (t : Task) → Same t (ran_if d t)
same_ran_if d t = same_either (is_on_cpu t.number d.curr) t _ t (same_ran d.time _ t) (same_itself t)

-- numbers stay apart
AllPairs-map : {X : Type 0} (R : X → X → Type 0) (f : X → X) → ((a b : X) → R a b → R (f a) (f b)) → (xs : List X) → AllPairs R xs → AllPairs R (map f xs)
AllPairs-map R f keeps xs all i j d less within =
    let e : length (map f xs) ≡ length xs = simp length-map in
    let there : j < length xs = omega arith in
    let here : i < length xs = omega arith in
    rw (get_or-map f xs i d d here, get_or-map f xs j d d there) (keeps _ _ (all i j d less there))

apart_map : (f : Task → Task) → ((t : Task) → (f t).number ≡ t.number) → (tasks : List Task) → AreNumbered tasks → AreNumbered (map f tasks)
apart_map f keeps tasks apart = AllPairs-map (λ a b. a.number ≢ b.number) f (λ a b h e. h (sym (keeps a) ∙ e ∙ keeps b)) tasks apart

pub prepared_apart : (time : ℕ) (tasks : List Task) → AreNumbered tasks → AreNumbered (prepared time tasks)
prepared_apart time tasks apart =
    let due = map (replenish_due time) tasks in
    let done = map (settled time) due in
    apart_map (unblocked time) (λ t. (same_unblocked time t).number) (filter is_listed done)
    (AllPairs-filter (λ (a b : Task). a.number ≢ b.number) is_listed done
    (apart_map (settled time) (λ t. (same_settled time t).number) due (apart_map (replenish_due time) (λ t. (same_replenished time t).number) tasks apart)))
