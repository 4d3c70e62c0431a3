-- What the parts of a tick keep of a task, and of all tasks.
use Rattle.std.proofs.Common.{◌≡◌, ℕ, ◌+◌, ◌<◌, ◌≤◌, Bool, true, false, cond, None, List, [], ◌∷◌, length, map, refl, ap, ◌∙◌, arith}
use Rattle.std.specs.Prelude.{AllPairs, filter}
use Rattle.std.proofs.lemmas.List.{get_or-map, length-map}
use Rattle.std.proofs.lemmas.List.Sums.{sum_by-cons}
use Rattle.grub_rules.specs.declared.share.Share.{Share}
use Rattle.cbs_rules.specs.declared.server.Server.{Server}
use Rattle.domain_run.specs.declared.task.Task.{Task}
use Rattle.task_script.specs.declared.script.Segment.{Segment}
use Rattle.task_script.specs.declared.script.Segment.TheVariants.{Run as RunFor, Until, Wait as WaitFor, End}
use Rattle.domain_run.specs.Conditions.{is_over, has_come}
use Rattle.cbs_rules.specs.Serving.{is_spent, woken}
use Rattle.task_script.specs.script.Segments.{next_segment}
use Rattle.domain_run.specs.Parts.{replenish_due, settled, enqueued, started, unblocked, went_on, ran}
use Rattle.domain_run.specs.Tick.{share_of, shares, sum_of}

-- the same task: its number, its parameters and the CPU to which it belongs
pub record Same (t u : Task) : Type 0 where
  pub number : u.number ≡ t.number
  pub params : u.params ≡ t.params
  pub cpu : u.cpu ≡ t.cpu

pub same_itself : (t : Task) → Same t t
same_itself t = record { number = refl; params = refl; cpu = refl }

pub same_either : (b : Bool) (t x y : Task) → Same t x → Same t y → Same t (cond b x y)
same_either true t x y p q = p
same_either false t x y p q = q

pub same_replenished : (time : ℕ) (t : Task) → Same t (replenish_due time t)
same_replenished time t = same_either _ t _ t (record { number = refl; params = refl; cpu = refl }) (same_itself t)

pub same_settled : (time : ℕ) (t : Task) → Same t (settled time t)
same_settled time t = same_either _ t _ t (record { number = refl; params = refl; cpu = refl }) (same_itself t)

same_contending : (time : ℕ) (s : Server) (t : Task) → Same t (enqueued time s t)
same_contending time s t =
    let same : (u : Task) → u.number ≡ t.number → u.params ≡ t.params → u.cpu ≡ t.cpu → Same t u = λ u a b c. record { number = a; params = b; cpu = c } in
    same_either (is_spent s) t _ _ (same_either (has_come time s.deadline) t _ _ (same _ refl refl refl) (same _ refl refl refl)) (same _ refl refl refl)

same_started : (time : ℕ) (s : Segment) (t u : Task) → Same t u → Same t (started time s u)
same_started time (RunFor n) t u h =
    let woken_up = same_contending time (woken u.params time u.server) (record u { zero_lag = None; work = n }) in
    record { number = woken_up.number ∙ h.number; params = woken_up.params ∙ h.params; cpu = woken_up.cpu ∙ h.cpu }
same_started time (Until x) t u h = record { number = h.number; params = h.params; cpu = h.cpu }
same_started time WaitFor t u h = record { number = h.number; params = h.params; cpu = h.cpu }
same_started time End t u h = record { number = h.number; params = h.params; cpu = h.cpu }

pub same_unblocked : (time : ℕ) (t : Task) → Same t (unblocked time t)
same_unblocked time t =
    same_either (is_over time t.condition) t _ t (same_started time (next_segment t.cursor time).segment t (record t { cursor = (next_segment t.cursor time).cursor }) (record { number = refl; params = refl; cpu = refl })) (same_itself t)

same_went_on : (time : ℕ) (s : Segment) (t u : Task) → Same t u → Same t (went_on time s u)
same_went_on time (RunFor n) t u h = record { number = h.number; params = h.params; cpu = h.cpu }
same_went_on time (Until x) t u h = record { number = h.number; params = h.params; cpu = h.cpu }
same_went_on time WaitFor t u h = record { number = h.number; params = h.params; cpu = h.cpu }
same_went_on time End t u h = record { number = h.number; params = h.params; cpu = h.cpu }

pub same_ran : (time rate : ℕ) (t : Task) → Same t (ran time rate t)
same_ran time rate t =
    same_either _ t _ _ (same_went_on (time + 1) _ t _ (record { number = refl; params = refl; cpu = refl })) (record { number = refl; params = refl; cpu = refl })

-- of all tasks
pub AllPairs-map : {X : Type 0} (R : X → X → Type 0) (f : X → X) → ((a b : X) → R a b → R (f a) (f b)) → (xs : List X) → AllPairs R xs → AllPairs R (map f xs)
AllPairs-map R f keeps xs all i j d less within =
    let e : length (map f xs) ≡ length xs = simp length-map in
    let there : j < length xs = omega arith in
    let here : i < length xs = omega arith in
    rw (get_or-map f xs i d d here, get_or-map f xs j d d there) (keeps _ _ (all i j d less there))

pub length-filter_least : {X : Type 0} (p : X → Bool) (xs : List X) → length (filter p xs) ≤ length xs
length-filter_least p [] = omega arith
length-filter_least p (x ∷ xs) = elim (p x) as (λ b. length (cond b (x ∷ filter p xs) (filter p xs)) ≤ length (x ∷ xs)) [ true ↦ omega (arith, length-filter_least p xs) | false ↦ omega (arith, length-filter_least p xs) ]

sum_cons : (t : Task) (tasks : List Task) → sum_of (t ∷ tasks) ≡ t.params.bw + sum_of tasks
sum_cons t tasks = sum_by-cons (λ (s : Share). s.bw) (share_of t) (shares tasks)

pub sum-map : (f : Task → Task) → ((t : Task) → (f t).params ≡ t.params) → (tasks : List Task) → sum_of (map f tasks) ≡ sum_of tasks
sum-map f keeps [] = refl
sum-map f keeps (t ∷ tasks) =
    let e : (f t).params.bw ≡ t.params.bw = ap (λ p. p.bw) (keeps t) in
    omega (arith, sum_cons (f t) (map f tasks), sum_cons t tasks, sum-map f keeps tasks, e)

pub sum-filter : (p : Task → Bool) (tasks : List Task) → sum_of (filter p tasks) ≤ sum_of tasks
sum-filter p [] = omega arith
sum-filter p (t ∷ tasks) =
    elim (p t) as (λ b. sum_of (cond b (t ∷ filter p tasks) (filter p tasks)) ≤ sum_of (t ∷ tasks)) [
      | true ↦ omega (arith, sum_cons t (filter p tasks), sum_cons t tasks, sum-filter p tasks)
      | false ↦ omega (arith, sum_cons t tasks, sum-filter p tasks)
    ]
