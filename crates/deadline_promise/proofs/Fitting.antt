-- Ready with something left, throttled with nothing; and after part 3 throttled until a deadline
-- that is to come.
use Rattle.std.proofs.Common.{◌≡◌, ℕ, zero, suc, ◌+◌, ◌-◌, ◌<◌, Bool, true, false, cond, ◌&&◌, eqb, Option, Some, None, refl, arith, sym, ap, subst}
use Rattle.std.specs.Prelude.{ℤ, pos, negsuc, ◌<ℤ◌, int_le}
use Rattle.std.proofs.lemmas.Bool.{false≢true}
use Rattle.std.proofs.lemmas.Int.{ints}
use Rattle.attr_check.specs.ParamsView.{ParamsView}
use Rattle.cbs_rules.specs.declared.server.Server.{Server}
use Rattle.cbs_rules.specs.Budget.{above_zero, below_zero}
use Rattle.cbs_rules.specs.Serving.{renewed, overflows, woken_at, woken, charged, is_spent, postponed, replenished_while, replenished}
use Rattle.task_script.specs.declared.script.Segment.{Segment}
use Rattle.task_script.specs.declared.script.Segment.TheVariants.{Run as RunFor, Until, Wait as WaitFor, End}
use Rattle.task_script.specs.script.Segments.{next_segment}
use Rattle.domain_run.specs.declared.task.Task.{Task}
use Rattle.domain_run.specs.declared.task.Condition.TheVariants.{Ready, Throttled}
use Rattle.domain_run.specs.Conditions.{is_throttled, is_over, has_come}
use Rattle.domain_run.specs.Parts.{replenish_due, settled, enqueued, started, starts, unblocked, with_cpu, running_on, went_on, goes_on, after_charge, ran}
use Rattle.deadline_promise.proofs.Kept.{IsWhole, IsPaced, IsFit, IsSet}

-- what is left decides
pub unspent_left : (left : ℤ) → int_le left (pos 0) ≡ false → 0 < above_zero left
unspent_left (pos zero) e = absurd (false≢true (sym e))
unspent_left (pos (suc n)) e = omega arith
unspent_left (negsuc n) e = absurd (false≢true (sym e))

pub spent_left : (left : ℤ) → int_le left (pos 0) ≡ true → above_zero left ≡ 0
spent_left (pos n) e = grind (arith, ints, e)
spent_left (negsuc n) e = refl

pub last_turn : (b : Bool) (p : ParamsView) (s : Server) → replenished_while b 0 p s ≡ s
last_turn true p s = refl
last_turn false p s = refl

pub something_left : (z : ℤ) → pos 0 <ℤ z → int_le z (pos 0) ≡ false
something_left z h = grind (arith, ints)

lifted_at : (p : ParamsView) → 0 < p.runtime → (o : Option ℕ) (n : ℕ) → 0 < above_zero (replenished p (record { deadline = o; left = pos n })).left
lifted_at p some o zero =
    let s : Server = postponed p (record { deadline = o; left = pos 0 }) in
    subst (λ (y : Server). 0 < above_zero y.left) (sym (last_turn (is_spent s) p s)) (omega (arith, some))
lifted_at p some o (suc n) =
    let s : Server = record { deadline = o; left = pos (suc n) } in
    subst (λ (y : Server). 0 < above_zero y.left) (sym (ap (λ b. replenished_while b (below_zero (pos (suc n)) + 1) p s) (something_left (pos (suc n)) (omega (arith, ints))))) (omega arith)

lifted_from : (p : ParamsView) → 0 < p.runtime → (o : Option ℕ) (left : ℤ) → IsWhole p left → 0 < above_zero (replenished p (record { deadline = o; left = left })).left
lifted_from p some o (pos n) w = lifted_at p some o n
lifted_from p some o (negsuc n) w = absurd w

lifted : (p : ParamsView) → 0 < p.runtime → (s : Server) → IsWhole p s.left → 0 < above_zero (replenished p s).left
lifted p some s w = lifted_from p some s.deadline s.left w

fit_ready : (t : Task) (s : Server) → 0 < above_zero s.left → IsFit (record t { server = s; condition = Ready })
fit_ready t s h = record { lifted = λ y. h; spent = λ y. absurd (false≢true y) }

fit_throttled : (t : Task) (s : Server) → above_zero s.left ≡ 0 → IsFit (record t { server = s; condition = Throttled })
fit_throttled t s h = record { lifted = λ y. absurd (false≢true y); spent = λ y. h }

set_ready : (time : ℕ) (t : Task) (s : Server) → 0 < above_zero s.left → IsSet time (record t { server = s; condition = Ready })
set_ready time t s h = record { fit = fit_ready t s h; ahead = λ y. absurd (false≢true y) }

-- PART 1
and_parts : (a b : Bool) → a ≡ true → (a && b) ≡ false → b ≡ false
and_parts true b e h = h
and_parts false b e h = absurd (false≢true e)

pub replenish_due_set : (time : ℕ) (t : Task) → IsPaced t → IsFit t → IsSet time (replenish_due time t)
replenish_due_set time t h fit =
    let b = is_throttled t.condition && has_come time t.server.deadline in
    elim b as (λ y. b ≡ y → IsSet time (cond y (record t { server = replenished t.params t.server; condition = Ready }) t)) [
      | true ↦ λ e. set_ready time t (replenished t.params t.server) (lifted t.params h.share.some_budget t.server h.whole)
      | false ↦ λ e. record { fit = fit; ahead = λ is. and_parts (is_throttled t.condition) (has_come time t.server.deadline) is e }
    ] refl

-- PART 2
pub settled_set : (now time : ℕ) (t : Task) → IsSet now t → IsSet now (settled time t)
settled_set now time t h =
    elim (has_come time t.zero_lag) as (λ b. IsSet now (cond b (record t { zero_lag = None }) t)) [
      | true ↦ record { fit = record { lifted = h.fit.lifted; spent = h.fit.spent }; ahead = h.ahead }
      | false ↦ h
    ]

-- PART 3
enqueued_set : (time : ℕ) (t : Task) (s : Server) → 0 < t.params.runtime → IsWhole t.params s.left → IsSet time (enqueued time s t)
enqueued_set time t s some w =
    let a : Task = record t { server = replenished t.params s; condition = Ready } in
    let b : Task = record t { server = s; condition = Throttled } in
    let c : Task = record t { server = s; condition = Ready } in
    elim (is_spent s) as (λ y. is_spent s ≡ y → IsSet time (cond y (cond (has_come time s.deadline) a b) c)) [
      | true ↦ λ e. elim (has_come time s.deadline) as (λ y. has_come time s.deadline ≡ y → IsSet time (cond y a b)) [
        | true ↦ λ y. set_ready time t (replenished t.params s) (lifted t.params some s w)
        | false ↦ λ y. record { fit = fit_throttled t s (spent_left s.left e); ahead = λ is. y }
      ] refl
      | false ↦ λ e. set_ready time t s (unspent_left s.left e)
    ] refl

woken_whole : (p : ParamsView) (time : ℕ) (o : Option ℕ) (left : ℤ) → IsWhole p left → IsWhole p (woken_at p time o left).left
woken_whole p time None left w = (p.runtime, refl, omega arith)
woken_whole p time (Some d) left w =
    let kept : Server = record { deadline = Some d; left = left } in
    elim (overflows p time d left) as (λ b. IsWhole p (cond b (renewed p time) kept).left) [ true ↦ (p.runtime, refl, omega arith) | false ↦ w ]

abbrev resting_set : ℕ → Task → Type 0
resting_set time t = IsSet time t

started_set : (time : ℕ) (a : Segment) (t : Task) → 0 < t.params.runtime → IsWhole t.params t.server.left → IsSet time (started time a t)
started_set time (RunFor n) t some w = enqueued_set time (record t { zero_lag = None; work = n }) (woken t.params time t.server) some (woken_whole t.params time t.server.deadline t.server.left w)
started_set time (Until u) t some w = record { fit = record { lifted = λ y. absurd (false≢true y); spent = λ y. absurd (false≢true y) }; ahead = λ y. absurd (false≢true y) }
started_set time WaitFor t some w = record { fit = record { lifted = λ y. absurd (false≢true y); spent = λ y. absurd (false≢true y) }; ahead = λ y. absurd (false≢true y) }
started_set time End t some w = record { fit = record { lifted = λ y. absurd (false≢true y); spent = λ y. absurd (false≢true y) }; ahead = λ y. absurd (false≢true y) }

pub unblocked_set : (time : ℕ) (t : Task) → IsPaced t → IsSet time t → IsSet time (unblocked time t)
unblocked_set time t h set =
    let a = next_segment t.cursor time in
    elim (is_over time t.condition) as (λ b. IsSet time (cond b (starts time t a) t)) [
      | true ↦ started_set time a.segment (record t { cursor = a.cursor }) h.share.some_budget h.whole
      | false ↦ set
    ]

-- PART 4
pub homed_set : (time : ℕ) (o : Option ℕ) (t : Task) → IsSet time t → IsSet time (with_cpu o t)
homed_set time None t h = h
homed_set time (Some cpu) t h = record { fit = record { lifted = h.fit.lifted; spent = h.fit.spent }; ahead = h.ahead }

-- PART 6
running_on_fit : (t : Task) → IsFit (running_on t)
running_on_fit t =
    elim (is_spent t.server) as (λ b. is_spent t.server ≡ b → IsFit (record t { condition = cond b Throttled Ready })) [
      | true ↦ λ e. fit_throttled t t.server (spent_left t.server.left e)
      | false ↦ λ e. fit_ready t t.server (unspent_left t.server.left e)
    ] refl

went_on_fit : (time : ℕ) (a : Segment) (t : Task) → IsFit (went_on time a t)
went_on_fit time (RunFor n) t = running_on_fit (record t { work = n })
went_on_fit time (Until u) t = record { lifted = λ y. absurd (false≢true y); spent = λ y. absurd (false≢true y) }
went_on_fit time WaitFor t = record { lifted = λ y. absurd (false≢true y); spent = λ y. absurd (false≢true y) }
went_on_fit time End t = record { lifted = λ y. absurd (false≢true y); spent = λ y. absurd (false≢true y) }

after_charge_fit : (time : ℕ) (t : Task) → IsFit (after_charge time t)
after_charge_fit time t =
    let a = next_segment t.cursor time in
    elim (eqb t.work 0) as (λ b. IsFit (cond b (goes_on time t a) (running_on t))) [
      | true ↦ went_on_fit time a.segment (record t { cursor = a.cursor })
      | false ↦ running_on_fit t
    ]

pub ran_fit : (time rate : ℕ) (t : Task) → IsFit (ran time rate t)
ran_fit time rate t = after_charge_fit (time + 1) (record t { server = charged rate 1 t.server; work = t.work - 1 })
