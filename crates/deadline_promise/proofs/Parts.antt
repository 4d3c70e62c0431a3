-- What each part of a tick does to what one task may still take.
use Rattle.std.proofs.Common.{◌≡◌, ℕ, zero, suc, ◌+◌, ◌-◌, ◌*◌, ◌<◌, ◌≤◌, Bool, true, false, cond, ◌&&◌, eqb, Option, Some, None, refl, arith, sym, ap, subst}
use Rattle.std.specs.Prelude.{ℤ, pos, negsuc, ◌-ℤ◌, ◌<ℤ◌, int_le, IsTrue, IsSome}
use Rattle.std.proofs.lemmas.Bool.{false≢true}
use Rattle.std.proofs.lemmas.Int.{ints}
use Rattle.attr_check.specs.ParamsView.{ParamsView}
use Rattle.cbs_rules.specs.declared.server.Server.{Server}
use Rattle.cbs_rules.specs.Budget.{budget, above_zero, below_zero}
use Rattle.cbs_rules.specs.Serving.{renewed, overflows, woken_at, woken, charged, is_spent, postponed, replenished_while, replenished}
use Rattle.task_script.specs.declared.script.Segment.{Segment}
use Rattle.task_script.specs.declared.script.Segment.TheVariants.{Run as RunFor, Until, Wait as WaitFor, End}
use Rattle.task_script.specs.script.Segments.{next_segment}
use Rattle.domain_run.specs.declared.task.Task.{Task}
use Rattle.domain_run.specs.declared.task.Condition.{Condition}
use Rattle.domain_run.specs.declared.task.Condition.TheVariants.{Ready, Throttled, Blocked, Waiting, Leaving}
use Rattle.domain_run.specs.Conditions.{is_ready, is_throttled, is_contending, is_over, has_come}
use Rattle.domain_run.specs.Parts.{replenish_due, settled, enqueued, started, starts, unblocked, with_cpu, running_on, went_on, goes_on, after_charge, ran}
use Rattle.deadline_promise.specs.Reach.{share_up, reach_from, reach_kept, reach_new, reach_resting, reach_in, reach}
use Rattle.deadline_promise.proofs.Kept.{IsShare, IsWhole, IsPaced}
use Rattle.deadline_promise.proofs.Reaching.{resting_kept, resting_bound, resting_later, renewed_reach, replenished_reach, less_reach, unit_reach}
use Rattle.limits.specs.Limits.{unit}

-- a server that takes no more than this until x
abbrev pub Serves : ParamsView → ℕ → ℕ → Server → Type 0
Serves p x bound s = IsWhole p s.left × IsSome s.deadline × (reach_kept p x s.deadline s.left ≤ bound)

-- what a task comes to
abbrev pub Comes : ℕ → ℕ → ℕ → Task → Type 0
Comes time x bound t = IsPaced t × (reach time x t ≤ bound)

-- ---- REPLENISHED

something_left : (z : ℤ) → pos 0 <ℤ z → int_le z (pos 0) ≡ false
something_left z h = grind (arith, ints)

last_turn : (b : Bool) (p : ParamsView) (s : Server) → replenished_while b 0 p s ≡ s
last_turn true p s = refl
last_turn false p s = refl

postponed_serves : (p : ParamsView) (is : IsShare p) (x bound d : ℕ) → Serves p x bound (record { deadline = Some d; left = pos 0 }) → Serves p x bound (postponed p (record { deadline = Some d; left = pos 0 }))
postponed_serves p is x bound d h = ((p.runtime, omega arith, omega arith), refl, omega (arith, h.2, replenished_reach x d (0 + budget p) p is (omega arith)))

spent_serves : (p : ParamsView) (is : IsShare p) (x bound d n : ℕ) → Serves p x bound (record { deadline = Some d; left = pos n }) → Serves p x bound (replenished p (record { deadline = Some d; left = pos n }))
spent_serves p is x bound d zero h =
    let s : Server = postponed p (record { deadline = Some d; left = pos 0 }) in
    subst (Serves p x bound) (sym (last_turn (is_spent s) p s)) (postponed_serves p is x bound d h)
spent_serves p is x bound d (suc n) h =
    let s : Server = record { deadline = Some d; left = pos (suc n) } in
    subst (Serves p x bound) (sym (ap (λ b. replenished_while b (below_zero (pos (suc n)) + 1) p s) (something_left (pos (suc n)) (omega (arith, ints))))) h

replenished_at : (p : ParamsView) (is : IsShare p) (x bound : ℕ) (o : Option ℕ) (left : ℤ) → Serves p x bound (record { deadline = o; left = left }) → Serves p x bound (replenished p (record { deadline = o; left = left }))
replenished_at p is x bound None left h = absurd (false≢true h.1)
replenished_at p is x bound (Some d) (pos n) h = spent_serves p is x bound d n h
replenished_at p is x bound (Some d) (negsuc n) h = absurd h.0

pub replenished_serves : (p : ParamsView) (is : IsShare p) (x bound : ℕ) (s : Server) → Serves p x bound s → Serves p x bound (replenished p s)
replenished_serves p is x bound s h = replenished_at p is x bound s.deadline s.left h

come_some : (time : ℕ) (o : Option ℕ) → has_come time o ≡ true → IsSome o
come_some time None e = e
come_some time (Some z) e = refl

same_reach : (time x : ℕ) (t : Task) (c : Condition) → t.condition ≡ c → reach time x t ≡ reach_in time x t.params t.server c
same_reach time x t c e = ap (reach_in time x t.params t.server) e

stays : (time x : ℕ) (t : Task) → IsPaced t → Comes time x (reach time x t) t
stays time x t h = (h, omega arith)

-- contending, with such a server
contends : (time x bound : ℕ) (t : Task) (s : Server) → IsShare t.params → Serves t.params x bound s → Comes time x bound (record t { server = s; condition = Ready })
contends time x bound t s is h = (record { share = is; whole = h.0; dated = λ y. h.1 }, h.2)

waits : (time x bound : ℕ) (t : Task) (s : Server) → IsShare t.params → Serves t.params x bound s → Comes time x bound (record t { server = s; condition = Throttled })
waits time x bound t s is h = (record { share = is; whole = h.0; dated = λ y. h.1 }, h.2)

-- PART 1
pub replenish_due_comes : (time x : ℕ) (t : Task) → IsPaced t → Comes time x (reach time x t) (replenish_due time t)
replenish_due_comes time x t h =
    let full : Task = record t { server = replenished t.params t.server; condition = Ready } in
    elim t.condition as (λ c. t.condition ≡ c → Comes time x (reach time x t) (cond (is_throttled c && has_come time t.server.deadline) full t)) [
      | Ready ↦ λ e. stays time x t h
      | Throttled ↦ λ e.
          let hc = has_come time t.server.deadline in
          elim hc as (λ b. hc ≡ b → Comes time x (reach time x t) (cond b full t)) [
            | true ↦ λ y.
                let serves : Serves t.params x (reach time x t) t.server = (h.whole, come_some time t.server.deadline y, omega (arith, same_reach time x t Throttled e)) in
                contends time x (reach time x t) t (replenished t.params t.server) h.share (replenished_serves t.params h.share x (reach time x t) t.server serves)
            | false ↦ λ y. stays time x t h
          ] refl
      | Blocked u ↦ λ e. stays time x t h
      | Waiting ↦ λ e. stays time x t h
      | Leaving ↦ λ e. stays time x t h
    ] refl

-- PART 2
pub settled_comes : (time x : ℕ) (t : Task) → IsPaced t → Comes time x (reach time x t) (settled time t)
settled_comes time x t h =
    elim (has_come time t.zero_lag) as (λ b. Comes time x (reach time x t) (cond b (record t { zero_lag = None }) t)) [
      | true ↦ (record { share = h.share; whole = h.whole; dated = h.dated }, omega arith)
      | false ↦ stays time x t h
    ]

-- PART 3
renewed_serves : (p : ParamsView) (is : IsShare p) (time x : ℕ) → Serves p x (reach_new p time x) (renewed p time)
renewed_serves p is time x = ((p.runtime, refl, omega arith), refl, renewed_reach time x p is)

woken_at_serves : (p : ParamsView) (is : IsShare p) (time x : ℕ) (o : Option ℕ) (left : ℤ) → IsWhole p left → Serves p x (reach_resting p time x o left) (woken_at p time o left)
woken_at_serves p is time x None left w = renewed_serves p is time x
woken_at_serves p is time x (Some d) left w =
    let kept : Server = record { deadline = Some d; left = left } in
    elim (overflows p time d left) as (λ b. Serves p x (cond b (reach_new p time x) (reach_kept p x (Some d) left)) (cond b (renewed p time) kept)) [
      | true ↦ renewed_serves p is time x
      | false ↦ (w, refl, omega arith)
    ]

enqueued_comes : (time x bound : ℕ) (t : Task) (s : Server) → IsShare t.params → Serves t.params x bound s → Comes time x bound (enqueued time s t)
enqueued_comes time x bound t s is h =
    let a : Task = record t { server = replenished t.params s; condition = Ready } in
    let b : Task = record t { server = s; condition = Throttled } in
    let c : Task = record t { server = s; condition = Ready } in
    elim (is_spent s) as (λ y. Comes time x bound (cond y (cond (has_come time s.deadline) a b) c)) [
      | true ↦ elim (has_come time s.deadline) as (λ y. Comes time x bound (cond y a b)) [
        | true ↦ contends time x bound t (replenished t.params s) is (replenished_serves t.params is x bound s h)
        | false ↦ waits time x bound t s is h
      ]
      | false ↦ contends time x bound t s is h
    ]

started_comes : (time x : ℕ) (a : Segment) (t : Task) → IsShare t.params → IsWhole t.params t.server.left → Comes time x (reach_resting t.params time x t.server.deadline t.server.left) (started time a t)
started_comes time x (RunFor n) t is w =
    enqueued_comes time x (reach_resting t.params time x t.server.deadline t.server.left) (record t { zero_lag = None; work = n }) (woken t.params time t.server) is
    (woken_at_serves t.params is time x t.server.deadline t.server.left w)
started_comes time x (Until u) t is w = (record { share = is; whole = w; dated = λ y. absurd (false≢true y) }, omega arith)
started_comes time x WaitFor t is w = (record { share = is; whole = w; dated = λ y. absurd (false≢true y) }, omega arith)
started_comes time x End t is w = (record { share = is; whole = w; dated = λ y. absurd (false≢true y) }, omega arith)

pub unblocked_comes : (time x : ℕ) (t : Task) → IsPaced t → Comes time x (reach time x t) (unblocked time t)
unblocked_comes time x t h =
    let a = next_segment t.cursor time in
    elim t.condition as (λ c. t.condition ≡ c → Comes time x (reach time x t) (cond (is_over time c) (starts time t a) t)) [
      | Ready ↦ λ e. stays time x t h
      | Throttled ↦ λ e. stays time x t h
      | Blocked u ↦ λ e.
          elim (is_over time (Blocked u)) as (λ b. Comes time x (reach time x t) (cond b (starts time t a) t)) [
            | true ↦
                let s = started_comes time x a.segment (record t { cursor = a.cursor }) h.share h.whole in
                (s.0, omega (arith, s.1, same_reach time x t (Blocked u) e))
            | false ↦ stays time x t h
          ]
      | Waiting ↦ λ e. stays time x t h
      | Leaving ↦ λ e. stays time x t h
    ] refl

-- PART 4
pub homed_comes : (time x : ℕ) (o : Option ℕ) (t : Task) → IsPaced t → Comes time x (reach time x t) (with_cpu o t)
homed_comes time x None t h = stays time x t h
homed_comes time x (Some cpu) t h = (record { share = h.share; whole = h.whole; dated = h.dated }, omega arith)

-- TIME PASSES
pub later_reach : (time x : ℕ) (t : Task) → IsPaced t → reach (time + 1) x t ≤ reach time x t
later_reach time x t h =
    elim t.condition as (λ c. reach_in (time + 1) x t.params t.server c ≤ reach_in time x t.params t.server c) [
      | Ready ↦ omega arith
      | Throttled ↦ omega arith
      | Blocked u ↦ resting_later t.params h.share time x t.server.deadline t.server.left h.whole
      | Waiting ↦ resting_later t.params h.share time x t.server.deadline t.server.left h.whole
      | Leaving ↦ omega arith
    ]

pub resting_reach : (time x : ℕ) (t : Task) → IsPaced t → is_contending t.condition ≡ false → reach time x t ≤ share_up t.params * (x - time)
resting_reach time x t h =
    elim t.condition as (λ c. is_contending c ≡ false → reach_in time x t.params t.server c ≤ share_up t.params * (x - time)) [
      | Ready ↦ λ e. absurd (false≢true (sym e))
      | Throttled ↦ λ e. absurd (false≢true (sym e))
      | Blocked u ↦ λ e. resting_bound t.params h.share time x t.server.deadline t.server.left h.whole
      | Waiting ↦ λ e. resting_bound t.params h.share time x t.server.deadline t.server.left h.whole
      | Leaving ↦ λ e. omega arith
    ]

-- PART 6
running_on_comes : (time x bound : ℕ) (t : Task) → IsShare t.params → Serves t.params x bound t.server → Comes time x bound (running_on t)
running_on_comes time x bound t is h =
    elim (is_spent t.server) as (λ b. Comes time x bound (record t { condition = cond b Throttled Ready })) [
      | true ↦ waits time x bound t t.server is h
      | false ↦ contends time x bound t t.server is h
    ]

rests : (p : ParamsView) (is : IsShare p) (time x bound : ℕ) (o : Option ℕ) (left : ℤ) → Serves p x bound (record { deadline = o; left = left }) → reach_resting p time x o left ≤ bound
rests p is time x bound None left h = absurd (false≢true h.1)
rests p is time x bound (Some d) left h = omega (arith, h.2, resting_kept p is time x d left h.0)

went_on_comes : (time x bound : ℕ) (a : Segment) (t : Task) → IsShare t.params → Serves t.params x bound t.server → Comes time x bound (went_on time a t)
went_on_comes time x bound (RunFor n) t is h = running_on_comes time x bound (record t { work = n }) is h
went_on_comes time x bound (Until u) t is h = (record { share = is; whole = h.0; dated = λ y. absurd (false≢true y) }, rests t.params is time x bound t.server.deadline t.server.left h)
went_on_comes time x bound WaitFor t is h = (record { share = is; whole = h.0; dated = λ y. absurd (false≢true y) }, rests t.params is time x bound t.server.deadline t.server.left h)
went_on_comes time x bound End t is h = (record { share = is; whole = h.0; dated = λ y. absurd (false≢true y) }, omega arith)

after_charge_comes : (time x bound : ℕ) (t : Task) → IsShare t.params → Serves t.params x bound t.server → Comes time x bound (after_charge time t)
after_charge_comes time x bound t is h =
    let a = next_segment t.cursor time in
    elim (eqb t.work 0) as (λ b. Comes time x bound (cond b (goes_on time t a) (running_on t))) [
      | true ↦ went_on_comes time x bound a.segment (record t { cursor = a.cursor }) is h
      | false ↦ running_on_comes time x bound t is h
    ]

-- a unit less is left
abbrev pub less_left : ParamsView → ℤ → Type 0
less_left p left = IsWhole p (left -ℤ pos (unit * 1)) × (above_zero (left -ℤ pos (unit * 1)) + unit ≡ above_zero left)

pub paid : (p : ParamsView) (left : ℤ) → IsWhole p left → 0 < above_zero left → less_left p left
paid p (negsuc n) w some = absurd w
paid p (pos n) (zero, e, most) some = absurd (omega (arith, e, some))
paid p (pos n) (suc m, e, most) some =
    let now : pos n -ℤ pos (unit * 1) ≡ pos (m * unit) = omega (arith, ints, e) in
    (subst (IsWhole p) (sym now) (m, refl, omega (arith, most)), omega (arith, e, ap above_zero now))

paid_kept : (p : ParamsView) (x : ℕ) (o : Option ℕ) (left : ℤ) → less_left p left → reach_kept p x o (left -ℤ pos (unit * 1)) ≤ reach_kept p x o left
paid_kept p x None left h = omega arith
paid_kept p x (Some d) left h = less_reach x d (above_zero left) (above_zero (left -ℤ pos (unit * 1))) p (omega (arith, h.1))

paid_due : (p : ParamsView) (x d : ℕ) (left : ℤ) → d ≤ x → less_left p left → reach_kept p x (Some d) (left -ℤ pos (unit * 1)) + unit ≤ reach_kept p x (Some d) left
paid_due p x d left come h =
    let e : above_zero left - unit ≡ above_zero (left -ℤ pos (unit * 1)) = omega (arith, h.1) in
    omega (arith, unit_reach x d (above_zero left) p come (omega (arith, h.1)), ap (reach_from p x d) e)

ready_is : (c : Condition) → IsTrue (is_ready c) → c ≡ Ready
ready_is Ready h = refl
ready_is Throttled h = absurd (false≢true h)
ready_is (Blocked u) h = absurd (false≢true h)
ready_is Waiting h = absurd (false≢true h)
ready_is Leaving h = absurd (false≢true h)

pub ran_comes : (time x : ℕ) (t : Task) → IsPaced t → IsTrue (is_ready t.condition) → 0 < above_zero t.server.left → Comes (time + 1) x (reach time x t) (ran time unit t)
ran_comes time x t h ready some =
    let less = paid t.params t.server.left h.whole some in
    let is = ready_is t.condition ready in
    let dated : IsSome t.server.deadline = h.dated (ap is_contending is) in
    after_charge_comes (time + 1) x (reach time x t) (record t { server = charged unit 1 t.server; work = t.work - 1 }) h.share
    (less.0, dated, omega (arith, paid_kept t.params x t.server.deadline t.server.left less, same_reach time x t Ready is))

pub ran_unit_reach : (time x d : ℕ) (t : Task) → IsPaced t → IsTrue (is_ready t.condition) → t.server.deadline ≡ Some d → d ≤ x → 0 < above_zero t.server.left → reach (time + 1) x (ran time unit t) + unit ≤ reach time x t
ran_unit_reach time x d t h ready due come some =
    let less = paid t.params t.server.left h.whole some in
    let is = ready_is t.condition ready in
    let dated : IsSome t.server.deadline = h.dated (ap is_contending is) in
    let left = t.server.left -ℤ pos (unit * 1) in
    let after = after_charge_comes (time + 1) x (reach_kept t.params x t.server.deadline left) (record t { server = charged unit 1 t.server; work = t.work - 1 }) h.share (less.0, dated, omega arith) in
    omega (
      arith,
      after.1,
      paid_due t.params x d t.server.left come less,
      ap (λ o. reach_kept t.params x o left) due,
      ap (λ o. reach_kept t.params x o t.server.left) due,
      same_reach time x t Ready is,
    )
