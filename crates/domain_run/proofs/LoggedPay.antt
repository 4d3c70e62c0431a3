-- What is logged of the tasks that are due, one after another, and of the running ones.
use Rattle.std.proofs.Common.{◌≡◌, ℕ, zero, suc, ◌+◌, ◌-◌, ◌<◌, ◌≤◌, cond, eqb, Option, Some, None, List, [], ◌∷◌, ◌++◌, length, map, take, drop, get_or, refl, sym, ap, ◌∙◌, inl, inr, subst, arith, eq-eqb}
use Rattle.std.specs.Prelude.{ℤ, pos, slice_index_or}
use Rattle.std.specs.List.{flat_map}
use Rattle.std.specs.List.Sorted.{IsPermutation}
use Rattle.std.proofs.lemmas.Bool.{cases_eq, ne_eqb}
use Rattle.std.proofs.lemmas.List.{append-nil, take_more, length-map, length-take-le, get_or-append_right, get_or-drop}
use Rattle.std.proofs.lemmas.List.Folds.{flat_map-map}
use Rattle.std.proofs.lemmas.Grind.{flat_map-append}
use Rattle.std.proofs.lemmas.List.Elements.{All-nil}
use Rattle.domain_run.specs.declared.task.Task.{Task}
use Rattle.domain_run.specs.declared.happened.Happened.{Happened}
use Rattle.domain_run.specs.private.Paying.{index_of, paid_at, paid}
use Rattle.domain_run.specs.private.Timers.{due_of, AreNotDue}
use Rattle.domain_run.specs.private.TransitionLog.{logged_until, logged_of_number, logged_paid, logged_paid_at}
use Rattle.domain_run.proofs.Due.{some_task}
use Rattle.domain_run.proofs.Paying.{same_paid}
use Rattle.domain_run.proofs.Homing.{AreDistinct, ith, position_push_no}
use Rattle.domain_run.proofs.LoggedChanges.{AreOf, LogsOwn, of_until, logged_both, logged_alike}

-- ---- TASKS THAT ARE NOT DUE are passed by

passed : (f : Task → List Happened) (first : List Task) (n p : ℕ) → p + n ≤ length first → ((q : ℕ) (d : Task) → p ≤ q → q < p + n → f (get_or first q d) ≡ []) → flat_map f (take p first) ≡ flat_map f (take (p + n) first)
passed f first zero p h none = ap (λ m. flat_map f (take m first)) (omega arith)
passed f first (suc n) p h none =
    let d = some_task first p (omega (arith, h)) in
    let one : flat_map f (take (p + 1) first) ≡ flat_map f (take p first) =
    ap (flat_map f) (take_more first p d (omega (arith, h))) ∙ flat_map-append f (take p first) (get_or first p d ∷ [])
    ∙ ap (λ hs. flat_map f (take p first) ++ (hs ++ [])) (none p d (omega arith) (omega arith)) ∙ append-nil (flat_map f (take p first)) in
    sym one ∙ passed f first n (p + 1) (omega (arith, h)) (λ q d a b. none q d (omega (arith, a)) (omega (arith, b))) ∙ ap (λ m. flat_map f (take m first)) (omega arith)

-- after the places that have changed, a list is as it was
pub as_before : (g : Task → Task) (first now : List Task) (p q : ℕ) (d : Task) → p ≤ length first → p ≤ q → now ≡ map g (take p first) ++ drop p first → get_or now q d ≡ get_or first q d
as_before g first now p q d h following written =
    let len : length (map g (take p first)) ≡ p = length-map (take p first) g ∙ length-take-le p first h in
    ap (λ (ts : List Task). get_or ts q d) written
    ∙ get_or-append_right (map g (take p first)) (drop p first) p q d len following
    ∙ get_or-drop p first (q - p) d
    ∙ ap (λ k. get_or first k d) (omega (arith, following))

pub logged_by : (time : ℕ) (f : Task → List Happened) (g : Task → Task) (first now : List Task) (p r : ℕ) → ((t : Task) → time < due_of t → f t ≡ []) → p ≤ r → r ≤ length first → length now ≡ length first → now ≡ map g (take p first) ++ drop p first → AreNotDue now time p r → flat_map f (take p first) ≡ flat_map f (take r first)
logged_by time f g first now p r quiet from most same written later =
    let whole : p + (r - p) ≡ r = omega (arith, from) in
    passed f first (r - p) p (omega (arith, whole, most))
    (λ q d a b. ap f (sym (as_before g first now p q d (omega (arith, from, most)) a written)) ∙ quiet (get_or now q d) (later q d a (omega (arith, b, whole)) (omega (arith, b, whole, most, same))))
    ∙ ap (λ m. flat_map f (take m first)) whole

-- ---- RUNNING TASKS, one after another

pub paid_own : (time : ℕ) (running : List ℕ) (ticks : ℕ) (budgets : List ℤ) → LogsOwn (logged_paid time running ticks budgets)
paid_own time running ticks budgets t = by_index (index_of running t)
  where
    by_index : (o : Option ℕ) → AreOf t.number (logged_paid_at time ticks budgets o t)
    by_index None = All-nil (λ h. h.number ≡ t.number)
    by_index (Some i) = of_until time ticks (slice_index_or budgets i (pos 0)) t

pub logged_paid_none : (time ticks : ℕ) (budgets : List ℤ) (tasks : List Task) → flat_map (logged_paid time [] ticks budgets) tasks ≡ []
logged_paid_none time ticks budgets [] = refl
logged_paid_none time ticks budgets (t ∷ tasks) = logged_paid_none time ticks budgets tasks

pub logged_paid_next : (time : ℕ) (running : List ℕ) (i ticks : ℕ) (budgets : List ℤ) (first now : List Task) → AreDistinct running → i < length running → now ≡ map (paid time (take i running) ticks budgets) first
    → IsPermutation (flat_map (logged_paid time (take (i + 1) running) ticks budgets) first) (flat_map (logged_paid time (take i running) ticks budgets) first ++ flat_map (logged_of_number (get_or running i 0) (logged_until time ticks (slice_index_or budgets i (pos 0)))) now)
logged_paid_next time running i ticks budgets first now distinct h is =
    let next : flat_map G now ≡ flat_map (λ t. G (f t)) first = ap (flat_map G) is ∙ flat_map-map G f first in
    let both : flat_map (λ t. H t ++ G (f t)) first ≡ flat_map (logged_paid time (take (i + 1) running) ticks budgets) first =
    logged_alike (λ t. H t ++ G (f t)) (logged_paid time (take (i + 1) running) ticks budgets) first (λ k d inside. each (get_or first k d)) in
    subst (λ hs. IsPermutation hs (flat_map H first ++ flat_map G now)) both
    (subst (λ hs. IsPermutation (flat_map (λ t. H t ++ G (f t)) first) (flat_map H first ++ hs)) (sym next) (logged_both H (λ t. G (f t)) first))
  where
    n : ℕ
    n = get_or running i 0

    left : ℤ
    left = slice_index_or budgets i (pos 0)

    f : Task → Task
    f t = paid time (take i running) ticks budgets t

    G : Task → List Happened
    G t = logged_of_number n (logged_until time ticks left) t

    H : Task → List Happened
    H t = logged_paid time (take i running) ticks budgets t

    same : (t : Task) → (f t).number ≡ t.number
    same t = (same_paid time (take i running) ticks budgets t).number

    each : (t : Task) → H t ++ G (f t) ≡ logged_paid time (take (i + 1) running) ticks budgets t
    each t =
        elim (cases_eq t.number n) [
          | inl e ↦
              let at = ith running i t distinct h (sym e) in
              let here : G (f t) ≡ logged_until time ticks left t =
              ap (λ b. cond b (logged_until time ticks left (f t)) []) (eq-eqb (f t).number n (same t ∙ e))
              ∙ ap (λ o. logged_until time ticks left (paid_at time ticks budgets o t)) at.before in
              let none : H t ≡ [] = ap (λ o. logged_paid_at time ticks budgets o t) at.before in
              (λ k. none k ++ here k) ∙ sym (ap (λ o. logged_paid_at time ticks budgets o t) at.now)
          | inr other ↦
              ap (λ b. H t ++ cond b (logged_until time ticks left (f t)) []) (ne_eqb (f t).number n (λ e. other (sym (same t) ∙ e)))
              ∙ append-nil (H t)
              ∙ sym (ap (λ (ns : List ℕ). logged_paid time ns ticks budgets t) (take_more running i 0 h)
              ∙ ap (λ o. logged_paid_at time ticks budgets o t) (position_push_no (λ m. eqb m t.number) (take i running) n (ne_eqb n t.number (λ e. other (sym e)))))
        ]
