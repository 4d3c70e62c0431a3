-- Time goes on for all open charges.
use Rattle.std.proofs.Common.{◌≡◌, ◌≢◌, ◌⊎◌, ℕ, zero, suc, ◌+◌, ◌-◌, ◌*◌, ◌^◌, ◌<◌, ◌≤◌, true, false, cond, eqb, Option, Some, None, List, [], ◌∷◌, length, map, get_or, set, refl, sym, ap, ◌∙◌, subst, arith, inl, inr, eq-eqb}
use Rattle.std.specs.Prelude.{ℤ, pos, neg_ℤ, ◌-ℤ◌, ◌<ℤ◌, ◌≤ℤ◌, All, AllPairs, IfSome}
use Rattle.std.proofs.lemmas.Int.{ints}
use Rattle.std.proofs.lemmas.Bool.{cases_eq, cases_lt}
use Rattle.std.proofs.lemmas.List.{get_or_default, get_or_past, get_or-map, get_or-set_other, length-map, length-set}
use Rattle.std.proofs.Math.Nat.{mul-le-mul_left}
use Rattle.domain_run.specs.declared.task.Task.{Task}
use Rattle.domain_run.specs.declared.run_queue.RunQueue.{RunQueue}
use Rattle.due_times.specs.declared.charges.OpenCharge.{OpenCharge}
use Rattle.domain_run.specs.private.Paying.{ran_until}
use Rattle.due_times.specs.OpenCharges.{OpenChargesView, end_of, charge_by, left_if, IsAhead}
use Rattle.domain_run.specs.private.Owed.{charges_without, charge_of_task, slid_for, owed_by, owed, owed_all, IsOpen, AreOpen, Lasts, passed_by, time_passed}
use Rattle.domain_run.specs.private.Extending.{HasExpired}
use Rattle.domain_run.specs.private.Index.{IsListedAt}
use Rattle.due_times.specs.Timers.{AreLater, least}
use Rattle.domain_run.specs.Sound.{IsSound}
use Rattle.domain_run.specs.private.TaskTable.{TaskTableView, MayRun}
use Rattle.domain_run.proofs.Jumping.{map_twice, map_alike}
use Rattle.domain_run.proofs.Placing.{one_index}
use Rattle.domain_run.proofs.Sliding.{slides, slid_sound}
use Rattle.due_times.proofs.CallerLemmas.{least_le}
use Rattle.domain_run.proofs.Owed.{alike_owed, read_owed}
use Rattle.domain_run.proofs.Chargings.{same_stranger, same_elsewhere, nobody_here, none_at, inside_at, task_table_view}

slide_twice : (j k a rate : ℕ) (t : Task) → j + k ≡ a → slid_for k rate (slid_for j rate t) ≡ slid_for a rate t
slide_twice j k a rate t e =
    let times : rate * a ≡ rate * j + rate * k = rw (← e) (omega arith) in
    let left : t.server.left -ℤ pos (rate * j) -ℤ pos (rate * k) ≡ t.server.left -ℤ pos (rate * a) = omega (arith, ints, times) in
    let work : t.work - j - k ≡ t.work - a = omega (arith, e) in
    λ i. record t { server = record t.server { left = left i }; work = work i }

module _ (upto : ℕ) (s : OpenCharge) (t : Task) (ahead : IsAhead upto s) (waits : IsOpen s t) where
  since : s.since ≤ upto
  since = ahead.since

  -- what is left once the first ticks are charged
  pub lasts_by : (k : ℕ) → upto + k ≤ s.end → 0 < k → Lasts k s.rate (owed_by upto (Some s) t)
  lasts_by k h some =
      let j = upto - s.since in
      let early = since in
      let m : s.rate * (j + (k - 1)) ≤ s.rate * (s.end - s.since - 1) = mul-le-mul_left s.rate (omega (arith, h, some, early)) in
      let times : s.rate * (j + (k - 1)) ≡ s.rate * j + s.rate * (k - 1) = omega arith in
      record {
        ready = waits.ready;
        worked = omega (arith, h, waits.worked, early);
        lasted = omega (arith, ints, waits.lasted, m, times);
      }

  pub passes_by : (time k : ℕ) → upto + k < s.end → owed_by (upto + k) (Some s) t ≡ passed_by time k (Some s) (owed_by upto (Some s) t)
  passes_by time k h =
      let j = upto - s.since in
      let u = slid_for j s.rate t in
      let early = since in
      let whole : j + k ≡ upto + k - s.since = omega (arith, early) in
      let m : s.rate * (j + k) ≤ s.rate * (s.end - s.since - 1) = mul-le-mul_left s.rate (omega (arith, h, early)) in
      let times : s.rate * (j + k) ≡ s.rate * j + s.rate * k = omega arith in
      let worked : k < u.work = omega (arith, h, waits.worked, early) in
      let lasted : pos 0 <ℤ (u.server.left -ℤ pos (s.rate * k)) = omega (arith, ints, waits.lasted, m, times) in
      sym (slide_twice j k (upto + k - s.since) s.rate t whole) ∙ slides time k (u.server.left -ℤ pos (s.rate * k)) u waits.ready worked lasted

-- the open charge of a task is the open charge of the task as it is seen
pub charge_seen : (upto : ℕ) (charges : List (Option OpenCharge)) (t : Task) → charge_of_task charges (owed upto charges t) ≡ charge_of_task charges t
charge_seen upto charges t = let a = alike_owed upto charges t in λ i. charge_by (a.number i) (get_or charges (a.cpu i) None)

pub pass_one : (upto time k : ℕ) (charges : List (Option OpenCharge)) (t : Task) (o : Option OpenCharge) → charge_of_task charges t ≡ o → IfSome o (λ s. IsAhead upto s × (upto + k < s.end)) → IfSome o (λ s. IsOpen s t) → time_passed time k charges (owed upto charges t) ≡ owed (upto + k) charges t
pass_one upto time k charges t None e ahead waits =
    ap (λ o. passed_by time k o (owed upto charges t)) (charge_seen upto charges t ∙ e)
    ∙ ap (λ o. owed_by upto o t) e ∙ sym (ap (λ o. owed_by (upto + k) o t) e)
pass_one upto time k charges t (Some s) e ahead waits =
    ap (λ o. passed_by time k o (owed upto charges t)) (charge_seen upto charges t ∙ e)
    ∙ ap (λ o. passed_by time k (Some s) (owed_by upto o t)) e
    ∙ sym (ap (λ o. owed_by (upto + k) o t) e ∙ passes_by upto s t ahead.0 waits time k ahead.1)

-- none ends
pub pass_view : (upto time k : ℕ) (charges : List (Option OpenCharge)) (tasks : List Task) → ((t : Task) → IfSome (charge_of_task charges t) (λ s. IsAhead upto s × (upto + k < s.end))) → AreOpen charges tasks → map (owed (upto + k) charges) tasks ≡ map (time_passed time k charges) (map (owed upto charges) tasks)
pass_view upto time k charges tasks ahead waits = sym (map_twice (time_passed time k charges) (owed upto charges) (owed (upto + k) charges) tasks (λ i d h. let t = get_or tasks i d in pass_one upto time k charges t (charge_of_task charges t) refl (ahead t) (waits i d h)))

-- ---- ONE ENDS: what is still to pass leads to the same

pub map_set_to : (f g : Task → Task) (xs : List Task) (p : ℕ) (y : Task) → ((k : ℕ) (d : Task) → k < length xs → k ≢ p → f (get_or xs k d) ≡ g (get_or xs k d)) → ((d : Task) → f y ≡ g (get_or xs p d)) → map f (set xs p y) ≡ map g xs
map_set_to f g [] p y others here = refl
map_set_to f g (x ∷ xs) zero y others here =
    let first : f y ≡ g x = here x in
    let more = all xs (λ k d h. others (suc k) d (omega arith) (λ e. absurd (omega (arith, e)))) in
    λ i. first i ∷ more i
  where
    all : (ts : List Task) → ((k : ℕ) (d : Task) → k < length ts → f (get_or ts k d) ≡ g (get_or ts k d)) → map f ts ≡ map g ts
    all [] same = refl
    all (t ∷ ts) same =
        let one : f t ≡ g t = same zero t (omega arith) in
        let rest = all ts (λ k d h. same (suc k) d (omega arith)) in
        λ i. one i ∷ rest i
map_set_to f g (x ∷ xs) (suc p) y others here =
    let first : f x ≡ g x = others zero x (omega arith) (λ e. absurd (omega (arith, e))) in
    let more = map_set_to f g xs p y (λ k d h ne. others (suc k) d (omega arith) (λ e. ne (omega (arith, e)))) here in
    λ i. first i ∷ more i

module _ (time k cpu : ℕ) (charges : List (Option OpenCharge)) (tasks : List Task) (s : OpenCharge) (there : get_or charges cpu None ≡ Some s) where
  -- no listed task has an open charge there
  pub orphan_passes : All (λ t. t.number ≡ s.number → t.cpu ≡ cpu → ⊥) tasks → map (time_passed time k (set charges cpu None)) tasks ≡ map (time_passed time k charges) tasks
  orphan_passes none = map_alike (time_passed time k (set charges cpu None)) (time_passed time k charges) tasks (λ i d h. ap (λ o. passed_by time k o (get_or tasks i d)) (same_there (get_or tasks i d) (none i d h)))
    where
      same_there : (t : Task) → (t.number ≡ s.number → t.cpu ≡ cpu → ⊥) → charge_of_task (set charges cpu None) t ≡ charge_of_task charges t
      same_there t never = elim (cases_eq t.cpu cpu) [
        | inl e ↦ same_stranger charges cpu s t there (λ n. never n e)
        | inr apart ↦ same_elsewhere charges cpu None t apart
      ]

  module _ (p : ℕ) (x y : Task) (inside : p < length tasks) (read : x ≡ get_or tasks p x) (number : x.number ≡ s.number) (home : x.cpu ≡ cpu) (stays : y.cpu ≡ x.cpu) (numbered : AllPairs (λ a b. a.number ≢ b.number) tasks) where
    charging_there : charge_of_task charges x ≡ Some s
    charging_there = ap (λ c. charge_by x.number (get_or charges c None)) home ∙ ap (charge_by x.number) there ∙ ap (λ b. cond b (Some s) None) (eq-eqb s.number x.number (sym number))

    gone_there : charge_of_task (set charges cpu None) y ≡ None
    gone_there = nobody_here charges cpu y (stays ∙ home)

    -- its open charge is left
    pub finished_charges : charges_without y (charges_without x charges) ≡ set charges cpu None
    finished_charges =
        let first : charges_without x charges ≡ set charges cpu None = ap (λ c. left_if c charges (charge_of_task charges x)) home ∙ ap (left_if cpu charges) charging_there in
        ap (charges_without y) first ∙ ap (left_if y.cpu (set charges cpu None)) gone_there

    pub finished_passes : y ≡ ran_until time k (x.server.left -ℤ pos (s.rate * k)) x → map (time_passed time k (set charges cpu None)) (set tasks p y) ≡ map (time_passed time k charges) tasks
    finished_passes is =
        map_set_to (time_passed time k (set charges cpu None)) (time_passed time k charges) tasks p y
        (λ i d h apart. ap (λ o. passed_by time k o (get_or tasks i d)) (same_stranger charges cpu s (get_or tasks i d) there (λ e. apart (one_index tasks i p d d numbered h inside (e ∙ sym number ∙ ap (λ (t : Task). t.number) (read ∙ get_or_default tasks p x d inside))))))
        (λ d.
        ap (λ o. passed_by time k o y) gone_there
        ∙ is
        ∙ sym (ap (time_passed time k charges) (sym (read ∙ get_or_default tasks p x d inside)) ∙ ap (λ o. passed_by time k o x) charging_there))

-- what a run of so many ticks leaves is not too low
low_by : (left : ℤ) (rate j : ℕ) → rate ≤ 2 ^ 27 → pos (rate * j) <ℤ left → neg_ℤ (pos (2 ^ 32)) ≤ℤ (left -ℤ pos (rate * suc j))
low_by left rate j slow lasted =
    let times : rate * suc j ≡ rate + rate * j = omega arith in
    omega (arith, ints, slow, lasted, times)

pub low_left : (left : ℤ) (rate k : ℕ) → 0 < k → rate ≤ 2 ^ 27 → pos (rate * (k - 1)) <ℤ left → neg_ℤ (pos (2 ^ 32)) ≤ℤ (left -ℤ pos (rate * k))
low_left left rate zero some slow lasted = absurd (omega (arith, some))
low_left left rate (suc j) some slow lasted = let same : suc j - 1 ≡ j = omega arith in low_by left rate j slow (subst (λ n. pos (rate * n) <ℤ left) same lasted)

pub may_run : (time upto k : ℕ) (s : OpenCharge) (t : Task) → time < 2 ^ 43 → 0 < k → upto + k ≤ s.end → IsAhead upto s → IsOpen s t → IsSound time (owed_by upto (Some s) t) → MayRun time k ((owed_by upto (Some s) t).server.left -ℤ pos (s.rate * k)) (owed_by upto (Some s) t)
may_run time upto k s t early some ends ahead waits sound =
    let lasts = lasts_by upto s t ahead waits k ends some in
    let u = owed_by upto (Some s) t in
    let high = sound.served.high in
    record {
      early = early;
      ready = lasts.ready;
      worked = lasts.worked;
      low = λ small. low_left u.server.left s.rate k some ahead.slow lasts.lasted;
      high = omega (arith, ints, high);
    }

-- none ends before the last of so many ticks
pub all_last : (upto k : ℕ) (charges : List (Option OpenCharge)) (tasks : List Task) → 0 < k → ((cpu : ℕ) → IfSome (get_or charges cpu None) (λ s. IsAhead upto s × (upto + k ≤ s.end))) → AreOpen charges tasks → All (λ t. IfSome (charge_of_task charges t) (λ s. Lasts k s.rate t)) (map (owed upto charges) tasks)
all_last upto k charges tasks some ends waits i d h =
    let many : length (map (owed upto charges) tasks) ≡ length tasks = simp length-map in
    let inside : i < length tasks = omega (arith, h, many) in
    let t = get_or tasks i d in
    subst (λ (u : Task). IfSome (charge_of_task charges u) (λ s. Lasts k s.rate u)) (sym (get_or-map (owed upto charges) tasks i d d inside))
    (subst (λ o. IfSome o (λ s. Lasts k s.rate (owed upto charges t))) (sym (charge_seen upto charges t)) (by_charge t (charge_of_task charges t) refl (charge_ends t (get_or charges t.cpu None) (ends t.cpu)) (waits i d inside)))
  where
    charge_ends : (t : Task) (o : Option OpenCharge) → IfSome o (λ s. IsAhead upto s × (upto + k ≤ s.end)) → IfSome (charge_by t.number o) (λ s. IsAhead upto s × (upto + k ≤ s.end))
    charge_ends t None is = tt
    charge_ends t (Some s) is = elim (eqb s.number t.number) as (λ b. IfSome (cond b (Some s) None) (λ s. IsAhead upto s × (upto + k ≤ s.end))) [ true ↦ is | false ↦ tt ]

    by_charge : (t : Task) (o : Option OpenCharge) → charge_of_task charges t ≡ o → IfSome o (λ s. IsAhead upto s × (upto + k ≤ s.end)) → IfSome o (λ s. IsOpen s t) → IfSome o (λ s. Lasts k s.rate (owed upto charges t))
    by_charge t None e is wait = tt
    by_charge t (Some s) e is wait = subst (λ o. Lasts k s.rate (owed_by upto o t)) (sym e) (lasts_by upto s t is.0 wait k is.1 some)

pub left_none : (charges : List (Option OpenCharge)) (t : Task) → charge_of_task charges t ≡ None → charges_without t charges ≡ charges
left_none charges t none = ap (left_if t.cpu charges) none

-- ---- ONE CPU AFTER ANOTHER

read_end : (charges : List (Option OpenCharge)) (place : ℕ) → place < length (map end_of charges) → get_or (map end_of charges) place 0 ≡ end_of (get_or charges place None)
read_end charges place h = let many : length (map end_of charges) ≡ length charges = simp length-map in get_or-map end_of charges place None 0 (omega (arith, h, many))

pub length_expired : (time cpu : ℕ) (charges new : List (Option OpenCharge)) → HasExpired time cpu charges new → length new ≡ length charges
length_expired time cpu charges new is = ap (λ (xs : List (Option OpenCharge)). length xs) is.charges ∙ length-set charges cpu (get_or new cpu None)

pub later_next : (charges new : List (Option OpenCharge)) (time cpu next : ℕ) → time ≤ 2 ^ 62 → HasExpired time cpu charges new → AreLater (map end_of charges) time 0 cpu → AreLater (map end_of new) time (cpu + 1) next → AreLater (map end_of new) time 0 next
later_next charges new time cpu next early expired before following place from to within = by_order (cases_lt place cpu) (cases_eq place cpu)
  where
    many : length (map end_of charges) ≡ length charges
    many = simp length-map

    after : length (map end_of new) ≡ length charges
    after = (let l : length (map end_of new) ≡ length new = simp length-map in l) ∙ length_expired time cpu charges new expired

    is : get_or (map end_of new) place 0 ≡ end_of (get_or new place None)
    is = read_end new place within

    past : cpu ≤ place → (cpu < place) ⊎ (place ≤ cpu) → (place ≡ cpu → ⊥) → cpu + 1 ≤ place
    past more (inl less) other = omega (arith, less)
    past more (inr most) other = absurd (other (omega (arith, more, most)))

    by_charge : (o : Option OpenCharge) → IfSome o (λ s. time < s.end) → time < end_of o
    by_charge None h = omega (arith, early)
    by_charge (Some s) h = h

    by_order : (place < cpu) ⊎ (cpu ≤ place) → (place ≡ cpu) ⊎ (place ≡ cpu → ⊥) → time < get_or (map end_of new) place 0
    by_order less (inl same) =
        let here : end_of (get_or new place None) ≡ end_of (get_or new cpu None) = ap (λ c. end_of (get_or new c None)) same in
        subst (λ (n : ℕ). time < n) (sym (is ∙ here)) (by_charge (get_or new cpu None) expired.later)
    by_order (inl less) (inr other) =
        let there : place < length (map end_of charges) = omega (arith, within, after, many) in
        let kept = is ∙ ap end_of (ap (λ (xs : List (Option OpenCharge)). get_or xs place None) expired.charges ∙ get_or-set_other charges cpu place (get_or new cpu None) None other) ∙ sym (read_end charges place there) in
        subst (λ (n : ℕ). time < n) (sym kept) (before place (omega arith) less there)
    by_order (inr more) (inr other) = following place (past more (cases_lt cpu place) other) to within

pub ends_next : (time cpu : ℕ) (charges new : List (Option OpenCharge)) → HasExpired time cpu charges new → ((c : ℕ) → IfSome (get_or charges c None) (λ s. time ≤ s.end)) → (c : ℕ) → IfSome (get_or new c None) (λ s. time ≤ s.end)
ends_next time cpu charges new expired all c = elim (cases_eq c cpu) [
  | inl e ↦ subst (λ n. IfSome (get_or new n None) (λ s. time ≤ s.end)) (sym e) (by_charge (get_or new cpu None) expired.later)
  | inr other ↦ subst (λ o. IfSome o (λ s. time ≤ s.end)) (sym (ap (λ (xs : List (Option OpenCharge)). get_or xs c None) expired.charges ∙ get_or-set_other charges cpu c (get_or new cpu None) None other)) (all c)
]
  where
    by_charge : (o : Option OpenCharge) → IfSome o (λ s. time < s.end) → IfSome o (λ s. time ≤ s.end)
    by_charge None h = tt
    by_charge (Some s) h = omega (arith, h)

-- where no open charge ends up to a time
pub strict_ends : (upto time : ℕ) (charges : List (Option OpenCharge)) → All (λ o. IfSome o (IsAhead upto)) charges → AreLater (map end_of charges) time 0 (length charges) → (t : Task) → IfSome (charge_of_task charges t) (λ s. IsAhead upto s × (time < s.end))
strict_ends upto time charges ahead later t = elim (cases_lt t.cpu (length charges)) [
  | inl h ↦
      let many : length (map end_of charges) ≡ length charges = simp length-map in
      let there : t.cpu < length (map end_of charges) = omega (arith, h, many) in
      one (get_or charges t.cpu None) (ahead t.cpu None h) (subst (λ (n : ℕ). time < n) (read_end charges t.cpu there) (later t.cpu (omega arith) h there))
  | inr h ↦ subst (λ o. IfSome (charge_by t.number o) (λ s. IsAhead upto s × (time < s.end))) (sym (get_or_past charges t.cpu None h)) tt
]
  where
    one : (o : Option OpenCharge) → IfSome o (IsAhead upto) → time < end_of o → IfSome (charge_by t.number o) (λ s. IsAhead upto s × (time < s.end))
    one None is h = tt
    one (Some s) is h = elim (eqb s.number t.number) as (λ b. IfSome (cond b (Some s) None) (λ s. IsAhead upto s × (time < s.end))) [ true ↦ (is, h) | false ↦ tt ]

-- ---- up to the first end

pub ends_from : (time : ℕ) (charges : List (Option OpenCharge)) → time ≤ least (map end_of charges) → (cpu : ℕ) → IfSome (get_or charges cpu None) (λ s. time ≤ s.end)
ends_from time charges first cpu = elim (cases_lt cpu (length charges)) [
  | inl h ↦
      let many : length (map end_of charges) ≡ length charges = simp length-map in
      let there : cpu < length (map end_of charges) = omega (arith, h, many) in
      one (get_or charges cpu None) (omega (arith, first, least_le (map end_of charges) cpu there, read_end charges cpu there))
  | inr h ↦ subst (λ o. IfSome o (λ s. time ≤ s.end)) (sym (get_or_past charges cpu None h)) tt
]
  where
    one : (o : Option OpenCharge) → time ≤ end_of o → IfSome o (λ s. time ≤ s.end)
    one None h = tt
    one (Some s) h = h

pub both_ends : (upto time : ℕ) (charges : List (Option OpenCharge)) → All (λ o. IfSome o (IsAhead upto)) charges → ((cpu : ℕ) → IfSome (get_or charges cpu None) (λ s. time ≤ s.end)) → (cpu : ℕ) → IfSome (get_or charges cpu None) (λ s. IsAhead upto s × (time ≤ s.end))
both_ends upto time charges ahead ends cpu = elim (cases_lt cpu (length charges)) [
  | inl h ↦ one (get_or charges cpu None) (ahead cpu None h) (ends cpu)
  | inr h ↦ subst (λ o. IfSome o (λ s. IsAhead upto s × (time ≤ s.end))) (sym (get_or_past charges cpu None h)) tt
]
  where
    one : (o : Option OpenCharge) → IfSome o (IsAhead upto) → IfSome o (λ s. time ≤ s.end) → IfSome o (λ s. IsAhead upto s × (time ≤ s.end))
    one None is h = tt
    one (Some s) is h = (is, h)

pub times_one : (rate k : ℕ) → 0 < k → rate * (k - 1) + rate ≡ rate * k
times_one rate zero some = absurd (omega (arith, some))
times_one rate (suc j) some = let same : suc j - 1 ≡ j = omega arith in ap (λ n. rate * n + rate) same ∙ omega arith

-- a task with an open charge, as it is seen, may run for so many ticks
pub record IsFinishing (time k : ℕ) (s : OpenCharge) (u : Task) : Type 0 where
  pub lasts : Lasts k s.rate u
  pub may : MayRun time k (u.server.left -ℤ pos (s.rate * k)) u
  pub lifted : pos 0 <ℤ u.server.left
  pub high : u.server.left ≤ℤ pos (2 ^ 52)

pub finishing : (time k upto cpu : ℕ) (charges : List (Option OpenCharge)) (items : List Task) (s : OpenCharge) (p : ℕ) (u : Task) → get_or charges cpu None ≡ Some s → IsListedAt (map (owed upto charges) items) s.number p → u ≡ get_or (map (owed upto charges) items) p u → u.cpu ≡ cpu → AreOpen charges items → IsAhead upto s → upto + k ≤ s.end → 0 < k → time < 2 ^ 43 → IsSound time u → IsFinishing time k s u
finishing time k upto cpu charges items s p u there at read home waits ahead ends some early sound =
    let many : length (map (owed upto charges) items) ≡ length items = simp length-map in
    let within = at.within in
    let h : p < length items = omega (arith, within, many) in
    let x = get_or items p u in
    let e : owed upto charges x ≡ u = sym (get_or-map (owed upto charges) items p u u h) ∙ sym read in
    let a = alike_owed upto charges x in
    let cpu_is : x.cpu ≡ cpu = sym a.cpu ∙ ap (λ (t : Task). t.cpu) e ∙ home in
    let number : x.number ≡ s.number = sym a.number ∙ ap (λ (t : Task). t.number) (e ∙ read) ∙ at.is u in
    let is_charging : charge_of_task charges x ≡ Some s = ap (λ c. charge_by x.number (get_or charges c None)) cpu_is ∙ ap (charge_by x.number) there ∙ ap (λ b. cond b (Some s) None) (eq-eqb s.number x.number (sym number)) in
    let w : IsOpen s x = subst (λ o. IfSome o (λ r. IsOpen r x)) is_charging (waits p u h) in
    let f : owed_by upto (Some s) x ≡ u = ap (λ o. owed_by upto o x) (sym is_charging) ∙ e in
    let l : Lasts k s.rate u = subst (Lasts k s.rate) f (lasts_by upto s x ahead w k ends some) in
    let lasted = l.lasted in
    record {
      lasts = l;
      may = subst (λ (t : Task). MayRun time k (t.server.left -ℤ pos (s.rate * k)) t) f (may_run time upto k s x early some ends ahead w (subst (IsSound time) (sym f) sound));
      lifted = omega (arith, ints, lasted);
      high = sound.served.high;
    }

-- what is stored of a task whose CPU is free is what is seen
pub bare : (upto cpu : ℕ) (charges : List (Option OpenCharge)) (items : List Task) (p : ℕ) (x : Task) → p < length items → x ≡ get_or items p x → get_or charges cpu None ≡ None → ((d : Task) → (get_or (map (owed upto charges) items) p d).cpu ≡ cpu) → x ≡ get_or (map (owed upto charges) items) p x
bare upto cpu charges items p x h read free home =
    let u = owed upto charges x in
    let seen = read_owed upto charges items p x h read in
    let many : length (map (owed upto charges) items) ≡ length items = simp length-map in
    let inside : p < length (map (owed upto charges) items) = omega (arith, h, many) in
    let cpu_is : x.cpu ≡ cpu = sym (alike_owed upto charges x).cpu ∙ ap (λ (t : Task). t.cpu) seen ∙ home u in
    let none : charge_of_task charges x ≡ None = ap (λ c. charge_by x.number (get_or charges c None)) cpu_is ∙ ap (charge_by x.number) free in
    sym (ap (λ o. owed_by upto o x) none) ∙ seen ∙ get_or_default (map (owed upto charges) items) p u x inside

-- each task with an open charge stays sound
sound_by : (upto time k : ℕ) (s : OpenCharge) (t : Task) → IsAhead upto s → IsOpen s t → upto + k < s.end → IsSound time (owed_by upto (Some s) t) → IsSound time (owed_by (upto + k) (Some s) t)
sound_by upto time k s t ahead waits h sound =
    let j = upto - s.since in
    let u = slid_for j s.rate t in
    let early = ahead.since in
    let whole : j + k ≡ upto + k - s.since = omega (arith, early) in
    let m : s.rate * (j + k) ≤ s.rate * (s.end - s.since - 1) = mul-le-mul_left s.rate (omega (arith, h, early)) in
    let times : s.rate * (j + k) ≡ s.rate * j + s.rate * k = omega arith in
    let worked : k < u.work = omega (arith, h, waits.worked, early) in
    let lasted : pos 0 <ℤ (u.server.left -ℤ pos (s.rate * k)) = omega (arith, ints, waits.lasted, m, times) in
    let top = sound.served.high in
    let high : (u.server.left -ℤ pos (s.rate * k)) ≤ℤ pos (2 ^ 52) = omega (arith, ints, top) in
    subst (IsSound time) (slide_twice j k (upto + k - s.since) s.rate t whole) (slid_sound time k (u.server.left -ℤ pos (s.rate * k)) u waits.ready worked lasted high sound)

pub pass_sound : (upto time k : ℕ) (charges : List (Option OpenCharge)) (tasks : List Task) → ((t : Task) → IfSome (charge_of_task charges t) (λ s. IsAhead upto s × (upto + k < s.end))) → AreOpen charges tasks → All (IsSound time) (map (owed upto charges) tasks) → All (IsSound time) (map (owed (upto + k) charges) tasks)
pass_sound upto time k charges tasks ahead waits sound i d h =
    let many : length (map (owed (upto + k) charges) tasks) ≡ length tasks = simp length-map in
    let before : length (map (owed upto charges) tasks) ≡ length tasks = simp length-map in
    let inside : i < length tasks = omega (arith, h, many) in
    let t = get_or tasks i d in
    subst (IsSound time) (sym (get_or-map (owed (upto + k) charges) tasks i d d inside))
    (by_charge t (charge_of_task charges t) (ahead t) (waits i d inside) (subst (IsSound time) (get_or-map (owed upto charges) tasks i d d inside) (sound i d (omega (arith, inside, before)))))
  where
    by_charge : (t : Task) (o : Option OpenCharge) → IfSome o (λ s. IsAhead upto s × (upto + k < s.end)) → IfSome o (λ s. IsOpen s t) → IsSound time (owed_by upto o t) → IsSound time (owed_by (upto + k) o t)
    by_charge t None is wait good = good
    by_charge t (Some s) is wait good = sound_by upto time k s t is.0 wait is.1 good

-- ---- ONE CPU, whose open charge is left before its task runs

pub record Facts (old : TaskTableView) (time k cpu p : ℕ) (open_charge : OpenCharge) (x : Task) : Type 0 where
  pub is_charging : get_or old.charges cpu None ≡ Some open_charge
  pub read : x ≡ get_or old.tasks p x
  pub home : x.cpu ≡ cpu
  pub number : x.number ≡ open_charge.number
  pub fin : IsFinishing time k open_charge x

-- the task there, as it is stored then, is as it was seen before
pub facts_of : (old mid : TaskTableView) (time k cpu p : ℕ) (open_charge : OpenCharge) (x : Task) (n1 n2 : RunQueue) (s1 s2 : OpenChargesView) (items1 items2 : List Task)
    → mid ≡ record old { charges = set old.charges cpu None }
    → task_table_view n1 s1 items1 ≡ old → AreOpen s1.charges items1
    → task_table_view n2 s2 items2 ≡ mid
    → Some open_charge ≡ get_or s1.charges cpu None → IsAhead s1.upto open_charge
    → IsListedAt old.tasks open_charge.number p → ((d : Task) → (get_or old.tasks p d).cpu ≡ cpu)
    → x ≡ get_or items2 p x
    → 0 < k → time < 2 ^ 43 → IfSome (get_or old.charges cpu None) (λ s. old.clock + k ≤ s.end) → All (IsSound time) old.tasks
    → Facts old time k cpu p open_charge x
facts_of old mid time k cpu p open_charge x n1 n2 s1 s2 items1 items2 vacated view1 waits view2 is_charging ahead at home read2 some early ends sound =
    let tasks2 : owed_all s2 items2 ≡ old.tasks = ap (λ (r : TaskTableView). r.tasks) (view2 ∙ vacated) in
    let at2 = subst (λ (ts : List Task). IsListedAt ts open_charge.number p) (sym tasks2) at in
    let free : get_or s2.charges cpu None ≡ None = ap (λ (r : TaskTableView). get_or r.charges cpu None) (view2 ∙ vacated) ∙ none_at old.charges cpu in
    let home2 = subst (λ (ts : List Task). (d : Task) → (get_or ts p d).cpu ≡ cpu) (sym tasks2) home in
    let bare2 = bare s2.upto cpu s2.charges items2 p x (inside_at s2.upto s2.charges items2 open_charge.number p x read2 at2) read2 free home2 in
    let read : x ≡ get_or old.tasks p x = bare2 ∙ ap (λ (ts : List Task). get_or ts p x) tasks2 in
    let at1 = subst (λ (r : TaskTableView). IsListedAt r.tasks open_charge.number p) (sym view1) at in
    let read1 = read ∙ ap (λ (r : TaskTableView). get_or r.tasks p x) (sym view1) in
    let cpu_is : x.cpu ≡ cpu = ap (λ (t : Task). t.cpu) read ∙ home x in
    let ends1 = subst (λ o. IfSome o (λ s. s1.upto + k ≤ s.end)) (sym is_charging) (subst (λ (r : TaskTableView). IfSome (get_or r.charges cpu None) (λ s. r.clock + k ≤ s.end)) (sym view1) ends) in
    record {
      is_charging = ap (λ (r : TaskTableView). get_or r.charges cpu None) (sym view1) ∙ sym is_charging;
      read = read;
      home = cpu_is;
      number = ap (λ (t : Task). t.number) read ∙ at.is x;
      fin = finishing time k s1.upto cpu s1.charges items1 open_charge p x (sym is_charging) at1 read1 cpu_is waits ahead ends1 some early (subst (IsSound time) (sym read) (sound p x at.within));
    }

-- the same, by what is seen of the open charge
pub facts_at : (old mid : TaskTableView) (time k cpu p : ℕ) (open_charge : OpenCharge) (x : Task) (n1 n2 : RunQueue) (s1 s2 : OpenChargesView) (items1 items2 : List Task)
    → mid ≡ record old { charges = set old.charges cpu None }
    → task_table_view n1 s1 items1 ≡ old → AreOpen s1.charges items1
    → task_table_view n2 s2 items2 ≡ mid
    → get_or old.charges cpu None ≡ Some open_charge → IsAhead old.clock open_charge
    → IsListedAt old.tasks open_charge.number p → ((d : Task) → (get_or old.tasks p d).cpu ≡ cpu)
    → x ≡ get_or items2 p x
    → 0 < k → time < 2 ^ 43 → old.clock + k ≤ open_charge.end → All (IsSound time) old.tasks
    → Facts old time k cpu p open_charge x
facts_at old mid time k cpu p open_charge x n1 n2 s1 s2 items1 items2 vacated view1 waits view2 is_charging ahead at home read2 some early ends sound =
    facts_of old mid time k cpu p open_charge x n1 n2 s1 s2 items1 items2 vacated view1 waits view2
    (sym (ap (λ (r : TaskTableView). get_or r.charges cpu None) view1 ∙ is_charging))
    (subst (λ (r : TaskTableView). IsAhead r.clock open_charge) (sym view1) ahead)
    at home read2 some early
    (subst (λ o. IfSome o (λ s. old.clock + k ≤ s.end)) (sym is_charging) ends)
    sound

-- without an open charge any clock does
pub nobody_view : (a b : ℕ) (charges : List (Option OpenCharge)) (tasks : List Task) → ((cpu : ℕ) → get_or charges cpu None ≡ None) → map (owed a charges) tasks ≡ map (owed b charges) tasks
nobody_view a b charges tasks none = map_alike (owed a charges) (owed b charges) tasks (λ k d h.
    let t = get_or tasks k d in
    let free : charge_of_task charges t ≡ None = ap (charge_by t.number) (none t.cpu) in
    ap (λ o. owed_by a o t) free ∙ sym (ap (λ o. owed_by b o t) free))
