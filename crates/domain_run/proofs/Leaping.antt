-- From one event to the next: the task that runs has an open charge, and has run in all of the
-- ticks between.
use Rattle.std.proofs.Common.{◌≡◌, ◌≢◌, ℕ, zero, suc, ◌*◌, Bool, true, false, cond, ◌||◌, eq-eqb, Option, Some, None, List, [], ◌∷◌, map, get_or, refl, sym, ap, ◌∙◌, subst, inl, inr}
use Rattle.std.specs.Prelude.{pos, ◌-ℤ◌, All, IfSome}
use Rattle.std.specs.Int.{bit_at}
use Rattle.std.proofs.lemmas.Bool.{cases_eq}
use Rattle.std.proofs.lemmas.List.Folds.{Any-from_list_any}
use Rattle.edf_pick.specs.Places.{Places, is_task, is_on_cpu}
use Rattle.domain_run.specs.declared.task.Task.{Task}
use Rattle.due_times.specs.declared.charges.OpenCharge.{OpenCharge}
use Rattle.domain_run.specs.Parts.{with_cpu, with_last_cpu}
use Rattle.domain_run.specs.Sound.{occupant, HasNoTaskTwice}
use Rattle.domain_run.specs.private.Paying.{ran_until}
use Rattle.due_times.specs.OpenCharges.{charge_by}
use Rattle.domain_run.specs.private.TaskTable.{rate_in, HasItsCharge, leapt, LastsIf}
use Rattle.domain_run.specs.private.Owed.{charge_of_task, IsAtRate, IsRight, Lasts, passed_by, time_passed}
use Rattle.domain_run.proofs.Placing.{position_at, runs_at}
use Rattle.domain_run.proofs.Jumping.{map_alike}

-- ---- the task that runs, runs on the CPU to which it belongs

pub home_of : (places : Places) (t : Task) → HasNoTaskTwice places → with_last_cpu places t ≡ t → is_on_cpu t.number places ≡ true → occupant places t.cpu ≡ Some t.number
home_of places t apart homed on_one =
    let at = runs_at t.number places (Any-from_list_any (is_task t.number) places on_one) in
    let cpu : t.cpu ≡ at.0 = sym (ap (λ (u : Task). u.cpu) homed) ∙ ap (λ o. (with_cpu o t).cpu) (position_at places at.0 t.number apart at.1) in
    ap (occupant places) cpu ∙ at.1

pub charge_running : (places : Places) (t : Task) (rate : ℕ) (o : Option OpenCharge) → occupant places t.cpu ≡ Some t.number → IsRight (occupant places t.cpu) t.number rate o → IsAtRate rate o
charge_running places t rate o at right = (subst (λ p. IsRight p t.number rate o) at right).0 refl

pub none_running : (places : Places) (t : Task) (rate : ℕ) (o : Option OpenCharge) (p : Option ℕ) → (p ≡ Some t.number → ⊥) → IsRight p t.number rate o → o ≡ None
none_running places t rate o None never right = right
none_running places t rate o (Some n) never right = right.1 (λ e. never (ap (λ m. Some m) e))

pub runs_from : (places : Places) (cpu n : ℕ) → occupant places cpu ≡ Some n → is_on_cpu n places ≡ true
runs_from [] cpu n e = absurd cc
runs_from (o ∷ places) zero n e = ap (λ p. is_task n p || is_on_cpu n places) e ∙ ap (λ b. b || is_on_cpu n places) (eq-eqb n n refl)
runs_from (o ∷ places) (suc cpu) n e = elim (is_task n o) as (λ b. (b || is_on_cpu n places) ≡ true) [ true ↦ refl | false ↦ runs_from places cpu n e ]

at_rate_passes : (time k rate : ℕ) (t : Task) (o : Option OpenCharge) → IsAtRate rate o → passed_by time k o t ≡ ran_until time k (t.server.left -ℤ pos (rate * k)) t
at_rate_passes time k rate t None is = absurd is
at_rate_passes time k rate t (Some s) is = ap (λ n. ran_until time k (t.server.left -ℤ pos (n * k)) t) is

pub leapt_one : (time k : ℕ) (places : Places) (cpus limit : ℕ) (tasks : List Task) (charges : List (Option OpenCharge)) (t : Task) → HasNoTaskTwice places → with_last_cpu places t ≡ t → HasItsCharge places cpus limit tasks charges t → time_passed time k charges t ≡ leapt time k places cpus limit tasks t
leapt_one time k places cpus limit tasks charges t apart homed right = by_on_cpu (is_on_cpu t.number places) refl
  where
    by_on_cpu : (b : Bool) → is_on_cpu t.number places ≡ b → passed_by time k (charge_of_task charges t) t ≡ cond b (ran_until time k (t.server.left -ℤ pos (rate_in cpus limit tasks t * k)) t) t
    by_on_cpu true e = at_rate_passes time k (rate_in cpus limit tasks t) t (charge_of_task charges t) (charge_running places t (rate_in cpus limit tasks t) (charge_of_task charges t) (home_of places t apart homed e) right)
    by_on_cpu false e =
        let none = none_running places t (rate_in cpus limit tasks t) (charge_of_task charges t) (occupant places t.cpu) (λ q. let no : true ≡ false = sym (runs_from places t.cpu t.number q) ∙ e in absurd cc) right in
        ap (λ o. passed_by time k o t) none

pub leapt_all : (time k : ℕ) (places : Places) (cpus limit : ℕ) (tasks : List Task) (charges : List (Option OpenCharge)) → HasNoTaskTwice places → All (λ t. with_last_cpu places t ≡ t) tasks → All (HasItsCharge places cpus limit tasks charges) tasks → map (time_passed time k charges) tasks ≡ map (leapt time k places cpus limit tasks) tasks
leapt_all time k places cpus limit tasks charges apart homed right = map_alike (time_passed time k charges) (leapt time k places cpus limit tasks) tasks (λ i d h. leapt_one time k places cpus limit tasks charges (get_or tasks i d) apart (homed i d h) (right i d h))

lasts_at : (k rate : ℕ) (t : Task) (o : Option OpenCharge) → IsAtRate rate o → IfSome o (λ s. Lasts k s.rate t) → Lasts k rate t
lasts_at k rate t None is lasts = absurd is
lasts_at k rate t (Some s) is lasts = subst (λ n. Lasts k n t) is lasts

pub lasts_all : (k : ℕ) (places : Places) (cpus limit : ℕ) (tasks : List Task) (charges : List (Option OpenCharge)) → HasNoTaskTwice places → All (λ t. with_last_cpu places t ≡ t) tasks → All (HasItsCharge places cpus limit tasks charges) tasks → All (λ t. IfSome (charge_of_task charges t) (λ s. Lasts k s.rate t)) tasks → All (LastsIf k places cpus limit tasks) tasks
lasts_all k places cpus limit tasks charges apart homed right lasts i d h on_one =
    let t = get_or tasks i d in
    let rate = rate_in cpus limit tasks t in
    lasts_at k rate t (charge_of_task charges t) (charge_running places t rate (charge_of_task charges t) (home_of places t apart (homed i d h) on_one) (right i d h)) (lasts i d h)

-- ---- one CPU after another

-- on the CPUs without a mark those who run sit rightly, and on one more
pub right_next : (places : Places) (cpus limit i left then : ℕ) (tasks : List Task) (old new : List (Option OpenCharge))
    → ((j : ℕ) → j ≢ i → bit_at then j ≡ bit_at left j)
    → All (λ t. bit_at left t.cpu ≡ 0 → HasItsCharge places cpus limit tasks old t) tasks
    → ((d : ℕ) → d ≢ i → get_or new d None ≡ get_or old d None)
    → All (λ t. t.cpu ≡ i → IsRight (occupant places i) t.number (rate_in cpus limit tasks t) (charge_of_task new t)) tasks
    → All (λ t. bit_at then t.cpu ≡ 0 → HasItsCharge places cpus limit tasks new t) tasks
right_next places cpus limit i left then tasks old new same before others here k d h bare =
    let t = get_or tasks k d in
    let rate = rate_in cpus limit tasks t in
    elim (cases_eq t.cpu i) [
      | inl e ↦ subst (λ c. IsRight (occupant places c) t.number rate (charge_of_task new t)) (sym e) (here k d h e)
      | inr other ↦
          subst (λ o. IsRight (occupant places t.cpu) t.number rate o) (sym (ap (charge_by t.number) (others t.cpu other))) (before k d h (sym (same t.cpu other) ∙ bare))
    ]
