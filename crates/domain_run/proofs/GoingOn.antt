-- Tasks that go on in time, each at its pace, in the list and in what is kept beside it.
use Rattle.std.proofs.Common.{◌≡◌, ◌≢◌, ℕ, zero, suc, ◌+◌, ◌<◌, Option, Some, None, List, [], ◌∷◌, length, map, get_or, set, take, refl, sym, ap, ◌∙◌, subst, arith}
use Rattle.std.specs.Prelude.{All, AllPairs}
use Rattle.std.proofs.Math.Seq.{take-length}
use Rattle.std.proofs.lemmas.List.{length-map, get_or-map}
use Rattle.domain_run.specs.declared.pace.Pace.{Pace}
use Rattle.domain_run.specs.declared.pace.Pace.TheVariants.{Rests, Plays, Works}
use Rattle.domain_run.specs.declared.task.Task.{Task}
use Rattle.due_times.specs.declared.charges.OpenCharge.{OpenCharge}
use Rattle.domain_run.specs.declared.run_queue.RunQueue.{RunQueue}
use Rattle.domain_run.specs.Shift.{paced_task, paced_all, MayGo, AllMayGo}
use Rattle.domain_run.specs.LowTimes.{HasTime}
use Rattle.domain_run.specs.private.RunQueue.{status_of, IsCounted, MayApply, IsApplied}
use Rattle.due_times.specs.OpenCharges.{OpenChargesView}
use Rattle.domain_run.specs.private.Owed.{charge_of_task, owed_by, owed, owed_all, charges_without, IsOpenIf, AreOpen}
use Rattle.domain_run.specs.private.Timers.{IsTimerStep}
use Rattle.domain_run.proofs.Counting.{IsFit, same_fit, home_at, may_apply, turned}
use Rattle.domain_run.proofs.Due.{step_is}
use Rattle.domain_run.proofs.Keeping.{Same, same_itself}
use Rattle.domain_run.proofs.Owed.{alike_owed, numbered_unlike, read_owed, left_once, left_twice, length_left, applied_owed, applied_waits, charges_seen}

-- ---- one task

pub same_paced : (k : ℕ) (pace : Pace) (t : Task) → Same t (paced_task k pace t)
same_paced k Rests t = same_itself t
same_paced k (Plays rounds) t = record { number = refl; params = refl; cpu = refl }
same_paced k (Works micros) t = record { number = refl; params = refl; cpu = refl }

pub paced_fit_at : (cpus : ℕ) (queue : RunQueue) (tasks : List Task) (p k : ℕ) (pace : Pace) (d : Task) → p < length tasks → IsCounted cpus queue tasks → IsFit cpus (get_or tasks p d) (paced_task k pace (get_or tasks p d))
paced_fit_at cpus queue tasks p k pace d h is = same_fit cpus (get_or tasks p d) (paced_task k pace (get_or tasks p d)) (same_paced k pace (get_or tasks p d)) (is.task_table.short p d h) (home_at cpus queue tasks p d h is)

paced_may_apply : (cpus : ℕ) (queue : RunQueue) (tasks : List Task) (p k : ℕ) (pace : Pace) (x : Task) → p < length tasks → x ≡ get_or tasks p x → IsCounted cpus queue tasks → MayApply p x.number x.cpu queue (status_of x) (status_of (paced_task k pace x))
paced_may_apply cpus queue tasks p k pace x h read is =
    subst (λ u. MayApply p u.number u.cpu queue (status_of u) (status_of (paced_task k pace u))) (sym read) (may_apply cpus queue tasks p x (paced_task k pace (get_or tasks p x)) h (paced_fit_at cpus queue tasks p k pace x h is) is)

paced_counted : (cpus : ℕ) (queue new : RunQueue) (tasks : List Task) (p k : ℕ) (pace : Pace) (x y : Task) → p < length tasks → x ≡ get_or tasks p x → y ≡ paced_task k pace x → IsApplied p x.number x.cpu (status_of x) (status_of y) queue new → IsCounted cpus queue tasks → IsCounted cpus new (set tasks p y)
paced_counted cpus queue new tasks p k pace x y h read is has counted =
    let fit : IsFit cpus (get_or tasks p x) y = subst (IsFit cpus (get_or tasks p x)) (sym (is ∙ ap (paced_task k pace) read)) (paced_fit_at cpus queue tasks p k pace x h counted) in
    turned cpus queue new tasks p x y h fit (subst (λ u. IsApplied p u.number u.cpu (status_of u) (status_of y) queue new) read has) counted

-- ---- the task at a place, where charges wait

module _ (w k : ℕ) (pace : Pace) (queue : RunQueue) (s : OpenChargesView) (tasks : List Task) (p : ℕ) (x : Task) (h : p < length tasks) (read : x ≡ get_or tasks p x) (counted : IsCounted w queue (owed_all s tasks)) where
  abbrev seen : Task
  seen = owed s.upto s.charges x

  within : p < length (owed_all s tasks)
  within = let many : length (map (owed s.upto s.charges) tasks) ≡ length tasks = simp length-map in omega (arith, h, many)

  read_seen : seen ≡ get_or (owed_all s tasks) p seen
  read_seen = read_owed s.upto s.charges tasks p x h read

  pub waits_at : AreOpen s.charges tasks → IsOpenIf s.charges x
  waits_at waits = subst (IsOpenIf s.charges) (sym read) (waits p x h)

  pub time_at : ((d : Task) → HasTime (get_or (owed_all s tasks) p d)) → HasTime (owed s.upto s.charges x)
  time_at all = subst HasTime (sym read_seen) (all seen)

  pub may_at : ((d : Task) → MayGo pace (get_or (owed_all s tasks) p d)) → MayGo pace (owed s.upto s.charges x)
  may_at may = subst (MayGo pace) (sym read_seen) (may seen)

  pub turns_at : MayApply p (owed s.upto s.charges x).number (owed s.upto s.charges x).cpu queue (status_of (owed s.upto s.charges x)) (status_of (paced_task k pace (owed s.upto s.charges x)))
  turns_at = paced_may_apply w queue (owed_all s tasks) p k pace seen within read_seen counted

  module _ (new : RunQueue) (after : OpenChargesView) (y : Task) (is : y ≡ paced_task k pace (owed s.upto s.charges x)) (left_are : after ≡ record s { charges = charges_without x s.charges }) where
    fit : IsFit w (get_or (owed_all s tasks) p seen) (paced_task k pace (get_or (owed_all s tasks) p seen))
    fit = paced_fit_at w queue (owed_all s tasks) p k pace seen within counted

    same : y.number ≡ x.number
    same =
        let made : (paced_task k pace seen).number ≡ seen.number = ap (λ (t : Task). (paced_task k pace t).number) read_seen ∙ fit.number ∙ sym (ap (λ (t : Task). t.number) read_seen) in
        ap (λ (t : Task). t.number) is ∙ made ∙ (alike_owed s.upto s.charges x).number

    -- it belongs to the same CPU, so it leaves one open charge and no other
    stays : y.cpu ≡ x.cpu
    stays =
        let made : (paced_task k pace seen).cpu ≡ seen.cpu = ap (λ (t : Task). (paced_task k pace t).cpu) read_seen ∙ fit.cpu ∙ sym (ap (λ (t : Task). t.cpu) read_seen) in
        ap (λ (t : Task). t.cpu) is ∙ made ∙ (alike_owed s.upto s.charges x).cpu

    are : after ≡ record s { charges = left_twice x y s.charges }
    are = left_are ∙ ap (λ (charges : List (Option OpenCharge)). record s { charges = charges }) (sym (left_once x y s.charges stays))

    numbered : AllPairs (λ a b. a.number ≢ b.number) tasks
    numbered = numbered_unlike (owed s.upto s.charges) (alike_owed s.upto s.charges) tasks counted.task_table.numbered

    view_is : owed_all after (set tasks p y) ≡ set (owed_all s tasks) p y
    view_is = ap (λ (v : OpenChargesView). owed_all v (set tasks p y)) are ∙ applied_owed s.upto s.charges tasks p x y h read numbered same

    pub step_applied : IsTimerStep (paced_task k pace) p (owed_all s tasks) (owed_all after (set tasks p y))
    step_applied = subst (IsTimerStep (paced_task k pace) p (owed_all s tasks)) (sym view_is) (step_is (owed_all s tasks) p seen y (paced_task k pace) within read_seen is)

    pub counted_applied : IsApplied p (owed s.upto s.charges x).number (owed s.upto s.charges x).cpu (status_of (owed s.upto s.charges x)) (status_of y) queue new → IsCounted w new (owed_all after (set tasks p y))
    counted_applied has = subst (IsCounted w new) (sym view_is) (paced_counted w queue new (owed_all s tasks) p k pace seen y within read_seen is has counted)

    pub waits_applied : AreOpen s.charges tasks → AreOpen after.charges (set tasks p y)
    waits_applied waits = subst (λ (v : OpenChargesView). AreOpen v.charges (set tasks p y)) (sym are) (applied_waits s.upto s.charges tasks p x y h read numbered same waits)

    pub charges_applied : (d : Task) → after.charges ≡ charges_without (get_or (owed_all after (set tasks p y)) p d) (charges_without (get_or (owed_all s tasks) p d) s.charges)
    charges_applied d =
        ap (λ (v : OpenChargesView). v.charges) are
        ∙ charges_seen s.upto s.charges tasks p x y h read numbered same d
        ∙ ap (λ (ts : List Task). charges_without (get_or ts p d) (charges_without (get_or (owed_all s tasks) p d) s.charges)) (sym view_is)

    pub wide_applied : length after.charges ≡ length s.charges
    wide_applied = ap (λ (v : OpenChargesView). length v.charges) are ∙ length_left y.cpu x.number (charges_without x s.charges) ∙ length_left x.cpu x.number s.charges

-- ---- a task has time whatever it owes

time_by : (upto : ℕ) (o : Option OpenCharge) (t : Task) → HasTime t → HasTime (owed_by upto o t)
time_by upto None t h = h
time_by upto (Some s) t h = record { deadline = h.deadline; asks = h.asks; zero_lag = h.zero_lag; reference = h.reference }

pub time_seen : (s : OpenChargesView) (items : List Task) (p : ℕ) (x d : Task) → p < length (owed_all s items) → x ≡ get_or items p x → HasTime x → HasTime (get_or (owed_all s items) p d)
time_seen s items p x d there read h =
    let many : length (map (owed s.upto s.charges) items) ≡ length items = simp length-map in
    let seen = get_or-map (owed s.upto s.charges) items p x d (omega (arith, there, many)) ∙ ap (owed s.upto s.charges) (sym read) in
    subst HasTime (sym seen) (time_by s.upto (charge_of_task s.charges x) x h)

-- ---- one place after another

pub length_paced : (k : ℕ) (ps : List Pace) (ts : List Task) → length (paced_all k ps ts) ≡ length ts
length_paced k [] ts = refl
length_paced k (p ∷ ps) [] = refl
length_paced k (p ∷ ps) (t ∷ ts) = ap suc (length_paced k ps ts)

-- the tasks whose place has not come yet are as they were
pub not_yet : (k : ℕ) (ps : List Pace) (ts : List Task) (i : ℕ) (d : Task) → get_or (paced_all k (take i ps) ts) i d ≡ get_or ts i d
not_yet k ps ts zero d = refl
not_yet k [] ts (suc i) d = refl
not_yet k (p ∷ ps) [] (suc i) d = refl
not_yet k (p ∷ ps) (t ∷ ts) (suc i) d = not_yet k ps ts i d

paced_next : (k : ℕ) (ps : List Pace) (ts : List Task) (i : ℕ) (p : Pace) (d : Task) → i < length ps → length ps ≡ length ts → set (paced_all k (take i ps) ts) i (paced_task k (get_or ps i p) (get_or ts i d)) ≡ paced_all k (take (suc i) ps) ts
paced_next k [] ts i p d h same = absurd (omega (arith, h))
paced_next k (q ∷ ps) [] i p d h same = absurd (omega (arith, same))
paced_next k (q ∷ ps) (t ∷ ts) zero p d h same = refl
paced_next k (q ∷ ps) (t ∷ ts) (suc i) p d h same = ap (λ us. paced_task k q t ∷ us) (paced_next k ps ts i p d (omega (arith, h)) (omega (arith, same)))

step_by : (k : ℕ) (ps : List Pace) (first old new : List Task) (i : ℕ) (p : Pace) (d : Task) → i < length ps → length ps ≡ length first → p ≡ get_or ps i p → old ≡ paced_all k (take i ps) first → IsTimerStep (paced_task k p) i old new → new ≡ paced_all k (take (i + 1) ps) first
step_by k ps first old new i p d h same is old_is step =
    let next : suc i ≡ i + 1 = omega arith in
    step.is d
    ∙ (λ j. set (old_is j) i (paced_task k (is j) (get_or (old_is j) i d)))
    ∙ ap (λ t. set (paced_all k (take i ps) first) i (paced_task k (get_or ps i p) t)) (not_yet k ps first i d)
    ∙ paced_next k ps first i p d h same
    ∙ ap (λ n. paced_all k (take n ps) first) next

pub paced_step : (k : ℕ) (ps : List Pace) (first old new : List Task) (i : ℕ) (p : Pace) → i < length ps → length ps ≡ length first → p ≡ get_or ps i p → old ≡ paced_all k (take i ps) first → IsTimerStep (paced_task k p) i old new → new ≡ paced_all k (take (i + 1) ps) first
paced_step k ps [] old new i p h same is old_is step = absurd (omega (arith, h, same))
paced_step k ps (d ∷ ts) old new i p h same is old_is step = step_by k ps (d ∷ ts) old new i p d h same is old_is step

go_at : (ps : List Pace) (ts : List Task) (i : ℕ) (p : Pace) (d : Task) → i < length ps → length ps ≡ length ts → AllMayGo ps ts → MayGo (get_or ps i p) (get_or ts i d)
go_at [] ts i p d h same all = absurd (omega (arith, h))
go_at (q ∷ ps) [] i p d h same all = absurd (omega (arith, same))
go_at (q ∷ ps) (t ∷ ts) zero p d h same all = all.0
go_at (q ∷ ps) (t ∷ ts) (suc i) p d h same all = go_at ps ts i p d (omega (arith, h)) (omega (arith, same)) all.1

pub may_go_at : (k : ℕ) (ps : List Pace) (first old : List Task) (i : ℕ) (p : Pace) → i < length ps → length ps ≡ length first → p ≡ get_or ps i p → old ≡ paced_all k (take i ps) first → AllMayGo ps first → (d : Task) → MayGo p (get_or old i d)
may_go_at k ps first old i p h same is old_is all d =
    subst (λ t. MayGo p t) (sym (ap (λ ts. get_or ts i d) old_is ∙ not_yet k ps first i d)) (subst (λ q. MayGo q (get_or first i d)) (sym is) (go_at ps first i p d h same all))

pub time_go_at : (k : ℕ) (ps : List Pace) (first old : List Task) (i : ℕ) → i < length first → old ≡ paced_all k (take i ps) first → All HasTime first → (d : Task) → HasTime (get_or old i d)
time_go_at k ps first old i h old_is all d = subst HasTime (sym (ap (λ ts. get_or ts i d) old_is ∙ not_yet k ps first i d)) (all i d h)

pub all_paced : (k : ℕ) (ps : List Pace) (first old : List Task) (n : ℕ) → n ≡ length ps → old ≡ paced_all k (take n ps) first → old ≡ paced_all k ps first
all_paced k ps first old n whole is = is ∙ ap (λ qs. paced_all k qs first) (ap (λ m. take m ps) whole ∙ take-length ps)
