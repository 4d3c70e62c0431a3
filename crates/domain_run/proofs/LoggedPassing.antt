-- What open charges log as time goes on: those that expire tell it at their end, and no other tells
-- anything.
use Rattle.std.proofs.Common.{◌≡◌, ◌≢◌, ℕ, zero, suc, ◌+◌, ◌-◌, ◌*◌, ◌<◌, ◌≤◌, Bool, true, false, cond, not, eqb, Option, Some, None, List, [], ◌∷◌, ◌++◌, length, map, get_or, set, refl, sym, ap, ◌∙◌, subst, arith, inl, inr, eq-eqb}
use Rattle.std.specs.Prelude.{ℤ, pos, ◌-ℤ◌, ◌<ℤ◌, All, AllPairs, IfSome, IsTrue}
use Rattle.std.specs.List.{flat_map}
use Rattle.std.specs.List.Sorted.{IsPermutation}
use Rattle.std.proofs.lemmas.Int.{ints}
use Rattle.std.proofs.lemmas.Bool.{cases_eq, ne_eqb}
use Rattle.std.proofs.lemmas.List.{append-nil, append_assoc, get_or_default}
use Rattle.std.proofs.lemmas.List.Folds.{flat_map-map}
use Rattle.std.proofs.lemmas.List.Sorted.{IsPermutation-refl, IsPermutation-trans, IsPermutation-append_left, IsPermutation-append_right, IsPermutation-append_comm}
use Rattle.std.proofs.Math.Nat.{mul-le-mul_left}
use Rattle.edf_pick.specs.Places.{Places, is_on_cpu}
use Rattle.due_times.specs.declared.charges.OpenCharge.{OpenCharge}
use Rattle.due_times.specs.OpenCharges.{charge_by, ending_at, IsAhead}
use Rattle.task_script.specs.declared.script.Segment.{Segment}
use Rattle.task_script.specs.declared.script.Segment.TheVariants.{Run as RunFor}
use Rattle.task_script.specs.script.Segments.{passes_late_timer, next_segment}
use Rattle.domain_run.specs.declared.task.Task.{Task}
use Rattle.domain_run.specs.declared.happened.Happened.{Happened}
use Rattle.domain_run.specs.declared.happened.What.TheVariants.{JobEnds, NextReleased, Spent}
use Rattle.domain_run.specs.Conditions.{is_ready, is_throttled}
use Rattle.domain_run.specs.Happened.{happened_to, due, job_due, logged_by_segment, logged_by_budget}
use Rattle.domain_run.specs.Log.{LogView, HasLogged}
use Rattle.domain_run.specs.Parts.{with_last_cpu}
use Rattle.domain_run.specs.Sound.{occupant, HasNoTaskTwice}
use Rattle.domain_run.specs.private.Expiring.{logged_by_charge, logged_passed, logged_leapt, LogsPart}
use Rattle.domain_run.specs.private.Extending.{with_more, GoesOn, HasGoneOn}
use Rattle.domain_run.specs.private.Index.{IsListedAt}
use Rattle.domain_run.specs.private.Paying.{ran_until}
use Rattle.domain_run.specs.private.TaskTable.{TaskTableView, rate_in, HasItsCharge}
use Rattle.domain_run.specs.private.TransitionLog.{logged_until, IsApart}
use Rattle.domain_run.specs.private.Owed.{charge_of_task, slid_for, owed_by, owed, IsOpen, AreOpen, IsAtRate, IsRight}
use Rattle.domain_run.proofs.Extending.{any_task, its_later, other_later, went_on_by, work_is}
use Rattle.domain_run.proofs.Later.{charge_seen}
use Rattle.domain_run.proofs.Leaping.{home_of, charge_running, none_running, runs_from}
use Rattle.domain_run.proofs.Logging.{logs_silent, logs_none}
use Rattle.domain_run.proofs.Paying.{is_Ready}
use Rattle.domain_run.proofs.Placing.{one_index}
use Rattle.domain_run.proofs.Chargings.{nobody_here, same_stranger, same_elsewhere}
use Rattle.domain_run.proofs.Sliding.{slides}
use Rattle.domain_run.proofs.KeptKeys.{AreNumbered}
use Rattle.domain_run.proofs.LoggedChanges.{AreOf, of_until, logged_nothing, logged_alike}
use Rattle.domain_run.proofs.LoggedRising.{apart_until, apart_tasks}
use Rattle.domain_run.proofs.LoggedSorted.{pairs_none}

-- ---- ONE TASK

-- one whose work and budget last logs nothing
pub slides_quiet : (time ticks : ℕ) (left : ℤ) (t : Task) → IsTrue (is_ready t.condition) → ticks < t.work → pos 0 <ℤ left → logged_until time ticks left t ≡ []
slides_quiet time ticks left t ready worked lasted =
    let x : Task = record t { server = record t.server { left = left }; work = t.work - ticks } in
    let more : eqb (t.work - ticks) 0 ≡ false = ne_eqb (t.work - ticks) 0 (λ e. absurd (omega (arith, e, worked))) in
    ap (λ w. cond w (logged_by_segment time x (passes_late_timer x.cursor time) (next_segment x.cursor time).segment) [] ++ logged_by_budget time (ran_until time ticks left t)) more
    ∙ ap (logged_by_budget time) (sym (slides time ticks left t ready worked lasted))
    ∙ ap (λ c. cond (is_throttled c) (happened_to time x (Spent (due x)) ∷ []) []) (is_Ready t.condition ready)

-- nor does one that has work again, no late timer before it
module _ (time ticks work end : ℕ) (s : OpenCharge) (t : Task) (goes : GoesOn time ticks s.rate work t) where
  left : ℤ
  left = t.server.left -ℤ pos (s.rate * ticks)

  pub more_quiet : logged_until time ticks (t.server.left -ℤ pos (s.rate * ticks)) (with_more time work t) ≡ []
  more_quiet =
      let worked = goes.worked in
      let some = goes.some in
      let lasted = goes.lasted in
      slides_quiet time ticks (t.server.left -ℤ pos (s.rate * ticks)) (with_more time work t) goes.ready (omega (arith, worked, some)) (omega (arith, ints, lasted))

  pub goes_quiet : passes_late_timer t.cursor time ≡ false → logged_until time ticks (t.server.left -ℤ pos (s.rate * ticks)) t ≡ []
  goes_quiet soon =
      let left : ℤ = t.server.left -ℤ pos (s.rate * ticks) in
      let x : Task = record t { server = record t.server { left = left }; work = t.work - ticks } in
      let y = with_more time work t in
      let worked = goes.worked in
      let some = goes.some in
      let lasted = goes.lasted in
      let none : logged_by_segment time x (passes_late_timer t.cursor time) (next_segment t.cursor time).segment ≡ [] =
      ap (logged_by_segment time x (passes_late_timer t.cursor time)) (work_is (next_segment t.cursor time).segment work goes.asked)
      ∙ ap (λ l. logged_by_segment time x l (RunFor work)) soon in
      let work_none : cond (eqb (t.work - ticks) 0) (logged_by_segment time x (passes_late_timer t.cursor time) (next_segment t.cursor time).segment) [] ≡ [] =
      by_test (eqb (t.work - ticks) 0) (logged_by_segment time x (passes_late_timer t.cursor time) (next_segment t.cursor time).segment) none in
      let budget : logged_by_budget time (ran_until time ticks left t) ≡ [] =
      ap (logged_by_budget time) (sym (went_on_by time ticks work s end t goes) ∙ sym (slides time ticks left y goes.ready (omega (arith, worked, some)) (omega (arith, ints, lasted))))
      ∙ ap (λ c. cond (is_throttled c) (happened_to time x (Spent (due x)) ∷ []) []) (is_Ready t.condition goes.ready) in
      λ i. work_none i ++ budget i
    where
      by_test : (b : Bool) (hs : List Happened) → hs ≡ [] → cond b hs [] ≡ []
      by_test true hs e = e
      by_test false hs e = refl

-- it tells of itself
passed_own : (time ticks : ℕ) (charges : List (Option OpenCharge)) (t : Task) → AreOf t.number (logged_passed time ticks charges t)
passed_own time ticks charges t = by_charge (charge_of_task charges t)
  where
    by_charge : (o : Option OpenCharge) → AreOf t.number (logged_by_charge time ticks o t)
    by_charge None = λ k d h. absurd (omega (arith, h))
    by_charge (Some s) = of_until time ticks (t.server.left -ℤ pos (s.rate * ticks)) t

passed_apart : (time ticks : ℕ) (charges : List (Option OpenCharge)) (t : Task) → AllPairs IsApart (logged_passed time ticks charges t)
passed_apart time ticks charges t = by_charge (charge_of_task charges t)
  where
    by_charge : (o : Option OpenCharge) → AllPairs IsApart (logged_by_charge time ticks o t)
    by_charge None = pairs_none IsApart
    by_charge (Some s) = apart_until time ticks (t.server.left -ℤ pos (s.rate * ticks)) t

pub passing_apart : (time ticks : ℕ) (charges : List (Option OpenCharge)) (tasks : List Task) → AreNumbered tasks → AllPairs IsApart (flat_map (logged_passed time ticks charges) tasks)
passing_apart time ticks charges tasks numbered = apart_tasks (logged_passed time ticks charges) tasks (passed_own time ticks charges) (passed_apart time ticks charges) numbered

-- ---- ONE PLACE, which tells its own and has nothing more to tell

move_front : (a b c : List Happened) → IsPermutation (b ++ (a ++ c)) (a ++ (b ++ c))
move_front a b c =
    subst (λ hs. IsPermutation hs (a ++ (b ++ c))) (append_assoc b a c)
    (subst (λ hs. IsPermutation ((b ++ a) ++ c) hs) (append_assoc a b c) (IsPermutation-append_left c (b ++ a) (a ++ b) (IsPermutation-append_comm b a)))

pub logged_set : (f g : Task → List Happened) (xs : List Task) (p : ℕ) (y d : Task) → p < length xs → ((k : ℕ) (e : Task) → k < length xs → k ≢ p → f (get_or xs k e) ≡ g (get_or xs k e)) → g y ≡ []
    → IsPermutation (flat_map f xs) (f (get_or xs p d) ++ flat_map g (set xs p y))
logged_set f g [] p y d h others none = absurd (omega (arith, h))
logged_set f g (x ∷ xs) zero y d h others none =
    let rest : flat_map f xs ≡ flat_map g xs = logged_alike f g xs (λ k e within. others (suc k) e (omega (arith, within)) (λ q. absurd (omega (arith, q)))) in
    let whole : flat_map f xs ≡ g y ++ flat_map g xs = rest ∙ ap (λ hs. hs ++ flat_map g xs) (sym none) in
    subst (λ hs. IsPermutation (f x ++ flat_map f xs) (f x ++ hs)) whole (IsPermutation-refl (f x ++ flat_map f xs))
logged_set f g (x ∷ xs) (suc p) y d h others none =
    let here : f x ≡ g x = others zero x (omega arith) (λ q. absurd (omega (arith, q))) in
    let a : List Happened = f (get_or xs p d) in
    let G : List Happened = flat_map g (set xs p y) in
    let more : IsPermutation (flat_map f xs) (a ++ G) = logged_set f g xs p y d (omega (arith, h)) (λ k e within ne. others (suc k) e (omega (arith, within)) (λ q. ne (omega (arith, q)))) none in
    IsPermutation-trans (f x ++ flat_map f xs) (f x ++ (a ++ G)) (a ++ (g x ++ G))
    (IsPermutation-append_right (f x) (flat_map f xs) (a ++ G) more)
    (subst (λ hs. IsPermutation (f x ++ (a ++ G)) (a ++ (hs ++ G))) here (move_front a (f x) G))

-- ---- ONE CPU

module _ (time k cpu : ℕ) (charges : List (Option OpenCharge)) (tasks : List Task) (s : OpenCharge) (there : get_or charges cpu None ≡ Some s) where
  -- no listed task has an open charge there
  pub orphan_logs : All (λ t. t.number ≡ s.number → t.cpu ≡ cpu → ⊥) tasks → flat_map (logged_passed time k charges) tasks ≡ flat_map (logged_passed time k (set charges cpu None)) tasks
  orphan_logs none = logged_alike (logged_passed time k charges) (logged_passed time k (set charges cpu None)) tasks (λ i d h.
      let t = get_or tasks i d in
      sym (ap (λ o. logged_by_charge time k o t) (elim (cases_eq t.cpu cpu) [
        | inl e ↦ same_stranger charges cpu s t there (λ n. none i d h n e)
        | inr apart ↦ same_elsewhere charges cpu None t apart
      ])))

  module _ (p : ℕ) (x y : Task) (inside : p < length tasks) (read : x ≡ get_or tasks p x) (number : x.number ≡ s.number) (home : x.cpu ≡ cpu) (numbered : AllPairs (λ a b. a.number ≢ b.number) tasks) where
    own : logged_passed time k charges x ≡ logged_until time k (x.server.left -ℤ pos (s.rate * k)) x
    own =
        let is_charging : charge_of_task charges x ≡ Some s = ap (λ c. charge_by x.number (get_or charges c None)) home ∙ ap (charge_by x.number) there ∙ ap (λ b. cond b (Some s) None) (eq-eqb s.number x.number (sym number)) in
        ap (λ o. logged_by_charge time k o x) is_charging

    others : (i : ℕ) (d : Task) → i < length tasks → i ≢ p → (get_or tasks i d).number ≢ s.number
    others i d h apart e = apart (one_index tasks i p d d numbered h inside (e ∙ sym number ∙ ap (λ (t : Task). t.number) (read ∙ get_or_default tasks p x d inside)))

    -- its open charge is left
    pub finished_logs : y.cpu ≡ x.cpu → IsPermutation (flat_map (logged_passed time k charges) tasks) (logged_until time k (x.server.left -ℤ pos (s.rate * k)) x ++ flat_map (logged_passed time k (set charges cpu None)) (set tasks p y))
    finished_logs stays =
        let gone : logged_passed time k (set charges cpu None) y ≡ [] = ap (λ o. logged_by_charge time k o y) (nobody_here charges cpu y (stays ∙ home)) in
        let first : logged_passed time k charges (get_or tasks p x) ≡ logged_until time k (x.server.left -ℤ pos (s.rate * k)) x = ap (logged_passed time k charges) (sym read) ∙ own in
        let rest = flat_map (logged_passed time k (set charges cpu None)) (set tasks p y) in
        subst (λ hs. IsPermutation (flat_map (logged_passed time k charges) tasks) (hs ++ rest)) first
        (logged_set (logged_passed time k charges) (logged_passed time k (set charges cpu None)) tasks p y x inside
        (λ i d h apart. let t = get_or tasks i d in sym (ap (λ o. logged_by_charge time k o t) (same_stranger charges cpu s t there (others i d h apart)))) gone)

    -- it stays, for longer
    pub extended_logs : (end work : ℕ) → cpu < length charges → GoesOn time k s.rate work x → y ≡ with_more time work x → IsPermutation (flat_map (logged_passed time k charges) tasks) (logged_until time k (x.server.left -ℤ pos (s.rate * k)) x ++ flat_map (logged_passed time k (set charges cpu (Some (ending_at end s)))) (set tasks p y))
    extended_logs end work wide goes is =
        let later = set charges cpu (Some (ending_at end s)) in
        let z = with_more time work x in
        let none : logged_passed time k later y ≡ [] = ap (logged_passed time k later) is ∙ ap (λ o. logged_by_charge time k o z) (its_later cpu end charges s there wide z home number) ∙ more_quiet time k work end s x goes in
        let first : logged_passed time k charges (get_or tasks p x) ≡ logged_until time k (x.server.left -ℤ pos (s.rate * k)) x = ap (logged_passed time k charges) (sym read) ∙ own in
        let rest = flat_map (logged_passed time k later) (set tasks p y) in
        subst (λ hs. IsPermutation (flat_map (logged_passed time k charges) tasks) (hs ++ rest)) first
        (logged_set (logged_passed time k charges) (logged_passed time k later) tasks p y x inside
        (λ i d h apart. let t = get_or tasks i d in sym (ap (λ o. logged_by_charge time k o t) (other_later cpu end charges s there wide t (others i d h apart)))) none)

-- ---- each task with an open charge on, as the task table says it

module _ (time k cpu p : ℕ) (open_charge : OpenCharge) (old new : TaskTableView) (is_charging : get_or old.charges cpu None ≡ Some open_charge) (wide : cpu < length old.charges) (at : IsListedAt old.tasks open_charge.number p) (home : (d : Task) → (get_or old.tasks p d).cpu ≡ cpu) (numbered : AllPairs (λ a b. a.number ≢ b.number) old.tasks) (on : HasGoneOn time k cpu p open_charge old new) where
  d : Task
  d = any_task old.tasks (let h = at.within in omega (arith, h))

  x : Task
  x = get_or old.tasks p d

  -- nothing is logged, since nobody listens, or since no timer is late
  pub on_logs : (silent : Bool) (log : LogView) → silent ≡ not log.wanted → (silent ≡ false → (e : Task) → passes_late_timer (get_or old.tasks p e).cursor time ≡ false)
      → LogsPart (flat_map (logged_passed time k old.charges) old.tasks) (flat_map (logged_passed time k new.charges) new.tasks) log log
  unfolding x
  on_logs silent log is quiet =
      let own = logged_until time k (x.server.left -ℤ pos (open_charge.rate * k)) x in
      let all = flat_map (logged_passed time k old.charges) old.tasks in
      let y = with_more time on.work x in
      let mixed = extended_logs time k cpu old.charges old.tasks open_charge is_charging p x y at.within (get_or_default old.tasks p d x at.within) (at.is d) (home d) numbered on.end on.work wide (on.goes d) refl in
      let rest : flat_map (logged_passed time k new.charges) new.tasks ≡ flat_map (logged_passed time k (set old.charges cpu (Some (ending_at on.end open_charge)))) (set old.tasks p y) = λ i. flat_map (logged_passed time k (on.charges i)) (on.tasks d i) in
      record {
        tail = own;
        is = by_wanted log.wanted refl;
        mixed = subst (λ hs. IsPermutation all (own ++ hs)) (sym rest) mixed;
      }
    where
      by_wanted : (w : Bool) → log.wanted ≡ w → HasLogged log (logged_until time k ((get_or old.tasks p d).server.left -ℤ pos (open_charge.rate * k)) (get_or old.tasks p d)) log
      by_wanted false e = logs_silent (logged_until time k ((get_or old.tasks p d).server.left -ℤ pos (open_charge.rate * k)) (get_or old.tasks p d)) log e
      by_wanted true e =
          let soon = quiet (is ∙ ap not e) d in
          subst (λ hs. HasLogged log hs log) (sym (goes_quiet time k on.work on.end open_charge (get_or old.tasks p d) (on.goes d) soon)) (logs_none log)

-- ---- ALL OF THEM, once each charge that expires is closed

later_quiet : (upto time k : ℕ) (s : OpenCharge) (t : Task) → IsAhead upto s → IsOpen s t → upto + k < s.end → logged_by_charge time k (Some s) (owed_by upto (Some s) t) ≡ []
later_quiet upto time k s t ahead waits h =
    let j = upto - s.since in
    let u = slid_for j s.rate t in
    let early = ahead.since in
    let m : s.rate * (j + k) ≤ s.rate * (s.end - s.since - 1) = mul-le-mul_left s.rate (omega (arith, h, early)) in
    let times : s.rate * (j + k) ≡ s.rate * j + s.rate * k = omega arith in
    slides_quiet time k (u.server.left -ℤ pos (s.rate * k)) u waits.ready (omega (arith, h, waits.worked, early)) (omega (arith, ints, waits.lasted, m, times))

pub later_logs : (upto time k : ℕ) (charges : List (Option OpenCharge)) (tasks : List Task) → ((t : Task) → IfSome (charge_of_task charges t) (λ s. IsAhead upto s × (upto + k < s.end))) → AreOpen charges tasks → flat_map (logged_passed time k charges) (map (owed upto charges) tasks) ≡ []
later_logs upto time k charges tasks ahead waits =
    flat_map-map (logged_passed time k charges) (owed upto charges) tasks
    ∙ logged_nothing (λ t. logged_passed time k charges (owed upto charges t)) tasks (λ i d h. let t = get_or tasks i d in by_charge t (charge_of_task charges t) refl (ahead t) (waits i d h))
  where
    by_charge : (t : Task) (o : Option OpenCharge) → charge_of_task charges t ≡ o → IfSome o (λ s. IsAhead upto s × (upto + k < s.end)) → IfSome o (λ s. IsOpen s t) → logged_passed time k charges (owed upto charges t) ≡ []
    by_charge t None e is wait = ap (λ o. logged_by_charge time k o (owed upto charges t)) (charge_seen upto charges t ∙ e)
    by_charge t (Some s) e is wait =
        ap (λ o. logged_by_charge time k o (owed upto charges t)) (charge_seen upto charges t ∙ e)
        ∙ ap (λ o. logged_by_charge time k (Some s) (owed_by upto o t)) e
        ∙ later_quiet upto time k s t is.0 wait is.1

-- ---- who runs has an open charge at its rate

at_rate_logs : (time k rate : ℕ) (t : Task) (o : Option OpenCharge) → IsAtRate rate o → logged_by_charge time k o t ≡ logged_until time k (t.server.left -ℤ pos (rate * k)) t
at_rate_logs time k rate t None is = absurd is
at_rate_logs time k rate t (Some s) is = ap (λ n. logged_until time k (t.server.left -ℤ pos (n * k)) t) is

logged_leapt_one : (time k : ℕ) (places : Places) (cpus limit : ℕ) (tasks : List Task) (charges : List (Option OpenCharge)) (t : Task) → HasNoTaskTwice places → with_last_cpu places t ≡ t → HasItsCharge places cpus limit tasks charges t → logged_passed time k charges t ≡ logged_leapt time k places cpus limit tasks t
logged_leapt_one time k places cpus limit tasks charges t apart homed right = by_on_cpu (is_on_cpu t.number places) refl
  where
    by_on_cpu : (b : Bool) → is_on_cpu t.number places ≡ b → logged_by_charge time k (charge_of_task charges t) t ≡ cond b (logged_until time k (t.server.left -ℤ pos (rate_in cpus limit tasks t * k)) t) []
    by_on_cpu true e = at_rate_logs time k (rate_in cpus limit tasks t) t (charge_of_task charges t) (charge_running places t (rate_in cpus limit tasks t) (charge_of_task charges t) (home_of places t apart homed e) right)
    by_on_cpu false e =
        let none = none_running places t (rate_in cpus limit tasks t) (charge_of_task charges t) (occupant places t.cpu) (λ q. let no : true ≡ false = sym (runs_from places t.cpu t.number q) ∙ e in absurd cc) right in
        ap (λ o. logged_by_charge time k o t) none

pub logged_leapt_all : (time k : ℕ) (places : Places) (cpus limit : ℕ) (tasks : List Task) (charges : List (Option OpenCharge)) → HasNoTaskTwice places → All (λ t. with_last_cpu places t ≡ t) tasks → All (HasItsCharge places cpus limit tasks charges) tasks → flat_map (logged_passed time k charges) tasks ≡ flat_map (logged_leapt time k places cpus limit tasks) tasks
logged_leapt_all time k places cpus limit tasks charges apart homed right = logged_alike (logged_passed time k charges) (logged_leapt time k places cpus limit tasks) tasks (λ i d h. logged_leapt_one time k places cpus limit tasks charges (get_or tasks i d) apart (homed i d h) (right i d h))
