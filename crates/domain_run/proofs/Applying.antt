-- A change of one task of the list, where charges wait.
use Rattle.std.proofs.Common.{◌≡◌, ◌≢◌, ℕ, ◌<◌, Option, None, List, length, map, get_or, set, sym, ap, ◌∙◌, subst, arith}
use Rattle.std.specs.Prelude.{All, AllPairs}
use Rattle.std.proofs.lemmas.List.{length-map}
use Rattle.std.proofs.lemmas.List.Elements.{All-set}
use Rattle.domain_run.specs.declared.task.Task.{Task}
use Rattle.domain_run.specs.declared.transition.Transition.{Transition}
use Rattle.due_times.specs.declared.charges.OpenCharge.{OpenCharge}
use Rattle.due_times.specs.declared.stale.StaleCharges.{StaleCharges}
use Rattle.domain_run.specs.declared.run_queue.RunQueue.{RunQueue}
use Rattle.edf_pick.specs.Places.{Places}
use Rattle.domain_run.specs.Sound.{IsSound}
use Rattle.domain_run.specs.private.RunQueue.{status_of, IsCounted, MayApply, IsApplied}
use Rattle.domain_run.specs.private.TaskTable.{task_after, Fits, MayMake}
use Rattle.domain_run.specs.private.StaleCharges.{AreSettled}
use Rattle.due_times.specs.OpenCharges.{OpenChargesView, left_if}
use Rattle.domain_run.specs.private.Owed.{charge_of_task, owed_by, owed, owed_all, charges_without, IsOpenIf, AreOpen}
use Rattle.domain_run.specs.private.Timers.{IsTimerStep}
use Rattle.domain_run.proofs.Counting.{IsFit}
use Rattle.domain_run.proofs.Making.{place_fit, place_may, place_counted}
use Rattle.domain_run.proofs.Stale.{free_applied}
use Rattle.domain_run.proofs.Due.{step_is}
use Rattle.domain_run.proofs.Owed.{alike_owed, numbered_unlike, read_owed, left_once, left_twice, length_left, applied_owed, applied_waits, charges_seen}

module _ (w time : ℕ) (transition : Transition) (queue : RunQueue) (s : OpenChargesView) (tasks : List Task) (p : ℕ) (x : Task) (h : p < length tasks) (read : x ≡ get_or tasks p x) (fits : Fits w transition) (counted : IsCounted w queue (owed_all s tasks)) where
  abbrev seen : Task
  seen = owed s.upto s.charges x

  within : p < length (owed_all s tasks)
  within = let many : length (map (owed s.upto s.charges) tasks) ≡ length tasks = simp length-map in omega (arith, h, many)

  read_seen : seen ≡ get_or (owed_all s tasks) p seen
  read_seen = read_owed s.upto s.charges tasks p x h read

  pub waits_at : AreOpen s.charges tasks → IsOpenIf s.charges x
  waits_at waits = subst (IsOpenIf s.charges) (sym read) (waits p x h)

  pub sound_at : All (IsSound time) (owed_all s tasks) → IsSound time (owed s.upto s.charges x)
  sound_at sound = subst (IsSound time) (sym read_seen) (sound p seen within)

  pub may_at : ((d : Task) → MayMake time transition (get_or (owed_all s tasks) p d)) → MayMake time transition (owed s.upto s.charges x)
  may_at may = subst (MayMake time transition) (sym read_seen) (may seen)

  pub turns_at : MayApply p (owed s.upto s.charges x).number (owed s.upto s.charges x).cpu queue (status_of (owed s.upto s.charges x)) (status_of (task_after time transition (owed s.upto s.charges x)))
  turns_at = place_may w queue (owed_all s tasks) p time transition seen within read_seen fits counted

  module _ (new : RunQueue) (after : OpenChargesView) (y : Task) (is : y ≡ task_after time transition (owed s.upto s.charges x)) (left_are : after ≡ record s { charges = charges_without x s.charges }) where
    fit : IsFit w (get_or (owed_all s tasks) p seen) (task_after time transition (get_or (owed_all s tasks) p seen))
    fit = place_fit w queue (owed_all s tasks) p time transition seen within fits counted

    same : y.number ≡ x.number
    same =
        let made : (task_after time transition seen).number ≡ seen.number = ap (λ (t : Task). (task_after time transition t).number) read_seen ∙ fit.number ∙ sym (ap (λ (t : Task). t.number) read_seen) in
        ap (λ (t : Task). t.number) is ∙ made ∙ (alike_owed s.upto s.charges x).number

    -- it belongs to the same CPU, so it leaves one open charge and no other
    stays : y.cpu ≡ x.cpu
    stays =
        let made : (task_after time transition seen).cpu ≡ seen.cpu = ap (λ (t : Task). (task_after time transition t).cpu) read_seen ∙ fit.cpu ∙ sym (ap (λ (t : Task). t.cpu) read_seen) in
        ap (λ (t : Task). t.cpu) is ∙ made ∙ (alike_owed s.upto s.charges x).cpu

    are : after ≡ record s { charges = left_twice x y s.charges }
    are = left_are ∙ ap (λ (charges : List (Option OpenCharge)). record s { charges = charges }) (sym (left_once x y s.charges stays))

    numbered : AllPairs (λ a b. a.number ≢ b.number) tasks
    numbered = numbered_unlike (owed s.upto s.charges) (alike_owed s.upto s.charges) tasks counted.task_table.numbered

    view_is : owed_all after (set tasks p y) ≡ set (owed_all s tasks) p y
    view_is = ap (λ (v : OpenChargesView). owed_all v (set tasks p y)) are ∙ applied_owed s.upto s.charges tasks p x y h read numbered same

    pub step_applied : IsTimerStep (task_after time transition) p (owed_all s tasks) (owed_all after (set tasks p y))
    step_applied = subst (IsTimerStep (task_after time transition) p (owed_all s tasks)) (sym view_is) (step_is (owed_all s tasks) p seen y (task_after time transition) within read_seen is)

    pub sound_applied : IsSound time y → All (IsSound time) (owed_all s tasks) → All (IsSound time) (owed_all after (set tasks p y))
    sound_applied one all = subst (All (IsSound time)) (sym view_is) (All-set (IsSound time) (owed_all s tasks) p y one all)

    pub counted_applied : IsApplied p (owed s.upto s.charges x).number (owed s.upto s.charges x).cpu (status_of (owed s.upto s.charges x)) (status_of y) queue new → IsCounted w new (owed_all after (set tasks p y))
    counted_applied has = subst (IsCounted w new) (sym view_is) (place_counted w queue new (owed_all s tasks) p time transition seen y within read_seen fits is has counted)

    pub waits_applied : AreOpen s.charges tasks → AreOpen after.charges (set tasks p y)
    waits_applied waits = subst (λ (v : OpenChargesView). AreOpen v.charges (set tasks p y)) (sym are) (applied_waits s.upto s.charges tasks p x y h read numbered same waits)

    pub charges_applied : (d : Task) → after.charges ≡ charges_without (get_or (owed_all after (set tasks p y)) p d) (charges_without (get_or (owed_all s tasks) p d) s.charges)
    charges_applied d =
        ap (λ (v : OpenChargesView). v.charges) are
        ∙ charges_seen s.upto s.charges tasks p x y h read numbered same d
        ∙ ap (λ (ts : List Task). charges_without (get_or ts p d) (charges_without (get_or (owed_all s tasks) p d) s.charges)) (sym view_is)

    pub wide_applied : length after.charges ≡ length s.charges
    wide_applied = ap (λ (v : OpenChargesView). length v.charges) are ∙ length_left y.cpu x.number (charges_without x s.charges) ∙ length_left x.cpu x.number s.charges

  -- ---- of a task that has no open charge nothing waits, and the open charges stay
  module _ (none : charge_of_task s.charges x ≡ None) where
    bare : seen ≡ x
    bare = ap (λ (o : Option OpenCharge). owed_by s.upto o x) none

    pub read_bare : x ≡ get_or (owed_all s tasks) p x
    read_bare = sym bare ∙ read_seen ∙ ap (λ (t : Task). get_or (owed_all s tasks) p t) bare

    pub sound_bare : All (IsSound time) (owed_all s tasks) → IsSound time x
    sound_bare sound = subst (IsSound time) bare (sound_at sound)

    pub may_bare : ((d : Task) → MayMake time transition (get_or (owed_all s tasks) p d)) → MayMake time transition x
    may_bare may = subst (MayMake time transition) bare (may_at may)

    pub turns_bare : MayApply p x.number x.cpu queue (status_of x) (status_of (task_after time transition x))
    turns_bare = subst (λ (t : Task). MayApply p t.number t.cpu queue (status_of t) (status_of (task_after time transition t))) bare turns_at

    module _ (new : RunQueue) (y : Task) (is : y ≡ task_after time transition x) where
      made : y ≡ task_after time transition seen
      made = is ∙ ap (task_after time transition) (sym bare)

      kept : s ≡ record s { charges = charges_without x s.charges }
      kept = ap (λ (charges : List (Option OpenCharge)). record s { charges = charges }) (sym (ap (left_if x.cpu s.charges) none))

      pub step_bare : IsTimerStep (task_after time transition) p (owed_all s tasks) (owed_all s (set tasks p y))
      step_bare = step_applied new s y made kept

      pub sound_all_bare : IsSound time y → All (IsSound time) (owed_all s tasks) → All (IsSound time) (owed_all s (set tasks p y))
      sound_all_bare = sound_applied new s y made kept

      pub counted_bare : IsApplied p x.number x.cpu (status_of x) (status_of y) queue new → IsCounted w new (owed_all s (set tasks p y))
      counted_bare has = counted_applied new s y made kept (subst (λ (t : Task). IsApplied p t.number t.cpu (status_of t) (status_of y) queue new) (sym bare) has)

      pub waits_bare : AreOpen s.charges tasks → AreOpen s.charges (set tasks p y)
      waits_bare = waits_applied new s y made kept

      pub settled_bare : (d : StaleCharges) (places : Places) → get_or s.charges x.cpu None ≡ None → AreSettled d w places s.charges (owed_all s tasks) → AreSettled d w places s.charges (owed_all s (set tasks p y))
      settled_bare d places free settled =
          subst (AreSettled d w places s.charges) (sym (view_is new s y made kept))
          (free_applied d w places s.charges (owed_all s tasks) p x y within read_bare (stays new s y made kept) free settled)
