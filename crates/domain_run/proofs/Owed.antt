-- Charges that wait: open charges of which one is left, and a list of tasks in which each is
-- charged up to now.
use Rattle.std.proofs.Common.{◌≡◌, ◌≢◌, ℕ, zero, suc, ◌^◌, ◌<◌, ◌≤◌, min, not, ◌&&◌, Bool, true, false, cond, eqb, Option, Some, None, List, [], ◌∷◌, ◌++◌, length, map, get_or, set, refl, sym, ap, ◌∙◌, subst, arith, inl, inr}
use Rattle.std.specs.Prelude.{ℤ, All, AllPairs, filter, find, option_map, is_none, IfSome, IfNone}
use Rattle.std.proofs.lemmas.Bool.{cases_eq, cases_lt, eqb-true, ne_eqb}
use Rattle.std.proofs.lemmas.List.{get_or-set_same, get_or-set_other, get_or_past, get_or_default, get_or-map, length-map, length-set}
use Rattle.domain_run.specs.declared.task.Task.{Task}
use Rattle.due_times.specs.declared.charges.OpenCharge.{OpenCharge}
use Rattle.due_times.specs.OpenCharges.{charge_by, left_if, without_charge}
use Rattle.domain_run.specs.private.Owed.{charges_without, charge_of_task, owed_by, owed, IsOpen, IsOpenIf, AreOpen}
use Rattle.std.proofs.lemmas.List.Elements.{All-push}
use Rattle.attr_check.specs.ParamsView.{ParamsView}
use Rattle.grub_rules.specs.Accounts.{AreAccounts}
use Rattle.edf_pick.specs.Order.{by_deadline}
use Rattle.domain_run.specs.declared.run_queue.RunQueue.{RunQueue}
use Rattle.domain_run.specs.Conditions.{is_ready, is_throttled, is_leaving}
use Rattle.domain_run.specs.Parts.{is_listed, with_last_cpu}
use Rattle.domain_run.proofs.Homes.{still_homed, homed_map}
use Rattle.domain_run.specs.Calls.{is_other}
use Rattle.domain_run.specs.Jump.{asks_at}
use Rattle.domain_run.specs.private.Index.{IsListedAt, IsUnlisted}
use Rattle.domain_run.specs.private.RunQueue.{IsCounted}
use Rattle.domain_run.specs.private.Timers.{due_moment, due_of}
use Rattle.domain_run.proofs.Keeping.{AllPairs-map}
use Rattle.domain_run.specs.private.TaskTable.{IsSeenAs}
use Rattle.domain_run.proofs.Finding.{find_at, unless_ended, find_live}
use Rattle.domain_run.proofs.Placing.{one_index}
use Rattle.domain_run.proofs.Jumping.{Alike, shares_alike, candidates_alike}

-- ---- each task with an open charge

-- an open charge that is a number's
pub record IsChargeOf (number : ℕ) (o : Option OpenCharge) (s : OpenCharge) : Type 0 where
  pub at : o ≡ Some s
  pub its : s.number ≡ number

pub is_charging : (number : ℕ) (o : Option OpenCharge) (s : OpenCharge) → charge_by number o ≡ Some s → IsChargeOf number o s
is_charging number None s e = absurd cc
is_charging number (Some r) s e =
    elim (eqb r.number number) as (λ b. eqb r.number number ≡ b → cond b (Some r) None ≡ Some s → IsChargeOf number (Some r) s) [
      | true ↦ λ h is. let same : r ≡ s = cc in record { at = is; its = ap (λ (x : OpenCharge). x.number) (sym same) ∙ eqb-true r.number number h }
      | false ↦ λ h is. absurd cc
    ] refl e

pub other_charge : (number : ℕ) (s : OpenCharge) → s.number ≢ number → charge_by number (Some s) ≡ None
other_charge number s other = ap (λ b. cond b (Some s) None) (ne_eqb s.number number other)

pub within_charges : (number cpu : ℕ) (charges : List (Option OpenCharge)) (s : OpenCharge) → charge_by number (get_or charges cpu None) ≡ Some s → cpu < length charges
within_charges number cpu charges s e =
    elim (cases_lt cpu (length charges)) [
      | inl h ↦ h
      | inr h ↦ let no : None ≡ Some s = sym (ap (charge_by number) (get_or_past charges cpu None h)) ∙ e in absurd cc
    ]

-- ---- one leaves

pub left_here : (cpu number : ℕ) (charges : List (Option OpenCharge)) → charge_by number (get_or (without_charge cpu number charges) cpu None) ≡ None
left_here cpu number charges = by_charge (charge_by number (get_or charges cpu None)) refl
  where
    by_charge : (o : Option OpenCharge) → charge_by number (get_or charges cpu None) ≡ o → charge_by number (get_or (left_if cpu charges o) cpu None) ≡ None
    by_charge None e = e
    by_charge (Some s) e = ap (charge_by number) (get_or-set_same charges cpu None None (within_charges number cpu charges s e))

pub left_other : (cpu number d m : ℕ) (charges : List (Option OpenCharge)) → m ≢ number → charge_by m (get_or (without_charge cpu number charges) d None) ≡ charge_by m (get_or charges d None)
left_other cpu number d m charges other = by_charge (charge_by number (get_or charges cpu None)) refl
  where
    here : (s : OpenCharge) → charge_by number (get_or charges cpu None) ≡ Some s → d ≡ cpu → charge_by m (get_or (set charges cpu None) d None) ≡ charge_by m (get_or charges d None)
    here s e same =
        let is = is_charging number (get_or charges cpu None) s e in
        ap (λ c. charge_by m (get_or (set charges cpu None) c None)) same
        ∙ ap (charge_by m) (get_or-set_same charges cpu None None (within_charges number cpu charges s e))
        ∙ sym (ap (λ c. charge_by m (get_or charges c None)) same ∙ ap (charge_by m) is.at ∙ other_charge m s (λ k. other (sym k ∙ is.its)))

    by_charge : (o : Option OpenCharge) → charge_by number (get_or charges cpu None) ≡ o → charge_by m (get_or (left_if cpu charges o) d None) ≡ charge_by m (get_or charges d None)
    by_charge None e = refl
    by_charge (Some s) e = elim (cases_eq d cpu) [
      | inl same ↦ here s e same
      | inr apart ↦ ap (charge_by m) (get_or-set_other charges cpu d None None apart)
    ]

-- ---- what a task owes is not seen by the choice, the sums and the timers

alike_by : (upto : ℕ) (o : Option OpenCharge) (t : Task) → Alike t (owed_by upto o t)
alike_by upto None t = record { number = refl; params = refl; cpu = refl; condition = refl; zero_lag = refl; deadline = refl }
alike_by upto (Some s) t = record { number = refl; params = refl; cpu = refl; condition = refl; zero_lag = refl; deadline = refl }

pub alike_owed : (upto : ℕ) (charges : List (Option OpenCharge)) (t : Task) → Alike t (owed upto charges t)
alike_owed upto charges t = alike_by upto (charge_of_task charges t) t

cursor_by : (upto : ℕ) (o : Option OpenCharge) (t : Task) → (owed_by upto o t).cursor ≡ t.cursor
cursor_by upto None t = refl
cursor_by upto (Some s) t = refl

-- ---- a list of tasks and one like it

module _ (f : Task → Task) (same : (t : Task) → Alike t (f t)) where
  due_alike : (t : Task) → due_of (f t) ≡ due_of t
  due_alike t =
      let a = same t in
      λ i. min (min (due_moment (cond (is_throttled (a.condition i)) (a.deadline i) None)) (due_moment (a.zero_lag i))) (min (due_moment (asks_at (a.condition i))) (due_moment (cond (not (is_leaving (a.condition i) && is_none (a.zero_lag i))) None (Some 0))))

  pub dues_alike : (tasks : List Task) → map due_of (map f tasks) ≡ map due_of tasks
  dues_alike [] = refl
  dues_alike (t ∷ tasks) =
      let first = due_alike t in
      let more = dues_alike tasks in
      λ i. first i ∷ more i

  pub listed_alike : (t : Task) → is_listed (f t) ≡ is_listed t
  listed_alike t =
      let a = same t in
      λ i. not (is_leaving (a.condition i) && is_none (a.zero_lag i))

  pub other_alike : (number : ℕ) (t : Task) → is_other number (f t) ≡ is_other number t
  other_alike number t = ap (λ n. not (eqb n number)) (same t).number

  pub filter_alike : (p : Task → Bool) (tasks : List Task) → ((t : Task) → p (f t) ≡ p t) → filter p (map f tasks) ≡ map f (filter p tasks)
  filter_alike p [] h = refl
  filter_alike p (t ∷ tasks) h =
      let more = filter_alike p tasks h in
      ap (λ b. cond b (f t ∷ filter p (map f tasks)) (filter p (map f tasks))) (h t)
      ∙ elim (p t) as (λ b. cond b (f t ∷ filter p (map f tasks)) (filter p (map f tasks)) ≡ map f (cond b (t ∷ filter p tasks) (filter p tasks))) [
        | true ↦ ap (λ ts. f t ∷ ts) more
        | false ↦ more
      ]

  numbered_like : (tasks : List Task) → AllPairs (λ a b. a.number ≢ b.number) tasks → AllPairs (λ a b. a.number ≢ b.number) (map f tasks)
  numbered_like tasks numbered = AllPairs-map (λ a b. a.number ≢ b.number) f (λ a b h e. h (sym (same a).number ∙ e ∙ (same b).number)) tasks numbered

  pub numbered_unlike : (tasks : List Task) → AllPairs (λ a b. a.number ≢ b.number) (map f tasks) → AllPairs (λ a b. a.number ≢ b.number) tasks
  numbered_unlike tasks numbered i j d less within e =
      let len : length (map f tasks) ≡ length tasks = simp length-map in
      numbered i j (f d) less (omega (arith, within, len))
      (ap (λ (t : Task). t.number) (get_or-map f tasks i d (f d) (omega (arith, less, within))) ∙ (same (get_or tasks i d)).number ∙ e ∙ sym (ap (λ (t : Task). t.number) (get_or-map f tasks j d (f d) within) ∙ (same (get_or tasks j d)).number))

  -- what is counted is the same
  pub counted_like : (cpus : ℕ) (queue : RunQueue) (tasks : List Task) → IsCounted cpus queue tasks → IsCounted cpus queue (map f tasks)
  counted_like cpus queue tasks is =
      let len : length (map f tasks) ≡ length tasks = simp length-map in
      record {
        wide = is.wide;
        counts = record {
          sums = subst (AreAccounts queue.accounts) (sym (shares_alike f same tasks)) is.counts.sums;
          order = is.counts.order ∙ ap by_deadline (sym (candidates_alike f same tasks));
          due = is.counts.due ∙ sym (dues_alike tasks);
        };
        task_table = record {
          few = omega (arith, len, is.task_table.few);
          short = λ k d h. let inside : k < length tasks = omega (arith, h, len) in subst (λ (t : Task). t.params.bw ≤ 2 ^ 26) (sym (get_or-map f tasks k d d inside)) (subst (λ (n : ℕ). n ≤ 2 ^ 26) (sym (ap (λ (p : ParamsView). p.bw) (same (get_or tasks k d)).params)) (is.task_table.short k d inside));
          numbered = numbered_like tasks is.task_table.numbered;
        };
        homed = homed_map queue.schedule.places f tasks (λ t. (same t).number) (λ t. (same t).cpu) is.homed;
      }

  pub counted_unlike : (cpus : ℕ) (queue : RunQueue) (tasks : List Task) → IsCounted cpus queue (map f tasks) → IsCounted cpus queue tasks
  counted_unlike cpus queue tasks is =
      let len : length (map f tasks) ≡ length tasks = simp length-map in
      record {
        wide = is.wide;
        counts = record {
          sums = subst (AreAccounts queue.accounts) (shares_alike f same tasks) is.counts.sums;
          order = is.counts.order ∙ ap by_deadline (candidates_alike f same tasks);
          due = is.counts.due ∙ dues_alike tasks;
        };
        task_table = record {
          few = omega (arith, len, is.task_table.few);
          short = λ k d h. subst (λ (n : ℕ). n ≤ 2 ^ 26) (ap (λ (t : Task). t.params.bw) (get_or-map f tasks k d (f d) h) ∙ ap (λ (p : ParamsView). p.bw) (same (get_or tasks k d)).params) (is.task_table.short k (f d) (omega (arith, h, len)));
          numbered = numbered_unlike tasks is.task_table.numbered;
        };
        homed = λ k d h. still_homed queue.schedule.places (f (get_or tasks k d)) (get_or tasks k d) (sym (same (get_or tasks k d)).number) (sym (same (get_or tasks k d)).cpu) (subst (λ (t : Task). with_last_cpu queue.schedule.places t ≡ t) (get_or-map f tasks k d (f d) h) (is.homed k (f d) (omega (arith, h, len))));
      }

  pub idle_unlike : (number : ℕ) (tasks : List Task) → All (λ t. t.number ≡ number → is_ready t.condition ≡ false) (map f tasks) → All (λ t. t.number ≡ number → is_ready t.condition ≡ false) tasks
  idle_unlike number tasks idle k d h e =
      let len : length (map f tasks) ≡ length tasks = simp length-map in
      let a = same (get_or tasks k d) in
      let read = get_or-map f tasks k d (f d) h in
      sym (ap is_ready (ap (λ (t : Task). t.condition) read ∙ a.condition))
      ∙ idle k (f d) (omega (arith, h, len)) (ap (λ (t : Task). t.number) read ∙ a.number ∙ e)

  pub absent_unlike : (number : ℕ) (tasks : List Task) → IsUnlisted (map f tasks) number → IsUnlisted tasks number
  absent_unlike number tasks absent k d h e =
      let len : length (map f tasks) ≡ length tasks = simp length-map in
      absent k (f d) (omega (arith, h, len)) (ap (λ (t : Task). t.number) (get_or-map f tasks k d (f d) h) ∙ (same (get_or tasks k d)).number ∙ e)

  pub absent_like : (number : ℕ) (tasks : List Task) → IsUnlisted tasks number → IsUnlisted (map f tasks) number
  absent_like number tasks absent k d h e =
      let len : length (map f tasks) ≡ length tasks = simp length-map in
      let inside : k < length tasks = omega (arith, h, len) in
      absent k d inside (sym (ap (λ (t : Task). t.number) (get_or-map f tasks k d d inside) ∙ (same (get_or tasks k d)).number) ∙ e)

  pub at_unlike : (number p : ℕ) (tasks : List Task) → IsListedAt (map f tasks) number p → IsListedAt tasks number p
  at_unlike number p tasks at =
      let len : length (map f tasks) ≡ length tasks = simp length-map in
      let inside : p < length tasks = let h = at.within in omega (arith, h, len) in
      record {
        within = inside;
        is = λ d. sym (ap (λ (t : Task). t.number) (get_or-map f tasks p d d inside) ∙ (same (get_or tasks p d)).number) ∙ at.is d;
      }

  pub at_like : (number p : ℕ) (tasks : List Task) → IsListedAt tasks number p → IsListedAt (map f tasks) number p
  at_like number p tasks at =
      let len : length (map f tasks) ≡ length tasks = simp length-map in
      record {
        within = let h = at.within in omega (arith, h, len);
        is = λ d. ap (λ (t : Task). t.number) (get_or-map f tasks p d d at.within) ∙ (same (get_or tasks p d)).number ∙ at.is d;
      }

-- ---- the tasks, where one is charged and closes its charge

pub owed_set : (upto : ℕ) (charges new : List (Option OpenCharge)) (tasks : List Task) (p : ℕ) (y z : Task)
    → ((k : ℕ) (d : Task) → k < length tasks → k ≢ p → charge_of_task new (get_or tasks k d) ≡ charge_of_task charges (get_or tasks k d))
    → owed upto new y ≡ z
    → map (owed upto new) (set tasks p y) ≡ set (map (owed upto charges) tasks) p z
owed_set upto charges new [] p y z others is = refl
owed_set upto charges new (t ∷ tasks) zero y z others is =
    let more = map_others tasks (λ k d h. others (suc k) d (omega arith) (λ e. absurd (omega (arith, e)))) in
    λ i. is i ∷ more i
  where
    map_others : (ts : List Task) → ((k : ℕ) (d : Task) → k < length ts → charge_of_task new (get_or ts k d) ≡ charge_of_task charges (get_or ts k d)) → map (owed upto new) ts ≡ map (owed upto charges) ts
    map_others [] same = refl
    map_others (u ∷ ts) same =
        let first : owed upto new u ≡ owed upto charges u = ap (λ o. owed_by upto o u) (same zero u (omega arith)) in
        let more = map_others ts (λ k d h. same (suc k) d (omega arith)) in
        λ i. first i ∷ more i
owed_set upto charges new (t ∷ tasks) (suc p) y z others is =
    let first : owed upto new t ≡ owed upto charges t = ap (λ o. owed_by upto o t) (others zero t (omega arith) (λ e. absurd (omega (arith, e)))) in
    let more = owed_set upto charges new tasks p y z (λ k d h ne. others (suc k) d (omega arith) (λ e. ne (omega (arith, e)))) is in
    λ i. first i ∷ more i

-- ---- ONE TASK CHANGES: it is charged, closes its charge, and has none where it belongs then

pub length_left : (cpu number : ℕ) (charges : List (Option OpenCharge)) → length (without_charge cpu number charges) ≡ length charges
length_left cpu number charges = by_charge (charge_by number (get_or charges cpu None))
  where
    by_charge : (o : Option OpenCharge) → length (left_if cpu charges o) ≡ length charges
    by_charge None = refl
    by_charge (Some s) = length-set charges cpu None

-- all that is kept of the open charges, where a task with the number of x turned to y
abbrev pub left_twice : Task → Task → List (Option OpenCharge) → List (Option OpenCharge)
left_twice x y charges = without_charge y.cpu x.number (without_charge x.cpu x.number charges)

-- which is one, where it belongs to the same CPU
pub left_once : (x y : Task) (charges : List (Option OpenCharge)) → y.cpu ≡ x.cpu → left_twice x y charges ≡ charges_without x charges
left_once x y charges same =
    ap (λ (cpu : ℕ). without_charge cpu x.number (without_charge x.cpu x.number charges)) same
    ∙ ap (left_if x.cpu (without_charge x.cpu x.number charges)) (left_here x.cpu x.number charges)

pub none_there : (x y : Task) (charges : List (Option OpenCharge)) → y.number ≡ x.number → charge_of_task (left_twice x y charges) y ≡ None
none_there x y charges same = ap (λ n. charge_by n (get_or (left_twice x y charges) y.cpu None)) same ∙ left_here y.cpu x.number (without_charge x.cpu x.number charges)

pub same_there : (x y u : Task) (charges : List (Option OpenCharge)) → u.number ≢ x.number → charge_of_task (left_twice x y charges) u ≡ charge_of_task charges u
same_there x y u charges other = left_other y.cpu x.number u.cpu u.number (without_charge x.cpu x.number charges) other ∙ left_other x.cpu x.number u.cpu u.number charges other

-- a task of the list, as it is seen
pub read_owed : (upto : ℕ) (charges : List (Option OpenCharge)) (tasks : List Task) (p : ℕ) (x : Task) → p < length tasks → x ≡ get_or tasks p x → owed upto charges x ≡ get_or (map (owed upto charges) tasks) p (owed upto charges x)
read_owed upto charges tasks p x h read = sym (get_or-map (owed upto charges) tasks p x (owed upto charges x) h ∙ ap (owed upto charges) (sym read))

module _ (upto : ℕ) (charges : List (Option OpenCharge)) (tasks : List Task) (p : ℕ) (x y : Task) (h : p < length tasks) (read : x ≡ get_or tasks p x) (numbered : AllPairs (λ a b. a.number ≢ b.number) tasks) (same : y.number ≡ x.number) where
  others : (k : ℕ) (d : Task) → k < length tasks → k ≢ p → charge_of_task (left_twice x y charges) (get_or tasks k d) ≡ charge_of_task charges (get_or tasks k d)
  others k d inside apart = same_there x y (get_or tasks k d) charges (λ e. apart (one_index tasks k p d d numbered inside h (e ∙ ap (λ (t : Task). t.number) (read ∙ get_or_default tasks p x d h))))

  pub applied_owed : map (owed upto (left_twice x y charges)) (set tasks p y) ≡ set (map (owed upto charges) tasks) p y
  applied_owed = owed_set upto charges (left_twice x y charges) tasks p y y others (ap (λ o. owed_by upto o y) (none_there x y charges same))

  pub applied_waits : AreOpen charges tasks → AreOpen (left_twice x y charges) (set tasks p y)
  applied_waits waits k d within = elim (cases_eq k p) [
    | inl e ↦
        let is : get_or (set tasks p y) k d ≡ y = ap (λ i. get_or (set tasks p y) i d) e ∙ get_or-set_same tasks p y d h in
        subst (IsOpenIf (left_twice x y charges)) (sym is) (subst (λ o. IfSome o (λ s. IsOpen s y)) (sym (none_there x y charges same)) tt)
    | inr apart ↦
        let inside : k < length tasks = omega (arith, within, length-set tasks p y) in
        let is : get_or (set tasks p y) k d ≡ get_or tasks k d = get_or-set_other tasks p k y d apart in
        subst (IsOpenIf (left_twice x y charges)) (sym is) (subst (λ o. IfSome o (λ s. IsOpen s (get_or tasks k d))) (sym (others k d inside apart)) (waits k d inside))
  ]

  -- the open charges, logged by the tasks as they are seen
  pub charges_seen : (d : Task) → left_twice x y charges ≡ charges_without (get_or (set (map (owed upto charges) tasks) p y) p d) (charges_without (get_or (map (owed upto charges) tasks) p d) charges)
  charges_seen d =
      let many : length (map (owed upto charges) tasks) ≡ length tasks = simp length-map in
      let inside : p < length (map (owed upto charges) tasks) = omega (arith, h, many) in
      let a = alike_owed upto charges x in
      let before : get_or (map (owed upto charges) tasks) p d ≡ owed upto charges x = get_or_default (map (owed upto charges) tasks) p d (owed upto charges x) inside ∙ sym (read_owed upto charges tasks p x h read) in
      let after : get_or (set (map (owed upto charges) tasks) p y) p d ≡ y = get_or-set_same (map (owed upto charges) tasks) p y d inside in
      sym (ap (λ (t : Task). charges_without t (charges_without (get_or (map (owed upto charges) tasks) p d) charges)) after
      ∙ ap (λ (t : Task). charges_without y (charges_without t charges)) before
      ∙ (λ i. without_charge y.cpu (same i) (without_charge (a.cpu i) (a.number i) charges)))

-- ---- one task more

pub pushed_owed : (upto : ℕ) (charges : List (Option OpenCharge)) (tasks : List Task) (t : Task) → IsUnlisted tasks t.number → map (owed upto (charges_without t charges)) (tasks ++ t ∷ []) ≡ map (owed upto charges) tasks ++ t ∷ []
pushed_owed upto charges [] t absent = ap (λ (u : Task). u ∷ []) (ap (λ o. owed_by upto o t) (left_here t.cpu t.number charges))
pushed_owed upto charges (u ∷ tasks) t absent =
    let first : owed upto (charges_without t charges) u ≡ owed upto charges u = ap (λ o. owed_by upto o u) (left_other t.cpu t.number u.cpu u.number charges (absent zero u (omega arith))) in
    let more = pushed_owed upto charges tasks t (λ k d h. absent (suc k) d (omega arith)) in
    λ i. first i ∷ more i

pub pushed_waits : (charges : List (Option OpenCharge)) (tasks : List Task) (t : Task) → IsUnlisted tasks t.number → AreOpen charges tasks → AreOpen (charges_without t charges) (tasks ++ t ∷ [])
pushed_waits charges tasks t absent waits =
    All-push (IsOpenIf (charges_without t charges)) tasks t
    (λ k d h. let u = get_or tasks k d in subst (λ o. IfSome o (λ s. IsOpen s u)) (sym (left_other t.cpu t.number u.cpu u.number charges (absent k d h))) (waits k d h))
    (subst (λ o. IfSome o (λ s. IsOpen s t)) (sym (left_here t.cpu t.number charges)) tt)

-- ---- the task of a number, as it is seen

module _ (f : Task → Task) (same : (t : Task) → Alike t (f t)) (tasks : List Task) (number : ℕ) where
  pub some_like : (o : Option ℕ) → IfSome o (IsListedAt tasks number) → IfSome o (IsListedAt (map f tasks) number)
  some_like None h = tt
  some_like (Some p) h = at_like f same number p tasks h

  pub none_like : (o : Option ℕ) → IfNone o (IsUnlisted tasks number) → IfNone o (IsUnlisted (map f tasks) number)
  none_like None h = absent_like f same number tasks h
  none_like (Some p) h = tt

seen_by : (upto : ℕ) (o : Option OpenCharge) (t : Task) → owed_by upto o t ≡ record t { server = record t.server { left = (owed_by upto o t).server.left }; work = (owed_by upto o t).work }
seen_by upto None t = refl
seen_by upto (Some s) t = refl

-- the task at a place is found, all but what it owes
pub found_owed : (upto : ℕ) (charges : List (Option OpenCharge)) (tasks : List Task) (number p : ℕ) (x : Task) → AllPairs (λ a b. a.number ≢ b.number) (map (owed upto charges) tasks) → IsListedAt (map (owed upto charges) tasks) number p → x ≡ get_or tasks p x → find (λ t. eqb t.number number) (map (owed upto charges) tasks) ≡ Some (owed upto charges x)
found_owed upto charges tasks number p x numbered at read =
    let many : length (map (owed upto charges) tasks) ≡ length tasks = simp length-map in
    find_at (map (owed upto charges) tasks) number p (owed upto charges x) numbered at
    ∙ ap (λ (t : Task). Some t) (sym (read_owed upto charges tasks p x (let h = at.within in omega (arith, h, many)) read))

pub seen_owed : (upto : ℕ) (charges : List (Option OpenCharge)) (x : Task) (o : Option Task) → o ≡ Some (owed upto charges x) → IsSeenAs x o
seen_owed upto charges x o is = record {
  left = (owed upto charges x).server.left;
  work = (owed upto charges x).work;
  is = is ∙ ap (λ (t : Task). Some t) (seen_by upto (charge_of_task charges x) x);
}

-- where it has not ended
pub live_seen : (tasks : List Task) (number : ℕ) (u : Task) → AllPairs (λ a b. a.number ≢ b.number) tasks → IsSeenAs u (find (λ t. eqb t.number number) tasks) → is_leaving u.condition ≡ false → IsSeenAs u (find (λ t. eqb t.number number && not (is_leaving t.condition)) tasks)
live_seen tasks number u numbered seen here = record {
  left = seen.left;
  work = seen.work;
  is =
      let v : Task = record u { server = record u.server { left = seen.left }; work = seen.work } in
      find_live tasks number numbered ∙ ap unless_ended seen.is ∙ ap (λ b. cond (not b) (Some v) None) here;
}

pub live_ended : (tasks : List Task) (number : ℕ) (u : Task) → AllPairs (λ a b. a.number ≢ b.number) tasks → IsSeenAs u (find (λ t. eqb t.number number) tasks) → is_leaving u.condition ≡ true → find (λ t. eqb t.number number && not (is_leaving t.condition)) tasks ≡ None
live_ended tasks number u numbered seen here =
    let v : Task = record u { server = record u.server { left = seen.left }; work = seen.work } in
    find_live tasks number numbered ∙ ap unless_ended seen.is ∙ ap (λ b. cond (not b) (Some v) None) here

pub live_none : (tasks : List Task) (number : ℕ) → AllPairs (λ a b. a.number ≢ b.number) tasks → find (λ t. eqb t.number number) tasks ≡ None → find (λ t. eqb t.number number && not (is_leaving t.condition)) tasks ≡ None
live_none tasks number numbered none = find_live tasks number numbered ∙ ap unless_ended none

-- what a look at it logs, where that is neither its budget nor its work
pub seen_map : {X : Type 0} (g : Task → X) (u : Task) (o : Option Task) → IsSeenAs u o → ((left : ℤ) (work : ℕ) → g (record u { server = record u.server { left = left }; work = work }) ≡ g u) → option_map g o ≡ Some (g u)
seen_map g u o seen same = ap (option_map g) seen.is ∙ ap (λ x. Some x) (same seen.left seen.work)
