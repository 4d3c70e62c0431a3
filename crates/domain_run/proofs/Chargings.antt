-- Open charges that are taken and left, and time that goes on for all open charges.
use Rattle.std.proofs.Common.{◌≡◌, ◌≢◌, ℕ, ◌-◌, ◌*◌, ◌<◌, ◌≤◌, max, min, Bool, true, false, cond, eqb, Option, Some, None, List, length, map, get_or, set, refl, sym, ap, ◌∙◌, subst, arith, inl, inr, eq-eqb}
use Rattle.std.specs.Prelude.{pos, ◌-ℤ◌, All, AllPairs, IfSome}
use Rattle.std.proofs.lemmas.Int.{ints}
use Rattle.std.proofs.lemmas.Bool.{cases_eq, cases_lt, eqb-true, ne_eqb}
use Rattle.std.proofs.lemmas.List.{get_or-set_same, get_or-set_other, get_or_past, get_or_default, get_or-map, length-map, length-set, set-get_or, set-set}
use Rattle.std.proofs.Math.Nat.{mul-le-mul_left}
use Rattle.domain_run.specs.declared.task.Task.{Task}
use Rattle.grub_rules.specs.Rate as reclaiming
use Rattle.due_times.specs.declared.charges.OpenCharge.{OpenCharge}
use Rattle.due_times.specs.declared.charges.Basis.{Basis}
use Rattle.due_times.specs.declared.charges.Claim.{Claim}
use Rattle.due_times.specs.OpenCharges.{OpenChargesView, IsOn, charge_by}
use Rattle.domain_run.specs.private.Owed.{charge_of_task, slid_for, owed_by, owed, owed_all, IsOpen, IsOpenIf, AreOpen, MayStart, IsAtRate, IsRight, charged_on, rate_by, IsRatedBy}
use Rattle.domain_run.specs.declared.run_queue.RunQueue.{RunQueue}
use Rattle.domain_run.specs.private.RunQueue.{IsCounted}
use Rattle.due_times.specs.declared.stale.StaleCharges.{StaleCharges}
use Rattle.domain_run.specs.private.StaleCharges.{AreSettled}
use Rattle.domain_run.specs.private.TaskTable.{TaskTableView, IsKept}
use Rattle.domain_run.specs.private.Index.{IsListedAt, IsUnlisted}
use Rattle.domain_run.proofs.Jumping.{map_alike}
use Rattle.domain_run.proofs.Placing.{one_index}
use Rattle.domain_run.proofs.Owed.{is_charging, other_charge, alike_owed, owed_set, read_owed}
use Rattle.limits.specs.Limits.{unit}

-- ---- a CPU is left

pub none_at : (charges : List (Option OpenCharge)) (cpu : ℕ) → get_or (set charges cpu None) cpu None ≡ None
none_at charges cpu = elim (cases_lt cpu (length charges)) [
  | inl h ↦ get_or-set_same charges cpu None None h
  | inr h ↦ get_or_past (set charges cpu None) cpu None (omega (arith, h, length-set charges cpu None))
]

pub nobody_here : (charges : List (Option OpenCharge)) (cpu : ℕ) (t : Task) → t.cpu ≡ cpu → charge_of_task (set charges cpu None) t ≡ None
nobody_here charges cpu t e = ap (λ c. charge_by t.number (get_or (set charges cpu None) c None)) e ∙ ap (charge_by t.number) (none_at charges cpu)

pub same_elsewhere : (charges : List (Option OpenCharge)) (cpu : ℕ) (o : Option OpenCharge) (t : Task) → t.cpu ≢ cpu → charge_of_task (set charges cpu o) t ≡ charge_of_task charges t
same_elsewhere charges cpu o t apart = ap (charge_by t.number) (get_or-set_other charges cpu t.cpu o None apart)

-- for a task of another number it was as if nobody sat there
pub same_stranger : (charges : List (Option OpenCharge)) (cpu : ℕ) (s : OpenCharge) (t : Task) → get_or charges cpu None ≡ Some s → t.number ≢ s.number → charge_of_task (set charges cpu None) t ≡ charge_of_task charges t
same_stranger charges cpu s t there other = elim (cases_eq t.cpu cpu) [
  | inl e ↦
      nobody_here charges cpu t e
      ∙ sym (ap (λ c. charge_by t.number (get_or charges c None)) e ∙ ap (charge_by t.number) there ∙ other_charge t.number s (λ k. other (sym k)))
  | inr apart ↦ same_elsewhere charges cpu None t apart
]

pub same_charges : (upto : ℕ) (charges new : List (Option OpenCharge)) (tasks : List Task) → ((k : ℕ) (d : Task) → k < length tasks → charge_of_task new (get_or tasks k d) ≡ charge_of_task charges (get_or tasks k d)) → map (owed upto new) tasks ≡ map (owed upto charges) tasks
same_charges upto charges new tasks same = map_alike (owed upto new) (owed upto charges) tasks (λ k d h. ap (λ o. owed_by upto o (get_or tasks k d)) (same k d h))

pub same_waits : (charges new : List (Option OpenCharge)) (t : Task) → charge_of_task new t ≡ charge_of_task charges t → IsOpenIf charges t → IsOpenIf new t
same_waits charges new t same = subst (λ o. IfSome o (λ s. IsOpen s t)) (sym same)

pub none_waits : (charges : List (Option OpenCharge)) (t : Task) → charge_of_task charges t ≡ None → IsOpenIf charges t
none_waits charges t none = subst (λ o. IfSome o (λ s. IsOpen s t)) (sym none) tt

cpu_by : (upto : ℕ) (o : Option OpenCharge) (t : Task) → (owed_by upto o t).cpu ≡ t.cpu
cpu_by upto None t = refl
cpu_by upto (Some s) t = refl

module _ (upto cpu : ℕ) (charges : List (Option OpenCharge)) (tasks : List Task) (s : OpenCharge) (there : get_or charges cpu None ≡ Some s) where
  -- the task that has an open charge is not listed
  pub lost_view : IsUnlisted tasks s.number → map (owed upto (set charges cpu None)) tasks ≡ map (owed upto charges) tasks
  lost_view absent = same_charges upto charges (set charges cpu None) tasks (λ k d h. same_stranger charges cpu s (get_or tasks k d) there (absent k d h))

  pub lost_waits : IsUnlisted tasks s.number → AreOpen charges tasks → AreOpen (set charges cpu None) tasks
  lost_waits absent waits k d h = same_waits charges (set charges cpu None) (get_or tasks k d) (same_stranger charges cpu s (get_or tasks k d) there (absent k d h)) (waits k d h)

  module _ (p : ℕ) (x : Task) (inside : p < length tasks) (read : x ≡ get_or tasks p x) (number : x.number ≡ s.number) (numbered : AllPairs (λ a b. a.number ≢ b.number) tasks) where
    others : (k : ℕ) (d : Task) → k < length tasks → k ≢ p → charge_of_task (set charges cpu None) (get_or tasks k d) ≡ charge_of_task charges (get_or tasks k d)
    others k d h apart = same_stranger charges cpu s (get_or tasks k d) there (λ e. apart (one_index tasks k p d d numbered h inside (e ∙ sym number ∙ ap (λ (t : Task). t.number) (read ∙ get_or_default tasks p x d inside))))

    -- where it belongs to the CPU
    pub its_charge : x.cpu ≡ cpu → charge_of_task charges x ≡ Some s
    its_charge e = ap (λ c. charge_by x.number (get_or charges c None)) e ∙ ap (charge_by x.number) there ∙ ap (λ b. cond b (Some s) None) (eq-eqb s.number x.number (sym number))

    charged_here : x.cpu ≡ cpu → charged_on cpu upto s x ≡ owed upto charges x
    charged_here e = ap (λ b. cond b (owed_by upto (Some s) x) x) (eq-eqb x.cpu cpu e) ∙ ap (λ o. owed_by upto o x) (sym (its_charge e))

    charged_there : x.cpu ≢ cpu → charged_on cpu upto s x ≡ x
    charged_there apart = ap (λ b. cond b (owed_by upto (Some s) x) x) (ne_eqb x.cpu cpu apart)

    gone_here : x.cpu ≡ cpu → charge_of_task (set charges cpu None) (charged_on cpu upto s x) ≡ None
    gone_here e = ap (charge_of_task (set charges cpu None)) (charged_here e) ∙ nobody_here charges cpu (owed upto charges x) (cpu_by upto (charge_of_task charges x) x ∙ e)

    pub charge_waits : AreOpen charges tasks → x.cpu ≡ cpu → IsOpen s x
    charge_waits waits e = subst (λ o. IfSome o (λ r. IsOpen r x)) (its_charge e) (subst (IsOpenIf charges) (sym read) (waits p x inside))

    pub vacated_view : map (owed upto (set charges cpu None)) (set tasks p (charged_on cpu upto s x)) ≡ map (owed upto charges) tasks
    vacated_view = elim (cases_eq x.cpu cpu) [
      | inl e ↦
          owed_set upto charges (set charges cpu None) tasks p (charged_on cpu upto s x) (owed upto charges x) others (ap (λ o. owed_by upto o (charged_on cpu upto s x)) (gone_here e) ∙ charged_here e)
          ∙ ap (set (map (owed upto charges) tasks) p) (read_owed upto charges tasks p x inside read)
          ∙ set-get_or (map (owed upto charges) tasks) p (owed upto charges x)
      | inr apart ↦
          ap (λ (t : Task). map (owed upto (set charges cpu None)) (set tasks p t)) (charged_there apart ∙ read)
          ∙ ap (map (owed upto (set charges cpu None))) (set-get_or tasks p x)
          ∙ same_charges upto charges (set charges cpu None) tasks (λ k d h. elim (cases_eq k p) [
            | inl e ↦
                let is : x ≡ get_or tasks k d = read ∙ get_or_default tasks p x d inside ∙ ap (λ i. get_or tasks i d) (sym e) in
                subst (λ (t : Task). charge_of_task (set charges cpu None) t ≡ charge_of_task charges t) is (same_elsewhere charges cpu None x apart)
            | inr ne ↦ others k d h ne
          ])
    ]

    pub vacated_waits : AreOpen charges tasks → AreOpen (set charges cpu None) (set tasks p (charged_on cpu upto s x))
    vacated_waits waits k d h =
        let y = charged_on cpu upto s x in
        elim (cases_eq k p) [
          | inl e ↦
              let is : y ≡ get_or (set tasks p y) k d = sym (ap (λ i. get_or (set tasks p y) i d) e ∙ get_or-set_same tasks p y d inside) in
              subst (IsOpenIf (set charges cpu None)) is (elim (cases_eq x.cpu cpu) [
                | inl same ↦ none_waits (set charges cpu None) y (gone_here same)
                | inr apart ↦ subst (IsOpenIf (set charges cpu None)) (sym (charged_there apart)) (same_waits charges (set charges cpu None) x (same_elsewhere charges cpu None x apart) (subst (IsOpenIf charges) (sym read) (waits p x inside)))
              ])
          | inr ne ↦
              let within : k < length tasks = omega (arith, h, length-set tasks p y) in
              subst (IsOpenIf (set charges cpu None)) (sym (get_or-set_other tasks p k y d ne)) (same_waits charges (set charges cpu None) (get_or tasks k d) (others k d within ne) (waits k d within))
        ]

-- ---- a CPU is taken

slide_none : (k rate : ℕ) (t : Task) → k ≡ 0 → slid_for k rate t ≡ t
slide_none k rate t e =
    let nought : rate * k ≡ 0 = rw e (omega arith) in
    let left : t.server.left -ℤ pos (rate * k) ≡ t.server.left = omega (arith, ints, nought) in
    let work : t.work - k ≡ t.work = omega (arith, e) in
    λ i. record t { server = record t.server { left = left i }; work = work i }

owes_none : (upto number : ℕ) (s : OpenCharge) (t : Task) → s.since ≡ upto → owed_by upto (charge_by number (Some s)) t ≡ t
owes_none upto number s t e = elim (eqb s.number number) as (λ b. owed_by upto (cond b (Some s) None) t ≡ t) [
  | true ↦ slide_none (upto - s.since) s.rate t (omega (arith, e))
  | false ↦ refl
]

module _ (upto cpu : ℕ) (charges : List (Option OpenCharge)) (s : OpenCharge) (free : get_or charges cpu None ≡ None) (inside : cpu < length charges) (since : s.since ≡ upto) where
  taken_here : (t : Task) → t.cpu ≡ cpu → charge_of_task (set charges cpu (Some s)) t ≡ charge_by t.number (Some s)
  taken_here t e = ap (λ c. charge_by t.number (get_or (set charges cpu (Some s)) c None)) e ∙ ap (charge_by t.number) (get_or-set_same charges cpu (Some s) None inside)

  free_here : (t : Task) → t.cpu ≡ cpu → charge_of_task charges t ≡ None
  free_here t e = ap (λ c. charge_by t.number (get_or charges c None)) e ∙ ap (charge_by t.number) free

  taken_owes : (t : Task) → owed upto (set charges cpu (Some s)) t ≡ owed upto charges t
  taken_owes t = elim (cases_eq t.cpu cpu) [
    | inl e ↦ ap (λ o. owed_by upto o t) (taken_here t e) ∙ owes_none upto t.number s t since ∙ ap (λ o. owed_by upto o t) (sym (free_here t e))
    | inr apart ↦ ap (λ o. owed_by upto o t) (same_elsewhere charges cpu (Some s) t apart)
  ]

  pub taken_view : (tasks : List Task) → map (owed upto (set charges cpu (Some s))) tasks ≡ map (owed upto charges) tasks
  taken_view tasks = map_alike (owed upto (set charges cpu (Some s))) (owed upto charges) tasks (λ k d h. taken_owes (get_or tasks k d))

  pub taken_waits : (tasks : List Task) → ((k : ℕ) (d : Task) → k < length tasks → (get_or tasks k d).cpu ≡ cpu → (get_or tasks k d).number ≡ s.number → IsOpen s (get_or tasks k d)) → AreOpen charges tasks → AreOpen (set charges cpu (Some s)) tasks
  taken_waits tasks was_started waits k d h =
      let t = get_or tasks k d in
      elim (cases_eq t.cpu cpu) [
        | inl e ↦ subst (λ o. IfSome o (λ r. IsOpen r t)) (sym (taken_here t e)) (by_number t (eqb s.number t.number) refl (λ n. was_started k d h e n))
        | inr apart ↦ same_waits charges (set charges cpu (Some s)) t (same_elsewhere charges cpu (Some s) t apart) (waits k d h)
      ]
    where
      by_number : (t : Task) (b : Bool) → eqb s.number t.number ≡ b → (t.number ≡ s.number → IsOpen s t) → IfSome (cond b (Some s) None) (λ r. IsOpen r t)
      by_number t true e was_started = was_started (sym (eqb-true s.number t.number e))
      by_number t false e was_started = tt

-- ---- each task with an open charge goes on by another open charge: as if its CPU had been left,
-- and taken again

module _ (upto cpu : ℕ) (charges : List (Option OpenCharge)) (tasks : List Task) (s next : OpenCharge) (there : get_or charges cpu None ≡ Some s) (inside : cpu < length charges) (since : next.since ≡ upto) (p : ℕ) (x y : Task) (within : p < length tasks) (read : x ≡ get_or tasks p x) (number : x.number ≡ s.number) (numbered : AllPairs (λ a b. a.number ≢ b.number) tasks) (home : x.cpu ≡ cpu) (charged : y ≡ owed_by upto (Some s) x) where
  abbrev left : List (Option OpenCharge)
  left = set charges cpu None

  was_charged : y ≡ charged_on cpu upto s x
  was_charged = charged ∙ sym (ap (λ b. cond b (owed_by upto (Some s) x) x) (eq-eqb x.cpu cpu home))

  in_left : cpu < length left
  in_left = omega (arith, inside, length-set charges cpu None)

  pub went_on_view : map (owed upto (set charges cpu (Some next))) (set tasks p y) ≡ map (owed upto charges) tasks
  went_on_view =
      ap (λ ss. map (owed upto ss) (set tasks p y)) (sym (set-set charges cpu None (Some next)))
      ∙ taken_view upto cpu left next (none_at charges cpu) in_left since (set tasks p y)
      ∙ ap (λ (t : Task). map (owed upto left) (set tasks p t)) was_charged
      ∙ vacated_view upto cpu charges tasks s there p x within read number numbered

  started_on : next.number ≡ s.number → IsOpen next y → (k : ℕ) (d : Task) → k < length (set tasks p y) → (get_or (set tasks p y) k d).number ≡ next.number → IsOpen next (get_or (set tasks p y) k d)
  started_on same waits k d h e = elim (cases_eq k p) [
    | inl at ↦ subst (IsOpen next) (sym (ap (λ i. get_or (set tasks p y) i d) at ∙ get_or-set_same tasks p y d within)) waits
    | inr other ↦
        let bound : k < length tasks = omega (arith, h, length-set tasks p y) in
        let its : (get_or tasks k d).number ≡ x.number = ap (λ (t : Task). t.number) (sym (get_or-set_other tasks p k y d other)) ∙ e ∙ same ∙ sym number in
        absurd (other (one_index tasks k p d d numbered bound within (its ∙ ap (λ (t : Task). t.number) (read ∙ get_or_default tasks p x d within))))
  ]

  pub went_on_waits : next.number ≡ s.number → IsOpen next y → AreOpen charges tasks → AreOpen (set charges cpu (Some next)) (set tasks p y)
  went_on_waits same waits all =
      subst (λ ss. AreOpen ss (set tasks p y)) (set-set charges cpu None (Some next))
      (taken_waits upto cpu left next (none_at charges cpu) in_left since (set tasks p y) (λ k d h e n. started_on same waits k d h n)
      (subst (λ (t : Task). AreOpen left (set tasks p t)) (sym was_charged) (vacated_waits upto cpu charges tasks s there p x within read number numbered all)))

-- an open charge that ends with the work or the budget of its task, whichever is first
pub waits_until : (s : OpenCharge) (t : Task) (spent left : ℕ) → MayStart t → pos left ≡ t.server.left → s.end - s.since ≡ min t.work spent → s.rate * (spent - 1) < left → 0 < s.rate → IsRatedBy s.claim s.rate t → IsOpen s t
waits_until s t spent left may is span lasted turns rated =
    let m : s.rate * (s.end - s.since - 1) ≤ s.rate * (spent - 1) = mul-le-mul_left s.rate (omega (arith, span)) in
    record {
      ready = may.ready;
      worked = omega (arith, span);
      lasted = omega (arith, ints, is, m, lasted);
      high = may.high;
      turns = turns;
      rated = rated;
    }

-- ---- whose charge is to open has an open charge

at_rate : (rate : ℕ) (o : Option OpenCharge) (s : OpenCharge) → o ≡ Some s → s.rate ≡ rate → IsAtRate rate o
at_rate rate o s is e = subst (IsAtRate rate) (sym is) e

pub right_rate : (n number rate other : ℕ) (o : Option OpenCharge) → (n ≡ number → rate ≡ other) → IsRight (Some n) number rate o → IsRight (Some n) number other o
right_rate n number rate other o same is = (λ e. subst (λ r. IsAtRate r o) (same e) (is.0 e), is.1)

rated_on : (kept : Option Claim) (rate : ℕ) (t : Task) (b : Basis) → IfSome kept (IsOn b) → IsRatedBy kept rate t → rate ≡ rate_by b t
rated_on None rate t b on rated = rated b
rated_on (Some k) rate t b on rated =
    rated.is
    ∙ (λ i. reclaiming.rate_charged (on.charged i) (on.limit i))
    ∙ ap (λ n. reclaiming.rate_charged (max n (b.share - b.uinact)) b.limit) rated.bw
    ∙ sym (ap (λ r. cond r (reclaiming.rate_charged (max t.params.bw (b.share - b.uinact)) b.limit) unit) rated.reclaims)

-- each task with an open charge on a basis that is still right, is right
pub basis_right : (upto cpu n : ℕ) (charges : List (Option OpenCharge)) (items : List Task) (s : OpenCharge) (b : Basis) → charge_by n (get_or charges cpu None) ≡ Some s → IfSome s.claim (IsOn b) → AreOpen charges items → All (λ t. t.cpu ≡ cpu → IsRight (Some n) t.number (rate_by b t) (charge_of_task charges t)) (map (owed upto charges) items)
basis_right upto cpu n charges items s b was_started same waits k d h e =
    let f = owed upto charges in
    let many : length (map f items) ≡ length items = simp length-map in
    let inside : k < length items = omega (arith, h, many) in
    let x = get_or items k d in
    let t = get_or (map f items) k d in
    let read : t ≡ f x = get_or-map f items k d d inside in
    let a = alike_owed upto charges x in
    let here : charge_of_task charges t ≡ charge_by t.number (get_or charges cpu None) = ap (λ c. charge_by t.number (get_or charges c None)) e in
    let at = is_charging n (get_or charges cpu None) s was_started in
    let cpu_is : x.cpu ≡ cpu = sym a.cpu ∙ ap (λ (u : Task). u.cpu) (sym read) ∙ e in
    let number_is : x.number ≡ t.number = sym a.number ∙ ap (λ (u : Task). u.number) (sym read) in
    let params : x.params ≡ t.params = sym a.params ∙ ap (λ (u : Task). u.params) (sym read) in (
      λ q.
          let its : charge_of_task charges x ≡ Some s = (λ i. charge_by ((number_is ∙ sym q) i) (get_or charges (cpu_is i) None)) ∙ was_started in
          let w : IsOpen s x = subst (λ o. IfSome o (λ r. IsOpen r x)) its (waits k d inside) in
          at_rate (rate_by b t) (charge_of_task charges t) s (here ∙ ap (λ m. charge_by m (get_or charges cpu None)) (sym q) ∙ was_started)
          (rated_on s.claim s.rate x b same w.rated ∙ (λ i. reclaiming.rate_on (params i) b.uinact b.share b.limit)),
      λ q. here ∙ ap (charge_by t.number) at.at ∙ other_charge t.number s (λ z. q (sym at.its ∙ z)),
    )

-- ---- the task table, where an open charge changes

abbrev pub task_table_view : RunQueue → OpenChargesView → List Task → TaskTableView
task_table_view queue s tasks = record {
  cpus = length queue.accounts.all;
  clock = s.upto;
  charges = s.charges;
  places = queue.schedule.places;
  moves = queue.schedule.moves;
  tasks = owed_all s tasks;
}

pub view_again : (queue : RunQueue) (cpu : ℕ) (o : Option OpenCharge) (s v : OpenChargesView) (items after : List Task) (r : TaskTableView) → task_table_view queue s items ≡ r → v ≡ record s { charges = set s.charges cpu o } → owed_all v after ≡ owed_all s items → task_table_view queue v after ≡ record r { charges = set r.charges cpu o }
view_again queue cpu o s v items after r view are same =
    (λ i. record (task_table_view queue s items) { clock = (are i).upto; charges = (are i).charges; tasks = same i })
    ∙ ap (λ (x : TaskTableView). record x { charges = set x.charges cpu o }) view

pub kept_again : (queue : RunQueue) (s v : OpenChargesView) (items after : List Task) (d e : StaleCharges) → IsKept queue s items d → owed_all v after ≡ owed_all s items → AreOpen v.charges after → length v.charges ≡ length s.charges → AreSettled e (length queue.accounts.all) queue.schedule.places v.charges (owed_all v after) → IsKept queue v after e
kept_again queue s v items after d e is same waits long settled = record {
  counted = subst (IsCounted (length queue.accounts.all) queue) (sym same) is.counted;
  waits = waits;
  wide = long ∙ is.wide;
  settled = settled;
}

-- the task of a number is at one place
pub only_at : (tasks : List Task) (number p k : ℕ) (d : Task) → AllPairs (λ a b. a.number ≢ b.number) tasks → IsListedAt tasks number p → k < length tasks → (get_or tasks k d).number ≡ number → k ≡ p
only_at tasks number p k d numbered at h e = one_index tasks k p d d numbered h at.within (e ∙ sym (at.is d))

module _ (upto : ℕ) (charges : List (Option OpenCharge)) (tasks : List Task) (number p : ℕ) (x : Task) (read : x ≡ get_or tasks p x) (at : IsListedAt (map (owed upto charges) tasks) number p) where
  pub inside_at : p < length tasks
  inside_at = let many : length (map (owed upto charges) tasks) ≡ length tasks = simp length-map in let h = at.within in omega (arith, h, many)
