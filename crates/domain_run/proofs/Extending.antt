-- A running task that has work again where its work ends: its open charge stays, and ends later.
use Rattle.std.proofs.Common.{◌≡◌, ◌≢◌, ℕ, zero, suc, ◌+◌, ◌-◌, ◌*◌, ◌<◌, ◌≤◌, true, false, cond, eqb, Option, Some, None, List, [], ◌∷◌, length, map, get_or, set, refl, sym, ap, ◌∙◌, subst, arith, inl, inr, eq-eqb}
use Rattle.std.specs.Prelude.{ℤ, pos, ◌-ℤ◌, ◌/◌, All, AllPairs, IfSome, IsTrue}
use Rattle.std.specs.Int.{bit_at}
use Rattle.std.proofs.Math.Seq.{map-set_same}
use Rattle.std.proofs.lemmas.Int.{ints}
use Rattle.std.proofs.lemmas.Bool.{cases_eq, ne_eqb}
use Rattle.std.proofs.lemmas.List.{get_or_default, get_or-set_other, get_or-set_same, length-set}
use Rattle.std.proofs.lemmas.List.Elements.{All-set}
use Rattle.std.proofs.Math.Nat.{mul-le-mul_left}
use Rattle.std.proofs.lemmas.Option.{same_Some}
use Rattle.due_times.specs.declared.stale.StaleCharges.{StaleCharges}
use Rattle.due_times.specs.declared.charges.OpenCharge.{OpenCharge}
use Rattle.due_times.specs.declared.charges.Basis.{Basis}
use Rattle.due_times.specs.declared.charges.Claim.{Claim}
use Rattle.due_times.specs.OpenCharges.{charge_by, ending_at, IsAhead}
use Rattle.edf_pick.specs.Places.{Places}
use Rattle.grub_rules.specs.Sums.{uinact}
use Rattle.task_script.specs.declared.script.Segment.{Segment}
use Rattle.task_script.specs.declared.script.Segment.TheVariants.{Run as RunFor, Until, Wait as WaitFor, End}
use Rattle.task_script.specs.script.Segments.{next_segment, work_in}
use Rattle.domain_run.specs.declared.task.Task.{Task}
use Rattle.domain_run.specs.declared.task.Condition.{Condition}
use Rattle.domain_run.specs.declared.run_queue.RunQueue.{RunQueue}
use Rattle.domain_run.specs.declared.task_table.extending.More.{More}
use Rattle.domain_run.specs.Conditions.{is_ready, is_contending}
use Rattle.domain_run.specs.Parts.{running_on, went_on, goes_on}
use Rattle.domain_run.specs.Sound.{IsTimed, IsSound, occupant}
use Rattle.domain_run.specs.Tick.{share_of, shares}
use Rattle.domain_run.specs.private.StaleCharges.{IsSettled, IsFree, noted_basis, AreSettled}
use Rattle.domain_run.specs.private.Extending.{with_more, GoesOn, MayExtend, HasGoneOn}
use Rattle.domain_run.specs.private.RunQueue.{IsCounted}
use Rattle.domain_run.specs.private.Owed.{charge_of_task, owed_by, owed, IsOpen, IsOpenIf, AreOpen, IsRatedBy, passed_by, time_passed}
use Rattle.domain_run.proofs.Counting.{same_fit, home_at, turned}
use Rattle.domain_run.proofs.DeferringTimers.{either_lag, lag_contending, length_lags, read_lags}
use Rattle.domain_run.proofs.Jumping.{map_twice}
use Rattle.domain_run.proofs.Later.{map_set_to}
use Rattle.domain_run.proofs.Paying.{is_Ready}
use Rattle.domain_run.proofs.Placing.{one_index}
use Rattle.domain_run.proofs.Chargings.{its_charge, charge_waits, same_elsewhere, same_waits}
use Rattle.domain_run.proofs.Owed.{alike_owed, numbered_unlike, other_charge, owed_set}
use Rattle.domain_run.proofs.Bare.{inside_seen, seen_at}
use Rattle.domain_run.specs.private.Index.{IsListedAt}
use Rattle.domain_run.specs.private.TaskTable.{TaskTableView, without_zero_lag}
use Rattle.domain_run.specs.private.DeferringTimers.{with_lag, with_lags, passed_bare, IsBare}
use Rattle.domain_run.proofs.Chargings.{task_table_view}
use Rattle.due_times.specs.OpenCharges.{OpenChargesView}

rated_still : (o : Option Claim) (rate time work : ℕ) (t : Task) → IsRatedBy o rate t → IsRatedBy o rate (with_more time work t)
rated_still None rate time work t rated = rated
rated_still (Some k) rate time work t rated = record { reclaims = rated.reclaims; bw = rated.bw; is = rated.is }

-- ---- the open charge of a CPU ends at another time

module _ (cpu end : ℕ) (charges : List (Option OpenCharge)) (s : OpenCharge) (there : get_or charges cpu None ≡ Some s) (wide : cpu < length charges) where
  abbrev later_charges : List (Option OpenCharge)
  later_charges = set charges cpu (Some (ending_at end s))

  pub its_later : (t : Task) → t.cpu ≡ cpu → t.number ≡ s.number → charge_of_task later_charges t ≡ Some (ending_at end s)
  its_later t home number =
      ap (λ c. charge_by t.number (get_or later_charges c None)) home
      ∙ ap (charge_by t.number) (get_or-set_same charges cpu (Some (ending_at end s)) None wide)
      ∙ ap (λ b. cond b (Some (ending_at end s)) None) (eq-eqb s.number t.number (sym number))

  pub other_later : (t : Task) → t.number ≢ s.number → charge_of_task later_charges t ≡ charge_of_task charges t
  other_later t other = elim (cases_eq t.cpu cpu) [
    | inl e ↦
        ap (λ c. charge_by t.number (get_or later_charges c None)) e
        ∙ ap (charge_by t.number) (get_or-set_same charges cpu (Some (ending_at end s)) None wide)
        ∙ other_charge t.number (ending_at end s) (λ k. other (sym k))
        ∙ sym (ap (λ c. charge_by t.number (get_or charges c None)) e ∙ ap (charge_by t.number) there ∙ other_charge t.number s (λ k. other (sym k)))
    | inr apart ↦ same_elsewhere charges cpu (Some (ending_at end s)) t apart
  ]

-- ---- A TASK THAT GOES ON

pub work_is : (s : Segment) (n : ℕ) → work_in s ≡ Some n → s ≡ RunFor n
work_is (RunFor m) n e = ap (λ k. RunFor k) (same_Some m n e)
work_is (Until u) n e = absurd cc
work_is WaitFor n e = absurd cc
work_is End n e = absurd cc

-- with that work at once it comes to the same as where it asks for it then
pub went_on_by : (time ticks work : ℕ) (s : OpenCharge) (end : ℕ) (t : Task) → GoesOn time ticks s.rate work t → passed_by time ticks (Some (ending_at end s)) (with_more time work t) ≡ passed_by time ticks (Some s) t
went_on_by time ticks work s end t is =
    let left : ℤ = t.server.left -ℤ pos (s.rate * ticks) in
    let c = (next_segment t.cursor time).cursor in
    let u : Task = record t { server = record t.server { left = left }; work = t.work - ticks } in
    let v : Task = record t { server = record t.server { left = left }; work = work; cursor = c } in
    let worked = is.worked in
    let some = is.some in
    let more : t.work + work - ticks ≡ work = omega (arith, worked) in
    let none : eqb (t.work - ticks) 0 ≡ true = eq-eqb (t.work - ticks) 0 (omega (arith, worked)) in
    let busy : eqb work 0 ≡ false = ne_eqb work 0 (λ e. absurd (omega (arith, e, some))) in
    ap (λ n. cond (eqb n 0) (goes_on time (record v { work = n }) (next_segment c time)) (running_on (record v { work = n }))) more
    ∙ ap (λ b. cond b (goes_on time v (next_segment c time)) (running_on v)) busy
    ∙ sym (ap (λ b. cond b (goes_on time u (next_segment t.cursor time)) (running_on u)) none ∙ ap (λ g. went_on time g (record u { cursor = c })) (work_is (next_segment t.cursor time).segment work is.asked))

pub more_sound : (time work : ℕ) (t : Task) → IsTrue (is_ready t.condition) → 0 < work → (next_segment t.cursor time).cursor.reference ≤ time → IsSound time t → IsSound time (with_more time work t)
more_sound time work t ready some order is = record {
  served = is.served;
  spent = is.spent;
  lifted = is.lifted;
  dated = is.dated;
  busy = λ h. omega (arith, some);
  timed = subst (λ (k : Condition). IsTimed time k (next_segment t.cursor time).cursor.reference) (sym (is_Ready t.condition ready)) order;
}

module _ (time ticks cpu work end : ℕ) (charges : List (Option OpenCharge)) (tasks : List Task) (s : OpenCharge) (there : get_or charges cpu None ≡ Some s) (wide : cpu < length charges) (p : ℕ) (x : Task) (inside : p < length tasks) (read : x ≡ get_or tasks p x) (number : x.number ≡ s.number) (home : x.cpu ≡ cpu) (apart : (i : ℕ) (d : Task) → i < length tasks → i ≢ p → (get_or tasks i d).number ≢ s.number) (goes : GoesOn time ticks s.rate work x) where
  pub gone_on_passes : map (time_passed time ticks (set charges cpu (Some (ending_at end s)))) (set tasks p (with_more time work x)) ≡ map (time_passed time ticks charges) tasks
  gone_on_passes =
      map_set_to (time_passed time ticks (set charges cpu (Some (ending_at end s)))) (time_passed time ticks charges) tasks p (with_more time work x)
      (λ i d h ne. ap (λ o. passed_by time ticks o (get_or tasks i d)) (other_later cpu end charges s there wide (get_or tasks i d) (apart i d h ne)))
      (λ d.
      ap (λ o. passed_by time ticks o (with_more time work x)) (its_later cpu end charges s there wide (with_more time work x) home number)
      ∙ went_on_by time ticks work s end x goes
      ∙ sym (ap (time_passed time ticks charges) (sym (read ∙ get_or_default tasks p x d inside)) ∙ ap (λ o. passed_by time ticks o x) is_charging))
    where
      is_charging : charge_of_task charges x ≡ Some s
      is_charging = ap (λ c. charge_by x.number (get_or charges c None)) home ∙ ap (charge_by x.number) there ∙ ap (λ b. cond b (Some s) None) (eq-eqb s.number x.number (sym number))

-- ---- as it is stored

module _ (upto time cpu : ℕ) (charges : List (Option OpenCharge)) (items : List Task) (s : OpenCharge) (there : get_or charges cpu None ≡ Some s) (wide : cpu < length charges) (p : ℕ) (x : Task) (inside : p < length items) (read : x ≡ get_or items p x) (number : x.number ≡ s.number) (home : x.cpu ≡ cpu) (numbered : AllPairs (λ a b. a.number ≢ b.number) items) (waits : AreOpen charges items) (ahead : IsAhead upto s) (ticks : ℕ) (m : More) (may : MayExtend (upto + ticks) time s m x) where
  abbrev after : List (Option OpenCharge)
  after = set charges cpu (Some (ending_at m.end s))

  abbrev y : Task
  y = with_more time m.work x

  its : charge_of_task charges x ≡ Some s
  its = its_charge upto cpu charges items s there p x inside read number numbered home

  w : IsOpen s x
  w = charge_waits upto cpu charges items s there p x inside read number numbered waits home

  others : (k : ℕ) (d : Task) → k < length items → k ≢ p → charge_of_task after (get_or items k d) ≡ charge_of_task charges (get_or items k d)
  others k d h apart = other_later cpu m.end charges s there wide (get_or items k d) (λ e. apart (one_index items k p d d numbered h inside (e ∙ sym number ∙ ap (λ (t : Task). t.number) (read ∙ get_or_default items p x d inside))))

  seen : owed upto charges x ≡ owed_by upto (Some s) x
  seen = ap (λ o. owed_by upto o x) its

  one : owed upto after y ≡ with_more time m.work (owed upto charges x)
  one =
      let since = ahead.since in
      let soon = ahead.ahead in
      let worked = w.worked in
      let more : x.work + m.work - (upto - s.since) ≡ x.work - (upto - s.since) + m.work = omega (arith, since, soon, worked) in
      ap (λ o. owed_by upto o y) (its_later cpu m.end charges s there wide y home number)
      ∙ (λ i. record (owed_by upto (Some (ending_at m.end s)) y) { work = more i })
      ∙ sym (ap (with_more time m.work) seen)

  pub extended_view : map (owed upto after) (set items p y) ≡ set (map (owed upto charges) items) p (with_more time m.work (owed upto charges x))
  extended_view = owed_set upto charges after items p y (with_more time m.work (owed upto charges x)) others one

  waits_more : IsOpen (ending_at m.end s) y
  waits_more = record {
    ready = w.ready;
    worked = may.within;
    lasted = may.lasted;
    high = w.high;
    turns = w.turns;
    rated = rated_still s.claim s.rate time m.work x w.rated;
  }

  pub extended_waits : AreOpen after (set items p y)
  extended_waits k d h = elim (cases_eq k p) [
    | inl e ↦
        let is : y ≡ get_or (set items p y) k d = sym (ap (λ i. get_or (set items p y) i d) e ∙ get_or-set_same items p y d inside) in
        subst (IsOpenIf after) is (subst (λ o. IfSome o (λ q. IsOpen q y)) (sym (its_later cpu m.end charges s there wide y home number)) waits_more)
    | inr ne ↦
        let within : k < length items = omega (arith, h, length-set items p y) in
        subst (IsOpenIf after) (sym (get_or-set_other items p k y d ne)) (same_waits charges after (get_or items k d) (others k d within ne) (waits k d within))
  ]

  pub extended_goes : GoesOn time ticks s.rate m.work (owed upto charges x)
  extended_goes =
      let since = ahead.since in
      let later = may.later in
      let worked = may.worked in
      let lasted = may.lasted in
      let most : s.rate * (upto - s.since + ticks) ≤ s.rate * (m.end - s.since - 1) = mul-le-mul_left s.rate (omega (arith, since, later)) in
      let times : s.rate * (upto - s.since + ticks) ≡ s.rate * (upto - s.since) + s.rate * ticks = omega arith in
      subst (GoesOn time ticks s.rate m.work) (sym seen) (record {
        ready = w.ready;
        worked = omega (arith, since, worked);
        lasted = omega (arith, ints, lasted, most, times);
        some = may.some;
        asked = may.asked;
      })

-- ---- WHAT IS KEPT: the run queue and the marks do not see it

pub more_counted : (cpus time work : ℕ) (queue : RunQueue) (tasks : List Task) (p : ℕ) (x : Task) → p < length tasks → x ≡ get_or tasks p x → IsCounted cpus queue tasks → IsCounted cpus queue (set tasks p (with_more time work x))
more_counted cpus time work queue tasks p x h read is =
    let t = get_or tasks p x in
    let fit = same_fit cpus t (with_more time work t) (record { number = refl; params = refl; cpu = refl }) (is.task_table.short p x h) (home_at cpus queue tasks p x h is) in
    subst (λ (u : Task). IsCounted cpus queue (set tasks p (with_more time work u))) (sym read)
    (turned cpus queue queue tasks p x (with_more time work t) h fit
    (record {
      sums = record { cpus = refl; all = λ c. refl; active = λ c. refl; total = refl };
      order = inl (refl, refl);
      places = refl;
      due = inl (refl, refl);
    })
    is)

module _ (d : StaleCharges) (w : ℕ) (places : Places) (cpu time work end : ℕ) (charges : List (Option OpenCharge)) (tasks : List Task) (s : OpenCharge) (there : get_or charges cpu None ≡ Some s) (wide : cpu < length charges) (p : ℕ) (x : Task) (inside : p < length tasks) (read : x ≡ get_or tasks p x) where
  shares_same : shares (set tasks p (with_more time work x)) ≡ shares tasks
  shares_same = map-set_same share_of tasks p (with_more time work x) x (ap share_of read)

  settled_later : (o : Option ℕ) (b : Basis) → IsSettled o b (Some s) → IsSettled o b (Some (ending_at end s))
  settled_later None b is = absurd cc
  settled_later (Some n) b is = is

  pub more_settled : AreSettled d w places charges tasks → AreSettled d w places (set charges cpu (Some (ending_at end s))) (set tasks p (with_more time work x))
  more_settled are i few bare =
      let was = are i few bare in
      let basis : noted_basis d w tasks i ≡ noted_basis d w (set tasks p (with_more time work x)) i = λ j. record { uinact = uinact i ((sym shares_same) j); share = d.sum / w; limit = d.limit } in
      elim (cases_eq i cpu) [
        | inl e ↦
            let now : get_or charges i None ≡ Some s = ap (λ c. get_or charges c None) e ∙ there in
            let then : get_or (set charges cpu (Some (ending_at end s))) i None ≡ Some (ending_at end s) = ap (λ c. get_or (set charges cpu (Some (ending_at end s))) c None) e ∙ get_or-set_same charges cpu (Some (ending_at end s)) None wide in (
              subst (IsSettled (occupant places i) (noted_basis d w (set tasks p (with_more time work x)) i)) (sym then)
                  (settled_later (occupant places i) (noted_basis d w (set tasks p (with_more time work x)) i)
                  (subst (λ (b : Basis). IsSettled (occupant places i) b (Some s)) basis (subst (IsSettled (occupant places i) (noted_basis d w tasks i)) now was.0))),
              subst (IsFree (bit_at d.rated i)) (sym then) (subst (IsFree (bit_at d.rated i)) now was.1),
            )
        | inr other ↦
            let open_charge = sym (get_or-set_other charges cpu i (Some (ending_at end s)) None other) in (
              subst (IsSettled (occupant places i) (noted_basis d w (set tasks p (with_more time work x)) i)) open_charge
                  (subst (λ (b : Basis). IsSettled (occupant places i) b (get_or charges i None)) basis was.0),
              subst (IsFree (bit_at d.rated i)) open_charge was.1,
            )
      ]

-- ---- Each task with an open charge, as it is stored

pub record IsStored (time : ℕ) (s : OpenChargesView) (items : List Task) (cpu p : ℕ) (open_charge : OpenCharge) (x : Task) : Type 0 where
  pub there : get_or s.charges cpu None ≡ Some open_charge
  pub inside : p < length items
  pub number : x.number ≡ open_charge.number
  pub home : x.cpu ≡ cpu
  pub numbered : AllPairs (λ a b. a.number ≢ b.number) items
  pub seen : (d : Task) → owed s.upto s.charges x ≡ get_or (map (owed s.upto s.charges) items) p d
  pub waits : IsOpen open_charge x
  pub sound : IsSound time (owed s.upto s.charges x)
  pub timed : x.cursor.reference ≤ time
  pub cursor : (owed s.upto s.charges x).cursor ≡ x.cursor

pub stored_at : (time w : ℕ) (r : TaskTableView) (queue : RunQueue) (s : OpenChargesView) (items : List Task) (cpu p : ℕ) (open_charge : OpenCharge) (x : Task) → task_table_view queue s items ≡ r → IsCounted w queue (map (owed s.upto s.charges) items) → AreOpen s.charges items → get_or r.charges cpu None ≡ Some open_charge → IsListedAt r.tasks open_charge.number p → ((d : Task) → (get_or r.tasks p d).cpu ≡ cpu) → All (IsSound time) r.tasks → x ≡ get_or items p x → IsStored time s items cpu p open_charge x
stored_at time w r queue s items cpu p open_charge x view counted waits is_charging at home sound read =
    let tasks : map (owed s.upto s.charges) items ≡ r.tasks = ap (λ (v : TaskTableView). v.tasks) view in
    let there : get_or s.charges cpu None ≡ Some open_charge = ap (λ (v : TaskTableView). get_or v.charges cpu None) view ∙ is_charging in
    let at1 = subst (λ (ts : List Task). IsListedAt ts open_charge.number p) (sym tasks) at in
    let home1 = subst (λ (ts : List Task). (d : Task) → (get_or ts p d).cpu ≡ cpu) (sym tasks) home in
    let sound1 = subst (All (IsSound time)) (sym tasks) sound in
    let inside = inside_seen s.upto s.charges items p at1.within in
    let seen = seen_at s.upto s.charges items p x inside read in
    let a = alike_owed s.upto s.charges x in
    let number : x.number ≡ open_charge.number = sym a.number ∙ ap (λ (t : Task). t.number) (seen x) ∙ at1.is x in
    let home2 : x.cpu ≡ cpu = sym a.cpu ∙ ap (λ (t : Task). t.cpu) (seen x) ∙ home1 x in
    let numbered = numbered_unlike (owed s.upto s.charges) (alike_owed s.upto s.charges) items counted.task_table.numbered in
    let w = charge_waits s.upto cpu s.charges items open_charge there p x inside read number numbered waits home2 in
    let its = its_charge s.upto cpu s.charges items open_charge there p x inside read number numbered home2 in
    let one : IsSound time (owed s.upto s.charges x) = subst (IsSound time) (sym (seen x)) (sound1 p x at1.within) in
    let by : IsSound time (owed_by s.upto (Some open_charge) x) = subst (λ o. IsSound time (owed_by s.upto o x)) its one in
    record {
      there = there;
      inside = inside;
      number = number;
      home = home2;
      numbered = numbered;
      seen = seen;
      waits = w;
      sound = one;
      timed = subst (λ (k : Condition). IsTimed time k x.cursor.reference) (is_Ready x.condition w.ready) by.timed;
      cursor = ap (λ o. (owed_by s.upto o x).cursor) its;
    }

-- ---- ALL TASKS, as they are seen

pub any_task : (tasks : List Task) → 0 < length tasks → Task
any_task [] h = absurd (omega (arith, h))
any_task (t ∷ tasks) h = t

-- one that contends has no zero-lag time put back
more_lags : (past : ℕ) (lags : List (Option ℕ)) (tasks : List Task) (p : ℕ) (y : Task) → is_contending y.condition ≡ true → with_lags past lags (set tasks p y) ≡ set (with_lags past lags tasks) p y
more_lags past [] tasks p y contends = refl
more_lags past (lag ∷ lags) [] p y contends = refl
more_lags past (lag ∷ lags) (t ∷ tasks) zero y contends = ap (λ u. u ∷ with_lags past lags tasks) (lag_contending past lag y contends)
more_lags past (lag ∷ lags) (t ∷ tasks) (suc p) y contends = ap (λ ts. with_lag past lag t ∷ ts) (more_lags past lags tasks p y contends)

module _ (time k cpu p : ℕ) (open_charge : OpenCharge) (old new : TaskTableView) (is_charging : get_or old.charges cpu None ≡ Some open_charge) (wide : cpu < length old.charges) (at : IsListedAt old.tasks open_charge.number p) (home : (d : Task) → (get_or old.tasks p d).cpu ≡ cpu) (numbered : AllPairs (λ a b. a.number ≢ b.number) old.tasks) (on : HasGoneOn time k cpu p open_charge old new) where
  d : Task
  d = any_task old.tasks (let h = at.within in omega (arith, h))

  x : Task
  x = get_or old.tasks p d

  read : x ≡ get_or old.tasks p x
  unfolding x
  read = get_or_default old.tasks p d x at.within

  apart : (i : ℕ) (e : Task) → i < length old.tasks → i ≢ p → (get_or old.tasks i e).number ≢ open_charge.number
  apart i e h ne same = ne (one_index old.tasks i p e e numbered h at.within (same ∙ sym (at.is e)))

  pub on_passes : map (time_passed time k new.charges) new.tasks ≡ map (time_passed time k old.charges) old.tasks
  unfolding x
  on_passes =
      (λ i. map (time_passed time k (on.charges i)) (on.tasks d i))
      ∙ gone_on_passes time k cpu on.work on.end old.charges old.tasks open_charge is_charging wide p x at.within read (at.is d) (home d) apart (on.goes d)

  pub on_bare : map (passed_bare time k new.charges) new.tasks ≡ map (passed_bare time k old.charges) old.tasks
  on_bare =
      sym (map_twice without_zero_lag (time_passed time k new.charges) (passed_bare time k new.charges) new.tasks (λ i e h. refl))
      ∙ ap (map without_zero_lag) on_passes
      ∙ map_twice without_zero_lag (time_passed time k old.charges) (passed_bare time k old.charges) old.tasks (λ i e h. refl)

  pub on_lags : (past : ℕ) (lags : List (Option ℕ)) → map (time_passed time k new.charges) (with_lags past lags new.tasks) ≡ map (time_passed time k old.charges) (with_lags past lags old.tasks)
  unfolding x
  on_lags past lags =
      let contends : is_contending x.condition ≡ true = ap is_contending (is_Ready x.condition (on.goes d).ready) in
      let many = length_lags past lags old.tasks in
      let within = at.within in
      let inside : p < length (with_lags past lags old.tasks) = omega (arith, many, within) in
      let here : x ≡ get_or (with_lags past lags old.tasks) p x = sym (read_lags past lags old.tasks p x at.within ∙ ap (with_lag past (get_or lags p None)) (sym read) ∙ lag_contending past (get_or lags p None) x contends) in
      (λ i. map (time_passed time k (on.charges i)) (with_lags past lags (on.tasks d i)))
      ∙ ap (map (time_passed time k (set old.charges cpu (Some (ending_at on.end open_charge))))) (more_lags past lags old.tasks p (with_more time on.work x) contends)
      ∙ gone_on_passes time k cpu on.work on.end old.charges (with_lags past lags old.tasks) open_charge is_charging wide p x inside here (at.is d) (home d)
      (λ i e h ne same.
      let there : i < length old.tasks = omega (arith, h, many) in
      let one = either_lag (λ u. u.number ≡ (get_or old.tasks i e).number) past (get_or lags i None) (get_or old.tasks i e) refl (λ z. refl) in
      apart i e there ne (sym (ap (λ (t : Task). t.number) (read_lags past lags old.tasks i e there) ∙ one) ∙ same))
      (on.goes d)

  pub on_all_bare : All IsBare old.tasks → All IsBare new.tasks
  unfolding x
  on_all_bare bare =
      let was = bare p d at.within in
      subst (All IsBare) (sym (on.tasks d)) (All-set IsBare old.tasks p (with_more time on.work x) (record { lag = was.lag; fixed = was.fixed }) bare)
