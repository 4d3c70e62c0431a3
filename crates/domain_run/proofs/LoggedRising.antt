-- What happens in a domain rises: strictly by time, and at one time strictly by its order. Cuts
-- alone, which calls tell between two ticks, run where they come.
use Rattle.std.proofs.Common.{◌≡◌, ◌≢◌, ℕ, zero, suc, ◌+◌, ◌-◌, ◌<◌, Bool, true, false, cond, eqb, ◌&&◌, Option, Some, None, List, [], ◌∷◌, ◌++◌, map, refl, sym, subst, ◌∙◌, inl, inr, arith}
use Rattle.std.specs.Prelude.{ℤ, pos, All, AllPairs, ◌⊎◌, filter, slice_index_or}
use Rattle.std.specs.List.{flat_map}
use Rattle.std.proofs.lemmas.List.{append-nil, append_assoc}
use Rattle.std.proofs.lemmas.List.Elements.{All-nil, All-cons, All-head, All-tail, All-append, All-weaker, All-map}
use Rattle.std.proofs.lemmas.List.Kept.{AllPairs-cons, AllPairs-filter}
use Rattle.cbs_rules.specs.Serving.{charged}
use Rattle.edf_pick.specs.Places.{is_on_cpu}
use Rattle.domain_run.specs.declared.task.Task.{Task}
use Rattle.task_script.specs.declared.script.Segment.{Segment}
use Rattle.task_script.specs.declared.script.Segment.TheVariants.{Run as RunFor, Until, Wait as WaitFor, End as EndNow}
use Rattle.domain_run.specs.declared.happened.What.TheVariants.{JobEnds, NextReleased, Spent, Cut, Replenished, Released, WokenSpent}
use Rattle.domain_run.specs.declared.happened.Happened.{Happened}
use Rattle.domain_run.specs.declared.call.Call.{Call}
use Rattle.domain_run.specs.declared.call.Call.TheVariants.{Admit, Regrade, Wake, Leave, Advance, Limit, Depart, Arrive}
use Rattle.task_script.specs.script.Segments.{passes_late_timer, next_segment}
use Rattle.domain_run.specs.Conditions.{is_throttled, is_over, has_come}
use Rattle.domain_run.specs.Parts.{replenish_due, settled, is_listed, unblocked, with_last_cpu, ran}
use Rattle.domain_run.specs.Domain.{Domain}
use Rattle.domain_run.specs.Tick.{with_tick_begun, prepared, rate_of, ticks}
use Rattle.domain_run.specs.Calls.{reply_to, is_refusal, after_granted, after_call}
use Rattle.domain_run.specs.Happened.{happened_to, due, job_due, logged_by_segment, logged_by_work, logged_by_budget, logged_by_run, logged_if_ran, logged_by_replenishment, logged_by_wake, logged_by_unblocking, kind_rank, is_first, with_its_cpu, logged_to_begin, logged_by_beginning, logged_by_end, logged_by_tick, logged_by_ticks, logged_by_cut, logged_by_granted, logged_by_call}
use Rattle.domain_run.proofs.Keeping.{same_replenished, same_settled, AllPairs-map}
use Rattle.domain_run.proofs.KeptKeys.{AreNumbered, ticks_numbered, others_first, others_rest}
use Rattle.domain_run.proofs.OrderTicks.{prepared_apart}
use Rattle.domain_run.proofs.Homing.{homed_keeps}
use Rattle.domain_run.specs.private.Paying.{ran_until, index_of}
use Rattle.domain_run.specs.private.TransitionLog.{IsApart, logged_until, logged_paid, logged_paid_at}
use Rattle.domain_run.proofs.LoggedOrder.{passes}
use Rattle.domain_run.proofs.LoggedSorted.{pairs_first, pairs_rest, pairs_none, IsBefore, in_order_first}
use Rattle.domain_run.proofs.LoggedPay.{paid_own}
use Rattle.domain_run.proofs.LoggedChanges.{AreOf, all_others, apart_of}
use Rattle.domain_run.proofs.LoggedOf.{each_in_order, each_task, each_replenishment, each_unblocking, each_work, each_budget, each_end}

-- ---- what rises

-- earlier, or at the same time and first there
abbrev pub IsSooner : Happened → Happened → Type 0
IsSooner a b = (a.time < b.time) ⊎ ((a.time ≡ b.time) × (is_first a b ≡ true))

abbrev pub IsCut : Happened → Type 0
IsCut h = kind_rank h.what ≡ 3

-- where neither is a cut, the first is sooner
abbrev pub IsSoonerUnlessCut : Happened → Happened → Type 0
IsSoonerUnlessCut a b = (kind_rank a.what ≢ 3) → (kind_rank b.what ≢ 3) → IsSooner a b

abbrev pub IsRising : List Happened → Type 0
IsRising hs = AllPairs IsSoonerUnlessCut hs

-- ---- pairs of a list

pairs_append : {X : Type 0} (R : X → X → Type 0) (xs ys : List X) → AllPairs R xs → AllPairs R ys → All (λ x. All (R x) ys) xs → AllPairs R (xs ++ ys)
pairs_append R [] ys one two across = two
pairs_append R (x ∷ xs) ys one two across =
    AllPairs-cons R x (xs ++ ys) (All-append (R x) xs ys (pairs_first R x xs one) (All-head (λ x. All (R x) ys) x xs across))
    (pairs_append R xs ys (pairs_rest R x xs one) two (All-tail (λ x. All (R x) ys) x xs across))

across_by : {X : Type 0} (P Q : X → Type 0) (R : X → X → Type 0) (xs ys : List X) → ((x y : X) → P x → Q y → R x y) → All P xs → All Q ys → All (λ x. All (R x) ys) xs
across_by P Q R xs ys f one two = All-weaker P (λ x. All (R x) ys) (λ x p. All-weaker Q (R x) (λ y q. f x y p q) ys two) xs one

-- at one time
rising_at : (time : ℕ) (hs : List Happened) → All (λ h. h.time ≡ time) hs → AllPairs IsBefore hs → IsRising hs
rising_at time hs at before i j d less within x y = inr (at i d (omega (arith, less, within)) ∙ sym (at j d within), before i j d less within)

-- ---- of one task

by_rank : (a b : Happened) → kind_rank a.what < kind_rank b.what → IsApart a b
by_rank a b less = inl (λ e. absurd (omega (arith, less, e)))

apart_one : (h : Happened) → AllPairs IsApart (h ∷ [])
apart_one h = AllPairs-cons IsApart h [] (All-nil (IsApart h)) (pairs_none IsApart)

apart_two : (h g : Happened) → kind_rank h.what < kind_rank g.what → AllPairs IsApart (h ∷ g ∷ [])
apart_two h g less = AllPairs-cons IsApart h (g ∷ []) (All-cons (IsApart h) g [] (by_rank h g less) (All-nil (IsApart h))) (apart_one g)

apart_if : (b : Bool) (hs : List Happened) → AllPairs IsApart hs → AllPairs IsApart (cond b hs [])
apart_if true hs apart = apart
apart_if false hs apart = pairs_none IsApart

apart_replenishment : (time : ℕ) (t : Task) → AllPairs IsApart (logged_by_replenishment time t)
apart_replenishment time t =
    let h : Happened = happened_to time t (Replenished (due (replenish_due time t))) in
    apart_if (is_throttled t.condition && has_come time t.server.deadline) (h ∷ []) (apart_one h)

apart_wake : (time : ℕ) (t woken : Task) (s : Segment) → AllPairs IsApart (logged_by_wake time t woken s)
apart_wake time t woken (RunFor n) = by_throttle (is_throttled woken.condition)
  where
    h : Happened
    h = happened_to time t (Released (job_due time t))

    g : Happened
    g = happened_to time t (WokenSpent (due woken))

    by_throttle : (b : Bool) → AllPairs IsApart (h ∷ cond b (g ∷ []) [])
    by_throttle true = apart_two h g (omega arith)
    by_throttle false = apart_one h
apart_wake time t woken (Until n) = pairs_none IsApart
apart_wake time t woken WaitFor = pairs_none IsApart
apart_wake time t woken EndNow = pairs_none IsApart

apart_unblocking : (time : ℕ) (t : Task) → AllPairs IsApart (logged_by_unblocking time t)
apart_unblocking time t =
    let s = (next_segment t.cursor time).segment in
    apart_if (is_over time t.condition) (logged_by_wake time t (unblocked time t) s) (apart_wake time t (unblocked time t) s)

apart_segment : (time : ℕ) (t : Task) (late : Bool) (s : Segment) → AllPairs IsApart (logged_by_segment time t late s)
apart_segment time t late (RunFor n) =
    let h : Happened = happened_to time t JobEnds in
    let g : Happened = happened_to time t (NextReleased (job_due time t)) in
    apart_if late (h ∷ g ∷ []) (apart_two h g (omega arith))
apart_segment time t late (Until n) = apart_one (happened_to time t JobEnds)
apart_segment time t late WaitFor = apart_one (happened_to time t JobEnds)
apart_segment time t late EndNow = apart_one (happened_to time t JobEnds)

-- work that ends, and a budget that does
apart_both : (later : ℕ) (x y : Task) → AllPairs IsApart (logged_by_work later x ++ logged_by_budget later y)
apart_both later x y =
    let late = passes_late_timer x.cursor later in
    let s = (next_segment x.cursor later).segment in
    let h : Happened = happened_to later y (Spent (due y)) in
    let low : Happened → Type 0 = λ g. kind_rank g.what < 2 in
    let high : Happened → Type 0 = λ g. kind_rank g.what ≡ 2 in
    pairs_append IsApart (logged_by_work later x) (logged_by_budget later y)
    (apart_if (eqb x.work 0) (logged_by_segment later x late s) (apart_segment later x late s))
    (apart_if (is_throttled y.condition) (h ∷ []) (apart_one h))
    (across_by low high IsApart (logged_by_work later x) (logged_by_budget later y) (λ a b p q. by_rank a b (omega (arith, p, q))) (each_work low later x (λ w p. p)) (each_budget high later y (λ w p. p)))

apart_run : (time rate : ℕ) (t : Task) → AllPairs IsApart (logged_by_run time rate t)
apart_run time rate t = apart_both (time + 1) (record t { server = charged rate 1 t.server; work = t.work - 1 }) (ran time rate t)

pub apart_until : (time ticks : ℕ) (left : ℤ) (t : Task) → AllPairs IsApart (logged_until time ticks left t)
apart_until time ticks left t = apart_both time (record t { server = record t.server { left = left }; work = t.work - ticks }) (ran_until time ticks left t)

-- ---- of all tasks

abbrev pub OwnApart : (Task → List Happened) → Type 0
OwnApart f = (t : Task) → AllPairs IsApart (f t)

abbrev pub OwnOf : (Task → List Happened) → Type 0
OwnOf f = (t : Task) → AreOf t.number (f t)

pub apart_tasks : (f : Task → List Happened) (tasks : List Task) → OwnOf f → OwnApart f → AreNumbered tasks → AllPairs IsApart (flat_map f tasks)
apart_tasks f [] own apart numbered = pairs_none IsApart
apart_tasks f (t ∷ tasks) own apart numbered =
    let others : All (λ u. u.number ≢ t.number) tasks = All-weaker (λ u. t.number ≢ u.number) (λ u. u.number ≢ t.number) (λ u ne e. ne (sym e)) tasks (others_first t tasks numbered) in
    pairs_append IsApart (f t) (flat_map f tasks) (apart t) (apart_tasks f tasks own apart (others_rest t tasks numbered))
    (apart_of t.number (f t) (flat_map f tasks) (own t) (all_others f t.number tasks own others))

own_end : (d : Domain) → OwnOf (logged_if_ran d)
own_end d t = each_end (λ h. h.number ≡ t.number) d t (λ u same w low. same.number)

apart_end : (d : Domain) → OwnApart (logged_if_ran d)
apart_end d t = apart_if (is_on_cpu t.number d.curr) (logged_by_run d.time (rate_of d t) t) (apart_run d.time (rate_of d t) t)

-- so many ticks at once, by those who run
apart_paid : (time : ℕ) (running : List ℕ) (ticks : ℕ) (budgets : List ℤ) → OwnApart (logged_paid time running ticks budgets)
apart_paid time running ticks budgets t = by_index (index_of running t)
  where
    by_index : (o : Option ℕ) → AllPairs IsApart (logged_paid_at time ticks budgets o t)
    by_index None = pairs_none IsApart
    by_index (Some i) = apart_until time ticks (slice_index_or budgets i (pos 0)) t

pub paying_apart : (time : ℕ) (running : List ℕ) (ticks : ℕ) (budgets : List ℤ) (tasks : List Task) → AreNumbered tasks → AllPairs IsApart (flat_map (logged_paid time running ticks budgets) tasks)
paying_apart time running ticks budgets tasks numbered = apart_tasks (logged_paid time running ticks budgets) tasks (paid_own time running ticks budgets) (apart_paid time running ticks budgets) numbered

-- ---- WHERE A TICK BEGINS, and where it ends

abbrev pub IsBeginning : ℕ → Happened → Type 0
IsBeginning time h = (h.time ≡ time) × (3 < kind_rank h.what)

abbrev pub IsEnd : ℕ → Happened → Type 0
IsEnd time h = (h.time ≡ time) × (kind_rank h.what < 3)

-- what parts 1 to 3 log, before it is in its order
abbrev replenished_log : Domain → List Happened
replenished_log d = flat_map (logged_by_replenishment d.time) d.tasks

abbrev left_listed : Domain → List Task
left_listed d = filter is_listed (map (settled d.time) (map (replenish_due d.time) d.tasks))

abbrev woken_log : Domain → List Happened
woken_log d = flat_map (logged_by_unblocking d.time) (left_listed d)

-- whichever task it is
abbrev IsWhichever : Task → Type 0
IsWhichever t = Unit {0}

whichever : (tasks : List Task) → All IsWhichever tasks
whichever tasks k d h = tt

abbrev IsReplenishment : ℕ → Happened → Type 0
IsReplenishment time h = (h.time ≡ time) × (kind_rank h.what ≡ 4)

abbrev IsWake : ℕ → Happened → Type 0
IsWake time h = (h.time ≡ time) × (4 < kind_rank h.what)

replenished_are : (d : Domain) → All (IsReplenishment d.time) (replenished_log d)
replenished_are d = each_task IsWhichever (IsReplenishment d.time) (logged_by_replenishment d.time) d.tasks (λ t which. each_replenishment (IsReplenishment d.time) d.time t (λ w at. (refl, at))) (whichever d.tasks)

woken_are : (d : Domain) → All (IsWake d.time) (woken_log d)
woken_are d = each_task IsWhichever (IsWake d.time) (logged_by_unblocking d.time) (left_listed d) (λ t which. each_unblocking (IsWake d.time) d.time t (λ w at. (refl, at))) (whichever (left_listed d))

-- on another CPU each is what it was, of its kind and its number
each_home : (P : Happened → Type 0) (d : Domain) → ((h : Happened) → P h → P (with_its_cpu (with_tick_begun d).curr h)) → All P (logged_to_begin d) → All P (logged_by_beginning d)
each_home P d keeps all =
    let f = with_its_cpu (with_tick_begun d).curr in
    each_in_order P (map f (logged_to_begin d)) (All-map P f (logged_to_begin d) (All-weaker P (λ h. P (f h)) keeps (logged_to_begin d) all))

pub beginning_is : (d : Domain) → All (IsBeginning d.time) (logged_by_beginning d)
beginning_is d =
    each_home (IsBeginning d.time) d (λ h p. p)
    (All-append (IsBeginning d.time) (replenished_log d) (woken_log d)
    (All-weaker (IsReplenishment d.time) (IsBeginning d.time) (λ h p. (p.0, omega (arith, p.1))) (replenished_log d) (replenished_are d))
    (All-weaker (IsWake d.time) (IsBeginning d.time) (λ h p. (p.0, omega (arith, p.1))) (woken_log d) (woken_are d)))

numbered_map : (f : Task → Task) → ((t : Task) → (f t).number ≡ t.number) → (tasks : List Task) → AreNumbered tasks → AreNumbered (map f tasks)
numbered_map f keeps tasks numbered = AllPairs-map (λ a b. a.number ≢ b.number) f (λ a b h e. h (sym (keeps a) ∙ e ∙ keeps b)) tasks numbered

left_numbered : (d : Domain) → AreNumbered d.tasks → AreNumbered (left_listed d)
left_numbered d numbered =
    let due = map (replenish_due d.time) d.tasks in
    AllPairs-filter (λ (a b : Task). a.number ≢ b.number) is_listed (map (settled d.time) due)
    (numbered_map (settled d.time) (λ t. (same_settled d.time t).number) due (numbered_map (replenish_due d.time) (λ t. (same_replenished d.time t).number) d.tasks numbered))

own_replenishment : (time : ℕ) → OwnOf (logged_by_replenishment time)
own_replenishment time t = each_replenishment (λ h. h.number ≡ t.number) time t (λ w at. refl)

own_unblocking : (time : ℕ) → OwnOf (logged_by_unblocking time)
own_unblocking time t = each_unblocking (λ h. h.number ≡ t.number) time t (λ w at. refl)

pub beginning_apart : (d : Domain) → AreNumbered d.tasks → AllPairs IsApart (logged_to_begin d)
beginning_apart d numbered =
    let across : All (λ a. All (IsApart a) (woken_log d)) (replenished_log d) = across_by (IsReplenishment d.time) (IsWake d.time) IsApart (replenished_log d) (woken_log d) (λ a b p q. by_rank a b (omega (arith, p.1, q.1))) (replenished_are d) (woken_are d) in
    pairs_append IsApart (replenished_log d) (woken_log d)
    (apart_tasks (logged_by_replenishment d.time) d.tasks (own_replenishment d.time) (apart_replenishment d.time) numbered)
    (apart_tasks (logged_by_unblocking d.time) (left_listed d) (own_unblocking d.time) (apart_unblocking d.time) (left_numbered d numbered)) across

beginning_rises : (d : Domain) → AreNumbered d.tasks → IsRising (logged_by_beginning d)
beginning_rises d numbered =
    let f = with_its_cpu (with_tick_begun d).curr in
    let apart : AllPairs IsApart (map f (logged_to_begin d)) = AllPairs-map IsApart f (λ a b h. h) (logged_to_begin d) (beginning_apart d numbered) in
    rising_at d.time (logged_by_beginning d) (All-weaker (IsBeginning d.time) (λ h. h.time ≡ d.time) (λ h p. p.0) (logged_by_beginning d) (beginning_is d)) (in_order_first (map f (logged_to_begin d)) apart)

pub ending_is : (d : Domain) → All (IsEnd (d.time + 1)) (logged_by_end d)
ending_is d =
    each_in_order (IsEnd (d.time + 1)) (flat_map (logged_if_ran d) d.tasks)
    (each_task IsWhichever (IsEnd (d.time + 1)) (logged_if_ran d) d.tasks (λ t which. each_end (IsEnd (d.time + 1)) d t (λ u same w low. (refl, low))) (whichever d.tasks))

ending_rises : (d : Domain) → AreNumbered d.tasks → IsRising (logged_by_end d)
ending_rises d numbered =
    rising_at (d.time + 1) (logged_by_end d) (All-weaker (IsEnd (d.time + 1)) (λ h. h.time ≡ d.time + 1) (λ h p. p.0) (logged_by_end d) (ending_is d)) (in_order_first (flat_map (logged_if_ran d) d.tasks) (apart_tasks (logged_if_ran d) d.tasks (own_end d) (apart_end d) numbered))

-- ---- TICKS: what is logged is logged until a time, and the next beginning is after it

abbrev IsPast : ℕ → Happened → Type 0
IsPast time h = (h.time < time) ⊎ ((h.time ≡ time) × (kind_rank h.what < 4))

pub record RisesTo (time : ℕ) (hs : List Happened) : Type 0 where
  pub rising : IsRising hs
  pub past : All (IsPast time) hs

past_begins : (time : ℕ) (a b : Happened) → IsPast time a → IsBeginning time b → IsSoonerUnlessCut a b
past_begins time a b (inl less) at = λ x y. inl (omega (arith, less, at.0))
past_begins time a b (inr is) at = λ x y. inr (is.0 ∙ sym at.0, passes a b (inl (omega (arith, is.1, at.1))))

past_ends : (time : ℕ) (a b : Happened) → IsPast time a → IsEnd (time + 1) b → IsSoonerUnlessCut a b
past_ends time a b (inl less) at = λ x y. inl (omega (arith, less, at.0))
past_ends time a b (inr is) at = λ x y. inl (omega (arith, is.0, at.0))

begins_ends : (time : ℕ) (a b : Happened) → IsBeginning time a → IsEnd (time + 1) b → IsSoonerUnlessCut a b
begins_ends time a b is at = λ x y. inl (omega (arith, is.0, at.0))

past_later : (time : ℕ) (a : Happened) → IsPast time a → IsPast (time + 1) a
past_later time a (inl less) = inl (omega (arith, less))
past_later time a (inr is) = inl (omega (arith, is.0))

begins_past : (time : ℕ) (a : Happened) → IsBeginning time a → IsPast (time + 1) a
begins_past time a is = inl (omega (arith, is.0))

ends_past : (time : ℕ) (a : Happened) → IsEnd time a → IsPast time a
ends_past time a is = inr (is.0, omega (arith, is.1))

begun_numbered : (d : Domain) → AreNumbered d.tasks → AreNumbered (with_tick_begun d).tasks
begun_numbered d numbered = numbered_map (with_last_cpu (with_tick_begun d).curr) (homed_keeps (with_tick_begun d).curr) (prepared d.time d.tasks) (prepared_apart d.time d.tasks numbered)

with_beginning : (d : Domain) (hs : List Happened) → AreNumbered d.tasks → RisesTo d.time hs → IsRising (hs ++ logged_by_beginning d)
with_beginning d hs numbered to =
    let more = logged_by_beginning d in
    pairs_append IsSoonerUnlessCut hs more to.rising (beginning_rises d numbered) (across_by (IsPast d.time) (IsBeginning d.time) IsSoonerUnlessCut hs more (past_begins d.time) to.past (beginning_is d))

-- one way or the other before the end of a tick
abbrev IsBeforeEnd : ℕ → Happened → Type 0
IsBeforeEnd time h = IsPast time h ⊎ IsBeginning time h

before_ends : (time : ℕ) (a b : Happened) → IsBeforeEnd time a → IsEnd (time + 1) b → IsSoonerUnlessCut a b
before_ends time a b (inl is) at = past_ends time a b is at
before_ends time a b (inr is) at = begins_ends time a b is at

before_past : (time : ℕ) (a : Happened) → IsBeforeEnd time a → IsPast (time + 1) a
before_past time a (inl is) = past_later time a is
before_past time a (inr is) = begins_past time a is

all_before : (d : Domain) (hs : List Happened) → RisesTo d.time hs → All (IsBeforeEnd d.time) (hs ++ logged_by_beginning d)
all_before d hs to =
    All-append (IsBeforeEnd d.time) hs (logged_by_beginning d) (All-weaker (IsPast d.time) (IsBeforeEnd d.time) (λ h p. inl p) hs to.past)
    (All-weaker (IsBeginning d.time) (IsBeforeEnd d.time) (λ h p. inr p) (logged_by_beginning d) (beginning_is d))

tick_rises : (d : Domain) (hs : List Happened) → AreNumbered d.tasks → RisesTo d.time hs → RisesTo (d.time + 1) (hs ++ logged_by_tick d)
tick_rises d hs numbered to =
    let front = logged_by_beginning d in
    let b : Domain = with_tick_begun d in
    let back = logged_by_end b in
    let later : ℕ = d.time + 1 in
    let ends : All (IsEnd later) back = ending_is b in
    let before = all_before d hs to in
    subst (RisesTo later) (append_assoc hs front back) (record {
      rising = pairs_append IsSoonerUnlessCut (hs ++ front) back (with_beginning d hs numbered to) (ending_rises b (begun_numbered d numbered)) (across_by (IsBeforeEnd d.time) (IsEnd later) IsSoonerUnlessCut (hs ++ front) back (before_ends d.time) before ends);
      past = All-append (IsPast later) (hs ++ front) back (All-weaker (IsBeforeEnd d.time) (IsPast later) (before_past d.time) (hs ++ front) before) (All-weaker (IsEnd later) (IsPast later) (ends_past later) back ends);
    })

-- nothing more
with_none : (time : ℕ) (hs : List Happened) → RisesTo time hs → RisesTo time (hs ++ [])
with_none time hs to = subst (RisesTo time) (sym (append-nil hs)) to

ticks_rise : (n : ℕ) (d : Domain) (hs : List Happened) → AreNumbered d.tasks → RisesTo d.time hs → RisesTo (ticks n d).time (hs ++ logged_by_ticks n d)
ticks_rise zero d hs numbered to = with_none d.time hs to
ticks_rise (suc n) d hs numbered to =
    let e : Domain = ticks n d in
    let seen = hs ++ logged_by_ticks n d in
    subst (RisesTo (e.time + 1)) (append_assoc hs (logged_by_ticks n d) (logged_by_tick e)) (tick_rises e seen (ticks_numbered n d numbered) (ticks_rise n d hs numbered to))

-- ---- A CALL

cuts_are : (time : ℕ) (tasks : List Task) → All (λ h. (h.time ≡ time) × IsCut h) (map (λ t. happened_to time t Cut) tasks)
cuts_are time tasks = All-map (λ (h : Happened). (h.time ≡ time) × IsCut h) (λ (t : Task). happened_to time t Cut) tasks (λ k d h. (refl, refl))

cut_rises : (d : Domain) (number : ℕ) (hs : List Happened) → RisesTo d.time hs → RisesTo d.time (hs ++ logged_by_cut d number)
cut_rises d number hs to =
    let ts = filter (λ (t : Task). eqb t.number number) d.tasks in
    let cuts = map (λ (t : Task). happened_to d.time t Cut) ts in
    let are : All (λ h. (h.time ≡ d.time) × IsCut h) cuts = cuts_are d.time ts in
    record {
      rising = pairs_append IsSoonerUnlessCut hs cuts to.rising (λ i j x less within a b. absurd (b (are j x within).1))
          (across_by (IsPast d.time) (λ h. (h.time ≡ d.time) × IsCut h) IsSoonerUnlessCut hs cuts (λ a b p q x y. absurd (y q.1)) to.past are);
      past = All-append (IsPast d.time) hs cuts to.past (All-weaker (λ h. (h.time ≡ d.time) × IsCut h) (IsPast d.time) (λ h p. inr (p.0, omega (arith, p.1))) cuts are);
    }

granted_rises : (d : Domain) (c : Call) (hs : List Happened) → AreNumbered d.tasks → RisesTo d.time hs → RisesTo (after_granted d c).time (hs ++ logged_by_granted d c)
granted_rises d (Admit number name params delay script) hs numbered to = with_none d.time hs to
granted_rises d (Regrade number params word) hs numbered to = with_none d.time hs to
granted_rises d (Wake number) hs numbered to = with_none d.time hs to
granted_rises d (Leave number) hs numbered to = cut_rises d number hs to
granted_rises d (Advance n) hs numbered to = ticks_rise n d hs numbered to
granted_rises d (Limit limit word) hs numbered to = with_none d.time hs to
granted_rises d (Depart number) hs numbered to = cut_rises d number hs to
granted_rises d (Arrive number name params script) hs numbered to = with_none d.time hs to

either_rises : (b : Bool) (d e : Domain) (hs gs : List Happened) → RisesTo d.time hs → RisesTo e.time (hs ++ gs) → RisesTo (cond b d e).time (hs ++ cond b [] gs)
either_rises true d e hs gs to more = with_none d.time hs to
either_rises false d e hs gs to more = more

-- what a call logs is after all that was logged before
pub call_rises : (d : Domain) (c : Call) (hs : List Happened) → AreNumbered d.tasks → RisesTo d.time hs → RisesTo (after_call d c).time (hs ++ logged_by_call d c)
call_rises d c hs numbered to = either_rises (is_refusal (reply_to d c)) d (after_granted d c) hs (logged_by_granted d c) to (granted_rises d c hs numbered to)

-- nothing was logged at first
pub none_rises : (time : ℕ) → RisesTo time []
none_rises time = record { rising = pairs_none IsSoonerUnlessCut; past = All-nil (IsPast time) }
