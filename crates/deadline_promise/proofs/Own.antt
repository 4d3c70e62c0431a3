-- What a tick does to the tasks of a number, and tells of them.
use Rattle.std.proofs.Common.{◌≡◌, ◌≢◌, ℕ, zero, suc, ◌+◌, ◌-◌, ◌<◌, Bool, true, false, cond, eqb, ◌&&◌, List, [], ◌∷◌, ◌++◌, length, map, get_or, refl, sym, ap, subst, ◌∙◌, arith, eq-eqb}
use Rattle.std.specs.Prelude.{All, AllPairs, filter}
use Rattle.std.specs.List.{flat_map}
use Rattle.std.proofs.lemmas.Bool.{false≢true, ne_eqb}
use Rattle.std.proofs.lemmas.List.Elements.{All-nil, All-cons, All-head, All-tail, All-append, filter-append}
use Rattle.edf_pick.specs.Places.{Places, is_on_cpu}
use Rattle.task_script.specs.declared.script.Segment.{Segment}
use Rattle.task_script.specs.declared.script.Segment.TheVariants.{Run as RunFor, Until, Wait as WaitFor, End}
use Rattle.task_script.specs.script.Segments.{passes_late_timer, next_segment}
use Rattle.cbs_rules.specs.Serving.{charged}
use Rattle.domain_run.specs.declared.task.Task.{Task}
use Rattle.domain_run.specs.declared.happened.Happened.{Happened}
use Rattle.domain_run.specs.declared.happened.What.{What}
use Rattle.domain_run.specs.declared.happened.What.TheVariants.{JobEnds, NextReleased, Spent, Replenished, Released, WokenSpent}
use Rattle.domain_run.specs.Conditions.{is_throttled, is_over, has_come}
use Rattle.domain_run.specs.Parts.{replenish_due, settled, is_listed, unblocked, with_last_cpu, ran}
use Rattle.domain_run.specs.Domain.{Domain}
use Rattle.domain_run.specs.Tick.{prepared, with_tick_begun, rate_of, ran_if, ticked}
use Rattle.domain_run.specs.Happened.{happened_to, due, job_due, logged_by_work, logged_by_budget, logged_by_segment, logged_by_run, logged_if_ran, logged_by_replenishment, logged_by_wake, logged_by_unblocking, with_happened, in_order, is_first, with_its_cpu, logged_to_begin}
use Rattle.domain_run.proofs.CallerLemmas.{AreNumbered}
use Rattle.run_figures.specs.Jobs.{of_task}
use Rattle.deadline_promise.proofs.Same.{same_replenished, same_settled, same_unblocked, same_homed, same_ran, same_ran_if}
use Rattle.deadline_promise.proofs.Waking.{logged_to_wake, woken_up}
use Rattle.deadline_promise.proofs.Ending.{IsBefore}

-- the listed tasks of a number
abbrev pub own : ℕ → List Task → List Task
own n ts = filter (λ t. eqb t.number n) ts

-- ---- lists
pub own_map : (n : ℕ) (f : Task → Task) → ((t : Task) → (f t).number ≡ t.number) → (ts : List Task) → own n (map f ts) ≡ map f (own n ts)
own_map n f same [] = refl
own_map n f same (t ∷ ts) =
    let rest = own_map n f same ts in
    ap (λ m. cond (eqb m n) (f t ∷ own n (map f ts)) (own n (map f ts))) (same t)
    ∙ elim (eqb t.number n) as (λ b. cond b (f t ∷ own n (map f ts)) (own n (map f ts)) ≡ map f (cond b (t ∷ own n ts) (own n ts))) [ true ↦ ap (λ l. f t ∷ l) rest | false ↦ rest ]

both_tests : (a b : Bool) (t : Task) (xs ys : List Task) → xs ≡ ys → cond a (cond b (t ∷ xs) xs) xs ≡ cond b (cond a (t ∷ ys) ys) ys
both_tests true true t xs ys e = ap (λ l. t ∷ l) e
both_tests true false t xs ys e = e
both_tests false true t xs ys e = e
both_tests false false t xs ys e = e

pub own_filter : (n : ℕ) (p : Task → Bool) (ts : List Task) → own n (filter p ts) ≡ filter p (own n ts)
own_filter n p [] = refl
own_filter n p (t ∷ ts) =
    let f = filter p ts in
    let o = own n ts in
    let one : own n (cond (p t) (t ∷ f) f) ≡ cond (p t) (cond (eqb t.number n) (t ∷ own n f) (own n f)) (own n f) =
    elim (p t) as (λ b. own n (cond b (t ∷ f) f) ≡ cond b (cond (eqb t.number n) (t ∷ own n f) (own n f)) (own n f)) [ true ↦ refl | false ↦ refl ] in
    let two : filter p (cond (eqb t.number n) (t ∷ o) o) ≡ cond (eqb t.number n) (cond (p t) (t ∷ filter p o) (filter p o)) (filter p o) =
    elim (eqb t.number n) as (λ b. filter p (cond b (t ∷ o) o) ≡ cond b (cond (p t) (t ∷ filter p o) (filter p o)) (filter p o)) [ true ↦ refl | false ↦ refl ] in
    one ∙ both_tests (p t) (eqb t.number n) t (own n f) (filter p o) (own_filter n p ts) ∙ sym two

-- one task has a number
own_none : (n : ℕ) (ts : List Task) → All (λ t. n ≢ t.number) ts → own n ts ≡ []
own_none n [] all = refl
own_none n (t ∷ ts) all =
    let other : eqb t.number n ≡ false = ne_eqb t.number n (λ e. All-head (λ (u : Task). n ≢ u.number) t ts all (sym e)) in
    ap (λ b. cond b (t ∷ own n ts) (own n ts)) other ∙ own_none n ts (All-tail (λ (u : Task). n ≢ u.number) t ts all)

pub own_one : (ts : List Task) (k : ℕ) (z : Task) → AreNumbered ts → k < length ts → own (get_or ts k z).number ts ≡ get_or ts k z ∷ []
own_one [] k z numbered within = absurd (omega (arith, within))
own_one (t ∷ ts) zero z numbered within =
    let others : All (λ (u : Task). t.number ≢ u.number) ts = λ j d h. numbered zero (suc j) d (omega arith) (omega (arith, h)) in
    ap (λ b. cond b (t ∷ own t.number ts) (own t.number ts)) (eq-eqb t.number t.number refl) ∙ ap (λ l. t ∷ l) (own_none t.number ts others)
own_one (t ∷ ts) (suc k) z numbered within =
    let n = (get_or ts k z).number in
    let rest : AreNumbered ts = λ i j d less h. numbered (suc i) (suc j) d (omega (arith, less)) (omega (arith, h)) in
    let inside : k < length ts = omega (arith, within) in
    let other : eqb t.number n ≡ false = ne_eqb t.number n (λ e. numbered zero (suc k) z (omega arith) within e) in
    ap (λ b. cond b (t ∷ own n ts) (own n ts)) other ∙ own_one ts k z rest inside

-- ---- what is logged of a task has its number
abbrev IsOf : ℕ → Happened → Type 0
IsOf m h = h.number ≡ m

of_all : (n m : ℕ) (hs : List Happened) → All (IsOf m) hs → of_task n hs ≡ cond (eqb m n) hs []
of_all n m [] all = elim (eqb m n) as (λ b. [] ≡ cond {A = List Happened} b [] []) [ true ↦ refl | false ↦ refl ]
of_all n m (h ∷ hs) all =
    let rest = of_all n m hs (All-tail (IsOf m) h hs all) in
    ap (λ k. cond (eqb k n) (h ∷ of_task n hs) (of_task n hs)) (All-head (IsOf m) h hs all)
    ∙ ap (λ l. cond (eqb m n) (h ∷ l) l) rest
    ∙ elim (eqb m n) as (λ b. cond b (h ∷ cond b hs []) (cond b hs []) ≡ cond b (h ∷ hs) []) [ true ↦ refl | false ↦ refl ]

own_logged : (n : ℕ) (f : Task → List Happened) → ((t : Task) → All (IsOf t.number) (f t)) → (ts : List Task) → of_task n (flat_map f ts) ≡ flat_map f (own n ts)
own_logged n f of [] = refl
own_logged n f of (t ∷ ts) =
    filter-append (λ (h : Happened). eqb h.number n) (f t) (flat_map f ts)
    ∙ ap (λ l. l ++ of_task n (flat_map f ts)) (of_all n t.number (f t) (of t))
    ∙ ap (λ l. cond (eqb t.number n) (f t) [] ++ l) (own_logged n f of ts)
    ∙ elim (eqb t.number n) as (λ b. cond b (f t) [] ++ flat_map f (own n ts) ≡ flat_map f (cond b (t ∷ own n ts) (own n ts))) [ true ↦ refl | false ↦ refl ]

all_if : (P : Happened → Type 0) (b : Bool) (xs : List Happened) → All P xs → All P (cond b xs [])
all_if P true xs all = all
all_if P false xs all = All-nil P

one_of : (time : ℕ) (t : Task) (what : What) → All (IsOf t.number) (happened_to time t what ∷ [])
one_of time t what = All-cons (IsOf t.number) (happened_to time t what) [] refl (All-nil (IsOf t.number))

two_of : (time : ℕ) (t : Task) (one two : What) → All (IsOf t.number) (happened_to time t one ∷ happened_to time t two ∷ [])
two_of time t one two = All-cons (IsOf t.number) (happened_to time t one) (happened_to time t two ∷ []) refl (one_of time t two)

of_replenishment : (time : ℕ) (t : Task) → All (IsOf t.number) (logged_by_replenishment time t)
of_replenishment time t =
    let what = Replenished (due (replenish_due time t)) in
    all_if (IsOf t.number) (is_throttled t.condition && has_come time t.server.deadline) (happened_to time t what ∷ []) (one_of time t what)

of_wake : (time : ℕ) (t w : Task) (s : Segment) → All (IsOf t.number) (logged_by_wake time t w s)
of_wake time t w (RunFor n) =
    let spent = happened_to time t (WokenSpent (due w)) in
    All-cons (IsOf t.number) (happened_to time t (Released (job_due time t))) (cond (is_throttled w.condition) (spent ∷ []) []) refl
    (all_if (IsOf t.number) (is_throttled w.condition) (spent ∷ []) (one_of time t (WokenSpent (due w))))
of_wake time t w (Until u) = All-nil (IsOf t.number)
of_wake time t w WaitFor = All-nil (IsOf t.number)
of_wake time t w End = All-nil (IsOf t.number)

of_unblocking : (time : ℕ) (t : Task) → All (IsOf t.number) (logged_by_unblocking time t)
of_unblocking time t =
    let s = (next_segment t.cursor time).segment in
    all_if (IsOf t.number) (is_over time t.condition) (logged_by_wake time t (unblocked time t) s) (of_wake time t (unblocked time t) s)

of_segment : (time : ℕ) (t : Task) (late : Bool) (s : Segment) → All (IsOf t.number) (logged_by_segment time t late s)
of_segment time t late (RunFor n) =
    let next = NextReleased (job_due time t) in
    all_if (IsOf t.number) late (happened_to time t JobEnds ∷ happened_to time t next ∷ []) (two_of time t JobEnds next)
of_segment time t late (Until u) = one_of time t JobEnds
of_segment time t late WaitFor = one_of time t JobEnds
of_segment time t late End = one_of time t JobEnds

of_run : (time rate : ℕ) (t : Task) → All (IsOf t.number) (logged_by_run time rate t)
of_run time rate t =
    let u : Task = record t { server = charged rate 1 t.server; work = t.work - 1 } in
    let e = time + 1 in
    let r = ran time rate t in
    let by = logged_by_segment e u (passes_late_timer t.cursor e) (next_segment t.cursor e).segment in
    All-append (IsOf t.number) (logged_by_work e u) (logged_by_budget e r)
    (all_if (IsOf t.number) (eqb u.work 0) by (of_segment e u (passes_late_timer t.cursor e) (next_segment t.cursor e).segment))
    (all_if (IsOf t.number) (is_throttled r.condition) (happened_to e r (Spent (due r)) ∷ [])
    (All-cons (IsOf t.number) (happened_to e r (Spent (due r))) [] (same_ran time rate t).number (All-nil (IsOf t.number))))

of_ran : (e : Domain) (t : Task) → All (IsOf t.number) (logged_if_ran e t)
of_ran e t = all_if (IsOf t.number) (is_on_cpu t.number e.curr) (logged_by_run e.time (rate_of e t) t) (of_run e.time (rate_of e t) t)

-- ---- in its order
placed_first : (n : ℕ) (h : Happened) (hs : List Happened) → eqb h.number n ≡ true → All (IsBefore h) (of_task n hs) → of_task n (with_happened h hs) ≡ h ∷ of_task n hs
placed_first n h [] is all = ap (λ b. cond b (h ∷ []) []) is
placed_first n h (o ∷ os) is all =
    let rest = of_task n os in
    let here : (l : List Happened) → cond (eqb h.number n) (h ∷ l) l ≡ h ∷ l = λ l. ap (λ b. cond b (h ∷ l) l) is in
    elim (is_first h o) as (λ b. is_first h o ≡ b → of_task n (cond b (h ∷ o ∷ os) (o ∷ with_happened h os)) ≡ h ∷ of_task n (o ∷ os)) [
      | true ↦ λ first. here (of_task n (o ∷ os))
      | false ↦ λ later. by_number (placed_first n h os is) later (eqb o.number n) refl
    ] refl
  where
    by_number : (All (IsBefore h) (of_task n os) → of_task n (with_happened h os) ≡ h ∷ of_task n os) → is_first h o ≡ false → (b : Bool) → eqb o.number n ≡ b → of_task n (o ∷ with_happened h os) ≡ h ∷ of_task n (o ∷ os)
    by_number more later true e =
        let head : All (IsBefore h) (o ∷ of_task n os) = subst (λ b. All (IsBefore h) (cond b (o ∷ of_task n os) (of_task n os))) e all in
        absurd (false≢true (sym later ∙ All-head (IsBefore h) o (of_task n os) head))
    by_number more later false e =
        let tail : All (IsBefore h) (of_task n os) = subst (λ b. All (IsBefore h) (cond b (o ∷ of_task n os) (of_task n os))) e all in
        ap (λ b. cond b (o ∷ of_task n (with_happened h os)) (of_task n (with_happened h os))) e
        ∙ more tail
        ∙ sym (ap (λ b. h ∷ cond b (o ∷ of_task n os) (of_task n os)) e)

placed_other : (n : ℕ) (h : Happened) (hs : List Happened) → eqb h.number n ≡ false → of_task n (with_happened h hs) ≡ of_task n hs
placed_other n h [] is = ap (λ b. cond b (h ∷ []) []) is
placed_other n h (o ∷ os) is =
    elim (is_first h o) as (λ b. of_task n (cond b (h ∷ o ∷ os) (o ∷ with_happened h os)) ≡ of_task n (o ∷ os)) [
      | true ↦ ap (λ b. cond b (h ∷ of_task n (o ∷ os)) (of_task n (o ∷ os))) is
      | false ↦ ap (λ l. cond (eqb o.number n) (o ∷ l) l) (placed_other n h os is)
    ]

pub own_order : (n : ℕ) (hs : List Happened) → AllPairs IsBefore (of_task n hs) → of_task n (in_order hs) ≡ of_task n hs
own_order n [] rising = refl
own_order n (h ∷ hs) rising = by_number (own_order n hs) (eqb h.number n) refl
  where
    by_number : (AllPairs IsBefore (of_task n hs) → of_task n (in_order hs) ≡ of_task n hs) → (b : Bool) → eqb h.number n ≡ b → of_task n (with_happened h (in_order hs)) ≡ of_task n (h ∷ hs)
    by_number more true e =
        let all : AllPairs IsBefore (h ∷ of_task n hs) = subst (λ b. AllPairs IsBefore (cond b (h ∷ of_task n hs) (of_task n hs))) e rising in
        let rest : AllPairs IsBefore (of_task n hs) = λ i j d less within. all (suc i) (suc j) d (omega (arith, less)) (omega (arith, within)) in
        let first : All (IsBefore h) (of_task n hs) = λ k d within. all zero (suc k) d (omega arith) (omega (arith, within)) in
        let same = more rest in
        placed_first n h (in_order hs) e (subst (All (IsBefore h)) (sym same) first)
        ∙ ap (λ l. h ∷ l) same
        ∙ sym (ap (λ b. cond b (h ∷ of_task n hs) (of_task n hs)) e)
    by_number more false e =
        let rest : AllPairs IsBefore (of_task n hs) = subst (λ b. AllPairs IsBefore (cond b (h ∷ of_task n hs) (of_task n hs))) e rising in
        placed_other n h (in_order hs) e ∙ more rest ∙ sym (ap (λ b. cond b (h ∷ of_task n hs) (of_task n hs)) e)

pub own_homed : (n : ℕ) (places : Places) (hs : List Happened) → of_task n (map (with_its_cpu places) hs) ≡ map (with_its_cpu places) (of_task n hs)
own_homed n places [] = refl
own_homed n places (h ∷ hs) =
    let w = with_its_cpu places in
    let rest = own_homed n places hs in
    elim (eqb h.number n) as (λ b. cond b (w h ∷ of_task n (map w hs)) (of_task n (map w hs)) ≡ map w (cond b (h ∷ of_task n hs) (of_task n hs))) [ true ↦ ap (λ l. w h ∷ l) rest | false ↦ rest ]

-- ---- A TICK
listed_map : (n time : ℕ) (ts : List Task) → own n (filter is_listed (map (settled time) (map (replenish_due time) ts))) ≡ filter is_listed (map (settled time) (map (replenish_due time) (own n ts)))
listed_map n time ts =
    let one = map (replenish_due time) ts in
    own_filter n is_listed (map (settled time) one)
    ∙ ap (filter is_listed) (own_map n (settled time) (λ t. (same_settled time t).number) one ∙ ap (map (settled time)) (own_map n (replenish_due time) (λ t. (same_replenished time t).number) ts))

pub own_prepared : (n time : ℕ) (ts : List Task) → own n (prepared time ts) ≡ woken_up time (map (replenish_due time) (own n ts))
own_prepared n time ts =
    own_map n (unblocked time) (λ t. (same_unblocked time t).number) (filter is_listed (map (settled time) (map (replenish_due time) ts)))
    ∙ ap (map (unblocked time)) (listed_map n time ts)

pub own_begun : (n : ℕ) (d : Domain) → own n (with_tick_begun d).tasks ≡ map (with_last_cpu (with_tick_begun d).curr) (own n (prepared d.time d.tasks))
own_begun n d = own_map n (with_last_cpu (with_tick_begun d).curr) (λ t. (same_homed (with_tick_begun d).curr t).number) (prepared d.time d.tasks)

pub own_ticked : (n : ℕ) (d : Domain) → own n (ticked d).tasks ≡ map (ran_if (with_tick_begun d)) (own n (with_tick_begun d).tasks)
own_ticked n d = own_map n (ran_if (with_tick_begun d)) (λ t. (same_ran_if (with_tick_begun d) t).number) (with_tick_begun d).tasks

pub logged_of_begin : (n : ℕ) (d : Domain) → of_task n (logged_to_begin d) ≡ flat_map (logged_by_replenishment d.time) (own n d.tasks) ++ logged_to_wake d.time (map (replenish_due d.time) (own n d.tasks))
logged_of_begin n d =
    let listed = filter is_listed (map (settled d.time) (map (replenish_due d.time) d.tasks)) in
    let one = flat_map (logged_by_replenishment d.time) d.tasks in
    let two = flat_map (logged_by_unblocking d.time) listed in
    filter-append (λ (h : Happened). eqb h.number n) one two
    ∙ ap (λ l. l ++ of_task n two) (own_logged n (logged_by_replenishment d.time) (of_replenishment d.time) d.tasks)
    ∙ ap (λ l. flat_map (logged_by_replenishment d.time) (own n d.tasks) ++ l)
    (own_logged n (logged_by_unblocking d.time) (of_unblocking d.time) listed ∙ ap (flat_map (logged_by_unblocking d.time)) (listed_map n d.time d.tasks))

pub logged_of_end : (n : ℕ) (e : Domain) → of_task n (flat_map (logged_if_ran e) e.tasks) ≡ flat_map (logged_if_ran e) (own n e.tasks)
logged_of_end n e = own_logged n (logged_if_ran e) (of_ran e) e.tasks
