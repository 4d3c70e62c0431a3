-- Who is preempted in a period is preempted again in each of those that come.
use Rattle.std.proofs.Common.{◌≡◌, ℕ, zero, suc, ◌+◌, ◌-◌, ◌*◌, ◌≤◌, ◌<◌, Bool, true, false, cond, eqb, not, ◌&&◌, ⊎_elim, List, [], ◌∷◌, ◌++◌, get_or, take, map, Option, Some, None, refl, sym, ap, ◌∙◌, arith, subst, All}
use Rattle.std.specs.Prelude.{fold, is_some, nat_le}
use Rattle.std.specs.List.{prefix_len}
use Rattle.std.proofs.lemmas.Bool.{cases_lt, le-leb, lt-leb}
use Rattle.std.proofs.lemmas.List.{append-nil, append_assoc}
use Rattle.std.proofs.lemmas.List.Elements.{All-head, All-tail, All-append, All-map, All-weaker, All-nil}
use Rattle.std.proofs.lemmas.List.Sums.{fold-append, sum_by-append, sum_by-cons}
use Rattle.domain_run.specs.declared.happened.What.{What}
use Rattle.domain_run.specs.declared.happened.What.TheVariants.{JobEnds, NextReleased, Spent, Cut, Replenished, Released, WokenSpent}
use Rattle.domain_run.specs.declared.happened.Happened.{Happened}
use Rattle.domain_run.specs.Switch.{Switch}
use Rattle.domain_run.specs.Later.{later, later_what, later_happened, later_switch}
use Rattle.edf_pick.specs.Places.{is_task}
use Rattle.run_figures.specs.declared.throttle.Throttle.{Throttle}
use Rattle.run_figures.specs.declared.logged.TaskTally.{TaskTally}
use Rattle.run_figures.specs.Jobs.{of_task}
use Rattle.run_figures.specs.Throttling.{throttled_then, up_to, wants_it, preempts, preemptions}
use Rattle.run_figures.specs.Again.{more_logged, more_switches}
use Rattle.run_figures.specs.private.Logging.{logged_all, logged_to_task, nothing_logged}
use Rattle.run_figures.specs.private.Growing.{IsLoggedBack, grown_count}
use Rattle.run_figures.proofs.Counted.{own_logged, own_throttle, since_counted}
use Rattle.run_figures.proofs.Going.{preemptions_stay}
use Rattle.run_figures.proofs.PeriodLogged.{periods_logged}

-- whether a task is throttled after these
abbrev flag : ℕ → Bool → List Happened → Bool
flag n before hs = fold (λ b h. throttled_then b h.what) before (of_task n hs)

-- by the first of these that are not later than a time
abbrev throttled_up_to : ℕ → ℕ → Bool → List Happened → Bool
throttled_up_to n time before [] = before
throttled_up_to n time before (h ∷ hs) =
    cond (nat_le h.time time) (throttled_up_to n time (cond (eqb h.number n) (throttled_then before h.what) before) hs) before

flag_more : (n : ℕ) (before : Bool) (h : Happened) (hs : List Happened) → flag n before (h ∷ hs) ≡ flag n (cond (eqb h.number n) (throttled_then before h.what) before) hs
flag_more n before h hs =
    elim (eqb h.number n) as (λ b. fold (λ x (y : Happened). throttled_then x y.what) before (cond b (h ∷ of_task n hs) (of_task n hs)) ≡ flag n (cond b (throttled_then before h.what) before) hs) [
      | true ↦ refl
      | false ↦ refl
    ]

up_to_is : (n time : ℕ) (before : Bool) (hs : List Happened) → flag n before (up_to time hs) ≡ throttled_up_to n time before hs
up_to_is n time before [] = refl
up_to_is n time before (h ∷ hs) =
    let more : 1 + prefix_len (λ (x : Happened). nat_le x.time time) hs ≡ suc (prefix_len (λ (x : Happened). nat_le x.time time) hs) = omega arith in
    let then = cond (eqb h.number n) (throttled_then before h.what) before in
    elim (nat_le h.time time) as (λ b. flag n before (take (cond b (1 + prefix_len (λ (x : Happened). nat_le x.time time) hs) 0) (h ∷ hs)) ≡ cond b (throttled_up_to n time then hs) before) [
      | true ↦ ap (λ k. flag n before (take k (h ∷ hs))) more ∙ flag_more n before h (up_to time hs) ∙ up_to_is n time then hs
      | false ↦ refl
    ]

after_these : (n time : ℕ) (before : Bool) (past hs : List Happened) → All (λ h. h.time ≤ time) past → throttled_up_to n time before (past ++ hs) ≡ throttled_up_to n time (flag n before past) hs
after_these n time before [] hs all = refl
after_these n time before (h ∷ past) hs all =
    let then = cond (eqb h.number n) (throttled_then before h.what) before in
    let here : nat_le h.time time ≡ true = le-leb h.time time (All-head (λ (x : Happened). x.time ≤ time) h past all) in
    ap (λ b. cond b (throttled_up_to n time then (past ++ hs)) before) here
    ∙ after_these n time then past hs (All-tail (λ (x : Happened). x.time ≤ time) h past all)
    ∙ ap (λ b. throttled_up_to n time b hs) (sym (flag_more n before h past))

then_later : (k : ℕ) (before : Bool) (what : What) → throttled_then before (later_what k what) ≡ throttled_then before what
then_later k before JobEnds = refl
then_later k before (NextReleased d) = refl
then_later k before (Spent d) = refl
then_later k before Cut = refl
then_later k before (Replenished d) = refl
then_later k before (Released d) = refl
then_later k before (WokenSpent d) = refl

le_later : (k a b : ℕ) → nat_le (a + k) (b + k) ≡ nat_le a b
le_later k a b = ⊎_elim
    (λ (less : b < a). lt-leb (a + k) (b + k) (omega (arith, less)) ∙ sym (lt-leb a b less))
    (λ (more : a ≤ b). le-leb (a + k) (b + k) (omega (arith, more)) ∙ sym (le-leb a b more))
    (cases_lt b a)

up_to_later : (n time k : ℕ) (before : Bool) (hs : List Happened) → throttled_up_to n (time + k) before (map (later_happened k) hs) ≡ throttled_up_to n time before hs
up_to_later n time k before [] = refl
up_to_later n time k before (h ∷ hs) =
    let then = cond (eqb h.number n) (throttled_then before h.what) before in
    (λ i. cond (le_later k h.time time i) (throttled_up_to n (time + k) (cond (eqb h.number n) (then_later k before h.what i) before) (map (later_happened k) hs)) before)
    ∙ ap (λ b. cond (nat_le h.time time) b before) (up_to_later n time k then hs)

-- A SWITCH of a period that comes
one_preempts : (n k : ℕ) (before past logged : List Happened) (s : Switch) → All (λ h. h.time ≤ s.time) before → All (λ h. h.time ≤ s.time + k) past → flag n false past ≡ flag n false before
    → preempts (past ++ map (later_happened k) logged) n (later_switch k s) ≡ preempts (before ++ logged) n s
one_preempts n k before past logged s first then same =
    let wants = is_task n s.prev && wants_it s.state in
    ap (λ b. wants && not b) (
    up_to_is n (s.time + k) false (past ++ map (later_happened k) logged)
    ∙ after_these n (s.time + k) false past (map (later_happened k) logged) then
    ∙ up_to_later n s.time k (flag n false past) logged
    ∙ ap (λ b. throttled_up_to n s.time b logged) same
    ∙ sym (after_these n s.time false before logged first)
    ∙ sym (up_to_is n s.time false (before ++ logged))
    )

all_preempt : (n k : ℕ) (before past logged : List Happened) (ss : List Switch) → All (λ s. All (λ h. h.time ≤ s.time) before) ss → All (λ s. All (λ h. h.time ≤ s.time + k) past) ss → flag n false past ≡ flag n false before
    → preemptions (past ++ map (later_happened k) logged) (map (later_switch k) ss) n ≡ preemptions (before ++ logged) ss n
all_preempt n k before past logged [] first then same = refl
all_preempt n k before past logged (s ∷ ss) first then same =
    let hs = past ++ map (later_happened k) logged in
    omega (
      arith,
      sum_by-cons (λ (x : Switch). cond (preempts hs n x) 1 0) (later_switch k s) (map (later_switch k) ss),
      sum_by-cons (λ (x : Switch). cond (preempts (before ++ logged) n x) 1 0) s ss,
      ap {B = ℕ} (λ b. cond b 1 0) (one_preempts n k before past logged s (All-head (λ (x : Switch). All (λ h. h.time ≤ x.time) before) s ss first) (All-head (λ (x : Switch). All (λ h. h.time ≤ x.time + k) past) s ss then) same),
      all_preempt n k before past logged ss (All-tail (λ (x : Switch). All (λ h. h.time ≤ x.time) before) s ss first) (All-tail (λ (x : Switch). All (λ h. h.time ≤ x.time + k) past) s ss then) same,
    )

-- switches after, before which all that is new happens
preempted_more : (n : ℕ) (past hs : List Happened) (before ss : List Switch) → All (λ s. All (λ h. s.time < h.time) hs) before
    → preemptions (past ++ hs) (before ++ ss) n ≡ preemptions past before n + preemptions (past ++ hs) ss n
preempted_more n past hs before ss all =
    omega (arith, sum_by-append (λ (x : Switch). cond (preempts (past ++ hs) n x) 1 0) before ss, preemptions_stay n past hs before all)

-- THE FLAG after any number of periods is that before the first
flag_is : (end n : ℕ) (hs : List Happened) → is_some (logged_all end hs (nothing_logged n)).throttle.since ≡ flag n false hs
flag_is end n hs =
    ap (λ (t : TaskTally). is_some t.throttle.since) (own_logged end hs (nothing_logged n) n refl)
    ∙ ap (λ (t : Throttle). is_some t.since) (own_throttle end (of_task n hs) (nothing_logged n))
    ∙ since_counted (of_task n hs) (nothing_logged n).throttle

some_later : (k : ℕ) (t : Option ℕ) → is_some (later k t) ≡ is_some t
some_later k None = refl
some_later k (Some x) = refl

flag_back : (end n k m : ℕ) (before logged : List Happened) → IsLoggedBack k (logged_all end before (nothing_logged n)) (logged_all end (before ++ logged) (nothing_logged n))
    → flag n false ((before ++ logged) ++ more_logged k m logged) ≡ flag n false before
flag_back end n k m before logged back =
    let none = nothing_logged n in
    let a = logged_all end before none in
    let split : logged_all end (before ++ logged) none ≡ logged_all end logged a = fold-append (logged_to_task end) none before logged in
    let all : logged_all end ((before ++ logged) ++ more_logged k m logged) none ≡ logged_all end (more_logged k m logged) (logged_all end logged a) =
    fold-append (logged_to_task end) none (before ++ logged) (more_logged k m logged) ∙ ap (logged_all end (more_logged k m logged)) split in
    let here : IsLoggedBack k a (logged_all end logged a) = subst (λ (t : TaskTally). IsLoggedBack k a t) split back in
    sym (flag_is end n ((before ++ logged) ++ more_logged k m logged))
    ∙ ap (λ (t : TaskTally). is_some t.throttle.since) (all ∙ periods_logged end k m logged a here)
    ∙ some_later (m * k) (logged_all end logged a).throttle.since
    ∙ ap is_some here.since ∙ some_later k a.throttle.since
    ∙ flag_is end n before

-- WHEN a period that comes begins and ends
pub logged_early : (from k m : ℕ) (logged : List Happened) → All (λ h. h.time ≤ from + k) logged → All (λ h. h.time ≤ from + k + m * k) (more_logged k m logged)
logged_early from k zero logged all = All-nil (λ (h : Happened). h.time ≤ from + k + 0 * k)
logged_early from k (suc m) logged all =
    All-append (λ (h : Happened). h.time ≤ from + k + suc m * k) (more_logged k m logged) (map (later_happened (suc m * k)) logged)
    (All-weaker (λ (h : Happened). h.time ≤ from + k + m * k) (λ (h : Happened). h.time ≤ from + k + suc m * k) (λ h l. omega (arith, l)) (more_logged k m logged) (logged_early from k m logged all))
    (All-map (λ (h : Happened). h.time ≤ from + k + suc m * k) (later_happened (suc m * k)) logged
    (All-weaker (λ (h : Happened). h.time ≤ from + k) (λ (h : Happened). h.time + suc m * k ≤ from + k + suc m * k) (λ h l. omega (arith, l)) logged all))

pub switched_early : (from k m : ℕ) (ss : List Switch) → All (λ s. s.time < from + k) ss → All (λ s. s.time < from + k + m * k) (more_switches k m ss)
switched_early from k zero ss all = All-nil (λ (s : Switch). s.time < from + k + 0 * k)
switched_early from k (suc m) ss all =
    All-append (λ (s : Switch). s.time < from + k + suc m * k) (more_switches k m ss) (map (later_switch (suc m * k)) ss)
    (All-weaker (λ (s : Switch). s.time < from + k + m * k) (λ (s : Switch). s.time < from + k + suc m * k) (λ s l. omega (arith, l)) (more_switches k m ss) (switched_early from k m ss all))
    (All-map (λ (s : Switch). s.time < from + k + suc m * k) (later_switch (suc m * k)) ss
    (All-weaker (λ (s : Switch). s.time < from + k) (λ (s : Switch). s.time + suc m * k < from + k + suc m * k) (λ s l. omega (arith, l)) ss all))

-- what a period has, and what was streamed before it
pub record IsPeriodStreamed (k from : ℕ) (before logged : List Happened) (past ss : List Switch) : Type 0 where
  pub logged_from : All (λ h. from ≤ h.time) logged
  pub logged_until : All (λ h. h.time ≤ from + k) logged
  pub switched_from : All (λ s. from ≤ s.time) ss
  pub switched_until : All (λ s. s.time < from + k) ss
  pub logged_before : All (λ s. All (λ h. h.time ≤ s.time) before) ss
  pub switched_before : All (λ h. All (λ s. s.time < h.time) past) logged

-- what comes is later than all switches so far
comes_later : (k m from : ℕ) (before logged : List Happened) (past ss : List Switch) → IsPeriodStreamed k from before logged past ss
    → All (λ s. All (λ h. s.time < h.time) (map (later_happened (suc m * k)) logged)) ((past ++ ss) ++ more_switches k m ss)
comes_later k m from before logged past ss p =
    let Q = λ (s : Switch). All (λ h. s.time < h.time) (map (later_happened (suc m * k)) logged) in
    let soon : (s : Switch) → s.time < from + k + m * k → Q s = λ s l.
    All-map (λ (h : Happened). s.time < h.time) (later_happened (suc m * k)) logged
    (All-weaker (λ (h : Happened). from ≤ h.time) (λ (h : Happened). s.time < h.time + suc m * k) (λ h f. omega (arith, l, f)) logged p.logged_from) in
    All-append Q (past ++ ss) (more_switches k m ss)
    (All-append Q past ss
    (λ i d l. All-map (λ (h : Happened). (get_or past i d).time < h.time) (later_happened (suc m * k)) logged
    (λ j e n. omega (arith, p.switched_before j e n i d l)))
    (All-weaker (λ (s : Switch). s.time < from + k) Q (λ s l. soon s (omega (arith, l))) ss p.switched_until))
    (All-weaker (λ (s : Switch). s.time < from + k + m * k) Q soon (more_switches k m ss) (switched_early from k m ss p.switched_until))

-- the switches that come are not earlier than what was logged
logged_earlier : (k m from : ℕ) (before logged : List Happened) (past ss : List Switch) → IsPeriodStreamed k from before logged past ss
    → All (λ s. All (λ h. h.time ≤ s.time + suc m * k) ((before ++ logged) ++ more_logged k m logged)) ss
logged_earlier k m from before logged past ss p = λ i d l.
    let s = get_or ss i d in
    let here : from ≤ s.time = p.switched_from i d l in
    let P = λ (h : Happened). h.time ≤ s.time + suc m * k in
    All-append P (before ++ logged) (more_logged k m logged)
    (All-append P before logged
    (All-weaker (λ (h : Happened). h.time ≤ s.time) P (λ h e. omega (arith, e)) before (p.logged_before i d l))
    (All-weaker (λ (h : Happened). h.time ≤ from + k) P (λ h e. omega (arith, e, here)) logged p.logged_until))
    (All-weaker (λ (h : Happened). h.time ≤ from + k + m * k) P (λ h e. omega (arith, e, here)) (more_logged k m logged) (logged_early from k m logged p.logged_until))

-- ALL PERIODS
pub periods_preempted : (end n k m from : ℕ) (before logged : List Happened) (past ss : List Switch) → IsPeriodStreamed k from before logged past ss
    → IsLoggedBack k (logged_all end before (nothing_logged n)) (logged_all end (before ++ logged) (nothing_logged n))
    → preemptions ((before ++ logged) ++ more_logged k m logged) ((past ++ ss) ++ more_switches k m ss) n ≡ grown_count m (preemptions before past n) (preemptions (before ++ logged) (past ++ ss) n)
periods_preempted end n k zero from before logged past ss p back =
    (λ i. preemptions (append-nil (before ++ logged) i) (append-nil (past ++ ss) i) n) ∙ (let e : preemptions (before ++ logged) (past ++ ss) n ≡ grown_count 0 (preemptions before past n) (preemptions (before ++ logged) (past ++ ss) n) = omega arith in e)
periods_preempted end n k (suc m) from before logged past ss p back =
    let hs = (before ++ logged) ++ more_logged k m logged in
    let all = (past ++ ss) ++ more_switches k m ss in
    let K = suc m * k in
    let first : preemptions (before ++ logged) (past ++ ss) n ≡ preemptions before past n + preemptions (before ++ logged) ss n =
    preempted_more n before logged past ss (λ i d l j e q. p.switched_before j e q i d l) in
    let rest = periods_preempted end n k m from before logged past ss p back in
    let same = flag_back end n k m before logged back in
    (λ i. preemptions (sym (append_assoc (before ++ logged) (more_logged k m logged) (map (later_happened K) logged)) i) (sym (append_assoc (past ++ ss) (more_switches k m ss) (map (later_switch K) ss)) i) n)
    ∙ preempted_more n hs (map (later_happened K) logged) all (map (later_switch K) ss) (comes_later k m from before logged past ss p)
    ∙ grows m (preemptions before past n) (preemptions (before ++ logged) (past ++ ss) n) (preemptions (before ++ logged) ss n) (preemptions hs all n) (preemptions (hs ++ map (later_happened K) logged) (map (later_switch K) ss) n)
    first rest (all_preempt n K before hs logged ss p.logged_before (logged_earlier k m from before logged past ss p) same)
  where
    grows : (m a b d x y : ℕ) → b ≡ a + d → x ≡ grown_count m a b → y ≡ d → x + y ≡ grown_count (suc m) a b
    grows m a b d x y e f g = let diff : b - a ≡ d = omega (arith, e) in rw diff (rw f (rw diff (omega (arith, g))))
