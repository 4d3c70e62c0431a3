-- What is logged of all tasks, entry by entry and switch by switch.
use Rattle.std.proofs.Common.{◌≡◌, ℕ, zero, suc, ◌+◌, ◌-◌, ◌≤◌, ◌<◌, ◌^◌, Bool, true, false, cond, not, eqb, ⊎_elim, ◌&&◌, List, [], ◌∷◌, ◌++◌, length, get_or, take, drop, map, Option, None, refl, sym, ap, ◌∙◌, arith, subst, All}
use Rattle.std.specs.Prelude.{fold, count_by, is_some, is_none, nat_le}
use Rattle.std.specs.List.{prefix_len}
use Rattle.std.proofs.lemmas.Bool.{le-leb, leb-true, lt-leb, cases_lt}
use Rattle.std.proofs.lemmas.List.{take_all, get_or-map, length-map, get_or_default, map-id}
use Rattle.std.proofs.lemmas.List.Sums.{fold-append, fold_more, prefix_len_is, count_by_more_yes, count_by_more_no}
use Rattle.domain_run.specs.declared.happened.What.TheVariants.{JobEnds}
use Rattle.domain_run.specs.declared.happened.Happened.{Happened}
use Rattle.domain_run.specs.Switch.{Switch}
use Rattle.run_figures.specs.declared.throttle.Throttle.{Throttle}
use Rattle.run_figures.specs.declared.logged.TaskTally.{TaskTally}
use Rattle.run_figures.specs.Jobs.{of_task}
use Rattle.edf_pick.specs.Places.{is_task}
use Rattle.run_figures.specs.Throttling.{wants_it, is_throttled_at, preempts, throttled_then}
use Rattle.run_figures.specs.private.Logging.{logged_after, logged_to_task, logged_all, nothing_logged, so_far, leaver_wanting, with_preemption, IsLoggedWithin, HaveRoomFor}
use Rattle.run_figures.proofs.Counted.{own_logged, own_throttle, since_counted}
use Rattle.run_figures.proofs.Within.{logged_within, within_more}

pub map-map : {X Y Z : Type 0} (f : Y → Z) (g : X → Y) (xs : List X) → map f (map g xs) ≡ map (λ x. f (g x)) xs
map-map f g [] = refl
map-map f g (x ∷ xs) = λ i. f (g x) ∷ map-map f g xs i

pub map_same : {X Y : Type 0} (f g : X → Y) (xs : List X) → ((x : X) → f x ≡ g x) → map f xs ≡ map g xs
map_same f g [] same = refl
map_same f g (x ∷ xs) same = λ i. same x i ∷ map_same f g xs same i

-- NUMBERS STAY
number_kept : (end : ℕ) (t : TaskTally) (h : Happened) → (logged_to_task end t h).number ≡ t.number
number_kept end t h = elim (eqb t.number h.number) as (λ b. (cond b (logged_after end h t) t).number ≡ t.number) [ true ↦ refl | false ↦ refl ]

pub number_of_logged : (end : ℕ) (hs : List Happened) (t : TaskTally) → (logged_all end hs t).number ≡ t.number
number_of_logged end [] t = refl
number_of_logged end (h ∷ hs) t = number_of_logged end hs (logged_to_task end t h) ∙ number_kept end t h

pub numbers_of_logged : (end : ℕ) (hs : List Happened) (ts : List TaskTally) → map (λ t. t.number) (map (logged_all end hs) ts) ≡ map (λ t. t.number) ts
numbers_of_logged end hs ts = map-map (λ (t : TaskTally). t.number) (logged_all end hs) ts ∙ map_same (λ t. (logged_all end hs t).number) (λ t. t.number) ts (number_of_logged end hs)

-- COUNTS
pub if_within : (n end : ℕ) (h : Happened) (t : TaskTally) → h.time < 2 ^ 64 → IsLoggedWithin n t → IsLoggedWithin (n + 1) (logged_to_task end t h)
if_within n end h t small w = elim (eqb t.number h.number) as (λ b. IsLoggedWithin (n + 1) (cond b (logged_after end h t) t)) [
  | true ↦ logged_within n end h t small w
  | false ↦ within_more n (n + 1) t (omega arith) w
]

pub map_within : (n end : ℕ) (h : Happened) (ts : List TaskTally) → h.time < 2 ^ 64 → All (IsLoggedWithin n) ts → All (IsLoggedWithin (n + 1)) (map (λ t. logged_to_task end t h) ts)
map_within n end h ts small all k d l =
    let inside : k < length ts = omega (arith, l, length-map ts (λ (t : TaskTally). logged_to_task end t h)) in
    subst (IsLoggedWithin (n + 1)) (sym (get_or-map (λ (t : TaskTally). logged_to_task end t h) ts k d d inside)) (if_within n end h (get_or ts k d) small (all k d inside))

pub all_more : (n m : ℕ) (ts : List TaskTally) → n ≤ m → All (IsLoggedWithin n) ts → All (IsLoggedWithin m) ts
all_more n m ts l all k d h = within_more n m (get_or ts k d) l (all k d h)

-- ONE ENTRY MORE
pub one_more_logged : (end : ℕ) (hs : List Happened) (i : ℕ) (h : Happened) (now before ts : List TaskTally) → i < length hs → h ≡ get_or hs i h → before ≡ map (logged_all end (take i hs)) ts → now ≡ map (λ t. logged_to_task end t h) before → now ≡ map (logged_all end (take (i + 1) hs)) ts
one_more_logged end hs i h now before ts l is b n =
    let each : (t : TaskTally) → logged_to_task end (logged_all end (take i hs) t) h ≡ logged_all end (take (i + 1) hs) t = λ t.
    ap (logged_to_task end (logged_all end (take i hs) t)) is ∙ sym (fold_more (logged_to_task end) t hs i h l) in
    n ∙ ap (map (λ t. logged_to_task end t h)) b ∙ map-map (λ t. logged_to_task end t h) (logged_all end (take i hs)) ts ∙ map_same (λ t. logged_to_task end (logged_all end (take i hs) t) h) (logged_all end (take (i + 1) hs)) ts each

-- what is logged by the first entries of a list
pub record AreLogged (end : ℕ) (hs : List Happened) (i : ℕ) (old now : List TaskTally) : Type 0 where
  pub logged : now ≡ map (logged_all end (take i hs)) old
  pub within : (n : ℕ) → All (IsLoggedWithin n) old → All (IsLoggedWithin (n + i)) now

pub none_logged : (end : ℕ) (hs : List Happened) (old : List TaskTally) → AreLogged end hs 0 old old
none_logged end hs old = record {
  logged = sym (map-id old);
  within = λ n all. all_more n (n + 0) old (omega arith) all;
}

pub one_logged : (end : ℕ) (hs : List Happened) (i : ℕ) (d : Happened) (old before now : List TaskTally) → i < length hs → AreLogged end hs i old before → now ≡ map (λ t. logged_to_task end t (get_or hs i d)) before → ((n : ℕ) → All (IsLoggedWithin n) before → All (IsLoggedWithin (n + 1)) now) → AreLogged end hs (i + 1) old now
one_logged end hs i d old before now l b n more = record {
  logged = one_more_logged end hs i (get_or hs i d) now before old l (get_or_default hs i d (get_or hs i d) l) b.logged n;
  within = λ m all.
      let e : m + i + 1 ≡ m + (i + 1) = omega arith in
      subst (λ k. All (IsLoggedWithin k) now) e (more (m + i) (b.within m all));
}

pub logged_keyed : (end : ℕ) (hs : List Happened) (i : ℕ) (old now : List TaskTally) (numbers : List ℕ) → AreLogged end hs i old now → map (λ t. t.number) old ≡ numbers → map (λ t. t.number) now ≡ numbers
logged_keyed end hs i old now numbers h keyed =
    ap (λ (ts : List TaskTally). map (λ t. t.number) ts) h.logged ∙ numbers_of_logged end (take i hs) old ∙ keyed

pub logged_room : (end : ℕ) (hs : List Happened) (i : ℕ) (old now : List TaskTally) → AreLogged end hs i old now → i < length hs → HaveRoomFor (length hs) old → All (IsLoggedWithin (2 ^ 64 - 2)) now
logged_room end hs i old now h l room =
    all_more (room.used + i) (2 ^ 64 - 2) now (omega (arith, room.fits)) (h.within room.used room.within)

-- PREEMPTIONS do not touch what is logged
if_with : (end : ℕ) (t : TaskTally) (p : ℕ) (h : Happened) → logged_to_task end (record t { preempted = p }) h ≡ record (logged_to_task end t h) { preempted = p }
if_with end t p h = elim (eqb t.number h.number) as (λ b. cond b (logged_after end h (record t { preempted = p })) (record t { preempted = p }) ≡ record (cond b (logged_after end h t) t) { preempted = p }) [ true ↦ refl | false ↦ refl ]

pub logged_with : (end : ℕ) (hs : List Happened) (t : TaskTally) (p : ℕ) → logged_all end hs (record t { preempted = p }) ≡ record (logged_all end hs t) { preempted = p }
logged_with end [] t p = refl
logged_with end (h ∷ hs) t p = ap (logged_all end hs) (if_with end t p h) ∙ logged_with end hs (logged_to_task end t h) p

take_both : (j c : ℕ) (hs : List Happened) → take j hs ++ take c (drop j hs) ≡ take (j + c) hs
take_both zero c hs = let e : c ≡ 0 + c = omega arith in ap (λ k. take k hs) e
take_both (suc j) c [] = take_all {A = Happened} c [] (omega arith) ∙ sym (take_all {A = Happened} (suc j + c) [] (omega arith))
take_both (suc j) c (h ∷ hs) =
    let e : suc j + c ≡ suc (j + c) = omega arith in
    rw e (ap (λ (xs : List Happened). h ∷ xs) (take_both j c hs))

pub more_logged : (end : ℕ) (hs : List Happened) (ss : List Switch) (j k c n : ℕ) → logged_all end (take c (drop j hs)) (so_far end hs ss j k n) ≡ so_far end hs ss (j + c) k n
more_logged end hs ss j k c n =
    let p = count_by (preempts hs n) (take k ss) in
    logged_with end (take c (drop j hs)) (logged_all end (take j hs) (nothing_logged n)) p
    ∙ ap (λ (t : TaskTally). record t { preempted = p })
    (sym (fold-append (logged_to_task end) (nothing_logged n) (take j hs) (take c (drop j hs))) ∙ ap (λ (xs : List Happened). logged_all end xs (nothing_logged n)) (take_both j c hs))

-- A SWITCH
leaves_too : (n : ℕ) (prev : Option ℕ) (w : Bool) → is_task n (cond w prev None) ≡ (is_task n prev && w)
leaves_too n prev true = elim (is_task n prev) as (λ b. b ≡ (b && true)) [ true ↦ refl | false ↦ refl ]
leaves_too n prev false = elim (is_task n prev) as (λ b. false ≡ (b && false)) [ true ↦ refl | false ↦ refl ]

flag_is : (end : ℕ) (hs : List Happened) (j n time : ℕ) → j ≡ prefix_len (λ h. nat_le h.time time) hs → is_some (logged_all end (take j hs) (nothing_logged n)).throttle.since ≡ is_throttled_at hs n time
flag_is end hs j n time e =
    ap (λ (t : TaskTally). is_some t.throttle.since) (own_logged end (take j hs) (nothing_logged n) n refl)
    ∙ ap (λ (t : Throttle). is_some t.since) (own_throttle end (of_task n (take j hs)) (nothing_logged n))
    ∙ since_counted (of_task n (take j hs)) (nothing_logged n).throttle
    ∙ ap (λ k. fold (λ (before : Bool) (h : Happened). throttled_then before h.what) false (of_task n (take k hs))) e

counts_it : (hs : List Happened) (n : ℕ) (s : Switch) (b : Bool) → b ≡ is_throttled_at hs n s.time → (is_task n (leaver_wanting s) && not b) ≡ preempts hs n s
counts_it hs n s b e = ap (λ x. x && not b) (leaves_too n s.prev (wants_it s.state)) ∙ ap (λ x. (is_task n s.prev && wants_it s.state) && not x) e

pub more_switched : (end : ℕ) (hs : List Happened) (ss : List Switch) (j k n : ℕ) (s : Switch) → k < length ss → s ≡ get_or ss k s → j ≡ prefix_len (λ h. nat_le h.time s.time) hs → with_preemption s (so_far end hs ss j k n) ≡ so_far end hs ss j (k + 1) n
more_switched end hs ss j k n s l is e =
    let t = logged_all end (take j hs) (nothing_logged n) in
    let same : t.number ≡ n = number_of_logged end (take j hs) (nothing_logged n) in
    let test : (is_task t.number (leaver_wanting s) && is_none t.throttle.since) ≡ preempts hs n s =
    ap (λ m. is_task m (leaver_wanting s) && is_none t.throttle.since) same ∙ counts_it hs n s (is_some t.throttle.since) (flag_is end hs j n s.time e) in
    let here : preempts hs n s ≡ preempts hs n (get_or ss k s) = ap (preempts hs n) is in
    let p = count_by (preempts hs n) (take k ss) in
    ap (λ b. cond b (record t { preempted = p + 1 }) (record t { preempted = p })) test
    ∙ elim (preempts hs n s) as (λ b. preempts hs n s ≡ b → cond b (record t { preempted = p + 1 }) (record t { preempted = p }) ≡ record t { preempted = count_by (preempts hs n) (take (k + 1) ss) }) [
      | true ↦ λ yes. ap (λ q. record t { preempted = q }) (sym (count_by_more_yes (preempts hs n) ss k s l (sym here ∙ yes)))
      | false ↦ λ no. ap (λ q. record t { preempted = q }) (sym (count_by_more_no (preempts hs n) ss k s l (sym here ∙ no)))
    ] refl

-- HOW FAR: what was passed stays passed
pub passes_later : (hs : List Happened) (a b : ℕ) → a ≤ b → prefix_len (λ h. nat_le h.time a) hs ≤ prefix_len (λ h. nat_le h.time b) hs
passes_later [] a b l = omega arith
passes_later (h ∷ hs) a b l =
    elim (nat_le h.time a) as (λ x. nat_le h.time a ≡ x → cond x (1 + prefix_len (λ h. nat_le h.time a) hs) 0 ≤ prefix_len (λ h. nat_le h.time b) (h ∷ hs)) [
      | true ↦ λ yes.
          let before : nat_le h.time b ≡ true = le-leb h.time b (omega (arith, leb-true h.time a yes)) in
          rw before (omega (arith, passes_later hs a b l))
      | false ↦ λ no. omega arith
    ] refl

pub goes_on : (hs : List Happened) (j time : ℕ) → j ≤ prefix_len (λ h. nat_le h.time time) hs → j + prefix_len (λ h. nat_le h.time time) (drop j hs) ≡ prefix_len (λ h. nat_le h.time time) hs
goes_on hs zero time l = omega arith
goes_on [] (suc j) time l = absurd (omega (arith, l))
goes_on (h ∷ hs) (suc j) time l =
    elim (nat_le h.time time) as (λ x. suc j ≤ cond x (1 + prefix_len (λ h. nat_le h.time time) hs) 0 → suc j + prefix_len (λ h. nat_le h.time time) (drop j hs) ≡ cond x (1 + prefix_len (λ h. nat_le h.time time) hs) 0) [
      | true ↦ λ le. omega (arith, goes_on hs j time (omega (arith, le)))
      | false ↦ λ le. absurd (omega (arith, le))
    ] l

abbrev pub blank : Happened
blank = record { time = 0; what = JobEnds; number = 0; cpu = 0 }

-- one more that is not later
pub one_passed : (hs : List Happened) (i : ℕ) (d : Happened) (time : ℕ) → i < length hs → ((k : ℕ) (e : Happened) → k < i → (get_or hs k e).time ≤ time) → (get_or hs i d).time ≤ time → (k : ℕ) (e : Happened) → k < i + 1 → (get_or hs k e).time ≤ time
one_passed hs i d time l before here k e lt = ⊎_elim
    (λ (less : k < i). before k e less)
    (λ (more : i ≤ k).
    let at : k ≡ i = omega (arith, lt, more) in
    let same : get_or hs k e ≡ get_or hs i d = ap (λ n. get_or hs n e) at ∙ get_or_default hs i e d l in
    omega (arith, here, ap (λ (x : Happened). x.time) same))
    (cases_lt k i)

-- all that is not later was passed, and what comes then is later
pub all_passed : (hs : List Happened) (i time : ℕ) → i ≤ length hs → ((k : ℕ) (e : Happened) → k < i → (get_or hs k e).time ≤ time) → ((d : Happened) → i < length hs → time < (get_or hs i d).time) → i ≡ prefix_len (λ h. nat_le h.time time) hs
all_passed hs i time l before later =
    sym (prefix_len_is (λ (h : Happened). nat_le h.time time) hs i blank l
    (λ k lt. le-leb (get_or hs k blank).time time (before k blank lt))
    (λ lt. lt-leb (get_or hs i blank).time time (later blank lt)))
