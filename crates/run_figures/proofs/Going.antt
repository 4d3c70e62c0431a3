-- What is logged up to a switch, and what is logged with the next one.
use Rattle.std.proofs.Common.{◌≡◌, ℕ, ◌+◌, ◌-◌, ◌≤◌, ◌<◌, true, cond, List, [], ◌∷◌, ◌++◌, length, get_or, take, drop, map, None, refl, sym, ap, ◌∙◌, arith, subst, All, length-append}
use Rattle.std.specs.Prelude.{AllPairs, IsTrue, count_by, nat_le, not, ◌&&◌}
use Rattle.std.specs.List.{prefix_len}
use Rattle.std.proofs.Math.Seq.{take-append_seam, get_or-append_right}
use Rattle.std.proofs.lemmas.Bool.{le-leb, lt-leb}
use Rattle.std.proofs.lemmas.List.{take_all, take_rest, take-append-le, length-take, get_or_default, map-id}
use Rattle.std.proofs.lemmas.List.Elements.{All-head, All-tail, All-map}
use Rattle.std.proofs.lemmas.List.Sums.{sum_by-cons, count_by-le-length, prefix_len-le-length}
use Rattle.domain_run.specs.declared.happened.Happened.{Happened}
use Rattle.domain_run.specs.Switch.{Switch}
use Rattle.domain_run.specs.declared.switch.PrevState.TheVariants.{Running}
use Rattle.domain_run.specs.Switches.{is_switch_before}
use Rattle.run_figures.specs.declared.logged.TaskTally.{TaskTally}
use Rattle.run_figures.specs.Jobs.{of_task}
use Rattle.edf_pick.specs.Places.{is_task}
use Rattle.run_figures.specs.Throttling.{wants_it, is_throttled_by, up_to, preempts, preemptions}
use Rattle.run_figures.specs.private.Logging.{logged_all, nothing_logged, so_far, logged_by, with_preemption, IsLoggedWithin}
use Rattle.run_figures.proofs.Passing.{map-map, map_same, number_of_logged, more_logged, more_switched, passes_later, goes_on}
use Rattle.run_figures.proofs.After.{not_earlier}

abbrev pub blank_switch : Switch
blank_switch = record { time = 0; prev = None; next = None; cpu = 0; state = Running }

-- logged up to a place in what happened, which each later switch passes, and up to a switch
pub record IsAtSwitch (end : ℕ) (hs : List Happened) (ss : List Switch) (numbers : List ℕ) (j k : ℕ) (ts : List TaskTally) : Type 0 where
  pub inside : j ≤ length hs
  pub logged : ts ≡ map (so_far end hs ss j k) numbers
  pub within : All (IsLoggedWithin j) ts
  pub ahead : (i : ℕ) (d : Switch) → k ≤ i → i < length ss → j ≤ prefix_len (λ h. nat_le h.time (get_or ss i d).time) hs

-- WHAT IS LATER changes nothing of an earlier switch
none_passes : (time : ℕ) (hs : List Happened) → All (λ h. time < h.time) hs → prefix_len (λ h. nat_le h.time time) hs ≡ 0
none_passes time [] all = refl
none_passes time (h ∷ hs) all =
    ap (λ b. cond b (1 + prefix_len (λ (x : Happened). nat_le x.time time) hs) 0) (lt-leb h.time time (All-head (λ (x : Happened). time < x.time) h hs all))

stays_at : (time : ℕ) (before hs : List Happened) → All (λ h. time < h.time) hs → prefix_len (λ h. nat_le h.time time) (before ++ hs) ≡ prefix_len (λ h. nat_le h.time time) before
stays_at time [] hs all = none_passes time hs all
stays_at time (x ∷ xs) hs all = ap (λ (k : ℕ). cond (nat_le x.time time) (1 + k) 0) (stays_at time xs hs all)

up_to_stays : (time : ℕ) (before hs : List Happened) → All (λ h. time < h.time) hs → up_to time (before ++ hs) ≡ up_to time before
up_to_stays time before hs all =
    ap (λ (k : ℕ). take k (before ++ hs)) (stays_at time before hs all)
    ∙ take-append-le (prefix_len (λ (h : Happened). nat_le h.time time) before) before hs (prefix_len-le-length (λ (h : Happened). nat_le h.time time) before)

preempts_still : (n : ℕ) (before hs : List Happened) (s : Switch) → All (λ h. s.time < h.time) hs → preempts (before ++ hs) n s ≡ preempts before n s
preempts_still n before hs s all =
    ap (λ (own : List Happened). (is_task n s.prev && wants_it s.state) && not (is_throttled_by (of_task n own))) (up_to_stays s.time before hs all)

pub preemptions_stay : (n : ℕ) (before hs : List Happened) (ss : List Switch) → All (λ s. All (λ h. s.time < h.time) hs) ss → preemptions before ss n ≡ preemptions (before ++ hs) ss n
preemptions_stay n before hs [] all = refl
preemptions_stay n before hs (s ∷ ss) all =
    let first = preempts_still n before hs s (All-head (λ (x : Switch). All (λ h. x.time < h.time) hs) s ss all) in
    let rest = preemptions_stay n before hs ss (All-tail (λ (x : Switch). All (λ h. x.time < h.time) hs) s ss all) in
    omega (
      arith,
      sum_by-cons (λ (x : Switch). cond (preempts before n x) 1 0) s ss,
      sum_by-cons (λ (x : Switch). cond (preempts (before ++ hs) n x) 1 0) s ss,
      ap {B = ℕ} (λ b. cond b 1 0) first,
      rest,
    )

-- what is not later was logged
passes_all : (time : ℕ) (before hs : List Happened) → All (λ h. h.time ≤ time) before → length before ≤ prefix_len (λ h. nat_le h.time time) (before ++ hs)
passes_all time [] hs all = omega arith
passes_all time (x ∷ xs) hs all =
    let first : nat_le x.time time ≡ true = le-leb x.time time (All-head (λ (y : Happened). y.time ≤ time) x xs all) in
    rw first (omega (arith, passes_all time xs hs (All-tail (λ (y : Happened). y.time ≤ time) x xs all)))

-- A PIECE after what was logged
still_logged : (end : ℕ) (before hs : List Happened) (past ss : List Switch) (n : ℕ) → All (λ s. All (λ h. s.time < h.time) hs) past → logged_by end before past n ≡ so_far end (before ++ hs) (past ++ ss) (length before) (length past) n
still_logged end before hs past ss n later =
    let t = sym (take-append_seam before hs) in
    let s = sym (take-append_seam past ss) in
    (λ i. record (logged_all end before (nothing_logged n)) { preempted = preemptions_stay n before hs past later i })
    ∙ (λ i. record (logged_all end (t i) (nothing_logged n)) { preempted = count_by (preempts (before ++ hs) n) (s i) })

pub at_piece : (end : ℕ) (before hs : List Happened) (past ss : List Switch) (numbers : List ℕ) (logged : List TaskTally)
    → logged ≡ map (logged_by end before past) numbers → All (IsLoggedWithin (length before)) logged
    → All (λ s. All (λ h. h.time ≤ s.time) before) ss → All (λ h. All (λ s. s.time < h.time) past) hs
    → IsAtSwitch end (before ++ hs) (past ++ ss) numbers (length before) (length past) logged
at_piece end before hs past ss numbers logged is within following later = record {
  inside = omega (arith, length-append before hs);
  logged = is ∙ map_same (logged_by end before past) (so_far end (before ++ hs) (past ++ ss) (length before) (length past)) numbers
      (λ n. still_logged end before hs past ss n (λ k s l j h m. later j h m k s l));
  within = within;
  ahead = λ i d m l.
      let at : get_or (past ++ ss) i d ≡ get_or ss (i - length past) d = get_or-append_right past ss i d m in
      let all = following (i - length past) d (omega (arith, m, l, length-append past ss)) in
      subst (λ (s : Switch). length before ≤ prefix_len (λ h. nat_le h.time s.time) (before ++ hs)) (sym at)
      (passes_all (get_or ss (i - length past) d).time before hs all);
}

so_far_keyed : (end : ℕ) (hs : List Happened) (ss : List Switch) (numbers : List ℕ) (j k : ℕ) → map (λ t. t.number) (map (so_far end hs ss j k) numbers) ≡ numbers
so_far_keyed end hs ss numbers j k =
    map-map (λ (t : TaskTally). t.number) (so_far end hs ss j k) numbers
    ∙ map_same (λ n. (so_far end hs ss j k n).number) (λ n. n) numbers (λ n. number_of_logged end (take j hs) (nothing_logged n))
    ∙ map-id numbers

-- after the entries up to a switch
pub entries_logged : (end : ℕ) (hs : List Happened) (ss : List Switch) (numbers : List ℕ) (j k c : ℕ) (logged after : List TaskTally) → logged ≡ map (so_far end hs ss j k) numbers → after ≡ map (logged_all end (take c (drop j hs))) logged → after ≡ map (so_far end hs ss (j + c) k) numbers
entries_logged end hs ss numbers j k c logged after at is =
    is ∙ ap (map (logged_all end (take c (drop j hs)))) at
    ∙ map-map (logged_all end (take c (drop j hs))) (so_far end hs ss j k) numbers
    ∙ map_same (λ n. logged_all end (take c (drop j hs)) (so_far end hs ss j k n)) (so_far end hs ss (j + c) k) numbers (λ n. more_logged end hs ss j k c n)

pub entries_keyed : (end : ℕ) (hs : List Happened) (ss : List Switch) (numbers : List ℕ) (j k : ℕ) (after : List TaskTally) → after ≡ map (so_far end hs ss j k) numbers → map (λ t. t.number) after ≡ numbers
entries_keyed end hs ss numbers j k after at =
    ap (λ (ts : List TaskTally). map (λ t. t.number) ts) at ∙ so_far_keyed end hs ss numbers j k

pub few_preemptions : (end : ℕ) (hs : List Happened) (ss : List Switch) (numbers : List ℕ) (j k m : ℕ) (after : List TaskTally) → after ≡ map (so_far end hs ss j k) numbers → k ≤ m → All (λ t. t.preempted ≤ m) after
few_preemptions end hs ss numbers j k m after at l =
    subst (All (λ t. t.preempted ≤ m)) (sym at)
    (All-map (λ (t : TaskTally). t.preempted ≤ m) (so_far end hs ss j k) numbers
    (λ i d h. omega (arith, l, count_by-le-length (preempts hs (get_or numbers i d)) (take k ss), length-take k ss)))

pub next_switch : (end : ℕ) (hs : List Happened) (ss : List Switch) (numbers : List ℕ) (j k c : ℕ) (d : Switch) (logged after last : List TaskTally)
    → IsAtSwitch end hs ss numbers j k logged → k < length ss → AllPairs (λ a b. IsTrue (is_switch_before a b)) ss
    → c ≡ prefix_len (λ h. nat_le h.time (get_or ss k d).time) (drop j hs)
    → after ≡ map (logged_all end (take c (drop j hs))) logged → All (IsLoggedWithin (j + c)) last
    → last ≡ map (with_preemption (get_or ss k d)) after
    → IsAtSwitch end hs ss numbers (j + c) (k + 1) last
next_switch end hs ss numbers j k c d logged after last at l rising count a within b =
    let s = get_or ss k d in
    let all : j + c ≡ prefix_len (λ (h : Happened). nat_le h.time s.time) hs = ap (λ n. j + n) count ∙ goes_on hs j s.time (at.ahead k d (omega arith) l) in
    record {
      inside = omega (arith, all, prefix_len-le-length (λ (h : Happened). nat_le h.time s.time) hs);
      logged =
          b ∙ ap (map (with_preemption s)) (entries_logged end hs ss numbers j k c logged after at.logged a)
          ∙ map-map (with_preemption s) (so_far end hs ss (j + c) k) numbers
          ∙ map_same (λ n. with_preemption s (so_far end hs ss (j + c) k n)) (so_far end hs ss (j + c) (k + 1)) numbers
          (λ n. more_switched end hs ss (j + c) k n s l (get_or_default ss k d s l) all);
      within = within;
      ahead = λ i e m n.
          let other = get_or ss i e in
          let first : get_or ss k d ≡ get_or ss k e = get_or_default ss k d e l in
          let later : s.time ≤ other.time = omega (arith, ap (λ (x : Switch). x.time) first, not_earlier (get_or ss k e) other (rising k i e (omega (arith, m)) n)) in
          omega (arith, all, passes_later hs s.time other.time later);
    }

-- all is logged
pub at_the_end : (end : ℕ) (hs : List Happened) (ss : List Switch) (numbers : List ℕ) (j k : ℕ) (logged after : List TaskTally) → IsAtSwitch end hs ss numbers j k logged → length ss ≤ k → after ≡ map (logged_all end (drop j hs)) logged → after ≡ map (logged_by end hs ss) numbers
at_the_end end hs ss numbers j k logged after at l a =
    let to : j + (length hs - j) ≡ length hs = omega (arith, at.inside) in
    entries_logged end hs ss numbers j k (length hs - j) logged after at.logged (a ∙ ap (λ (xs : List Happened). map (logged_all end xs) logged) (sym (take_rest hs j)))
    ∙ map_same (so_far end hs ss (j + (length hs - j)) k) (logged_by end hs ss) numbers
    (λ n. (λ i. record (logged_all end (take (to i) hs) (nothing_logged n)) { preempted = count_by (preempts hs n) (take k ss) })
    ∙ (λ i. record (logged_all end (take_all (length hs) hs (omega arith) i) (nothing_logged n)) { preempted = count_by (preempts hs n) (take_all k ss l i) }))
