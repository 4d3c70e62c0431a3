-- The switches of a run rise strictly by time and CPU, and name admitted tasks alone.
use Rattle.std.proofs.Common.{◌≡◌, ℕ, suc, ◌+◌, ◌-◌, ◌<◌, ◌≤◌, Bool, true, false, cond, ltb, ◌||◌, Option, Some, None, List, [], ◌∷◌, ◌++◌, length, get_or, refl, sym, arith, inl, inr, eq-eqb, length-append}
use Rattle.std.specs.Prelude.{All, AllPairs, IfSome, IsTrue}
use Rattle.std.proofs.lemmas.Bool.{cases_lt, lt-ltb}
use Rattle.std.proofs.lemmas.List.{get_or-append_right}
use Rattle.std.proofs.Math.ListN.{get_or-append}
use Rattle.std.proofs.lemmas.List.Elements.{All-nil, All-cons, All-append, All-weaker}
use Rattle.std.proofs.lemmas.List.Kept.{AllPairs-cons}
use Rattle.domain_run.specs.declared.task.Task.{Task}
use Rattle.domain_run.specs.Switch.{Switch}
use Rattle.edf_pick.specs.Places.{Places}
use Rattle.edf_pick.specs.Moves.{same_occupant}
use Rattle.domain_run.specs.Switches.{prev_state_of, switches_from, is_switch_before}
use Rattle.domain_run.specs.Domain.{Domain}
use Rattle.domain_run.specs.Sound.{occupant, IsAdmitted, IsSwitch, IsTraced}

-- a switch of this tick, on one of these CPUs
pub record IsHere (time low high : ℕ) (used : List ℕ) (s : Switch) : Type 0 where
  pub at : s.time ≡ time
  pub not_below : low ≤ s.cpu
  pub below : s.cpu < high
  pub prev : IfSome s.prev (IsAdmitted used)
  pub next : IfSome s.next (IsAdmitted used)

abbrev pub AreRunning : List ℕ → Places → Type 0
AreRunning used places = (cpu n : ℕ) → occupant places cpu ≡ Some n → IsAdmitted used n

running_first : (used : List ℕ) (o : Option ℕ) (places : Places) → AreRunning used (o ∷ places) → IfSome o (IsAdmitted used)
running_first used None places all = tt
running_first used (Some n) places all = all 0 n refl

running_rest : (used : List ℕ) (o : Option ℕ) (places : Places) → AreRunning used (o ∷ places) → AreRunning used places
running_rest used o places all cpu n e = all (suc cpu) n e

here_later : (time low high : ℕ) (used : List ℕ) (s : Switch) → IsHere time (low + 1) high used s → IsHere time low high used s
here_later time low high used s h = record { at = h.at; not_below = omega (arith, h.not_below); below = h.below; prev = h.prev; next = h.next }

here_all : (time : ℕ) (tasks : List Task) (used : List ℕ) (cpu : ℕ) (before after : Places) → AreRunning used before → AreRunning used after
    → All (IsHere time cpu (cpu + length before) used) (switches_from time tasks cpu before after)
here_all time tasks used cpu [] after a b = All-nil _
here_all time tasks used cpu (p ∷ before) [] a b = All-nil _
here_all time tasks used cpu (p ∷ before) (n ∷ after) a b =
    let P = IsHere time cpu (cpu + length (p ∷ before)) used in
    let e : cpu + length (p ∷ before) ≡ cpu + 1 + length before = omega arith in
    let rest : All P (switches_from time tasks (cpu + 1) before after) =
    All-weaker (IsHere time (cpu + 1) (cpu + 1 + length before) used) P (λ s h. rw e (here_later time cpu (cpu + 1 + length before) used s h)) (switches_from time tasks (cpu + 1) before after)
    (here_all time tasks used (cpu + 1) before after (running_rest used p before a) (running_rest used n after b)) in
    let one : P (record { time = time; prev = p; next = n; cpu = cpu; state = prev_state_of tasks p }) =
    record { at = refl; not_below = omega arith; below = omega arith; prev = running_first used p before a; next = running_first used n after b } in
    elim (same_occupant p n) as (λ b. All P (cond b (switches_from time tasks (cpu + 1) before after) (record { time = time; prev = p; next = n; cpu = cpu; state = prev_state_of tasks p } ∷ switches_from time tasks (cpu + 1) before after))) [
      | true ↦ rest
      | false ↦ All-cons P _ _ one rest
    ]

or_true : (b : Bool) → (b || true) ≡ true
or_true true = refl
or_true false = refl

before_same : (a b : Switch) → a.time ≡ b.time → a.cpu < b.cpu → is_switch_before a b ≡ true
before_same a b e h = rw (eq-eqb a.time b.time e, lt-ltb a.cpu b.cpu h) (or_true (ltb a.time b.time))

pub before_time : (a b : Switch) → a.time < b.time → is_switch_before a b ≡ true
before_time a b h = rw (lt-ltb a.time b.time h) refl

abbrev Rises : Switch → Switch → Type 0
Rises a b = IsTrue (is_switch_before a b)

rising_here : (time : ℕ) (tasks : List Task) (used : List ℕ) (cpu : ℕ) (before after : Places) → AreRunning used before → AreRunning used after
    → AllPairs Rises (switches_from time tasks cpu before after)
rising_here time tasks used cpu [] after a b = λ i j d less within. absurd (omega arith)
rising_here time tasks used cpu (p ∷ before) [] a b = λ i j d less within. absurd (omega arith)
rising_here time tasks used cpu (p ∷ before) (n ∷ after) a b =
    let more = switches_from time tasks (cpu + 1) before after in
    let rest : AllPairs Rises more = rising_here time tasks used (cpu + 1) before after (running_rest used p before a) (running_rest used n after b) in
    let s : Switch = record { time = time; prev = p; next = n; cpu = cpu; state = prev_state_of tasks p } in
    let first : All (Rises s) more =
    All-weaker (IsHere time (cpu + 1) (cpu + 1 + length before) used) (Rises s) (λ x h. before_same s x (sym h.at) (omega (arith, h.not_below))) more
    (here_all time tasks used (cpu + 1) before after (running_rest used p before a) (running_rest used n after b)) in
    elim (same_occupant p n) as (λ b. AllPairs Rises (cond b more (s ∷ more))) [
      | true ↦ rest
      | false ↦ AllPairs-cons Rises s more first rest
    ]

pub AllPairs-append : {X : Type 0} (R : X → X → Type 0) (xs ys : List X) → AllPairs R xs → AllPairs R ys → ((i j : ℕ) (d : X) → i < length xs → j < length ys → R (get_or xs i d) (get_or ys j d)) → AllPairs R (xs ++ ys)
AllPairs-append R xs ys first second across i j d less within =
    let n = length xs in
    let all : length (xs ++ ys) ≡ n + length ys = length-append xs ys in
    elim (cases_lt j n) [
      | inl h ↦ let k : i < n = omega arith in rw (get_or-append xs ys d i k, get_or-append xs ys d j h) (first i j d less h)
      | inr h ↦ elim (cases_lt i n) [
        | inl k ↦ rw (get_or-append xs ys d i k, get_or-append_right xs ys n j d refl h) (across i (j - n) d k (omega arith))
        | inr k ↦ rw (get_or-append_right xs ys n i d refl k, get_or-append_right xs ys n j d refl h) (second (i - n) (j - n) d (omega arith) (omega arith))
      ]
    ]

pub tick_traced : (d : Domain) (tasks ran : List Task) (places : Places) → length d.curr ≡ d.cpus → IsTraced d → AreRunning d.used places
    → IsTraced (record d { time = d.time + 1; tasks = ran; curr = places; switches = d.switches ++ switches_from d.time tasks 0 d.curr places })
tick_traced d tasks ran places wide is on_cpu =
    let more = switches_from d.time tasks 0 d.curr places in
    let here = here_all d.time tasks d.used 0 d.curr places is.on_cpu on_cpu in
    let P = IsSwitch d.cpus (d.time + 1) d.used in
    let Here = IsHere d.time 0 (0 + length d.curr) d.used in
    record {
      switches = All-append P d.switches more
          (All-weaker (IsSwitch d.cpus d.time d.used) P (λ s h. record { past = omega (arith, h.past); inside = h.inside; prev = h.prev; next = h.next }) d.switches is.switches)
          (All-weaker Here P (λ s h. record { past = omega (arith, h.at); inside = omega (arith, h.below, wide); prev = h.prev; next = h.next }) more here);
      rising = AllPairs-append Rises d.switches more is.rising (rising_here d.time tasks d.used 0 d.curr places is.on_cpu on_cpu)
          (λ i j x h k. before_time (get_or d.switches i x) (get_or more j x) (omega (arith, (is.switches i x h).past, (here j x k).at)));
      on_cpu = on_cpu;
    }

-- a new number changes nothing of the switches
pub listed_traced : (d e : Domain) → e.cpus ≡ d.cpus → e.time ≡ d.time → e.switches ≡ d.switches → e.curr ≡ d.curr → ((n : ℕ) → IsAdmitted d.used n → IsAdmitted e.used n) → IsTraced d → IsTraced e
listed_traced d e cpus time switches places grows is =
    let some : (o : Option ℕ) → IfSome o (IsAdmitted d.used) → IfSome o (IsAdmitted e.used) = elim [ None ↦ λ h. tt | Some n ↦ λ h. grows n h ] in
    record {
      switches = rw (switches, cpus, time) (All-weaker (IsSwitch d.cpus d.time d.used) (IsSwitch d.cpus d.time e.used) (λ s h. record { past = h.past; inside = h.inside; prev = some s.prev h.prev; next = some s.next h.next }) d.switches is.switches);
      rising = rw switches is.rising;
      on_cpu = rw places (λ cpu n h. grows n (is.on_cpu cpu n h));
    }
