-- Who stays on each CPU, read off the marks and the keys; and the latest of the keys.
use Rattle.std.proofs.Common.{◌≡◌, ◌≢◌, ◌<◌, ◌≤◌, ◌+◌, ◌*◌, ◌/◌, ℕ, zero, suc, Bool, true, false, cond, eqb, ◌⊎◌, Option, Some, None, List, [], ◌∷◌, length, take, map, get_or, set, replicate, refl, sym, ap, ◌∙◌, subst, arith, inl, inr, eqb-true}
use Rattle.std.specs.Prelude.{All, is_some}
use Rattle.std.specs.Int.{bit_at}
use Rattle.std.proofs.lemmas.Bool.{cases_eq, cases_lt, false_from_ne_true, both_ways}
use Rattle.std.proofs.lemmas.List.{same_lists, get_or_default, get_or-take, get_or-set_same, get_or-set_other, get_or-replicate, get_or_past, length-set, length-take, length-replicate}
use Rattle.std.proofs.lemmas.Nat.Bits.{bit_at-lt, bit_at-zero}
use Rattle.edf_pick.specs.declared.candidate.Candidate.{Candidate}
use Rattle.edf_pick.specs.Choice.{is_before}
use Rattle.edf_pick.specs.Places.{count_occupant, AreTaken}
use Rattle.edf_pick.specs.private.Ready.{all_held, candidate_number, running_places}
use Rattle.edf_pick.specs.private.RunningSet.{bare_key, stay_of, stays_of, IsLatest, IsRunningSet}
use Rattle.edf_pick.proofs.Held.{All_held}
use Rattle.edf_pick.proofs.Before.{before_itself, before_logs, before_past}

-- THE ORDER
pub past_both : (a b c : Candidate) → is_before a b ≡ false → is_before b c ≡ false → is_before a c ≡ false
past_both a b c p q = false_from_ne_true (is_before a c) (λ h. both_ways (is_before b c) q (before_past a b c p h))

pub never_before_bare : (c : Candidate) → is_before c bare_key ≡ false
never_before_bare c = false_from_ne_true (is_before c bare_key) (λ h. elim (before_logs c bare_key h) [ inl x ↦ absurd (omega arith) | inr x ↦ absurd (omega arith) ])

-- THE VIEW
pub stays_at : (mark : ℕ → ℕ) (keys : List Candidate) (k : ℕ) (d : Candidate) → (mark k ≡ 1 → k < length keys) → get_or (stays_of mark keys) k None ≡ stay_of (mark k) (get_or keys k d)
stays_at mark [] k d within = by_mark (eqb (mark k) 1) refl
  where
    by_mark : (b : Bool) → eqb (mark k) 1 ≡ b → None ≡ cond b (Some d) None
    by_mark true e = let h = within (eqb-true (mark k) 1 e) in absurd (omega (arith, h))
    by_mark false e = refl
stays_at mark (x ∷ keys) zero d within = refl
stays_at mark (x ∷ keys) (suc k) d within = stays_at (λ i. mark (suc i)) keys k d (λ e. let h = within e in omega (arith, h))

pub length_stays : (mark : ℕ → ℕ) (keys : List Candidate) → length (stays_of mark keys) ≡ length keys
length_stays mark [] = refl
length_stays mark (x ∷ keys) = let rest = length_stays (λ i. mark (suc i)) keys in omega (arith, rest)

pub view_length : (marks cpus : ℕ) (keys : List Candidate) → length keys ≡ 64 → cpus ≤ 64 → length (stays_of (bit_at marks) (take cpus keys)) ≡ cpus
view_length marks cpus keys full few =
    let all = length_stays (bit_at marks) (take cpus keys) in
    let some = length-take cpus keys in
    omega (arith, all, some, full, few)

pub view_at : (marks cpus k : ℕ) (keys : List Candidate) → length keys ≡ 64 → cpus ≤ 64 → ((cpu : ℕ) → bit_at marks cpu ≡ 1 → cpu < cpus) → get_or (stays_of (bit_at marks) (take cpus keys)) k None ≡ stay_of (bit_at marks k) (get_or keys k bare_key)
view_at marks cpus k keys full few within =
    let some = length-take cpus keys in
    stays_at (bit_at marks) (take cpus keys) k bare_key (λ e. let h = within k e in omega (arith, h, some, full, few))
    ∙ by_mark (eqb (bit_at marks k) 1) refl
  where
    by_mark : (b : Bool) → eqb (bit_at marks k) 1 ≡ b → cond b (Some (get_or (take cpus keys) k bare_key)) None ≡ cond b (Some (get_or keys k bare_key)) None
    by_mark true e = ap (λ (c : Candidate). Some c) (get_or-take cpus keys k bare_key (within k (eqb-true (bit_at marks k) 1 e)))
    by_mark false e = refl

pub same_stays : (xs ys : List (Option Candidate)) → length xs ≡ length ys → ((k : ℕ) → get_or xs k None ≡ get_or ys k None) → xs ≡ ys
same_stays xs ys len same = same_lists xs ys len (λ k d h. get_or_default xs k d None h ∙ same k ∙ get_or_default ys k None d (omega (arith, len, h)))

-- one CPU has changed
pub view_set : (marks after cpus cpu : ℕ) (keys new : List Candidate) (o : Option Candidate) → length keys ≡ 64 → length new ≡ 64 → cpus ≤ 64 → cpu < cpus
    → ((k : ℕ) → bit_at marks k ≡ 1 → k < cpus) → ((k : ℕ) → bit_at after k ≡ 1 → k < cpus)
    → stay_of (bit_at after cpu) (get_or new cpu bare_key) ≡ o
    → ((k : ℕ) → k ≢ cpu → bit_at after k ≡ bit_at marks k) → ((k : ℕ) → k ≢ cpu → get_or new k bare_key ≡ get_or keys k bare_key)
    → stays_of (bit_at after) (take cpus new) ≡ set (stays_of (bit_at marks) (take cpus keys)) cpu o
view_set marks after cpus cpu keys new o full new_full few inside within within_after here marks_else keys_else =
    let old = stays_of (bit_at marks) (take cpus keys) in
    let old_len = view_length marks cpus keys full few in
    let new_len = view_length after cpus new new_full few in
    let set_len = length-set old cpu o in
    same_stays (stays_of (bit_at after) (take cpus new)) (set old cpu o) (omega (arith, old_len, new_len, set_len)) (λ k. elim (cases_eq k cpu) [
      | inl same ↦ ap (λ (j : ℕ). get_or (stays_of (bit_at after) (take cpus new)) j None) same ∙ view_at after cpus cpu new new_full few within_after ∙ here
          ∙ sym (ap (λ (j : ℕ). get_or (set old cpu o) j None) same ∙ get_or-set_same old cpu o None (omega (arith, inside, old_len)))
      | inr apart ↦ view_at after cpus k new new_full few within_after
          ∙ ap (λ (m : ℕ). stay_of m (get_or new k bare_key)) (marks_else k apart) ∙ ap (λ (c : Candidate). stay_of (bit_at marks k) c) (keys_else k apart)
          ∙ sym (view_at marks cpus k keys full few within) ∙ sym (get_or-set_other old cpu k o None apart)
    ])

-- whose CPU is bare has unmarked mark
pub no_mark : (m : ℕ) (c : Candidate) → m < 2 → stay_of m c ≡ None → m ≡ 0
no_mark zero c few e = refl
no_mark (suc zero) c few e = absurd cc
no_mark (suc (suc m)) c few e = absurd (omega arith)

pub is_mark : (m : ℕ) (c : Candidate) → m < 2 → is_some (stay_of m c) ≡ true → m ≡ 1
is_mark zero c few e = absurd cc
is_mark (suc zero) c few e = refl
is_mark (suc (suc m)) c few e = absurd (omega arith)

pub stay_is : (m : ℕ) (c d : Candidate) → m < 2 → stay_of m c ≡ Some d → (m ≡ 1) × (c ≡ d)
stay_is zero c d few e = absurd cc
stay_is (suc zero) c d few e = (refl, cc)
stay_is (suc (suc m)) c d few e = absurd (omega arith)

pub stay_marked : (m : ℕ) (c : Candidate) → m ≡ 1 → stay_of m c ≡ Some c
stay_marked m c e = ap (λ (n : ℕ). stay_of n c) e

pub stay_bare : (m : ℕ) (c : Candidate) → m ≡ 0 → stay_of m c ≡ None
stay_bare m c e = ap (λ (n : ℕ). stay_of n c) e

-- THOSE WHO STAY
pub count_more : (stays : List (Option Candidate)) (cpu : ℕ) (c : Candidate) → cpu < length stays → get_or stays cpu None ≡ None → length (all_held (set stays cpu (Some c))) ≡ length (all_held stays) + 1
count_more [] cpu c h bare = absurd (omega arith)
count_more (None ∷ stays) zero c h bare = omega arith
count_more (Some d ∷ stays) zero c h bare = absurd cc
count_more (None ∷ stays) (suc cpu) c h bare = count_more stays cpu c (omega arith) bare
count_more (Some d ∷ stays) (suc cpu) c h bare = let rest = count_more stays cpu c (omega arith) bare in omega (arith, rest)

pub count_less : (stays : List (Option Candidate)) (cpu : ℕ) → is_some (get_or stays cpu None) ≡ true → length (all_held (set stays cpu None)) + 1 ≡ length (all_held stays)
count_less [] cpu some = absurd cc
count_less (None ∷ stays) zero some = absurd cc
count_less (Some d ∷ stays) zero some = omega arith
count_less (None ∷ stays) (suc cpu) some = count_less stays cpu some
count_less (Some d ∷ stays) (suc cpu) some = let rest = count_less stays cpu some in omega (arith, rest)

pub held_none : (n : ℕ) → all_held (replicate n None) ≡ []
held_none zero = refl
held_none (suc n) = held_none n

-- NOBODY
keys_none : (n k : ℕ) → get_or (replicate n bare_key) k bare_key ≡ bare_key
keys_none n k = elim (cases_lt k n) [
  | inl h ↦ get_or-replicate n k bare_key bare_key h
  | inr h ↦ get_or_past (replicate n bare_key) k bare_key (omega (arith, h, length-replicate n bare_key))
]

pub none_at : (n k : ℕ) → get_or {A = Option Candidate} (replicate n None) k None ≡ None
none_at n k = elim (cases_lt k n) [
  | inl h ↦ get_or-replicate {A = Option Candidate} n k None None h
  | inr h ↦ get_or_past {X = Option Candidate} (replicate n None) k None (omega (arith, h, length-replicate {A = Option Candidate} n None))
]

pub view_none : (cpus : ℕ) → cpus ≤ 64 → stays_of (bit_at 0) (take cpus (replicate 64 bare_key)) ≡ replicate cpus None
view_none cpus few =
    let keys : List Candidate = replicate 64 bare_key in
    let within : (k : ℕ) → bit_at 0 k ≡ 1 → k < cpus = λ k e. let none = bit_at-zero k in absurd (omega (arith, e, none)) in
    let len = view_length 0 cpus keys (length-replicate 64 bare_key) few in
    let all = length-replicate {A = Option Candidate} cpus None in
    same_stays (stays_of (bit_at 0) (take cpus keys)) (replicate cpus None) (omega (arith, len, all))
    (λ k. view_at 0 cpus k keys (length-replicate 64 bare_key) few within ∙ stay_bare (bit_at 0 k) (get_or keys k bare_key) (bit_at-zero k) ∙ sym (none_at cpus k))

pub none_stay : (cpus : ℕ) → cpus ≤ 64 → IsRunningSet cpus 0 0 (replicate 64 bare_key) (replicate 8 bare_key) 0 bare_key
none_stay cpus few =
    let clash : (k : ℕ) → bit_at 0 k ≡ 1 → ⊥ = λ k e. let none = bit_at-zero k in omega (arith, e, none) in
    record {
      few = few;
      full = length-replicate 64 bare_key;
      eight = length-replicate 8 bare_key;
      many = sym (ap (λ (xs : List (Option Candidate)). length (all_held xs)) (view_none cpus few) ∙ ap (λ (xs : List Candidate). length xs) (held_none cpus));
      within = λ k e. absurd (clash k e);
      home = λ k e. absurd (clash k e);
      bare = λ k e. keys_none 64 k;
      groups = λ k e. absurd (clash k e);
      known = λ g h e. record {
        bound = λ k l m. never_is k (get_or (replicate 8 bare_key) g bare_key);
        there = (8 * g, omega arith, omega arith, keys_none 64 (8 * g) ∙ sym (keys_none 8 g));
      };
      last = λ k. never_is k bare_key;
    }
  where
    never_is : (k : ℕ) (c : Candidate) → is_before c (get_or (replicate 64 bare_key) k bare_key) ≡ false
    never_is k c = ap (λ (d : Candidate). is_before c d) (keys_none 64 k) ∙ never_before_bare c

-- THE MARKS
number_at : (stays : List (Option Candidate)) (cpu : ℕ) → get_or (map candidate_number stays) cpu None ≡ candidate_number (get_or stays cpu None)
number_at [] cpu = refl
number_at (o ∷ stays) zero = refl
number_at (o ∷ stays) (suc cpu) = number_at stays cpu

taken_of : (m : ℕ) (c : Candidate) → m < 2 → m ≡ count_occupant (candidate_number (stay_of m c))
taken_of zero c few = refl
taken_of (suc zero) c few = refl
taken_of (suc (suc m)) c few = absurd (omega arith)

pub marks_taken : (marks cpus : ℕ) (keys : List Candidate) → length keys ≡ 64 → cpus ≤ 64 → ((cpu : ℕ) → bit_at marks cpu ≡ 1 → cpu < cpus) → AreTaken (running_places (stays_of (bit_at marks) (take cpus keys))) marks
marks_taken marks cpus keys full few within cpu =
    let view = stays_of (bit_at marks) (take cpus keys) in
    taken_of (bit_at marks cpu) (get_or keys cpu bare_key) (bit_at-lt marks cpu)
    ∙ sym (ap (λ (o : Option ℕ). count_occupant o) (number_at view cpu ∙ ap (λ (o : Option Candidate). candidate_number o) (view_at marks cpus cpu keys full few within)))

-- THE LATEST
pub same_latest : (keys new : List Candidate) (from to : ℕ) (c : Candidate) → ((k : ℕ) → from ≤ k → k < to → get_or new k bare_key ≡ get_or keys k bare_key) → IsLatest keys from to c → IsLatest new from to c
same_latest keys new from to c same is = record {
  bound = λ k l m. ap (λ (d : Candidate). is_before c d) (same k l m) ∙ is.bound k l m;
  there = (is.there.0, is.there.1, is.there.2, same is.there.0 is.there.1 is.there.2 ∙ is.there.3);
}

-- one more key, where the bare one was
pub later_latest : (keys : List Candidate) (from to cpu : ℕ) (c key r : Candidate) → cpu < length keys → from ≤ cpu → cpu < to → get_or keys cpu bare_key ≡ bare_key → IsLatest keys from to c
    → (r ≡ c) ⊎ (r ≡ key) → is_before r c ≡ false → is_before r key ≡ false → (is_before key c ≡ false → r ≡ key)
    → IsLatest (set keys cpu key) from to r
later_latest keys from to cpu c key r inside low high bare is one first second tie = record {
  bound = λ k l m. elim (cases_eq k cpu) [
    | inl same ↦ ap (λ (j : ℕ). is_before r (get_or (set keys cpu key) j bare_key)) same ∙ ap (λ (d : Candidate). is_before r d) here ∙ second
    | inr apart ↦ ap (λ (d : Candidate). is_before r d) (get_or-set_other keys cpu k key bare_key apart) ∙ past_both r c (get_or keys k bare_key) first (is.bound k l m)
  ];
  there = elim one [
    | inl old ↦ elim (cases_eq is.there.0 cpu) [
      | inl same ↦
          let was : c ≡ bare_key = sym is.there.3 ∙ ap (λ (j : ℕ). get_or keys j bare_key) same ∙ bare in
          let now : r ≡ key = tie (ap (λ (d : Candidate). is_before key d) was ∙ never_before_bare key) in
          (cpu, low, high, here ∙ sym now)
      | inr apart ↦ (is.there.0, is.there.1, is.there.2, get_or-set_other keys cpu is.there.0 key bare_key apart ∙ is.there.3 ∙ sym old)
    ]
    | inr new ↦ (cpu, low, high, here ∙ sym new)
  ];
}
  where
    here : get_or (set keys cpu key) cpu bare_key ≡ key
    here = get_or-set_same keys cpu key bare_key inside

-- of one key, and of two parts by the latest of each
pub latest_one : (keys : List Candidate) (at : ℕ) → IsLatest keys at (at + 1) (get_or keys at bare_key)
latest_one keys at = record {
  bound = λ k l m. let same : k ≡ at = omega (arith, l, m) in ap (λ (j : ℕ). is_before (get_or keys at bare_key) (get_or keys j bare_key)) same ∙ before_itself (get_or keys at bare_key);
  there = (at, omega arith, omega arith, refl);
}

pub latest_joined : (keys : List Candidate) (from mid end to : ℕ) (a b r : Candidate) → from ≤ mid → mid ≤ to → end ≡ to → IsLatest keys from mid a → IsLatest keys mid end b
    → (r ≡ a) ⊎ (r ≡ b) → is_before r a ≡ false → is_before r b ≡ false → IsLatest keys from to r
latest_joined keys from mid end to a b r low high same one other is first second = record {
  bound = λ k l m. elim (cases_lt k mid) [
    | inl less ↦ past_both r a (get_or keys k bare_key) first (one.bound k l less)
    | inr more ↦ past_both r b (get_or keys k bare_key) second (other.bound k more (omega (arith, m, same)))
  ];
  there = elim is [
    | inl old ↦ let h = one.there.2 in (one.there.0, one.there.1, omega (arith, h, high), one.there.3 ∙ sym old)
    | inr new ↦ let h = other.there.1 in let k = other.there.2 in (other.there.0, omega (arith, h, low), omega (arith, k, same), other.there.3 ∙ sym new)
  ];
}

-- the latest of all, by the latest of each eight
pub latest_bound : (keys most : List Candidate) (c : Candidate) → length keys ≡ 64 → ((g : ℕ) → g < 8 → IsLatest keys (8 * g) (8 * g + 8) (get_or most g bare_key)) → IsLatest most 0 8 c → (cpu : ℕ) → is_before c (get_or keys cpu bare_key) ≡ false
latest_bound keys most c full known is cpu = elim (cases_lt cpu 64) [
  | inl h ↦
      let g = cpu / 8 in
      past_both c (get_or most g bare_key) (get_or keys cpu bare_key) (is.bound g (omega arith) (omega arith)) ((known g (omega arith)).bound cpu (omega arith) (omega arith))
  | inr h ↦ ap (λ (d : Candidate). is_before c d) (get_or_past keys cpu bare_key (omega (arith, full, h))) ∙ never_before_bare c
]

pub latest_at : (keys most : List Candidate) (c : Candidate) → ((g : ℕ) → g < 8 → IsLatest keys (8 * g) (8 * g + 8) (get_or most g bare_key)) → IsLatest most 0 8 c → (cpu : ℕ) × (get_or keys cpu bare_key ≡ c)
latest_at keys most c known is =
    let g = is.there.0 in
    let one = known g is.there.2 in
    (one.there.0, one.there.3 ∙ is.there.3)

-- STEPS
pub came_view : (cpus busy marks after unknown cpu : ℕ) (keys most : List Candidate) (top key : Candidate) → IsRunningSet cpus busy marks keys most unknown top → cpu < cpus
    → bit_at after cpu ≡ 1 → ((k : ℕ) → k ≢ cpu → bit_at after k ≡ bit_at marks k)
    → stays_of (bit_at after) (take cpus (set keys cpu key)) ≡ set (stays_of (bit_at marks) (take cpus keys)) cpu (Some key)
came_view cpus busy marks after unknown cpu keys most top key is inside mark others =
    let few = is.few in
    let full = is.full in
    let new = set keys cpu key in
    let here : get_or new cpu bare_key ≡ key = get_or-set_same keys cpu key bare_key (omega (arith, full, inside, few)) in
    view_set marks after cpus cpu keys new (Some key) full (length-set keys cpu key ∙ full) few inside is.within
    (λ k e. elim (cases_eq k cpu) [ inl same ↦ omega (arith, same, inside) | inr apart ↦ is.within k (sym (others k apart) ∙ e) ])
    (stay_marked (bit_at after cpu) (get_or new cpu bare_key) mark ∙ ap (λ (c : Candidate). Some c) here) others (λ k apart. get_or-set_other keys cpu k key bare_key apart)

pub gone_view : (cpus busy marks after unknown cpu : ℕ) (keys most : List Candidate) (top : Candidate) → IsRunningSet cpus busy marks keys most unknown top → bit_at marks cpu ≡ 1
    → bit_at after cpu ≡ 0 → ((k : ℕ) → k ≢ cpu → bit_at after k ≡ bit_at marks k)
    → stays_of (bit_at after) (take cpus (set keys cpu bare_key)) ≡ set (stays_of (bit_at marks) (take cpus keys)) cpu None
gone_view cpus busy marks after unknown cpu keys most top is mark unmarked others =
    let few = is.few in
    let full = is.full in
    let inside : cpu < cpus = is.within cpu mark in
    let new = set keys cpu bare_key in
    view_set marks after cpus cpu keys new None full (length-set keys cpu bare_key ∙ full) few inside is.within
    (λ k e. elim (cases_eq k cpu) [ inl same ↦ omega (arith, same, inside) | inr apart ↦ is.within k (sym (others k apart) ∙ e) ])
    (stay_bare (bit_at after cpu) (get_or new cpu bare_key) unmarked) others (λ k apart. get_or-set_other keys cpu k bare_key bare_key apart)

pub is_stayed : (cpus busy marks after unknown cpu : ℕ) (keys most : List Candidate) (top key m t : Candidate) → IsRunningSet cpus busy marks keys most unknown top → cpu < cpus
    → bit_at marks cpu ≡ 0 → key.home ≡ cpu → bit_at after cpu ≡ 1 → ((k : ℕ) → k ≢ cpu → bit_at after k ≡ bit_at marks k)
    → (m ≡ get_or most (cpu / 8) bare_key) ⊎ (m ≡ key) → is_before m (get_or most (cpu / 8) bare_key) ≡ false → is_before m key ≡ false → (is_before key (get_or most (cpu / 8) bare_key) ≡ false → m ≡ key)
    → is_before t top ≡ false → is_before t key ≡ false
    → IsRunningSet cpus (busy + 1) after (set keys cpu key) (set most (cpu / 8) m) unknown t
is_stayed cpus busy marks after unknown cpu keys most top key m t is inside unmarked home mark others one first second tie past_top past_key =
    let few = is.few in
    let full = is.full in
    let eight = is.eight in
    let new = set keys cpu key in
    let g = cpu / 8 in
    let new_full : length new ≡ 64 = length-set keys cpu key ∙ full in
    let here : get_or new cpu bare_key ≡ key = get_or-set_same keys cpu key bare_key (omega (arith, full, inside, few)) in
    let there : (k : ℕ) → k ≢ cpu → get_or new k bare_key ≡ get_or keys k bare_key = λ k apart. get_or-set_other keys cpu k key bare_key apart in
    let within : (k : ℕ) → bit_at after k ≡ 1 → k < cpus = λ k e. elim (cases_eq k cpu) [ inl same ↦ omega (arith, same, inside) | inr apart ↦ is.within k (sym (others k apart) ∙ e) ] in
    let view = came_view cpus busy marks after unknown cpu keys most top key is inside mark others in
    let old_len = view_length marks cpus keys full few in
    let more = count_more (stays_of (bit_at marks) (take cpus keys)) cpu key (omega (arith, old_len, inside)) (view_at marks cpus cpu keys full few is.within ∙ stay_bare (bit_at marks cpu) (get_or keys cpu bare_key) unmarked) in
    let same_len = ap (λ (xs : List (Option Candidate)). length (all_held xs)) view in
    let was = is.many in
    record {
      few = few;
      full = new_full;
      eight = length-set most g m ∙ eight;
      many = omega (arith, more, same_len, was);
      within = within;
      home = λ k e. elim (cases_eq k cpu) [
        | inl same ↦ ap (λ (j : ℕ). (get_or new j bare_key).home) same ∙ ap (λ (c : Candidate). c.home) here ∙ home ∙ sym same
        | inr apart ↦ ap (λ (c : Candidate). c.home) (there k apart) ∙ is.home k (sym (others k apart) ∙ e)
      ];
      bare = λ k e. elim (cases_eq k cpu) [
        | inl same ↦ absurd (let both : bit_at after k ≡ 1 = ap (bit_at after) same ∙ mark in omega (arith, both, e))
        | inr apart ↦ there k apart ∙ is.bare k (sym (others k apart) ∙ e)
      ];
      groups = is.groups;
      known = λ h l e. elim (cases_eq h g) [
        | inl same ↦
            let old : IsLatest keys (8 * h) (8 * h + 8) (get_or most g bare_key) = subst (λ (j : ℕ). IsLatest keys (8 * h) (8 * h + 8) (get_or most j bare_key)) same (is.known h l e) in
            let at : get_or (set most g m) h bare_key ≡ m = ap (λ (j : ℕ). get_or (set most g m) j bare_key) same ∙ get_or-set_same most g m bare_key (omega (arith, eight, l, same)) in
            subst (λ (c : Candidate). IsLatest new (8 * h) (8 * h + 8) c) (sym at)
            (later_latest keys (8 * h) (8 * h + 8) cpu (get_or most g bare_key) key m (omega (arith, full, inside, few)) (omega (arith, same)) (omega (arith, same)) (is.bare cpu unmarked) old one first second tie)
        | inr apart ↦
            subst (λ (c : Candidate). IsLatest new (8 * h) (8 * h + 8) c) (sym (get_or-set_other most g h m bare_key apart))
            (same_latest keys new (8 * h) (8 * h + 8) (get_or most h bare_key) (λ k low high. there k (λ same. apart (omega (arith, same, low, high)))) (is.known h l e))
      ];
      last = λ k. elim (cases_eq k cpu) [
        | inl same ↦ ap (λ (j : ℕ). is_before t (get_or new j bare_key)) same ∙ ap (λ (c : Candidate). is_before t c) here ∙ past_key
        | inr apart ↦ ap (λ (c : Candidate). is_before t c) (there k apart) ∙ past_both t top (get_or keys k bare_key) past_top (is.last k)
      ];
    }

pub is_off : (cpus busy less marks after unknown more cpu : ℕ) (keys most : List Candidate) (top : Candidate) → IsRunningSet cpus busy marks keys most unknown top
    → bit_at marks cpu ≡ 1 → bit_at after cpu ≡ 0 → ((k : ℕ) → k ≢ cpu → bit_at after k ≡ bit_at marks k)
    → bit_at more (cpu / 8) ≡ 1 → ((g : ℕ) → g ≢ cpu / 8 → bit_at more g ≡ bit_at unknown g) → less + 1 ≡ busy
    → IsRunningSet cpus less after (set keys cpu bare_key) most more top
is_off cpus busy less marks after unknown more cpu keys most top is mark unmarked others set_here set_else minus =
    let few = is.few in
    let full = is.full in
    let inside : cpu < cpus = is.within cpu mark in
    let new = set keys cpu bare_key in
    let new_full : length new ≡ 64 = length-set keys cpu bare_key ∙ full in
    let here : get_or new cpu bare_key ≡ bare_key = get_or-set_same keys cpu bare_key bare_key (omega (arith, full, inside, few)) in
    let there : (k : ℕ) → k ≢ cpu → get_or new k bare_key ≡ get_or keys k bare_key = λ k apart. get_or-set_other keys cpu k bare_key bare_key apart in
    let within : (k : ℕ) → bit_at after k ≡ 1 → k < cpus = λ k e. elim (cases_eq k cpu) [ inl same ↦ omega (arith, same, inside) | inr apart ↦ is.within k (sym (others k apart) ∙ e) ] in
    let view = gone_view cpus busy marks after unknown cpu keys most top is mark unmarked others in
    let fewer = count_less (stays_of (bit_at marks) (take cpus keys)) cpu (ap (λ (o : Option Candidate). is_some o) (view_at marks cpus cpu keys full few is.within ∙ stay_marked (bit_at marks cpu) (get_or keys cpu bare_key) mark)) in
    let same_len = ap (λ (xs : List (Option Candidate)). length (all_held xs)) view in
    let was = is.many in
    record {
      few = few;
      full = new_full;
      eight = is.eight;
      many = omega (arith, fewer, same_len, was, minus);
      within = within;
      home = λ k e. elim (cases_eq k cpu) [
        | inl same ↦ absurd (let both : bit_at after k ≡ 0 = ap (bit_at after) same ∙ unmarked in omega (arith, both, e))
        | inr apart ↦ ap (λ (c : Candidate). c.home) (there k apart) ∙ is.home k (sym (others k apart) ∙ e)
      ];
      bare = λ k e. elim (cases_eq k cpu) [
        | inl same ↦ ap (λ (j : ℕ). get_or new j bare_key) same ∙ here
        | inr apart ↦ there k apart ∙ is.bare k (sym (others k apart) ∙ e)
      ];
      groups = λ g e. elim (cases_eq g (cpu / 8)) [
        | inl same ↦ omega (arith, same, inside, few)
        | inr apart ↦ is.groups g (sym (set_else g apart) ∙ e)
      ];
      known = λ g l e.
          let apart : g ≢ cpu / 8 = λ same. let both : bit_at more g ≡ 1 = ap (bit_at more) same ∙ set_here in omega (arith, both, e) in
          same_latest keys new (8 * g) (8 * g + 8) (get_or most g bare_key) (λ k low high. there k (λ same. apart (omega (arith, same, low, high)))) (is.known g l (sym (set_else g apart) ∙ e));
      last = λ k. elim (cases_eq k cpu) [
        | inl same ↦ ap (λ (j : ℕ). is_before top (get_or new j bare_key)) same ∙ ap (λ (c : Candidate). is_before top c) here ∙ never_before_bare top
        | inr apart ↦ ap (λ (c : Candidate). is_before top c) (there k apart) ∙ is.last k
      ];
    }

-- unmarked key is after a task, so nobody who stays is
pub held_bound : (marks cpus : ℕ) (keys : List Candidate) (c : Candidate) → length keys ≡ 64 → cpus ≤ 64 → ((cpu : ℕ) → bit_at marks cpu ≡ 1 → cpu < cpus) → ((cpu : ℕ) → is_before c (get_or keys cpu bare_key) ≡ false)
    → All (λ a. is_before c a ≡ false) (all_held (stays_of (bit_at marks) (take cpus keys)))
held_bound marks cpus keys c full few within past =
    let view = stays_of (bit_at marks) (take cpus keys) in
    All_held (λ a. is_before c a ≡ false) view (λ cpu a e.
    let at = stay_is (bit_at marks cpu) (get_or keys cpu bare_key) a (bit_at-lt marks cpu) (sym (view_at marks cpus cpu keys full few within) ∙ e) in
    ap (λ (d : Candidate). is_before c d) (sym at.1) ∙ past cpu)

-- one that another is before stays on its home CPU
pub latest_stays : (cpus busy marks unknown : ℕ) (keys most : List Candidate) (top c last : Candidate) → IsRunningSet cpus busy marks keys most unknown top → is_before c last ≡ true → (cpu : ℕ) × (get_or keys cpu bare_key ≡ last)
    → get_or (stays_of (bit_at marks) (take cpus keys)) last.home None ≡ Some last
latest_stays cpus busy marks unknown keys most top c last is before at =
    let cpu = at.0 in
    elim (cases_eq (bit_at marks cpu) 1) [
      | inl mark ↦
          let home : last.home ≡ cpu = ap (λ (d : Candidate). d.home) (sym at.1) ∙ is.home cpu mark in
          ap (λ (k : ℕ). get_or (stays_of (bit_at marks) (take cpus keys)) k None) home
          ∙ view_at marks cpus cpu keys is.full is.few is.within ∙ stay_marked (bit_at marks cpu) (get_or keys cpu bare_key) mark ∙ ap (λ (d : Candidate). Some d) at.1
      | inr other ↦
          let few = bit_at-lt marks cpu in
          let bare : last ≡ bare_key = sym at.1 ∙ is.bare cpu (omega (arith, other, few)) in
          absurd (both_ways (is_before c last) (ap (λ (d : Candidate). is_before c d) bare ∙ never_before_bare c) before)
    ]
