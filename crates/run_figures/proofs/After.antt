-- What is logged of tasks and CPUs by the switches, with one more after them.
use Rattle.std.proofs.Common.{◌≡◌, ◌≢◌, ℕ, ◌+◌, ◌-◌, ◌*◌, ◌≤◌, ◌<◌, Bool, true, false, cond, eqb, ⊎_elim, List, [], ◌∷◌, ◌++◌, length, get_or, take, map, Option, Some, None, refl, sym, ap, ◌∙◌, arith, subst, All, eq-eqb}
use Rattle.std.specs.Prelude.{AllPairs, IsTrue, filter, sum_by, count_by, nat_lt, ◌==◌, ◌&&◌}
use Rattle.std.proofs.lemmas.Bool.{ne_eqb, cases_eq, eqb-true, or_cases, and_parts, ltb-true}
use Rattle.std.specs.List.{range_with_len}
use Rattle.std.proofs.lemmas.List.{length-map, take_more, get_or-take, get_or_default, length-take, get_or-map, map-id, map-append, append-nil}
use Rattle.std.proofs.lemmas.List.FromFn.{length-range_with_len, get_or-range_with_len}
use Rattle.std.proofs.lemmas.List.Elements.{All-head, All-tail, All-map, filter-append}
use Rattle.std.proofs.lemmas.List.Sums.{sum_by-cons, sum_by-append, fold-append, length-filter, count_by-le-length}
use Rattle.domain_run.specs.Switch.{Switch}
use Rattle.domain_run.specs.Switches.{is_switch_before}
use Rattle.run_figures.specs.declared.ran.Ran.{Ran}
use Rattle.run_figures.specs.declared.ran.Cpu.{Cpu}
use Rattle.edf_pick.specs.Places.{is_task}
use Rattle.run_figures.specs.Stays.{Stay, until, stays_by, stays, cpu_us, busy_us, placements, changes_from, changes, migrations}
use Rattle.run_figures.specs.private.Running.{last_from, last_of, ran_by, moves_to, with_stay, with_stay_of, without_rest_of, who_from, cpu_by, busy_if, with_switch, with_switch_on}
use Rattle.run_figures.proofs.Passing.{map-map, map_same}

pub not_earlier : (a b : Switch) → IsTrue (is_switch_before a b) → a.time ≤ b.time
not_earlier a b h = ⊎_elim
    (λ (less : nat_lt a.time b.time ≡ true). omega (arith, ltb-true a.time b.time less))
    (λ (same : ((a.time == b.time) && nat_lt a.cpu b.cpu) ≡ true). omega (arith, eqb-true a.time b.time (and_parts (a.time == b.time) (nat_lt a.cpu b.cpu) same).0))
    (or_cases (nat_lt a.time b.time) ((a.time == b.time) && nat_lt a.cpu b.cpu) h)

-- THE STAYS
-- what a stay adds to the CPU time of a task, and to that of a CPU
abbrev pub us_in : (Stay → Bool) → List Stay → ℕ
us_in p xs = sum_by (λ (s : Stay). s.us) (filter p xs)

pub us_in-cons : (p : Stay → Bool) (x : Stay) (xs : List Stay) → us_in p (x ∷ xs) ≡ cond (p x) x.us 0 + us_in p xs
us_in-cons p x xs = elim (p x) as (λ b. sum_by (λ (s : Stay). s.us) (cond b (x ∷ filter p xs) (filter p xs)) ≡ cond b x.us 0 + us_in p xs) [
  | true ↦ sum_by-cons (λ (s : Stay). s.us) x (filter p xs)
  | false ↦ omega arith
]

-- a time of whoever has a CPU, where it counts
abbrev pub us_of : (ℕ → ℕ → Bool) → ℕ → ℕ → Option ℕ → ℕ
us_of p cpu us None = 0
us_of p cpu us (Some n) = cond (p n cpu) us 0

stay_adds : (p : ℕ → ℕ → Bool) (s : Switch) (u : ℕ) (next : Option ℕ) (later : List Stay)
    → us_in (λ x. p x.number x.cpu) (stays_by s u next ++ later) ≡ us_of p s.cpu (u - s.time) next + us_in (λ x. p x.number x.cpu) later
stay_adds p s u None later = omega arith
stay_adds p s u (Some n) later = us_in-cons (λ x. p x.number x.cpu) (record { number = n; cpu = s.cpu; us = u - s.time }) later

-- the stay of whoever has the CPU lasts to the switch, and no more to the end
parted : (b : Bool) (from to end : ℕ) → from ≤ to → to ≤ end → cond b (to - from) 0 + cond b (end - to) 0 ≡ cond b (end - from) 0 + 0
parted true from to end a b = omega (arith, a, b)
parted false from to end a b = omega arith

cut_short : (p : ℕ → ℕ → Bool) (cpu from to end : ℕ) (who : Option ℕ) → from ≤ to → to ≤ end → us_of p cpu (to - from) who + us_of p cpu (end - to) who ≡ us_of p cpu (end - from) who + 0
cut_short p cpu from to end None a b = omega arith
cut_short p cpu from to end (Some n) a b = parted (p n cpu) from to end a b

has_it : (p : ℕ → ℕ → Bool) (time from : ℕ) (s : Switch) (who : Option ℕ) (ss : List Switch) → from ≤ s.time → s.time ≤ time
    → us_of p s.cpu (until time s.cpu (ss ++ s ∷ []) - from) who + us_of p s.cpu (time - s.time) (who_from who s.cpu ss)
    ≡ us_of p s.cpu (until time s.cpu ss - from) who + us_of p s.cpu (time - s.time) (who_from None s.cpu ss)
has_it p time from s who [] a b =
    ap (λ c. us_of p s.cpu (cond c s.time time - from) who + us_of p s.cpu (time - s.time) who) (eq-eqb s.cpu s.cpu refl)
    ∙ cut_short p s.cpu from s.time time who a b
has_it p time from s who (x ∷ xs) a b =
    elim (eqb x.cpu s.cpu) as (λ c. us_of p s.cpu (cond c x.time (until time s.cpu (xs ++ s ∷ [])) - from) who + us_of p s.cpu (time - s.time) (who_from (cond c x.next who) s.cpu xs)
    ≡ us_of p s.cpu (cond c x.time (until time s.cpu xs) - from) who + us_of p s.cpu (time - s.time) (who_from (cond c x.next None) s.cpu xs)) [
      | true ↦ refl
      | false ↦ has_it p time from s who xs a b
    ]

until_other : (time cpu : ℕ) (s : Switch) (ss : List Switch) → eqb s.cpu cpu ≡ false → until time cpu (ss ++ s ∷ []) ≡ until time cpu ss
until_other time cpu s [] other = ap (λ b. cond b s.time time) other
until_other time cpu s (x ∷ xs) other = ap (λ (t : ℕ). cond (eqb x.cpu cpu) x.time t) (until_other time cpu s xs other)

-- one stay before
one_goes_on : (p : ℕ → ℕ → Bool) (time : ℕ) (s x : Switch) (xs : List Switch) → x.time ≤ s.time → s.time ≤ time
    → us_of p x.cpu (until time x.cpu (xs ++ s ∷ []) - x.time) x.next + us_of p s.cpu (time - s.time) (who_from None s.cpu (x ∷ xs))
    ≡ us_of p x.cpu (until time x.cpu xs - x.time) x.next + us_of p s.cpu (time - s.time) (who_from None s.cpu xs)
one_goes_on p time s x xs a b =
    ⊎_elim
    (λ (e : x.cpu ≡ s.cpu).
    ap (λ (w : Option ℕ). us_of p x.cpu (until time x.cpu (xs ++ s ∷ []) - x.time) x.next + us_of p s.cpu (time - s.time) (who_from w s.cpu xs)) (ap (λ c. cond c x.next None) (eq-eqb x.cpu s.cpu e))
    ∙ ap (λ (k : ℕ). us_of p k (until time k (xs ++ s ∷ []) - x.time) x.next + us_of p s.cpu (time - s.time) (who_from x.next s.cpu xs)) e
    ∙ has_it p time x.time s x.next xs a b
    ∙ ap (λ (k : ℕ). us_of p k (until time k xs - x.time) x.next + us_of p s.cpu (time - s.time) (who_from None s.cpu xs)) (sym e))
    (λ (ne : x.cpu ≢ s.cpu).
    ap (λ (w : Option ℕ). us_of p x.cpu (until time x.cpu (xs ++ s ∷ []) - x.time) x.next + us_of p s.cpu (time - s.time) (who_from w s.cpu xs)) (ap (λ c. cond c x.next None) (ne_eqb x.cpu s.cpu ne))
    ∙ ap (λ (u : ℕ). us_of p x.cpu (u - x.time) x.next + us_of p s.cpu (time - s.time) (who_from None s.cpu xs)) (until_other time x.cpu s xs (ne_eqb s.cpu x.cpu (λ (e : s.cpu ≡ x.cpu). ne (sym e)))))
    (cases_eq x.cpu s.cpu)

-- by one switch more, who comes has the CPU to the end, and who had it has it no more
pub one_more_stay : (p : ℕ → ℕ → Bool) (time : ℕ) (s : Switch) (ss : List Switch) → All (λ x. x.time ≤ s.time) ss → s.time ≤ time
    → us_in (λ x. p x.number x.cpu) (stays time (ss ++ s ∷ [])) + us_of p s.cpu (time - s.time) (who_from None s.cpu ss)
    ≡ us_in (λ x. p x.number x.cpu) (stays time ss) + us_of p s.cpu (time - s.time) s.next
one_more_stay p time s [] all b = omega (arith, stay_adds p s time s.next [])
one_more_stay p time s (x ∷ xs) all b =
    let first = All-head (λ (y : Switch). y.time ≤ s.time) x xs all in
    let rest = All-tail (λ (y : Switch). y.time ≤ s.time) x xs all in
    omega (
      arith,
      stay_adds p x (until time x.cpu (xs ++ s ∷ [])) x.next (stays time (xs ++ s ∷ [])),
      stay_adds p x (until time x.cpu xs) x.next (stays time xs),
      one_goes_on p time s x xs first b,
      one_more_stay p time s xs rest b,
    )

-- A TASK
change_more : (c x : ℕ) (xs : List ℕ) → changes_from x (xs ++ c ∷ []) ≡ changes_from x xs + cond (eqb c (last_from x xs)) 0 1
change_more c x [] = omega arith
change_more c x (y ∷ ys) = omega (arith, change_more c y ys)

changed : (c : ℕ) (xs : List ℕ) → changes (xs ++ c ∷ []) ≡ changes xs + moves_to c (last_of xs)
changed c [] = refl
changed c (x ∷ xs) = change_more c x xs

last_is : (c x : ℕ) (xs : List ℕ) → last_from x (xs ++ c ∷ []) ≡ c
last_is c x [] = refl
last_is c x (y ∷ ys) = last_is c y ys

last_more : (c : ℕ) (xs : List ℕ) → last_of (xs ++ c ∷ []) ≡ Some c
last_more c [] = refl
last_more c (x ∷ xs) = ap Some (last_is c x xs)

placed : (n : ℕ) (ss : List Switch) (s : Switch) → placements n (ss ++ s ∷ []) ≡ placements n ss ++ map (λ (x : Switch). x.cpu) (cond (is_task n s.next) (s ∷ []) [])
placed n ss s =
    ap (map (λ (x : Switch). x.cpu)) (filter-append (λ (x : Switch). is_task n x.next) ss (s ∷ []))
    ∙ map-append (λ (x : Switch). x.cpu) (filter (λ (x : Switch). is_task n x.next) ss) (cond (is_task n s.next) (s ∷ []) [])

abbrev seen : ℕ → List ℕ → ℕ → Ran
seen n places us = record {
  number = n;
  cpu_us = us;
  migrated = changes places;
  last = last_of places;
}

-- who comes
came : (n rest us : ℕ) (places : List ℕ) (s : Switch) (m : ℕ) (b : Bool) → eqb m n ≡ b → eqb n m ≡ b
    → seen n (places ++ map (λ (x : Switch). x.cpu) (cond (is_task n (Some m)) (s ∷ []) [])) (us + us_of (λ k c. eqb k n) s.cpu rest (Some m)) ≡ with_stay_of (Some m) s.cpu rest (seen n places us)
came n rest us places s m true to from =
    ap (λ b. seen n (places ++ map (λ (x : Switch). x.cpu) (cond b (s ∷ []) [])) (us + cond b rest 0)) to
    ∙ (λ i. record { number = n; cpu_us = us + rest; migrated = changed s.cpu places i; last = last_more s.cpu places i })
    ∙ ap (λ b. cond b (with_stay s.cpu rest (seen n places us)) (seen n places us)) (sym from)
came n rest us places s m false to from =
    let same : us + 0 ≡ us = omega arith in
    ap (λ b. seen n (places ++ map (λ (x : Switch). x.cpu) (cond b (s ∷ []) [])) (us + cond b rest 0)) to
    ∙ (λ i. seen n (append-nil places i) (same i))
    ∙ ap (λ b. cond b (with_stay s.cpu rest (seen n places us)) (seen n places us)) (sym from)

comes : (n rest us : ℕ) (places : List ℕ) (s : Switch) (next : Option ℕ)
    → seen n (places ++ map (λ (x : Switch). x.cpu) (cond (is_task n next) (s ∷ []) [])) (us + us_of (λ k c. eqb k n) s.cpu rest next) ≡ with_stay_of next s.cpu rest (seen n places us)
comes n rest us places s None =
    let same : us + 0 ≡ us = omega arith in
    λ i. seen n (append-nil places i) (same i)
comes n rest us places s (Some m) =
    ⊎_elim
    (λ (e : m ≡ n). came n rest us places s m true (eq-eqb m n e) (eq-eqb n m (sym e)))
    (λ (ne : m ≢ n). came n rest us places s m false (ne_eqb m n ne) (ne_eqb n m (λ (e : n ≡ m). ne (sym e))))
    (cases_eq m n)

-- who leaves
left : (n cpu rest us : ℕ) (places : List ℕ) (m : ℕ) (b : Bool) → eqb m n ≡ b → eqb n m ≡ b
    → seen n places (us - us_of (λ k c. eqb k n) cpu rest (Some m)) ≡ without_rest_of (Some m) rest (seen n places us)
left n cpu rest us places m true to from =
    ap (λ b. seen n places (us - cond b rest 0)) to
    ∙ ap (λ b. cond b (seen n places (us - rest)) (seen n places us)) (sym from)
left n cpu rest us places m false to from =
    let same : us - 0 ≡ us = omega arith in
    ap (λ b. seen n places (us - cond b rest 0)) to
    ∙ (λ i. seen n places (same i))
    ∙ ap (λ b. cond b (seen n places (us - rest)) (seen n places us)) (sym from)

leaves : (n cpu rest us : ℕ) (places : List ℕ) (who : Option ℕ) → seen n places (us - us_of (λ k c. eqb k n) cpu rest who) ≡ without_rest_of who rest (seen n places us)
leaves n cpu rest us places None =
    let same : us - 0 ≡ us = omega arith in
    λ i. seen n places (same i)
leaves n cpu rest us places (Some m) =
    ⊎_elim
    (λ (e : m ≡ n). left n cpu rest us places m true (eq-eqb m n e) (eq-eqb n m (sym e)))
    (λ (ne : m ≢ n). left n cpu rest us places m false (ne_eqb m n ne) (ne_eqb n m (λ (e : n ≡ m). ne (sym e))))
    (cases_eq m n)

pub ran_after : (time : ℕ) (s : Switch) (ss : List Switch) (n : ℕ) → All (λ x. x.time ≤ s.time) ss → s.time ≤ time
    → ran_by time (ss ++ s ∷ []) n ≡ without_rest_of (who_from None s.cpu ss) (time - s.time) (with_stay_of s.next s.cpu (time - s.time) (ran_by time ss n))
ran_after time s ss n all b =
    let rest = time - s.time in
    let who = who_from None s.cpu ss in
    let us = cpu_us time ss n in
    let places = placements n ss in
    let more = map (λ (x : Switch). x.cpu) (cond (is_task n s.next) (s ∷ []) []) in
    let sum : cpu_us time (ss ++ s ∷ []) n ≡ us + us_of (λ k c. eqb k n) s.cpu rest s.next - us_of (λ k c. eqb k n) s.cpu rest who =
    omega (arith, one_more_stay (λ k c. eqb k n) time s ss all b) in
    (λ i. seen n (placed n ss s i) (sum i))
    ∙ leaves n s.cpu rest (us + us_of (λ k c. eqb k n) s.cpu rest s.next) (places ++ more) who
    ∙ ap (without_rest_of who rest) (comes n rest us places s s.next)

-- A CPU
busy_here : (cpu at us : ℕ) (who : Option ℕ) → eqb at cpu ≡ true → us_of (λ k c. eqb c cpu) at us who ≡ busy_if who us
busy_here cpu at us None e = refl
busy_here cpu at us (Some n) e = ap {B = ℕ} (λ b. cond b us 0) e

busy_there : (cpu at us : ℕ) (who : Option ℕ) → eqb at cpu ≡ false → us_of (λ k c. eqb c cpu) at us who ≡ 0
busy_there cpu at us None e = refl
busy_there cpu at us (Some n) e = ap {B = ℕ} (λ b. cond b us 0) e

pub who_more : (cpu : ℕ) (s : Switch) (ss : List Switch) → who_from None cpu (ss ++ s ∷ []) ≡ cond (eqb s.cpu cpu) s.next (who_from None cpu ss)
who_more cpu s ss = fold-append (λ (who : Option ℕ) (x : Switch). cond (eqb x.cpu cpu) x.next who) None ss (s ∷ [])

pub count_more : (cpu : ℕ) (s : Switch) (ss : List Switch) → count_by (λ (x : Switch). eqb x.cpu cpu) (ss ++ s ∷ []) ≡ count_by (λ (x : Switch). eqb x.cpu cpu) ss + cond (eqb s.cpu cpu) 1 0
count_more cpu s ss =
    omega (arith, sum_by-append (λ (x : Switch). cond (eqb x.cpu cpu) 1 0) ss (s ∷ []), sum_by-cons (λ (x : Switch). cond (eqb x.cpu cpu) 1 0) s [])

cpu_with : (time : ℕ) (s : Switch) (ss : List Switch) (cpu : ℕ) (b : Bool) → All (λ x. x.time ≤ s.time) ss → s.time ≤ time → eqb s.cpu cpu ≡ b
    → cpu_by time (ss ++ s ∷ []) cpu ≡ cond b (with_switch s (time - s.time) (cpu_by time ss cpu)) (cpu_by time ss cpu)
cpu_with time s ss cpu true all l to =
    let same : s.cpu ≡ cpu = eqb-true s.cpu cpu to in
    let rest = time - s.time in
    let busy : busy_us time (ss ++ s ∷ []) cpu ≡ busy_us time ss cpu + busy_if s.next rest - busy_if (who_from None cpu ss) rest =
    omega (
      arith,
      one_more_stay (λ k c. eqb c cpu) time s ss all l,
      busy_here cpu s.cpu rest s.next to,
      busy_here cpu s.cpu rest (who_from None s.cpu ss) to,
      ap (λ c. busy_if (who_from None c ss) rest) same,
    ) in
    let count : count_by (λ (x : Switch). eqb x.cpu cpu) (ss ++ s ∷ []) ≡ count_by (λ (x : Switch). eqb x.cpu cpu) ss + 1 =
    omega (arith, count_more cpu s ss, ap {B = ℕ} (λ b. cond b 1 0) to) in
    let who : who_from None cpu (ss ++ s ∷ []) ≡ s.next = who_more cpu s ss ∙ ap (λ b. cond b s.next (who_from None cpu ss)) to in
    λ i. record { cpu = cpu; busy_us = busy i; switches = count i; task = who i }
cpu_with time s ss cpu false all l to =
    let rest = time - s.time in
    let busy : busy_us time (ss ++ s ∷ []) cpu ≡ busy_us time ss cpu =
    omega (
      arith,
      one_more_stay (λ k c. eqb c cpu) time s ss all l,
      busy_there cpu s.cpu rest s.next to,
      busy_there cpu s.cpu rest (who_from None s.cpu ss) to,
    ) in
    let count : count_by (λ (x : Switch). eqb x.cpu cpu) (ss ++ s ∷ []) ≡ count_by (λ (x : Switch). eqb x.cpu cpu) ss =
    omega (arith, count_more cpu s ss, ap {B = ℕ} (λ b. cond b 1 0) to) in
    let who : who_from None cpu (ss ++ s ∷ []) ≡ who_from None cpu ss = who_more cpu s ss ∙ ap (λ b. cond b s.next (who_from None cpu ss)) to in
    λ i. record { cpu = cpu; busy_us = busy i; switches = count i; task = who i }

pub cpu_after : (time : ℕ) (s : Switch) (ss : List Switch) (cpu : ℕ) → All (λ x. x.time ≤ s.time) ss → s.time ≤ time → cpu_by time (ss ++ s ∷ []) cpu ≡ with_switch_on s (time - s.time) (cpu_by time ss cpu)
cpu_after time s ss cpu all l =
    let change = with_switch s (time - s.time) (cpu_by time ss cpu) in
    ⊎_elim
    (λ (e : s.cpu ≡ cpu). cpu_with time s ss cpu true all l (eq-eqb s.cpu cpu e) ∙ ap (λ b. cond b change (cpu_by time ss cpu)) (sym (eq-eqb cpu s.cpu (sym e))))
    (λ (ne : s.cpu ≢ cpu). cpu_with time s ss cpu false all l (ne_eqb s.cpu cpu ne) ∙ ap (λ b. cond b change (cpu_by time ss cpu)) (sym (ne_eqb cpu s.cpu (λ (e : cpu ≡ s.cpu). ne (sym e)))))
    (cases_eq s.cpu cpu)

-- SHORT
until_small : (time cpu m : ℕ) (ss : List Switch) → time ≤ m → All (λ s. s.time ≤ m) ss → until time cpu ss ≤ m
until_small time cpu m [] l all = l
until_small time cpu m (s ∷ ss) l all =
    elim (eqb s.cpu cpu) as (λ b. cond b s.time (until time cpu ss) ≤ m) [
      | true ↦ All-head (λ (x : Switch). x.time ≤ m) s ss all
      | false ↦ until_small time cpu m ss l (All-tail (λ (x : Switch). x.time ≤ m) s ss all)
    ]

one_small : (s : Switch) (u m : ℕ) (next : Option ℕ) (p : Stay → Bool) (later : List Stay) (bound : ℕ) → u ≤ m → us_in p later ≤ bound * m → us_in p (stays_by s u next ++ later) ≤ (bound + 1) * m
one_small s u m None p later bound l h = omega (arith, h)
one_small s u m (Some n) p later bound l h =
    let stay : Stay = record { number = n; cpu = s.cpu; us = u - s.time } in
    let one = us_in-cons p stay later in
    elim (p stay) as (λ b. us_in p (stay ∷ later) ≡ cond b (u - s.time) 0 + us_in p later → us_in p (stay ∷ later) ≤ (bound + 1) * m) [
      | true ↦ λ e. omega (arith, e, h, l)
      | false ↦ λ e. omega (arith, e, h)
    ] one

pub us_small : (p : Stay → Bool) (time m : ℕ) (ss : List Switch) → time ≤ m → All (λ s. s.time ≤ m) ss → us_in p (stays time ss) ≤ length ss * m
us_small p time m [] l all = omega arith
us_small p time m (s ∷ ss) l all =
    let rest = All-tail (λ (x : Switch). x.time ≤ m) s ss all in
    let e : length (s ∷ ss) ≡ length ss + 1 = omega arith in
    rw e (one_small s (until time s.cpu ss) m s.next p (stays time ss) (length ss) (until_small time s.cpu m ss l rest) (us_small p time m ss l rest))

changes_few : (cpu : ℕ) (cpus : List ℕ) → changes_from cpu cpus ≤ length cpus
changes_few cpu [] = omega arith
changes_few cpu (c ∷ cs) = elim (eqb c cpu) as (λ b. cond b 0 1 + changes_from c cs ≤ length (c ∷ cs)) [
  | true ↦ omega (arith, changes_few c cs)
  | false ↦ omega (arith, changes_few c cs)
]

all_changes_few : (cpus : List ℕ) → changes cpus ≤ length cpus
all_changes_few [] = omega arith
all_changes_few (c ∷ cs) = omega (arith, changes_few c cs)

pub few_migrations : (ss : List Switch) (n : ℕ) → migrations ss n ≤ length ss
few_migrations ss n =
    omega (
      arith,
      all_changes_few (placements n ss),
      length-map (filter (λ (x : Switch). is_task n x.next) ss) (λ (x : Switch). x.cpu),
      length-filter (λ (x : Switch). is_task n x.next) ss,
      count_by-le-length (λ (x : Switch). is_task n x.next) ss,
    )

abbrev pub blank_cpu : Cpu
blank_cpu = record { cpu = 0; busy_us = 0; switches = 0; task = None }

-- OF ALL TASKS AND CPUS, logged up to a switch
pub record AreRan (time : ℕ) (ss : List Switch) (numbers : List ℕ) (n k : ℕ) (rs : List Ran) (cs : List Cpu) : Type 0 where
  pub ran : rs ≡ map (ran_by time (take k ss)) numbers
  pub cpus : cs ≡ map (cpu_by time (take k ss)) (range_with_len 0 n)

earlier : (ss : List Switch) (k : ℕ) (d : Switch) → k < length ss → AllPairs (λ a b. IsTrue (is_switch_before a b)) ss → All (λ x. x.time ≤ (get_or ss k d).time) (take k ss)
earlier ss k d l rising i e m =
    let before : i < k = omega (arith, m, length-take k ss) in
    let at : get_or (take k ss) i e ≡ get_or ss i e = get_or-take k ss i e before in
    let last : get_or ss k d ≡ get_or ss k e = get_or_default ss k d e l in
    omega (arith, ap (λ (x : Switch). x.time) at, ap (λ (x : Switch). x.time) last, not_earlier (get_or ss i e) (get_or ss k e) (rising i k e before l))

pub next_ran : (time : ℕ) (ss : List Switch) (numbers : List ℕ) (n k : ℕ) (d : Switch) (e : Cpu) (ran after : List Ran) (cpus last : List Cpu)
    → AreRan time ss numbers n k ran cpus → k < length ss → (get_or ss k d).cpu < n → (get_or ss k d).time ≤ time → AllPairs (λ a b. IsTrue (is_switch_before a b)) ss
    → after ≡ map (without_rest_of (get_or cpus (get_or ss k d).cpu e).task (time - (get_or ss k d).time)) (map (with_stay_of (get_or ss k d).next (get_or ss k d).cpu (time - (get_or ss k d).time)) ran)
    → last ≡ map (with_switch_on (get_or ss k d) (time - (get_or ss k d).time)) cpus
    → AreRan time ss numbers n (k + 1) after last
next_ran time ss numbers n k d e ran after cpus last are l inside past rising a b =
    let s = get_or ss k d in
    let before = take k ss in
    let rest = time - s.time in
    let all : take (k + 1) ss ≡ before ++ s ∷ [] = take_more ss k d l in
    let early = earlier ss k d l rising in
    let who : (get_or cpus s.cpu e).task ≡ who_from None s.cpu before =
    ap (λ (xs : List Cpu). (get_or xs s.cpu e).task) are.cpus
    ∙ ap (λ (x : Cpu). x.task) (get_or-map (cpu_by time before) (range_with_len 0 n) s.cpu 0 e (omega (arith, inside, length-range_with_len 0 n)))
    ∙ ap (λ c. who_from None c before) (get_or-range_with_len 0 n s.cpu 0 inside ∙ (let z : 0 + s.cpu ≡ s.cpu = omega arith in z)) in
    let f : Option ℕ → Ran → Ran = λ w r. without_rest_of w rest (with_stay_of s.next s.cpu rest r) in
    record {
      ran =
          a ∙ map-map (without_rest_of (get_or cpus s.cpu e).task rest) (with_stay_of s.next s.cpu rest) ran
          ∙ ap (λ (w : Option ℕ). map (f w) ran) who ∙ ap (map (f (who_from None s.cpu before))) are.ran
          ∙ map-map (f (who_from None s.cpu before)) (ran_by time before) numbers
          ∙ map_same (λ x. f (who_from None s.cpu before) (ran_by time before x)) (ran_by time (before ++ s ∷ [])) numbers (λ x. sym (ran_after time s before x early past))
          ∙ ap (λ (xs : List Switch). map (ran_by time xs) numbers) (sym all);
      cpus =
          b ∙ ap (map (with_switch_on s rest)) are.cpus ∙ map-map (with_switch_on s rest) (cpu_by time before) (range_with_len 0 n)
          ∙ map_same (λ c. with_switch_on s rest (cpu_by time before c)) (cpu_by time (before ++ s ∷ [])) (range_with_len 0 n) (λ c. sym (cpu_after time s before c early past))
          ∙ ap (λ (xs : List Switch). map (cpu_by time xs) (range_with_len 0 n)) (sym all);
    }

pub ran_keyed : (time : ℕ) (ss : List Switch) (numbers : List ℕ) (ran : List Ran) → ran ≡ map (ran_by time ss) numbers → map (λ r. r.number) ran ≡ numbers
ran_keyed time ss numbers ran is = ap (λ (rs : List Ran). map (λ r. r.number) rs) is ∙ map-map (λ (r : Ran). r.number) (ran_by time ss) numbers ∙ map-id numbers

stays_numbered : (next : Option ℕ) (cpu us : ℕ) (r : Ran) → (with_stay_of next cpu us r).number ≡ r.number
stays_numbered None cpu us r = refl
stays_numbered (Some n) cpu us r = elim (eqb r.number n) as (λ b. (cond b (with_stay cpu us r) r).number ≡ r.number) [ true ↦ refl | false ↦ refl ]

pub stay_keyed : (next : Option ℕ) (cpu us : ℕ) (before after : List Ran) (numbers : List ℕ) → after ≡ map (with_stay_of next cpu us) before → map (λ r. r.number) before ≡ numbers → map (λ r. r.number) after ≡ numbers
stay_keyed next cpu us before after numbers is keyed =
    ap (λ (rs : List Ran). map (λ r. r.number) rs) is ∙ map-map (λ (r : Ran). r.number) (with_stay_of next cpu us) before
    ∙ map_same (λ (r : Ran). (with_stay_of next cpu us r).number) (λ (r : Ran). r.number) before (stays_numbered next cpu us) ∙ keyed

pub many_cpus : (time : ℕ) (ss : List Switch) (n : ℕ) (cpus : List Cpu) → cpus ≡ map (cpu_by time ss) (range_with_len 0 n) → length cpus ≡ n
many_cpus time ss n cpus is = ap (λ (cs : List Cpu). length cs) is ∙ length-map (range_with_len 0 n) (cpu_by time ss) ∙ length-range_with_len 0 n

pub cpus_keyed : (time : ℕ) (ss : List Switch) (n : ℕ) (cpus : List Cpu) → cpus ≡ map (cpu_by time ss) (range_with_len 0 n) → map (λ c. c.cpu) cpus ≡ range_with_len 0 (length cpus)
cpus_keyed time ss n cpus is =
    ap (λ (cs : List Cpu). map (λ c. c.cpu) cs) is ∙ map-map (λ (c : Cpu). c.cpu) (cpu_by time ss) (range_with_len 0 n) ∙ map-id (range_with_len 0 n)
    ∙ ap (range_with_len 0) (sym (many_cpus time ss n cpus is))

-- COUNTS of a number of switches
pub tasks_small : (time m bound : ℕ) (ss : List Switch) (numbers : List ℕ) (ran : List Ran) → time ≤ m → All (λ s. s.time ≤ m) ss → length ss * m ≤ bound → ran ≡ map (ran_by time ss) numbers → All (λ r. r.cpu_us ≤ bound) ran
tasks_small time m bound ss numbers ran l all b is =
    subst (All (λ r. r.cpu_us ≤ bound)) (sym is) (All-map (λ (r : Ran). r.cpu_us ≤ bound) (ran_by time ss) numbers
    (λ k d h. let one = us_small (λ x. eqb x.number (get_or numbers k d)) time m ss l all in omega (arith, one, b)))

pub tasks_few : (time : ℕ) (ss : List Switch) (numbers : List ℕ) (ran : List Ran) (m : ℕ) → length ss ≤ m → ran ≡ map (ran_by time ss) numbers → All (λ r. r.migrated ≤ m) ran
tasks_few time ss numbers ran m l is =
    subst (All (λ r. r.migrated ≤ m)) (sym is) (All-map (λ (r : Ran). r.migrated ≤ m) (ran_by time ss) numbers
    (λ k d h. omega (arith, l, few_migrations ss (get_or numbers k d))))

pub cpus_small : (time m bound n : ℕ) (ss : List Switch) (cpus : List Cpu) → time ≤ m → All (λ s. s.time ≤ m) ss → length ss * m ≤ bound → cpus ≡ map (cpu_by time ss) (range_with_len 0 n) → All (λ c. c.busy_us ≤ bound) cpus
cpus_small time m bound n ss cpus l all b is =
    subst (All (λ c. c.busy_us ≤ bound)) (sym is) (All-map (λ (c : Cpu). c.busy_us ≤ bound) (cpu_by time ss) (range_with_len 0 n)
    (λ k d h. let one = us_small (λ x. eqb x.cpu (get_or (range_with_len 0 n) k d)) time m ss l all in omega (arith, one, b)))

pub cpus_few : (time n m : ℕ) (ss : List Switch) (cpus : List Cpu) → length ss ≤ m → cpus ≡ map (cpu_by time ss) (range_with_len 0 n) → All (λ c. c.switches ≤ m) cpus
cpus_few time n m ss cpus l is =
    subst (All (λ c. c.switches ≤ m)) (sym is) (All-map (λ (c : Cpu). c.switches ≤ m) (cpu_by time ss) (range_with_len 0 n)
    (λ k d h. omega (arith, l, count_by-le-length (λ (x : Switch). eqb x.cpu (get_or (range_with_len 0 n) k d)) ss)))
