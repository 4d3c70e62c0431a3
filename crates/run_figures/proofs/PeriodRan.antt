-- The CPU time, the placements and the switches of a period come again in each of those that come.
use Rattle.std.proofs.Common.{◌≡◌, ◌≢◌, ℕ, zero, suc, ◌+◌, ◌-◌, ◌*◌, ◌≤◌, ◌<◌, Bool, true, false, cond, eqb, ◌&&◌, ⊎_elim, List, [], ◌∷◌, ◌++◌, length, get_or, map, Option, Some, None, refl, sym, ap, ◌∙◌, arith, subst, All, AllPairs, eq-eqb, length-append}
use Rattle.std.specs.Prelude.{IsTrue, filter, sum_by, count_by}
use Rattle.std.specs.List.{range_with_len}
use Rattle.std.proofs.lemmas.Bool.{cases_eq, cases_lt, ne_eqb}
use Rattle.std.proofs.lemmas.List.{append-nil, append_assoc, get_or-append-add, map-append}
use Rattle.std.proofs.Math.ListN.{get_or-append}
use Rattle.std.proofs.lemmas.List.Elements.{All-head, All-tail, All-weaker, filter-append}
use Rattle.std.proofs.lemmas.List.Sums.{fold-append, sum_by-append, sum_by-cons}
use Rattle.domain_run.specs.Switch.{Switch}
use Rattle.domain_run.specs.Switches.{is_switch_before}
use Rattle.domain_run.specs.Later.{later_switch}
use Rattle.edf_pick.specs.Places.{is_task}
use Rattle.run_figures.specs.Stays.{Stay, stays, cpu_us, busy_us, placements, changes_from, changes, migrations}
use Rattle.run_figures.specs.Again.{more_switches}
use Rattle.run_figures.specs.private.Running.{last_from, last_of, ran_by, who_from, cpu_by}
use Rattle.run_figures.specs.private.Growing.{grown_count, grown_time, grown_ran, grown_cpu}
use Rattle.run_figures.proofs.Turning.{cpus_apart, cpu_at}
use Rattle.run_figures.proofs.After.{not_earlier, us_in, us_in-cons, us_of, one_more_stay, who_more}
use Rattle.run_figures.proofs.Shared.{IsAmong, added_once, sums_same, cpus_among}

abbrev pub AreInOrder : List Switch → Type 0
AreInOrder ss = AllPairs (λ a b. IsTrue (is_switch_before a b)) ss

pub first_in_order : (ss ts : List Switch) → AreInOrder (ss ++ ts) → AreInOrder ss
first_in_order ss ts rising = λ i j d l m.
    rw (sym (get_or-append ss ts d i (omega (arith, l, m))), sym (get_or-append ss ts d j m)) (rising i j d l (omega (arith, m, length-append ss ts)))

earlier_than : (ss ts : List Switch) (s : Switch) → AreInOrder (ss ++ s ∷ ts) → All (λ x. x.time ≤ s.time) ss
earlier_than ss ts s rising = λ i d l.
    let z : length ss + 0 ≡ length ss = omega arith in
    let here : get_or (ss ++ s ∷ ts) (length ss) d ≡ s = ap (λ n. get_or (ss ++ s ∷ ts) n d) (sym z) ∙ get_or-append-add ss (s ∷ ts) 0 d in
    let there : get_or (ss ++ s ∷ ts) i d ≡ get_or ss i d = get_or-append ss (s ∷ ts) d i l in
    let more : length (s ∷ ts) ≡ suc (length ts) = refl in
    let before = rising i (length ss) d l (omega (arith, length-append ss (s ∷ ts), more)) in
    omega (arith, not_earlier (get_or (ss ++ s ∷ ts) i d) (get_or (ss ++ s ∷ ts) (length ss) d) before, ap (λ (x : Switch). x.time) here, ap (λ (x : Switch). x.time) there)

-- WHO HAS A CPU
who_later : (k c : ℕ) (who : Option ℕ) (ts : List Switch) → who_from who c (map (later_switch k) ts) ≡ who_from who c ts
who_later k c who [] = refl
who_later k c who (s ∷ ts) = who_later k c (cond (eqb s.cpu c) s.next who) ts

who_split : (c : ℕ) (who : Option ℕ) (ss ts : List Switch) → who_from who c (ss ++ ts) ≡ who_from (who_from who c ss) c ts
who_split c who ss ts = fold-append (λ (w : Option ℕ) (x : Switch). cond (eqb x.cpu c) x.next w) who ss ts

pub who_back : (k m c : ℕ) (ss ts : List Switch) → who_from None c (ss ++ ts) ≡ who_from None c ss → who_from None c ((ss ++ ts) ++ more_switches k m ts) ≡ who_from None c ss
who_back k zero c ss ts back = ap (who_from None c) (append-nil (ss ++ ts)) ∙ back
who_back k (suc m) c ss ts back =
    let all = (ss ++ ts) ++ more_switches k m ts in
    ap (who_from None c) (sym (append_assoc (ss ++ ts) (more_switches k m ts) (map (later_switch (suc m * k)) ts)))
    ∙ who_split c None all (map (later_switch (suc m * k)) ts)
    ∙ who_later (suc m * k) c (who_from None c all) ts
    ∙ ap (λ w. who_from w c ts) (who_back k m c ss ts back)
    ∙ sym (who_split c None ss ts) ∙ back

-- THE TIME of the tasks of a set on one CPU
abbrev on : (ℕ → Bool) → ℕ → ℕ → ℕ → Bool
on q c n cpu = q n && eqb cpu c

abbrev time_on : (ℕ → Bool) → ℕ → ℕ → List Switch → ℕ
time_on q c end ss = us_in (λ x. q x.number && eqb x.cpu c) (stays end ss)

abbrev one_us : Bool → ℕ → ℕ
one_us b us = cond b us 0

never : (b : Bool) → (b && false) ≡ false
never true = refl
never false = refl

us_elsewhere : (q : ℕ → Bool) (c cpu us : ℕ) (who : Option ℕ) → eqb cpu c ≡ false → us_of (on q c) cpu us who ≡ 0
us_elsewhere q c cpu us None other = refl
us_elsewhere q c cpu us (Some n) other = ap (λ b. one_us (q n && b) us) other ∙ ap (λ b. one_us b us) (never (q n))

split_us : (b : Bool) (u v : ℕ) → one_us b (u + v) ≡ one_us b u + one_us b v
split_us true u v = refl
split_us false u v = refl

us_split : (q : ℕ → Bool) (c cpu u v : ℕ) (who : Option ℕ) → us_of (on q c) cpu (u + v) who ≡ us_of (on q c) cpu u who + us_of (on q c) cpu v who
us_split q c cpu u v None = refl
us_split q c cpu u v (Some n) = split_us (q n && eqb cpu c) u v

-- one switch more, and the same one later after others by which the same task has the CPU
one_later : (q : ℕ → Bool) (c end k : ℕ) (s : Switch) (ss others : List Switch) → All (λ x. x.time ≤ s.time) ss → All (λ x. x.time ≤ s.time + k) others → s.time + k ≤ end
    → who_from None c others ≡ who_from None c ss
    → time_on q c end (ss ++ s ∷ []) + time_on q c end others + us_of (on q c) c k (who_from None c ss)
    ≡ time_on q c end (others ++ later_switch k s ∷ []) + time_on q c end ss + us_of (on q c) c k (who_from None c (ss ++ s ∷ []))
one_later q c end k s ss others first then past same =
    let p = on q c in
    let rest = end - (s.time + k) in
    let long : end - s.time ≡ rest + k = omega (arith, past) in
    let a = one_more_stay p end s ss first (omega (arith, past)) in
    let b = one_more_stay p end (later_switch k s) others then past in
    ⊎_elim
    (λ (e : s.cpu ≡ c).
    let here : who_from None c (ss ++ s ∷ []) ≡ s.next = who_more c s ss ∙ ap (λ b. cond b s.next (who_from None c ss)) (eq-eqb s.cpu c e) in
    let was : us_of p s.cpu (end - s.time) (who_from None s.cpu ss) ≡ us_of p c rest (who_from None c ss) + us_of p c k (who_from None c ss) =
    (λ i. us_of p (e i) (long i) (who_from None (e i) ss)) ∙ us_split q c c rest k (who_from None c ss) in
    let comes : us_of p s.cpu (end - s.time) s.next ≡ us_of p c rest s.next + us_of p c k s.next =
    (λ i. us_of p (e i) (long i) s.next) ∙ us_split q c c rest k s.next in
    let was_then : us_of p s.cpu rest (who_from None s.cpu others) ≡ us_of p c rest (who_from None c ss) =
    (λ i. us_of p (e i) rest (who_from None (e i) others)) ∙ ap (us_of p c rest) same in
    let comes_then : us_of p s.cpu rest s.next ≡ us_of p c rest s.next = λ i. us_of p (e i) rest s.next in
    omega (arith, a, b, was, comes, was_then, comes_then, ap (us_of p c k) here))
    (λ (ne : s.cpu ≢ c).
    let other = ne_eqb s.cpu c ne in
    let still : who_from None c (ss ++ s ∷ []) ≡ who_from None c ss = who_more c s ss ∙ ap (λ b. cond b s.next (who_from None c ss)) other in
    omega (
      arith,
      a,
      b,
      us_elsewhere q c s.cpu (end - s.time) (who_from None s.cpu ss) other,
      us_elsewhere q c s.cpu (end - s.time) s.next other,
      us_elsewhere q c s.cpu rest (who_from None s.cpu others) other,
      us_elsewhere q c s.cpu rest s.next other,
      ap (us_of p c k) still,
    ))
    (cases_eq s.cpu c)

-- many
all_later : (q : ℕ → Bool) (c end k : ℕ) (ts ss others : List Switch) → AreInOrder (ss ++ ts) → AreInOrder (others ++ map (later_switch k) ts) → All (λ s. s.time + k ≤ end) ts
    → who_from None c others ≡ who_from None c ss
    → time_on q c end (ss ++ ts) + time_on q c end others + us_of (on q c) c k (who_from None c ss)
    ≡ time_on q c end (others ++ map (later_switch k) ts) + time_on q c end ss + us_of (on q c) c k (who_from None c (ss ++ ts))
all_later q c end k [] ss others first then past same =
    let a = append-nil ss in
    let b = append-nil others in
    omega (arith, ap (time_on q c end) a, ap (time_on q c end) b, ap (λ (xs : List Switch). us_of (on q c) c k (who_from None c xs)) a)
all_later q c end k (s ∷ ts) ss others first then past same =
    let with = ss ++ s ∷ [] in
    let with_later = others ++ later_switch k s ∷ [] in
    let a : with ++ ts ≡ ss ++ s ∷ ts = append_assoc ss (s ∷ []) ts in
    let b : with_later ++ map (later_switch k) ts ≡ others ++ later_switch k s ∷ map (later_switch k) ts = append_assoc others (later_switch k s ∷ []) (map (later_switch k) ts) in
    let who : who_from None c with_later ≡ who_from None c with =
    who_more c (later_switch k s) others ∙ ap (λ w. cond (eqb s.cpu c) s.next w) same ∙ sym (who_more c s ss) in
    let one = one_later q c end k s ss others (earlier_than ss ts s first) (earlier_than others (map (later_switch k) ts) (later_switch k s) then) (All-head (λ (x : Switch). x.time + k ≤ end) s ts past) same in
    let more = all_later q c end k ts with with_later (subst AreInOrder (sym a) first) (subst AreInOrder (sym b) then) (All-tail (λ (x : Switch). x.time + k ≤ end) s ts past) who in
    omega (arith, one, more, ap (time_on q c end) a, ap (time_on q c end) b, ap (λ (xs : List Switch). us_of (on q c) c k (who_from None c xs)) a)

-- ALL PERIODS, on one CPU
pub periods_on : (q : ℕ → Bool) (c end from k m : ℕ) (ss ts : List Switch) → AreInOrder ((ss ++ ts) ++ more_switches k m ts) → All (λ s. s.time < from + k) ts → from + k + m * k ≤ end
    → who_from None c (ss ++ ts) ≡ who_from None c ss
    → time_on q c end ((ss ++ ts) ++ more_switches k m ts) + m * time_on q c end ss ≡ time_on q c end (ss ++ ts) + m * time_on q c end (ss ++ ts)
periods_on q c end from k zero ss ts rising until past back = omega (arith, ap (time_on q c end) (append-nil (ss ++ ts)))
periods_on q c end from k (suc m) ss ts rising until past back =
    let all = (ss ++ ts) ++ more_switches k m ts in
    let K = suc m * k in
    let same : all ++ map (later_switch K) ts ≡ (ss ++ ts) ++ more_switches k (suc m) ts = append_assoc (ss ++ ts) (more_switches k m ts) (map (later_switch K) ts) in
    let order : AreInOrder (all ++ map (later_switch K) ts) = subst AreInOrder (sym same) rising in
    let before = first_in_order all (map (later_switch K) ts) order in
    let rest = periods_on q c end from k m ss ts before until (omega (arith, past)) back in
    let one = all_later q c end K ts ss all (first_in_order (ss ++ ts) (more_switches k m ts) before) order
    (All-weaker (λ (s : Switch). s.time < from + k) (λ (s : Switch). s.time + K ≤ end) (λ s l. omega (arith, l, past)) ts until) (who_back k m c ss ts back) in
    omega (arith, rest, one, ap (time_on q c end) same, ap (us_of (on q c) c K) back)

-- OF A TASK: on all CPUs
one_of_set : (b e : Bool) (us : ℕ) → one_us (b && e) us ≡ one_us e (one_us b us)
one_of_set true e us = refl
one_of_set false true us = refl
one_of_set false false us = refl

shared_some : (q : ℕ → Bool) (ks : List ℕ) (xs : List Stay) → AllPairs (λ a b. a ≢ b) ks → All (λ x. IsAmong ks x.cpu) xs → sum_by (λ k. us_in (λ x. q x.number && eqb x.cpu k) xs) ks ≡ us_in (λ x. q x.number) xs
shared_some q ks [] apart among = nothing ks
  where
    nothing : (ks : List ℕ) → sum_by (λ k. 0) ks ≡ 0
    nothing [] = refl
    nothing (k ∷ ks) = omega (arith, sum_by-cons (λ j. 0) k ks, nothing ks)
shared_some q ks (x ∷ xs) apart among =
    let rest = shared_some q ks xs apart (All-tail (λ (y : Stay). IsAmong ks y.cpu) x xs among) in
    let each = sums_same (λ k. us_in (λ y. q y.number && eqb y.cpu k) (x ∷ xs)) (λ k. cond (eqb x.cpu k) (one_us (q x.number) x.us) 0 + us_in (λ y. q y.number && eqb y.cpu k) xs) ks
    (λ k. us_in-cons (λ y. q y.number && eqb y.cpu k) x xs ∙ ap (λ u. u + us_in (λ y. q y.number && eqb y.cpu k) xs) (one_of_set (q x.number) (eqb x.cpu k) x.us)) in
    let once = added_once (λ k. us_in (λ y. q y.number && eqb y.cpu k) xs) (one_us (q x.number) x.us) x.cpu ks apart (All-head (λ (y : Stay). IsAmong ks y.cpu) x xs among) in
    omega (arith, us_in-cons (λ y. q y.number) x xs, each, once, rest)

pub task_time : (n cpus end : ℕ) (ss : List Switch) → All (λ s. s.cpu < cpus) ss → sum_by (λ c. time_on (λ k. eqb k n) c end ss) (range_with_len 0 cpus) ≡ cpu_us end ss n
task_time n cpus end ss inside =
    shared_some (λ k. eqb k n) (range_with_len 0 cpus) (stays end ss) (cpus_apart cpus)
    (cpus_among (range_with_len 0 cpus) end ss (All-weaker (λ (s : Switch). s.cpu < cpus) (λ (s : Switch). IsAmong (range_with_len 0 cpus) s.cpu)
    (λ s one. let at = cpu_at cpus s.cpu one in (s.cpu, at.within, at.is)) ss inside))

sums_grown : (m : ℕ) (f g h : ℕ → ℕ) (ks : List ℕ) → All (λ k. f k + m * g k ≡ h k + m * h k) ks → sum_by f ks + m * sum_by g ks ≡ sum_by h ks + m * sum_by h ks
sums_grown m f g h [] all = refl
sums_grown m f g h (k ∷ ks) all =
    let one = All-head (λ (k : ℕ). f k + m * g k ≡ h k + m * h k) k ks all in
    let rest = sums_grown m f g h ks (All-tail (λ (k : ℕ). f k + m * g k ≡ h k + m * h k) k ks all) in
    summed (f k) (g k) (h k) (sum_by f ks) (sum_by g ks) (sum_by h ks) (sum_by f (k ∷ ks)) (sum_by g (k ∷ ks)) (sum_by h (k ∷ ks)) (sum_by-cons f k ks) (sum_by-cons g k ks) (sum_by-cons h k ks) one rest
  where
    summed : (a b c x y z u v w : ℕ) → u ≡ a + x → v ≡ b + y → w ≡ c + z → a + m * b ≡ c + m * c → x + m * y ≡ z + m * z → u + m * v ≡ w + m * w
    summed a b c x y z u v w e f g one rest = rw e (rw f (rw g (omega (arith, one, rest))))

pub time_is : (m a b x : ℕ) → x + m * a ≡ b + m * b → x ≡ grown_time m a b
time_is m a b x e = ⊎_elim
    (λ (less : b < a). shrinks (a - b) (omega (arith, less)))
    (λ (more : a ≤ b). grows (b - a) (omega (arith, more)))
    (cases_lt b a)
  where
    grows : (d : ℕ) → b ≡ a + d → x ≡ b + m * (b - a) - m * (a - b)
    grows d is =
        let diff : b - a ≡ d = omega (arith, is) in
        let none : a - b ≡ 0 = omega (arith, is) in
        let sum : x + m * a ≡ b + m * (a + d) = e ∙ ap (λ n. b + m * n) is in
        rw diff (rw none (omega (arith, sum)))

    shrinks : (d : ℕ) → a ≡ b + d → x ≡ b + m * (b - a) - m * (a - b)
    shrinks d is =
        let diff : a - b ≡ d = omega (arith, is) in
        let none : b - a ≡ 0 = omega (arith, is) in
        let sum : x + m * (b + d) ≡ b + m * b = ap (λ n. x + m * n) (sym is) ∙ e in
        rw diff (rw none (omega (arith, sum)))

-- MIGRATIONS
placed_later : (k n : ℕ) (ts : List Switch) → placements n (map (later_switch k) ts) ≡ placements n ts
placed_later k n [] = refl
placed_later k n (s ∷ ts) = elim (is_task n s.next) as (λ b. map (λ (x : Switch). x.cpu) (cond b (later_switch k s ∷ filter (λ x. is_task n x.next) (map (later_switch k) ts)) (filter (λ x. is_task n x.next) (map (later_switch k) ts))) ≡ map (λ (x : Switch). x.cpu) (cond b (s ∷ filter (λ x. is_task n x.next) ts) (filter (λ x. is_task n x.next) ts))) [
  | true ↦ ap (λ (xs : List ℕ). s.cpu ∷ xs) (placed_later k n ts)
  | false ↦ placed_later k n ts
]

placed_split : (n : ℕ) (ss ts : List Switch) → placements n (ss ++ ts) ≡ placements n ss ++ placements n ts
placed_split n ss ts =
    ap (map (λ (x : Switch). x.cpu)) (filter-append (λ (x : Switch). is_task n x.next) ss ts)
    ∙ map-append (λ (x : Switch). x.cpu) (filter (λ (x : Switch). is_task n x.next) ss) (filter (λ (x : Switch). is_task n x.next) ts)

abbrev changes_after : Option ℕ → List ℕ → ℕ
changes_after None ys = changes ys
changes_after (Some last) ys = changes_from last ys

abbrev last_after : Option ℕ → List ℕ → Option ℕ
last_after None ys = last_of ys
last_after (Some last) ys = Some (last_from last ys)

changed_from : (x : ℕ) (xs ys : List ℕ) → changes_from x (xs ++ ys) ≡ changes_from x xs + changes_from (last_from x xs) ys
changed_from x [] ys = omega arith
changed_from x (y ∷ xs) ys = omega (arith, changed_from y xs ys)

changed_split : (xs ys : List ℕ) → changes (xs ++ ys) ≡ changes xs + changes_after (last_of xs) ys
changed_split [] ys = omega arith
changed_split (x ∷ xs) ys = changed_from x xs ys

last_from_split : (x : ℕ) (xs ys : List ℕ) → last_from x (xs ++ ys) ≡ last_from (last_from x xs) ys
last_from_split x [] ys = refl
last_from_split x (y ∷ xs) ys = last_from_split y xs ys

last_split : (xs ys : List ℕ) → last_of (xs ++ ys) ≡ last_after (last_of xs) ys
last_split [] ys = refl
last_split (x ∷ xs) ys = ap Some (last_from_split x xs ys)

-- the placements of one period more
placed_more : (k m n : ℕ) (ss ts : List Switch) → placements n ((ss ++ ts) ++ more_switches k (suc m) ts) ≡ placements n ((ss ++ ts) ++ more_switches k m ts) ++ placements n ts
placed_more k m n ss ts =
    ap (placements n) (sym (append_assoc (ss ++ ts) (more_switches k m ts) (map (later_switch (suc m * k)) ts)))
    ∙ placed_split n ((ss ++ ts) ++ more_switches k m ts) (map (later_switch (suc m * k)) ts)
    ∙ ap (λ (xs : List ℕ). placements n ((ss ++ ts) ++ more_switches k m ts) ++ xs) (placed_later (suc m * k) n ts)

last_back : (k m n : ℕ) (ss ts : List Switch) → last_of (placements n (ss ++ ts)) ≡ last_of (placements n ss) → last_of (placements n ((ss ++ ts) ++ more_switches k m ts)) ≡ last_of (placements n ss)
last_back k zero n ss ts back = ap (λ (xs : List Switch). last_of (placements n xs)) (append-nil (ss ++ ts)) ∙ back
last_back k (suc m) n ss ts back =
    ap last_of (placed_more k m n ss ts)
    ∙ last_split (placements n ((ss ++ ts) ++ more_switches k m ts)) (placements n ts)
    ∙ ap (λ w. last_after w (placements n ts)) (last_back k m n ss ts back)
    ∙ sym (last_split (placements n ss) (placements n ts)) ∙ ap last_of (sym (placed_split n ss ts)) ∙ back

pub grows : (m a b d x y : ℕ) → b ≡ a + d → x ≡ grown_count m a b → y ≡ d → x + y ≡ grown_count (suc m) a b
grows m a b d x y e f g = let diff : b - a ≡ d = omega (arith, e) in rw diff (rw f (rw diff (omega (arith, g))))

periods_migrated : (k m n : ℕ) (ss ts : List Switch) → last_of (placements n (ss ++ ts)) ≡ last_of (placements n ss)
    → migrations ((ss ++ ts) ++ more_switches k m ts) n ≡ grown_count m (migrations ss n) (migrations (ss ++ ts) n)
periods_migrated k zero n ss ts back =
    ap (λ (xs : List Switch). migrations xs n) (append-nil (ss ++ ts)) ∙ (let e : migrations (ss ++ ts) n ≡ grown_count 0 (migrations ss n) (migrations (ss ++ ts) n) = omega arith in e)
periods_migrated k (suc m) n ss ts back =
    let all = (ss ++ ts) ++ more_switches k m ts in
    let here = placements n ts in
    let first : migrations (ss ++ ts) n ≡ migrations ss n + changes_after (last_of (placements n ss)) here = ap changes (placed_split n ss ts) ∙ changed_split (placements n ss) here in
    ap changes (placed_more k m n ss ts) ∙ changed_split (placements n all) here
    ∙ grows m (migrations ss n) (migrations (ss ++ ts) n) (changes_after (last_of (placements n ss)) here) (migrations all n) (changes_after (last_of (placements n all)) here)
    first (periods_migrated k m n ss ts back) (ap (λ w. changes_after w here) (last_back k m n ss ts back))

-- SWITCHES of a CPU
counted_later : (k c : ℕ) (ts : List Switch) → count_by (λ (x : Switch). eqb x.cpu c) (map (later_switch k) ts) ≡ count_by (λ (x : Switch). eqb x.cpu c) ts
counted_later k c [] = refl
counted_later k c (s ∷ ts) =
    omega (
      arith,
      sum_by-cons (λ (x : Switch). cond (eqb x.cpu c) 1 0) (later_switch k s) (map (later_switch k) ts),
      sum_by-cons (λ (x : Switch). cond (eqb x.cpu c) 1 0) s ts,
      counted_later k c ts,
    )

abbrev count_on : ℕ → List Switch → ℕ
count_on c ss = count_by (λ (x : Switch). eqb x.cpu c) ss

periods_switched : (k m c : ℕ) (ss ts : List Switch) → count_on c ((ss ++ ts) ++ more_switches k m ts) ≡ grown_count m (count_on c ss) (count_on c (ss ++ ts))
periods_switched k zero c ss ts =
    ap (count_on c) (append-nil (ss ++ ts)) ∙ (let e : count_on c (ss ++ ts) ≡ grown_count 0 (count_on c ss) (count_on c (ss ++ ts)) = omega arith in e)
periods_switched k (suc m) c ss ts =
    let all = (ss ++ ts) ++ more_switches k m ts in
    ap (count_on c) (sym (append_assoc (ss ++ ts) (more_switches k m ts) (map (later_switch (suc m * k)) ts)))
    ∙ sum_by-append (λ (x : Switch). cond (eqb x.cpu c) 1 0) all (map (later_switch (suc m * k)) ts)
    ∙ grows m (count_on c ss) (count_on c (ss ++ ts)) (count_on c ts) (count_on c all) (count_on c (map (later_switch (suc m * k)) ts))
    (sum_by-append (λ (x : Switch). cond (eqb x.cpu c) 1 0) ss ts) (periods_switched k m c ss ts) (counted_later (suc m * k) c ts)

-- A CPU, after all periods
pub periods_cpu : (end from k m c : ℕ) (ss ts : List Switch) → AreInOrder ((ss ++ ts) ++ more_switches k m ts) → All (λ s. s.time < from + k) ts → from + k + m * k ≤ end
    → (cpu_by end (ss ++ ts) c).task ≡ (cpu_by end ss c).task
    → cpu_by end ((ss ++ ts) ++ more_switches k m ts) c ≡ grown_cpu m (cpu_by end ss c) (cpu_by end (ss ++ ts) c)
periods_cpu end from k m c ss ts rising until past back =
    let busy = time_is m (busy_us end ss c) (busy_us end (ss ++ ts) c) (busy_us end ((ss ++ ts) ++ more_switches k m ts) c) (periods_on (λ n. true) c end from k m ss ts rising until past back) in
    let task = who_back k m c ss ts back ∙ sym back in
    λ i. record { cpu = c; busy_us = busy i; switches = periods_switched k m c ss ts i; task = task i }

-- A TASK, after all periods
pub periods_ran : (end from k m n cpus : ℕ) (ss ts : List Switch) → AreInOrder ((ss ++ ts) ++ more_switches k m ts) → All (λ s. s.time < from + k) ts → from + k + m * k ≤ end
    → All (λ s. s.cpu < cpus) ss → All (λ s. s.cpu < cpus) (ss ++ ts) → All (λ s. s.cpu < cpus) ((ss ++ ts) ++ more_switches k m ts)
    → All (λ c. who_from None c (ss ++ ts) ≡ who_from None c ss) (range_with_len 0 cpus)
    → (ran_by end (ss ++ ts) n).last ≡ (ran_by end ss n).last
    → ran_by end ((ss ++ ts) ++ more_switches k m ts) n ≡ grown_ran m (ran_by end ss n) (ran_by end (ss ++ ts) n)
periods_ran end from k m n cpus ss ts rising until past inside inside_too inside_all back last =
    let ks = range_with_len 0 cpus in
    let all = (ss ++ ts) ++ more_switches k m ts in
    let q = λ (x : ℕ). eqb x n in
    let sums = sums_grown m (λ c. time_on q c end all) (λ c. time_on q c end ss) (λ c. time_on q c end (ss ++ ts)) ks
    (All-weaker (λ (c : ℕ). who_from None c (ss ++ ts) ≡ who_from None c ss) (λ (c : ℕ). time_on q c end all + m * time_on q c end ss ≡ time_on q c end (ss ++ ts) + m * time_on q c end (ss ++ ts))
    (λ c b. periods_on q c end from k m ss ts rising until past b) ks back) in
    let a = task_time n cpus end ss inside in
    let b = task_time n cpus end (ss ++ ts) inside_too in
    let x = task_time n cpus end all inside_all in
    let time = time_is m (cpu_us end ss n) (cpu_us end (ss ++ ts) n) (cpu_us end all n)
    ((λ i. sym x i + m * sym a i) ∙ sums ∙ (λ i. b i + m * b i)) in
    let stays_last = last_back k m n ss ts last ∙ sym last in
    λ i. record { number = n; cpu_us = time i; migrated = periods_migrated k m n ss ts last i; last = stays_last i }
