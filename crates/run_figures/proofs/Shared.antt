-- The CPU time of the tasks sums to that of the CPUs: both are the sum of all stays.
use Rattle.std.proofs.Common.{◌≡◌, ◌≢◌, ℕ, zero, suc, ◌+◌, ◌-◌, ◌<◌, true, false, cond, eqb, List, [], ◌∷◌, ◌++◌, length, get_or, Option, Some, None, refl, sym, ap, ◌∙◌, arith, All, eq-eqb}
use Rattle.std.specs.Prelude.{AllPairs, IfSome, sum_by}
use Rattle.std.proofs.lemmas.Bool.{ne_eqb}
use Rattle.std.proofs.lemmas.List.Elements.{All-head, All-tail, All-nil, All-cons}
use Rattle.std.proofs.lemmas.List.Sums.{sum_by-cons}
use Rattle.domain_run.specs.Switch.{Switch}
use Rattle.run_figures.specs.Stays.{Stay, until, stays_by, stays}
use Rattle.run_figures.specs.Places.{IsAbsent}
use Rattle.run_figures.proofs.Turning.{rest_apart, others_absent, rest_absent}
use Rattle.run_figures.proofs.After.{us_in, us_in-cons}

-- a number stands somewhere
abbrev pub IsAmong : List ℕ → ℕ → Type 0
IsAmong ks m = (p : ℕ) × (p < length ks) × ((d : ℕ) → get_or ks p d ≡ m)

added_nowhere : (f : ℕ → ℕ) (u m : ℕ) (ks : List ℕ) → IsAbsent ks m → sum_by (λ k. cond (eqb m k) u 0 + f k) ks ≡ sum_by f ks
added_nowhere f u m [] absent = refl
added_nowhere f u m (k ∷ ks) absent =
    let other : eqb m k ≡ false = ne_eqb m k (λ (e : m ≡ k). absent zero 0 (omega arith) (sym e)) in
    omega (arith, sum_by-cons (λ j. cond (eqb m j) u 0 + f j) k ks, sum_by-cons f k ks, ap (λ b. cond b u 0) other, added_nowhere f u m ks (rest_absent k ks m absent))

-- what is added where a number stands is added once
pub added_once : (f : ℕ → ℕ) (u m : ℕ) (ks : List ℕ) → AllPairs (λ a b. a ≢ b) ks → IsAmong ks m → sum_by (λ k. cond (eqb m k) u 0 + f k) ks ≡ u + sum_by f ks
added_once f u m [] apart (p, l, is) = absurd (omega (arith, l))
added_once f u m (k ∷ ks) apart (zero, l, is) =
    let same : eqb m k ≡ true = eq-eqb m k (sym (is 0)) in
    omega (arith, sum_by-cons (λ j. cond (eqb m j) u 0 + f j) k ks, sum_by-cons f k ks, ap (λ b. cond b u 0) same, added_nowhere f u m ks (others_absent k ks m apart (is 0)))
added_once f u m (k ∷ ks) apart (suc p, l, is) =
    let other : eqb m k ≡ false = ne_eqb m k (λ (e : m ≡ k). apart zero (suc p) 0 (omega arith) l (sym e ∙ sym (is 0))) in
    let more = added_once f u m ks (rest_apart k ks apart) (p, omega (arith, l), is) in
    omega (arith, sum_by-cons (λ j. cond (eqb m j) u 0 + f j) k ks, sum_by-cons f k ks, ap (λ b. cond b u 0) other, more)

pub sums_same : (f g : ℕ → ℕ) (ks : List ℕ) → ((k : ℕ) → f k ≡ g k) → sum_by f ks ≡ sum_by g ks
sums_same f g [] same = refl
sums_same f g (k ∷ ks) same = omega (arith, sum_by-cons f k ks, sum_by-cons g k ks, same k, sums_same f g ks same)

nothing : (ks : List ℕ) → sum_by (λ k. 0) ks ≡ 0
nothing [] = refl
nothing (k ∷ ks) = omega (arith, sum_by-cons (λ j. 0) k ks, nothing ks)

-- stays, shared out by a number that each has
pub shared_out : (number : Stay → ℕ) (ks : List ℕ) (xs : List Stay) → AllPairs (λ a b. a ≢ b) ks → All (λ x. IsAmong ks (number x)) xs → sum_by (λ k. us_in (λ x. eqb (number x) k) xs) ks ≡ sum_by (λ (x : Stay). x.us) xs
shared_out number ks [] apart among = nothing ks
shared_out number ks (x ∷ xs) apart among =
    let rest = shared_out number ks xs apart (All-tail (λ (y : Stay). IsAmong ks (number y)) x xs among) in
    let each = sums_same (λ k. us_in (λ y. eqb (number y) k) (x ∷ xs)) (λ k. cond (eqb (number x) k) x.us 0 + us_in (λ y. eqb (number y) k) xs) ks (λ k. us_in-cons (λ y. eqb (number y) k) x xs) in
    let once = added_once (λ k. us_in (λ y. eqb (number y) k) xs) x.us (number x) ks apart (All-head (λ (y : Stay). IsAmong ks (number y)) x xs among) in
    omega (arith, sum_by-cons (λ (y : Stay). y.us) x xs, each, once, rest)

-- each stay is of a task that comes, on the CPU of its switch
one_among : (ks : List ℕ) (s : Switch) (u : ℕ) (next : Option ℕ) (later : List Stay) → IfSome next (IsAmong ks) → All (λ x. IsAmong ks x.number) later → All (λ x. IsAmong ks x.number) (stays_by s u next ++ later)
one_among ks s u None later one all = all
one_among ks s u (Some n) later one all = All-cons (λ (x : Stay). IsAmong ks x.number) (record { number = n; cpu = s.cpu; us = u - s.time }) later one all

pub tasks_among : (ks : List ℕ) (time : ℕ) (ss : List Switch) → All (λ s. IfSome s.next (IsAmong ks)) ss → All (λ x. IsAmong ks x.number) (stays time ss)
tasks_among ks time [] all = All-nil (λ (x : Stay). IsAmong ks x.number)
tasks_among ks time (s ∷ ss) all =
    one_among ks s (until time s.cpu ss) s.next (stays time ss) (All-head (λ (x : Switch). IfSome x.next (IsAmong ks)) s ss all)
    (tasks_among ks time ss (All-tail (λ (x : Switch). IfSome x.next (IsAmong ks)) s ss all))

one_inside : (ks : List ℕ) (s : Switch) (u : ℕ) (next : Option ℕ) (later : List Stay) → IsAmong ks s.cpu → All (λ x. IsAmong ks x.cpu) later → All (λ x. IsAmong ks x.cpu) (stays_by s u next ++ later)
one_inside ks s u None later one all = all
one_inside ks s u (Some n) later one all = All-cons (λ (x : Stay). IsAmong ks x.cpu) (record { number = n; cpu = s.cpu; us = u - s.time }) later one all

pub cpus_among : (ks : List ℕ) (time : ℕ) (ss : List Switch) → All (λ s. IsAmong ks s.cpu) ss → All (λ x. IsAmong ks x.cpu) (stays time ss)
cpus_among ks time [] all = All-nil (λ (x : Stay). IsAmong ks x.cpu)
cpus_among ks time (s ∷ ss) all =
    one_inside ks s (until time s.cpu ss) s.next (stays time ss) (All-head (λ (x : Switch). IsAmong ks x.cpu) s ss all)
    (cpus_among ks time ss (All-tail (λ (x : Switch). IsAmong ks x.cpu) s ss all))
