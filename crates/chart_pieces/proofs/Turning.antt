-- A change of the element of one number, as a map.
use Rattle.std.proofs.Common.{◌≡◌, ◌≢◌, ℕ, zero, suc, ◌<◌, cond, List, [], ◌∷◌, length, get_or, set, map, refl, sym, ap, ◌∙◌, arith, eq-eqb, subst}
use Rattle.std.specs.Prelude.{AllPairs, IfOk, OnOk, Result, Ok, Err}
use Rattle.std.proofs.lemmas.List.{length-map}
use Rattle.std.proofs.lemmas.Bool.{ne_eqb}
use Rattle.run_figures.specs.Places.{IsAt, IsAbsent, if_number}

pub rest_absent : (m : ℕ) (numbers : List ℕ) (n : ℕ) → IsAbsent (m ∷ numbers) n → IsAbsent numbers n
rest_absent m numbers n absent k d h = absent (suc k) d (omega arith)

pub rest_apart : (m : ℕ) (numbers : List ℕ) → AllPairs (λ a b. a ≢ b) (m ∷ numbers) → AllPairs (λ a b. a ≢ b) numbers
rest_apart m numbers apart i j d less within = apart (suc i) (suc j) d (omega arith) (omega arith)

pub others_absent : (m : ℕ) (numbers : List ℕ) (n : ℕ) → AllPairs (λ a b. a ≢ b) (m ∷ numbers) → m ≡ n → IsAbsent numbers n
others_absent m numbers n apart is k d h same = apart zero (suc k) d (omega arith) (omega arith) (is ∙ sym same)

pub turned_nowhere : {X : Type 0} (number : X → ℕ) (n : ℕ) (f : X → X) (xs : List X) → IsAbsent (map number xs) n → map (if_number number n f) xs ≡ xs
turned_nowhere number n f [] absent = refl
turned_nowhere number n f (x ∷ xs) absent =
    let first : if_number number n f x ≡ x = ap (λ b. cond b (f x) x) (ne_eqb (number x) n (absent zero 0 (omega arith))) in
    let more = turned_nowhere number n f xs (rest_absent (number x) (map number xs) n absent) in
    λ i. first i ∷ more i

pub turned_at : {X : Type 0} (number : X → ℕ) (n : ℕ) (f : X → X) (xs : List X) (p : ℕ) (d : X) → AllPairs (λ a b. a ≢ b) (map number xs) → IsAt (map number xs) n p → map (if_number number n f) xs ≡ set xs p (f (get_or xs p d))
turned_at number n f [] p d apart is = let no : p < 0 = is.within in absurd (omega (arith, no))
turned_at number n f (x ∷ xs) zero d apart is =
    let first : if_number number n f x ≡ f x = ap (λ b. cond b (f x) x) (eq-eqb (number x) n (is.is 0)) in
    let more = turned_nowhere number n f xs (others_absent (number x) (map number xs) n apart (is.is 0)) in
    λ i. first i ∷ more i
turned_at number n f (x ∷ xs) (suc p) d apart is =
    let inside : suc p < suc (length (map number xs)) = is.within in
    let rest : IsAt (map number xs) n p = record { within = omega (arith, inside); is = is.is } in
    let other : number x ≢ n = λ e. apart zero (suc p) 0 (omega arith) inside (e ∙ sym (is.is 0)) in
    let first : if_number number n f x ≡ x = ap (λ b. cond b (f x) x) (ne_eqb (number x) n other) in
    let more = turned_at number n f xs p d (rest_apart (number x) (map number xs) apart) rest in
    λ i. first i ∷ more i

-- the same with what was read at the place
pub turned_place : {X : Type 0} (number : X → ℕ) (n : ℕ) (f : X → X) (xs : List X) (numbers : List ℕ) (p : ℕ) (x : X) → map number xs ≡ numbers → AllPairs (λ a b. a ≢ b) numbers → IsAt numbers n p → x ≡ get_or xs p x → set xs p (f x) ≡ map (if_number number n f) xs
turned_place number n f xs numbers p x keyed apart at is =
    ap (λ y. set xs p (f y)) is
    ∙ sym (turned_at number n f xs p x (subst (λ (ns : List ℕ). AllPairs (λ a b. a ≢ b) ns) (sym keyed) apart) (subst (λ (ns : List ℕ). IsAt ns n p) (sym keyed) at))

pub turned_none : {X : Type 0} (number : X → ℕ) (n : ℕ) (f : X → X) (xs : List X) (numbers : List ℕ) → map number xs ≡ numbers → IsAbsent numbers n → xs ≡ map (if_number number n f) xs
turned_none number n f xs numbers keyed absent = sym (turned_nowhere number n f xs (subst (λ (ns : List ℕ). IsAbsent ns n) (sym keyed) absent))

pub place_inside : {X : Type 0} (number : X → ℕ) (n : ℕ) (xs : List X) (numbers : List ℕ) (p : ℕ) → map number xs ≡ numbers → IsAt numbers n p → p < length xs
place_inside number n xs numbers p keyed at = let l : p < length numbers = at.within in omega (arith, l, ap (λ (ns : List ℕ). length ns) keyed, length-map xs number)

pub on_ok : {T E : Type 0} (r : Result T E) (P Q : Type 0) → (P → Q) → OnOk r P → OnOk r Q
on_ok (Ok x) P Q f h = f h
on_ok (Err e) P Q f h = tt

pub if_ok : {T E : Type 0} (r : Result T E) (P Q : T → Type 0) → ((x : T) → P x → Q x) → IfOk r P → IfOk r Q
if_ok (Ok x) P Q f h = f x h
if_ok (Err e) P Q f h = tt
