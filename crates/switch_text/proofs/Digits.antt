-- A number with zeros before it, digit by digit.
use Rattle.std.proofs.Common.{◌≡◌, ℕ, zero, suc, ◌+◌, ◌-◌, ◌/◌, ◌%◌, ◌^◌, ◌<◌, ◌≤◌, List, [], ◌∷◌, ◌++◌, length, replicate, get_or, sym, ap, ◌∙◌, append_assoc, inl, inr, arith}
use Rattle.std.specs.Prelude.{decimal}
use Rattle.std.proofs.lemmas.Bool.{cases_lt}
use Rattle.std.proofs.lemmas.Fmt.{decimal_digit, decimal_step}
use Rattle.std.proofs.lemmas.List.{length-append, replicate_more}
use Rattle.switch_text.specs.Line.{digits_in}

pub digits_one : (n : ℕ) → n < 10 → digits_in 1 n ≡ (48 + n) ∷ []
digits_one n lt = ap (λ (ds : List ℕ). replicate (1 - length ds) 48 ++ ds) (decimal_digit n lt)

few_digits : (k n : ℕ) → 0 < k → n < 10 → digits_in (k + 1) n ≡ digits_in k (n / 10) ++ ((48 + n % 10) ∷ [])
few_digits k n some lt =
    let zero' : n / 10 ≡ 0 = omega arith in
    let last : n % 10 ≡ n = omega arith in
    let front : digits_in k (n / 10) ≡ replicate k 48 = ap (digits_in k) zero' ∙ ap (λ (ds : List ℕ). replicate (k - length ds) 48 ++ ds) (decimal_digit 0 (omega arith))
    ∙ replicate_more (k - 1) 48 ∙ ap (λ (m : ℕ). replicate m 48) (omega arith) in
    ap (λ (ds : List ℕ). replicate (k + 1 - length ds) 48 ++ ds) (decimal_digit n lt) ∙ ap (λ (m : ℕ). replicate m 48 ++ ((48 + n) ∷ [])) (omega arith)
    ∙ ap (λ (zs : List ℕ). zs ++ ((48 + n) ∷ [])) (sym front) ∙ ap (λ (m : ℕ). digits_in k (n / 10) ++ ((48 + m) ∷ [])) (sym last)

many_digits : (k n : ℕ) → 10 ≤ n → n < 2 ^ 64 → digits_in (k + 1) n ≡ digits_in k (n / 10) ++ ((48 + n % 10) ∷ [])
many_digits k n le lt =
    let front = decimal (n / 10) in
    let last = (48 + n % 10) ∷ [] in
    let short : k + 1 - length (front ++ last) ≡ k - length front = omega (arith, length-append front last) in
    ap (λ (ds : List ℕ). replicate (k + 1 - length ds) 48 ++ ds) (decimal_step n le lt) ∙ ap (λ (m : ℕ). replicate m 48 ++ (front ++ last)) short
    ∙ sym (append_assoc (replicate (k - length front) 48) front last)

pub digits_step : (k n : ℕ) → 0 < k → n < 2 ^ 64 → digits_in (k + 1) n ≡ digits_in k (n / 10) ++ ((48 + n % 10) ∷ [])
digits_step k n some lt = elim (cases_lt n 10) [ inl few ↦ few_digits k n some few | inr many ↦ many_digits k n many lt ]

pub digits_two : (n : ℕ) → n < 100 → digits_in 2 n ≡ (48 + n / 10) ∷ (48 + n % 10) ∷ []
digits_two n lt = digits_step 1 n (omega arith) (omega arith) ∙ ap (λ (ds : List ℕ). ds ++ ((48 + n % 10) ∷ [])) (digits_one (n / 10) (omega arith))

-- the last two
pub digits_pair : (k n : ℕ) → 0 < k → n < 2 ^ 64 → digits_in (k + 2) n ≡ digits_in k (n / 100) ++ digits_in 2 (n % 100)
digits_pair k n some lt =
    let tens : n / 10 / 10 ≡ n / 100 = omega arith in
    let ten : n / 10 % 10 ≡ n % 100 / 10 = omega arith in
    let one : n % 10 ≡ n % 100 % 10 = omega arith in
    let last : digits_in 2 (n % 100) ≡ (48 + n % 100 / 10) ∷ (48 + n % 100 % 10) ∷ [] = digits_two (n % 100) (omega arith) in
    let a : digits_in (k + 2) n ≡ digits_in (k + 1) (n / 10) ++ ((48 + n % 10) ∷ []) = ap (λ (m : ℕ). digits_in m n) (omega arith) ∙ digits_step (k + 1) n (omega arith) lt in
    let b : digits_in (k + 1) (n / 10) ≡ digits_in k (n / 10 / 10) ++ ((48 + n / 10 % 10) ∷ []) = digits_step k (n / 10) some (omega arith) in
    a ∙ ap (λ (ds : List ℕ). ds ++ ((48 + n % 10) ∷ [])) b ∙ append_assoc (digits_in k (n / 10 / 10)) ((48 + n / 10 % 10) ∷ []) ((48 + n % 10) ∷ [])
    ∙ ap (λ (m : ℕ). digits_in k m ++ ((48 + n / 10 % 10) ∷ (48 + n % 10) ∷ [])) tens ∙ ap (λ (m : ℕ). digits_in k (n / 100) ++ ((48 + m) ∷ (48 + n % 10) ∷ [])) ten
    ∙ ap (λ (m : ℕ). digits_in k (n / 100) ++ ((48 + n % 100 / 10) ∷ (48 + m) ∷ [])) one ∙ ap (λ (ds : List ℕ). digits_in k (n / 100) ++ ds) (sym last)

pub digits_three : (n : ℕ) → n < 1000 → digits_in 3 n ≡ ((48 + n / 100) ∷ []) ++ digits_in 2 (n % 100)
digits_three n lt = digits_pair 1 n (omega arith) (omega arith) ∙ ap (λ (ds : List ℕ). ds ++ digits_in 2 (n % 100)) (digits_one (n / 100) (omega arith))

pub digits_six : (n : ℕ) → n < 1000000 → digits_in 6 n ≡ digits_in 2 (n / 10000) ++ digits_in 2 (n / 100 % 100) ++ digits_in 2 (n % 100)
digits_six n lt =
    let high : n / 100 / 100 ≡ n / 10000 = omega arith in
    digits_pair 4 n (omega arith) (omega arith) ∙ ap (λ (ds : List ℕ). ds ++ digits_in 2 (n % 100)) (digits_pair 2 (n / 100) (omega arith) (omega arith))
    ∙ ap (λ (m : ℕ). (digits_in 2 m ++ digits_in 2 (n / 100 % 100)) ++ digits_in 2 (n % 100)) high

pub length-digits_two : (n : ℕ) → n < 100 → length (digits_in 2 n) ≡ 2
length-digits_two n lt = ap length (digits_two n lt)

pub length-digits_three : (n : ℕ) → n < 1000 → length (digits_in 3 n) ≡ 3
length-digits_three n lt = omega (arith, ap length (digits_three n lt), length-append ((48 + n / 100) ∷ []) (digits_in 2 (n % 100)), length-digits_two (n % 100) (omega arith))

-- three pairs that are put down one after another
pub six_text : (n : ℕ) (a b c : List ℕ) → n < 1000000 → a ≡ digits_in 2 (n / 10000) → b ≡ digits_in 2 (n / 100 % 100) → c ≡ digits_in 2 (n % 100) → a ++ b ++ c ≡ digits_in 6 n
six_text n a b c lt p q r = rw (p, q, r) (sym (digits_six n lt))

-- ---- the pairs of digits of all numbers below 100, in one table

-- of so many numbers from k on
unfoldable pub pairs_from : ℕ → ℕ → List (List ℕ)
pairs_from zero k = []
pairs_from (suc n) k = ((48 + k / 10) ∷ (48 + k % 10) ∷ []) ∷ pairs_from n (suc k)

pair_in : (n k i : ℕ) (d : List ℕ) → i < n → get_or (pairs_from n k) i d ≡ (48 + (k + i) / 10) ∷ (48 + (k + i) % 10) ∷ []
unfolding pairs_from
pair_in zero k i d lt = absurd (omega arith)
pair_in (suc n) k zero d lt = ap (λ (m : ℕ). (48 + m / 10) ∷ (48 + m % 10) ∷ []) (omega arith)
pair_in (suc n) k (suc i) d lt = pair_in n (suc k) i d (omega arith) ∙ ap (λ (m : ℕ). (48 + m / 10) ∷ (48 + m % 10) ∷ []) (omega arith)

pub pair_at : (n : ℕ) (d : List ℕ) → n < 100 → get_or (pairs_from 100 0) n d ≡ digits_in 2 n
pair_at n d lt = pair_in 100 0 n d lt ∙ ap (λ (m : ℕ). (48 + m / 10) ∷ (48 + m % 10) ∷ []) (omega arith) ∙ sym (digits_two n lt)
