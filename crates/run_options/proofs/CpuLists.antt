-- Lists of numbers of CPUs, as text.
use Rattle.std.proofs.Common.{◌≡◌, ◌≢◌, ◌<◌, ◌≤◌, ℕ, List, [], ◌++◌, ◌+◌, map, take, length, get_or, All, decimal, ap, sym, ◌∙◌, subst, arith, Bor, Result, Ok, Err, zero, suc, ◌∷◌}
use Rattle.std.proofs.lemmas.List.{length-map, get_or-map, map_push, take_more, take_all}
use Rattle.std.specs.Int.{IsInRange}
use Rattle.std.specs.List.{slice_split}
use Rattle.std.proofs.lemmas.List.Splits.{length-slice_split}
use Rattle.std.specs.Str.Parse.{AllDigits, digits_value, ParsesUnsigned}
use Rattle.std.proofs.lemmas.Str.Parse.{IsNumeralModel, numerals_by_value, tells_digits, digit_at, parse_plain}
use Rattle.std.proofs.lemmas.Fmt.{decimal_digit, first_decimal, digits_decimal, decimal_nonempty, decimal-digits_value, parse-decimal}
use Rattle.domain_run.specs.Domain.{IsCpus}
use Rattle.run_options.specs.Words.{is_comma, IsList}

own : IsNumeralModel (AllDigits 10) (digits_value 10)
own = numerals_by_value (AllDigits 10) tells_digits

-- a number of CPUs begins with a digit from 1 to 9
pub first_digit : (n : ℕ) → IsCpus n → IsInRange 49 57 (get_or (decimal n) 0 0)
first_digit n h =
    let low : 48 < get_or (decimal n) 0 0 = first_decimal n h.0 (omega (arith, h.1)) in
    let high = digit_at (decimal n) 0 (digits_decimal own n (omega (arith, h.1))) (decimal_nonempty n (omega (arith, h.1))) in
    (omega (arith, low), omega (arith, high.1))

-- what was parsed, and begins so, is the decimal of its number
pub parsed_decimal : (bs : List ℕ) (n : ℕ) → ParsesUnsigned {E = ℕ} 32 10 bs (Ok n) → IsInRange 49 57 (get_or bs 0 0) → n ≤ 64 → IsCpus n × (bs ≡ decimal n)
parsed_decimal bs n h first small =
    let plain = parse_plain own {E = ℕ} 32 bs (Ok n) h (λ e. absurd (omega (arith, e, first.0))) in
    let is : n ≡ digits_value 10 bs = plain.1 in
    let same : decimal n ≡ bs = ap decimal is ∙ decimal-digits_value own bs plain.0.0 plain.0.1 (λ e. absurd (omega (arith, e, first.0))) (omega (arith, is, small)) in
    let back : IsInRange 49 57 (get_or (decimal n) 0 0) = subst (λ (t : List ℕ). IsInRange 49 57 (get_or t 0 0)) (sym same) first in
    ((positive n back, small), sym same)
  where
    positive : (n : ℕ) → IsInRange 49 57 (get_or (decimal n) 0 0) → 0 < n
    positive zero h =
        let zero_digit = ap (λ (t : List ℕ). get_or t 0 0) (decimal_digit 0 (omega arith)) in
        absurd (omega (arith, h.0, zero_digit))
    positive (suc n) h = omega arith

-- where one piece is no number of CPUs, the text spells no list
pub bad_piece : (text cpus : List ℕ) (i : ℕ) → IsList text cpus → i < length (slice_split is_comma text) → ((n : ℕ) → IsCpus n → get_or (slice_split is_comma text) i [] ≢ decimal n) → ⊥
bad_piece text cpus i list here bad =
    let count : length cpus ≡ length (slice_split is_comma text) = sym (length-map cpus decimal) ∙ sym (ap length list.pieces) in
    let inside : i < length cpus = omega (arith, count, here) in
    bad (get_or cpus i 0) (list.range i 0 inside) (ap (λ (ps : List (List ℕ)). get_or ps i []) list.pieces ∙ get_or-map decimal cpus i 0 [] inside)

-- more pieces than a list has
pub too_many : (text cpus : List ℕ) → IsList text cpus → 8 < length (slice_split is_comma text) → ⊥
too_many text cpus list more =
    let count : length cpus ≡ length (slice_split is_comma text) = sym (length-map cpus decimal) ∙ sym (ap length list.pieces) in
    absurd (omega (arith, count, more, list.few))

abbrev number_or_zero : Result ℕ ℕ → ℕ
number_or_zero (Ok n) = n
number_or_zero (Err e) = 0

-- what is read of the decimal of a number is that number
pub same_number : (bs : List ℕ) (m n : ℕ) → ParsesUnsigned {E = ℕ} 32 10 bs (Ok m) → IsCpus n → bs ≡ decimal n → m ≡ n
same_number bs m n h small e = ap number_or_zero (parse-decimal {E = ℕ} 32 n bs (Ok m) (omega (arith, small.1)) (omega (arith, small.1)) e h)

-- and it is read
pub unread : (bs : List ℕ) (n : ℕ) → ParsesUnsigned {E = ℕ} 32 10 bs (Err 0) → IsCpus n → bs ≡ decimal n → ⊥
unread bs n h small e =
    let same : 0 ≡ n = ap number_or_zero (parse-decimal {E = ℕ} 32 n bs (Err 0) (omega (arith, small.1)) (omega (arith, small.1)) e h) in
    absurd (omega (arith, same, small.0))

-- a piece of the text, as it lies in the list of pieces
pub piece_at : (text : List ℕ) (pieces items : List (Bor (List ℕ))) (i : ℕ) (d : Bor (List ℕ)) → map (λ (p : Bor (List ℕ)). p.now) pieces ≡ slice_split is_comma text → items ≡ pieces → i < length items → get_or (slice_split is_comma text) i [] ≡ (get_or items i d).now
piece_at text pieces items i d cut same inside =
    ap (λ (ps : List (List ℕ)). get_or ps i []) (sym cut) ∙ ap (λ (ps : List (Bor (List ℕ))). get_or (map (λ (p : Bor (List ℕ)). p.now) ps) i []) (sym same)
    ∙ get_or-map (λ (p : Bor (List ℕ)). p.now) items i d [] inside

-- one number more was read
pub read_one : (text list : List ℕ) (i n : ℕ) → map decimal list ≡ take i (slice_split is_comma text) → i < length (slice_split is_comma text) → get_or (slice_split is_comma text) i [] ≡ decimal n → map decimal (list ++ n ∷ []) ≡ take (i + 1) (slice_split is_comma text)
read_one text list i n told inside here =
    let pieces = slice_split is_comma text in
    map_push decimal list n ∙ ap (λ (front : List (List ℕ)). front ++ decimal n ∷ []) told
    ∙ ap (λ (x : List ℕ). take i pieces ++ x ∷ []) (sym here) ∙ sym (take_more pieces i [] inside)

-- all pieces were read
pub whole_list : (text list : List ℕ) (i : ℕ) → map decimal list ≡ take i (slice_split is_comma text) → All IsCpus list → length (slice_split is_comma text) ≤ i → length (slice_split is_comma text) ≤ 8 → IsList text list
whole_list text list i told range all few =
    let pieces = slice_split is_comma text in
    let same : map decimal list ≡ pieces = told ∙ take_all i pieces all in
    let count : length list ≡ length pieces = sym (length-map list decimal) ∙ ap length same in
    record {
      some = omega (arith, count, length-slice_split is_comma text);
      few = omega (arith, count, few);
      range = range;
      pieces = sym same;
    }
