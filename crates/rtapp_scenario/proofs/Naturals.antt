-- What digits write, read one by one.
use Rattle.std.proofs.Common.{ℕ, ◌≡◌, ◌<◌, ◌≤◌, ◌+◌, ◌*◌, ◌^◌, ◌&&◌, Bool, true, false, List, [], ◌∷◌, length, get_or, drop, refl, sym, ◌∙◌, ltb, arith, rules}
use Rattle.std.specs.Str.Parse.{digits_value, digits_value_after}
use Rattle.std.specs.List.{list_all}
use Rattle.std.specs.Char.{is_ascii_digit, digit_value}
use Rattle.std.proofs.lemmas.List.{at_drop_more}
use Rattle.std.proofs.lemmas.Str.Parse.{IsNumeralModel, numerals_by_fold}
use Rattle.std.proofs.lemmas.Bool.Decides.{nat_tests}
use Rattle.rtapp_scenario.specs.Values.{is_natural}

pub own : IsNumeralModel (λ ds. list_all is_ascii_digit ds ≡ true) (digits_value 10)
own = numerals_by_fold _ (search rules) (digits_value_after 10) (search rules)

second_fails : (a b c : Bool) → b ≡ false → a && b && c ≡ false
second_fails true b c e = rw e refl
second_fails false b c e = refl

third_fails : (a b : Bool) → b ≡ false → a && b ≡ false
third_fails true b e = e
third_fails false b e = refl

-- a byte is no digit
pub no_digit : (bs : List ℕ) (i : ℕ) → i < length bs → is_ascii_digit (get_or bs i 0) ≡ false → list_all is_ascii_digit (drop i bs) ≡ list_all is_ascii_digit bs → is_natural bs ≡ false
no_digit bs i h other so_far =
    let step : list_all is_ascii_digit (drop i bs) ≡ list_all is_ascii_digit (get_or bs i 0 ∷ drop (i + 1) bs) = at_drop_more (list_all is_ascii_digit) bs i 0 h in
    let now : list_all is_ascii_digit (get_or bs i 0 ∷ drop (i + 1) bs) ≡ false = rw other refl in
    second_fails (ltb 0 (length bs)) (list_all is_ascii_digit bs) (ltb (digits_value 10 bs) (2 ^ 63)) (sym so_far ∙ step ∙ now)

grows : (n : ℕ) (ds : List ℕ) → n ≤ digits_value_after 10 n ds
grows n [] = omega arith
grows n (d ∷ ds) = let more = grows (n * 10 + digit_value d) ds in omega (arith, more)

-- one digit more leaves 63 bits
pub too_large : (bs : List ℕ) (i n : ℕ) → i < length bs → 922337203685477580 < n → digits_value_after 10 n (drop i bs) ≡ digits_value 10 bs → is_natural bs ≡ false
too_large bs i n h large so_far =
    let step : digits_value_after 10 n (drop i bs) ≡ digits_value_after 10 n (get_or bs i 0 ∷ drop (i + 1) bs) = at_drop_more (digits_value_after 10 n) bs i 0 h in
    let most = grows (n * 10 + digit_value (get_or bs i 0)) (drop (i + 1) bs) in
    let is : digits_value 10 bs ≡ digits_value_after 10 (n * 10 + digit_value (get_or bs i 0)) (drop (i + 1) bs) = sym so_far ∙ step in
    let over : 2 ^ 63 ≤ digits_value 10 bs = omega (arith, most, is, large) in
    third_fails (ltb 0 (length bs) && list_all is_ascii_digit bs) (ltb (digits_value 10 bs) (2 ^ 63)) (grind (arith, nat_tests, over))
