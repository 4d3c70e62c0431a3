-- A number is spelled in ASCII.
use Rattle.std.specs.Char.{is_ascii_digit}
use Rattle.std.specs.Int.{is_in_range}
use Rattle.std.proofs.Common.{ℕ, ◌<◌, ◌≡◌, inl, inr, true, List, [], ◌∷◌, ◌++◌, sym, subst, arith}
use Rattle.std.proofs.lemmas.Bool.Decides.{nat_tests}
use Rattle.json_order.specs.Grammar.{AreDigits, SomeDigits, IsInteger, IsFraction, IsPower, IsExponent, IsUnsigned, IsNumber, is_sign, is_mark}

abbrev pub AreSmall : List ℕ → Type 0
AreSmall [] = Unit {0}
AreSmall (c ∷ cs) = (c < 128) × AreSmall cs

small_append : (xs ys : List ℕ) → AreSmall xs → AreSmall ys → AreSmall (xs ++ ys)
small_append [] ys h k = k
small_append (x ∷ xs) ys h k = (h.0, small_append xs ys h.1 k)

digit_small : (c : ℕ) → is_ascii_digit c ≡ true → c < 128
digit_small c h = grind (arith, nat_tests)

first_small : (c : ℕ) → is_in_range 49 57 c ≡ true → c < 128
first_small c h = grind (arith, nat_tests)

sign_small : (c : ℕ) → is_sign c ≡ true → c < 128
sign_small c h = grind (arith, nat_tests)

mark_small : (c : ℕ) → is_mark c ≡ true → c < 128
mark_small c h = grind (arith, nat_tests)

digits_small : (ds : List ℕ) → AreDigits ds → AreSmall ds
digits_small [] h = tt
digits_small (d ∷ ds) h = (digit_small d h.0, digits_small ds h.1)

some_small : (ds : List ℕ) → SomeDigits ds → AreSmall ds
some_small [] h = absurd h
some_small (d ∷ ds) h = (digit_small d h.0, digits_small ds h.1)

integer_small : (ds : List ℕ) → IsInteger ds → AreSmall ds
integer_small [] h = absurd h
integer_small (d ∷ ds) (inl (e, f)) = (omega (arith, e), subst AreSmall (sym f) tt)
integer_small (d ∷ ds) (inr (r, h)) = (first_small d r, digits_small ds h)

fraction_small : (ds : List ℕ) → IsFraction ds → AreSmall ds
fraction_small [] h = tt
fraction_small (d ∷ ds) h = let e = h.0 in (omega (arith, e), some_small ds h.1)

power_small : (ds : List ℕ) → IsPower ds → AreSmall ds
power_small [] h = absurd h
power_small (d ∷ ds) (inl h) = some_small (d ∷ ds) h
power_small (d ∷ ds) (inr (s, h)) = (sign_small d s, some_small ds h)

exponent_small : (ds : List ℕ) → IsExponent ds → AreSmall ds
exponent_small [] h = tt
exponent_small (d ∷ ds) h = (mark_small d h.0, power_small ds h.1)

unsigned_small : (text : List ℕ) → IsUnsigned text → AreSmall text
unsigned_small text (i, f, e, a, b, x, q) =
    subst AreSmall (sym q) (small_append i (f ++ e) (integer_small i a) (small_append f e (fraction_small f b) (exponent_small e x)))

pub number_small : (c : ℕ) (more : List ℕ) → IsNumber (c ∷ more) → AreSmall (c ∷ more)
number_small c more (inl h) = unsigned_small (c ∷ more) h
number_small c more (inr (e, h)) = (omega (arith, e), unsigned_small more h)
