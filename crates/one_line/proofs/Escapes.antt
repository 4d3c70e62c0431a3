-- What is written of a character that is not shown as itself.
use Rattle.std.proofs.Common.{◌≡◌, ◌<◌, ℕ, ◌-◌, ◌^◌, false, List, [], ◌∷◌, ◌++◌, ap, ◌∙◌, arith, codes}
use Rattle.std.specs.Prelude.{◌/◌, ◌%◌}
use Rattle.std.specs.Fmt.{digit_glyph, digits, format_spec, padded_integral}
use Rattle.std.proofs.lemmas.Bool.Decides.{nat_tests}
use Rattle.std.proofs.lemmas.Fmt.{hex_byte}
use Rattle.one_line.specs.Shown.{hex_digit, hex_pair}

glyph : (n : ℕ) → digit_glyph false n ≡ hex_digit n
glyph n = grind (arith, nat_tests)

first_digit : (n : ℕ) → n < 256 → n / 16 ≡ n / 16 % 16
first_digit n small = omega (arith, small)

-- the two digits of a byte
pair : (n : ℕ) → n < 256 → padded_integral (format_spec 32 0 4 2 (2 ^ 64 - 1)) false [] (digits 16 false n) ≡ hex_pair n
pair n small =
    hex_byte false n small
    ∙ ap (λ (d : ℕ). digit_glyph false d ∷ digit_glyph false (n % 16) ∷ []) (first_digit n small)
    ∙ ap (λ (d : ℕ). d ∷ digit_glyph false (n % 16) ∷ []) (glyph (n / 16 % 16))
    ∙ ap (λ (d : ℕ). hex_digit (n / 16 % 16) ∷ d ∷ []) (glyph (n % 16))

low_first : (n : ℕ) → n % 256 / 16 % 16 ≡ n / 16 % 16
low_first n = omega (arith)

low_last : (n : ℕ) → n % 256 % 16 ≡ n % 16
low_last n = omega (arith)

low_small : (n : ℕ) → n % 256 < 256
low_small n = omega (arith)

low_pair : (n : ℕ) → hex_pair (n % 256) ≡ hex_pair n
low_pair n =
    ap (λ (d : ℕ). hex_digit d ∷ hex_digit (n % 256 % 16) ∷ []) (low_first n)
    ∙ ap (λ (d : ℕ). hex_digit (n / 16 % 16) ∷ hex_digit d ∷ []) (low_last n)

high_small : (n : ℕ) → n < 65536 → n / 256 < 256
high_small n small = omega (arith, small)

pub escape_written : (n : ℕ) → n < 65536 → codes "\\u" ++ (padded_integral (format_spec 32 0 4 2 (2 ^ 64 - 1)) false [] (digits 16 false (n / 256)) ++ padded_integral (format_spec 32 0 4 2 (2 ^ 64 - 1)) false [] (digits 16 false (n % 256))) ≡ codes "\\u" ++ (hex_pair (n / 256) ++ hex_pair n)
escape_written n small =
    ap (λ (t : List ℕ). codes "\\u" ++ (t ++ padded_integral (format_spec 32 0 4 2 (2 ^ 64 - 1)) false [] (digits 16 false (n % 256)))) (pair (n / 256) (high_small n small))
    ∙ ap (λ (t : List ℕ). codes "\\u" ++ (hex_pair (n / 256) ++ t)) (pair (n % 256) (low_small n) ∙ low_pair n)
