-- Worked rows: what some inputs spell. Each is a derivation by the grammar, checked like any proof.
use Rattle.std.specs.Prelude.{ℕ, List, [], ◌∷◌, codes}
use Rattle.std.specs.Char.{encode_utf8}
use Rattle.std.proofs.Common.{refl, inl, inr, arith}
use Rattle.json_order.specs.Json.{null, number, array, no_items, item}
use Rattle.json_order.specs.Grammar.{IsSpaced, IsNumber}
use Rattle.json_order.specs.Fault.{strict, Spells}

-- nothing is white space too
none : (m : List ℕ) → IsSpaced m m
none m = ([], tt, refl)

-- ` null` is null
pub spaced_null : Spells strict (codes " null") null
unfolding encode_utf8
spaced_null =
    (codes " null", refl, refl, (codes "null", [], (32 ∷ [], (refl, tt), refl), refl, none []))

-- the digits of `-0.5e+10`, which are kept as they stand
pub number_text : IsNumber (codes "-0.5e+10")
number_text =
    inr (
      refl,
      (
        codes "0",
        codes ".5",
        codes "e+10",
        inl (refl, refl),
        (refl, (refl, tt)),
        (refl, inr (refl, (refl, (refl, tt)))),
        refl,
      ),
    )

-- `[1, 2]` is the list of two numbers
pub two_items : Spells strict (codes "[1, 2]")
    (array (item (number (codes "1")) (item (number (codes "2")) no_items)))
unfolding encode_utf8
two_items = (
  codes "[1, 2]",
  refl,
  refl,
  (
    codes "[1, 2]",
    [],
    none (codes "[1, 2]"),
    (
      omega arith,
      (
        codes "1, 2]",
        refl,
        (
          codes "1, 2]",
          codes ", 2]",
          codes ", 2]",
          none (codes "1, 2]"),
          (inl (codes "1", [], [], inr (refl, tt), tt, tt, refl), refl),
          none (codes ", 2]"),
          (
            codes " 2]",
            codes "2]",
            codes "]",
            codes "]",
            refl,
            (32 ∷ [], (refl, tt), refl),
            (inl (codes "2", [], [], inr (refl, tt), tt, tt, refl), refl),
            none
                (codes "]"),
            refl,
          ),
        ),
      ),
    ),
    none [],
  ),
)
