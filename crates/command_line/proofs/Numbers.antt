-- What clap's getters answer of an option's text.
use Rattle.std.proofs.Common.{◌≡◌, ◌∙◌, ℕ, ℤ, w64, FitsSigned, List, ap, refl, subst, sym, Some, None, Option, Result}
use Rattle.std.specs.Str.Parse.{ParsesSigned, ParsesUnsigned}
use Rattle.clap.specs.Matches.{ReadsOne}
use Rattle.command_line.specs.Comparing.{SpellsSigned}
use Rattle.command_line.specs.Found.{SpellsNumber}

-- who reads numbers below 2^64 reads the number that the text spells
pub read_spelled : {E : Type 0} (A B : List ℕ → Result ℕ E → Type 0) (text : List ℕ) (v : ℕ) (r : Option ℕ) → SpellsNumber text v
    → ReadsOne (λ bs q. ParsesUnsigned 64 10 bs q × A bs q × B bs q) text r → r ≡ Some v
read_spelled A B text v (Some n) spells reads = ap (λ k. Some k) (reads.0.1 ∙ spells.value)
read_spelled A B text v None spells reads = absurd (reads.1.0 (spells.digits, rw spells.value spells.small))

-- and nothing where it spells none
pub read_other : {E : Type 0} (A B : List ℕ → Result ℕ E → Type 0) (text : List ℕ) (r : Option ℕ) → ((v : ℕ) → SpellsNumber text v → ⊥)
    → ReadsOne (λ bs q. ParsesUnsigned 64 10 bs q × A bs q × B bs q) text r → r ≡ None
read_other A B text (Some n) none reads = absurd (none n (record { digits = reads.0.0.0; value = sym reads.0.1; small = rw reads.0.1 reads.0.0.1 }))
read_other A B text None none reads = refl

-- the same of numbers with a sign
pub signed_spelled : {E : Type 0} (A B : List ℕ → Result ℤ E → Type 0) (text : List ℕ) (v : ℤ) (r : Option ℤ) → SpellsSigned text v
    → ReadsOne (λ bs q. ParsesSigned w64 10 bs q × A bs q × B bs q) text r → r ≡ Some v
signed_spelled A B text v (Some n) spells reads = ap (λ k. Some k) (reads.0.1 ∙ spells.value)
signed_spelled A B text v None spells reads = absurd (reads.1.0 (spells.digits, subst (λ z. FitsSigned w64 z) (sym spells.value) spells.small))

pub signed_other : {E : Type 0} (A B : List ℕ → Result ℤ E → Type 0) (text : List ℕ) (r : Option ℤ) → ((v : ℤ) → SpellsSigned text v → ⊥)
    → ReadsOne (λ bs q. ParsesSigned w64 10 bs q × A bs q × B bs q) text r → r ≡ None
signed_other A B text (Some n) none reads = absurd (none n (record { digits = reads.0.0.0; value = sym reads.0.1; small = subst (λ z. FitsSigned w64 z) (sym reads.0.1) reads.0.0.1 }))
signed_other A B text None none reads = refl
