-- What is escaped opens and closes no tag.
use Rattle.std.proofs.Common.{◌≡◌, ◌≢◌, ℕ, ◌<◌, cond, eqb, ⊎_elim, List, [], ◌∷◌, sym, ap, subst, arith}
use Rattle.std.specs.Prelude.{codes}
use Rattle.std.proofs.lemmas.Bool.{cases_eq, ne_eqb, eq-eqb}
use Rattle.std.proofs.lemmas.List.Concat.{flat_map-cons}
use Rattle.std.proofs.lemmas.List.Elements.{All-nil, All-cons, All-append}
use Rattle.chart.specs.Escape.{reference, escaped, IsPlain, IsEscaped}

one : (n : ℕ) (rest : List ℕ) → n ≢ 60 → n ≢ 62 → n ≢ 34 → IsEscaped rest → IsEscaped (n ∷ rest)
one n rest a b c more = All-cons IsPlain n rest (a, b, c) more

none : IsEscaped []
none = All-nil IsPlain

high : (n : ℕ) (rest : List ℕ) → 62 < n → IsEscaped rest → IsEscaped (n ∷ rest)
high n rest l more = one n rest (λ e. omega (arith, e, l)) (λ e. omega (arith, e, l)) (λ e. omega (arith, e, l)) more

mark : (n : ℕ) (rest : List ℕ) → 34 < n → n < 60 → IsEscaped rest → IsEscaped (n ∷ rest)
mark n rest l m more = one n rest (λ e. omega (arith, e, m)) (λ e. omega (arith, e, m)) (λ e. omega (arith, e, l)) more

semicolon : IsEscaped (codes ";")
semicolon = mark 59 [] (omega arith) (omega arith) none

amp : IsEscaped (codes "&amp;")
amp = mark 38 (codes "amp;") (omega arith) (omega arith) (high 97 (codes "mp;") (omega arith) (high 109 (codes "p;") (omega arith) (high 112 (codes ";") (omega arith) semicolon)))

lt : IsEscaped (codes "&lt;")
lt = mark 38 (codes "lt;") (omega arith) (omega arith) (high 108 (codes "t;") (omega arith) (high 116 (codes ";") (omega arith) semicolon))

gt : IsEscaped (codes "&gt;")
gt = mark 38 (codes "gt;") (omega arith) (omega arith) (high 103 (codes "t;") (omega arith) (high 116 (codes ";") (omega arith) semicolon))

quot : IsEscaped (codes "&quot;")
quot = mark 38 (codes "quot;") (omega arith) (omega arith) (high 113 (codes "uot;") (omega arith) (high 117 (codes "ot;") (omega arith) (high 111 (codes "t;") (omega arith) (high 116 (codes ";") (omega arith) semicolon))))

-- by its cases: where the byte is this one, and where it is not
by_case : (byte n : ℕ) (there other : List ℕ) → IsEscaped there → (byte ≢ n → IsEscaped other) → IsEscaped (cond (eqb byte n) there other)
by_case byte n there other y f = ⊎_elim
    (λ (e : byte ≡ n). subst IsEscaped (sym (ap (λ b. cond b there other) (eq-eqb byte n e))) y)
    (λ (ne : byte ≢ n). subst IsEscaped (sym (ap (λ b. cond b there other) (ne_eqb byte n ne))) (f ne))
    (cases_eq byte n)

abbrev quotes : ℕ → List ℕ
quotes byte = cond (eqb byte 34) (codes "&quot;") (byte ∷ [])

abbrev closes : ℕ → List ℕ
closes byte = cond (eqb byte 62) (codes "&gt;") (quotes byte)

abbrev opens : ℕ → List ℕ
opens byte = cond (eqb byte 60) (codes "&lt;") (closes byte)

pub reference_plain : (byte : ℕ) → IsEscaped (reference byte)
reference_plain byte =
    by_case byte 38 (codes "&amp;") (opens byte) amp (λ a.
    by_case byte 60 (codes "&lt;") (closes byte) lt (λ b.
    by_case byte 62 (codes "&gt;") (quotes byte) gt (λ c.
    by_case byte 34 (codes "&quot;") (byte ∷ []) quot (λ d. one byte [] b c d none))))

pub text_plain : (text : List ℕ) → IsEscaped (escaped text)
text_plain [] = none
text_plain (b ∷ bs) = subst IsEscaped (sym (flat_map-cons reference b bs)) (All-append IsPlain (reference b) (escaped bs) (reference_plain b) (text_plain bs))
