-- The order of what happens at one time.
use Rattle.std.proofs.Common.{◌≡◌, ◌<◌, ◌≤◌, true, false, eqb, ltb, ◌&&◌, ◌||◌, List, sym, ◌∙◌, inl, inr, arith, eq-eqb}
use Rattle.std.specs.Prelude.{All, ◌⊎◌}
use Rattle.std.specs.Cmp.{IsStrictWeakOrder}
use Rattle.std.proofs.lemmas.Bool.{or_cases, or_left, or_right, and_parts, and_from, ltb-true, eqb-true, lt-ltb, both_ways, false_from_ne_true, cases_order}
use Rattle.domain_run.specs.declared.happened.Happened.{Happened}
use Rattle.domain_run.specs.Happened.{kind_rank, is_first}
use Rattle.domain_run.specs.private.TransitionLog.{IsApart}

-- ---- the test, of three numbers each

abbrev pub Precedes : Happened → Happened → Type 0
Precedes a b = (kind_rank a.what < kind_rank b.what) ⊎ ((kind_rank a.what ≡ kind_rank b.what) × ((a.cpu < b.cpu) ⊎ ((a.cpu ≡ b.cpu) × (a.number < b.number))))

has_logged : (a b : Happened) → is_first a b ≡ true → Precedes a b
has_logged a b h =
    let same = eqb (kind_rank a.what) (kind_rank b.what) in
    let following = ltb a.cpu b.cpu || (eqb a.cpu b.cpu && ltb a.number b.number) in
    elim (or_cases (ltb (kind_rank a.what) (kind_rank b.what)) (same && following) h) [
      | inl x ↦ inl (ltb-true (kind_rank a.what) (kind_rank b.what) x)
      | inr y ↦
          let p = and_parts same following y in
          inr (
            eqb-true (kind_rank a.what) (kind_rank b.what) p.0,
            elim (or_cases (ltb a.cpu b.cpu) (eqb a.cpu b.cpu && ltb a.number b.number) p.1) [
              | inl x ↦ inl (ltb-true a.cpu b.cpu x)
              | inr z ↦ let q = and_parts (eqb a.cpu b.cpu) (ltb a.number b.number) z in inr (eqb-true a.cpu b.cpu q.0, ltb-true a.number b.number q.1)
            ],
          )
    ]

pub passes : (a b : Happened) → Precedes a b → is_first a b ≡ true
passes a b (inl x) = or_left (ltb (kind_rank a.what) (kind_rank b.what)) (eqb (kind_rank a.what) (kind_rank b.what) && (ltb a.cpu b.cpu || (eqb a.cpu b.cpu && ltb a.number b.number))) (lt-ltb (kind_rank a.what) (kind_rank b.what) x)
passes a b (inr (same, rest)) =
    let following = ltb a.cpu b.cpu || (eqb a.cpu b.cpu && ltb a.number b.number) in
    or_right (ltb (kind_rank a.what) (kind_rank b.what)) (eqb (kind_rank a.what) (kind_rank b.what) && following)
    (and_from (eqb (kind_rank a.what) (kind_rank b.what)) following (eq-eqb (kind_rank a.what) (kind_rank b.what) same) (elim rest [
      | inl x ↦ or_left (ltb a.cpu b.cpu) (eqb a.cpu b.cpu && ltb a.number b.number) (lt-ltb a.cpu b.cpu x)
      | inr y ↦ or_right (ltb a.cpu b.cpu) (eqb a.cpu b.cpu && ltb a.number b.number) (and_from (eqb a.cpu b.cpu) (ltb a.number b.number) (eq-eqb a.cpu b.cpu y.0) (lt-ltb a.number b.number y.1))
    ]))

through : (a b c : Happened) → Precedes a b → Precedes b c → Precedes a c
through a b c (inl x) (inl y) = inl (omega (arith, x, y))
through a b c (inl x) (inr (s, r)) = inl (omega (arith, x, s))
through a b c (inr (s, r)) (inl y) = inl (omega (arith, s, y))
through a b c (inr (s, inl x)) (inr (t, inl y)) = inr (s ∙ t, inl (omega (arith, x, y)))
through a b c (inr (s, inl x)) (inr (t, inr (u, y))) = inr (s ∙ t, inl (omega (arith, x, u)))
through a b c (inr (s, inr (u, x))) (inr (t, inl y)) = inr (s ∙ t, inl (omega (arith, u, y)))
through a b c (inr (s, inr (u, x))) (inr (t, inr (v, y))) = inr (s ∙ t, inr (u ∙ v, omega (arith, x, y)))

pub first_both : (a b c : Happened) → is_first a b ≡ true → is_first b c ≡ true → is_first a c ≡ true
first_both a b c p q = passes a c (through a b c (has_logged a b p) (has_logged b c q))

never : (a : Happened) → Precedes a a → ⊥
never a (inl x) = absurd (omega (arith, x))
never a (inr (s, inl x)) = absurd (omega (arith, x))
never a (inr (s, inr (u, x))) = absurd (omega (arith, x))

pub reverse : (a b : Happened) → is_first a b ≡ true → is_first b a ≡ false
reverse a b h = false_from_ne_true (is_first b a) (λ k. never a (through a b a (has_logged a b h) (has_logged b a k)))

-- of two that are apart one comes first

either : (a b : Happened) → IsApart a b → Precedes a b ⊎ Precedes b a
either a b apart =
    elim (cases_order (kind_rank a.what) (kind_rank b.what)) [
      | inl s ↦ elim (cases_order a.cpu b.cpu) [
        | inl u ↦ elim (cases_order a.number b.number) [
          | inl e ↦ elim apart [ inl x ↦ absurd (x s) | inr y ↦ absurd (y e) ]
          | inr o ↦ elim o [ inl x ↦ inl (inr (s, inr (u, x))) | inr x ↦ inr (inr (sym s, inr (sym u, x))) ]
        ]
        | inr o ↦ elim o [ inl x ↦ inl (inr (s, inl x)) | inr x ↦ inr (inr (sym s, inl x)) ]
      ]
      | inr o ↦ elim o [ inl x ↦ inl (inl x) | inr x ↦ inr (inl x) ]
    ]

pub other : (a b : Happened) → IsApart a b → is_first a b ≡ false → is_first b a ≡ true
other a b apart h =
    elim (either a b apart) [
      | inl x ↦ absurd (both_ways (is_first a b) h (passes a b x))
      | inr y ↦ passes b a y
    ]

pub swapped : (a b : Happened) → IsApart a b → IsApart b a
swapped a b (inl other) = inl (λ e. other (sym e))
swapped a b (inr other) = inr (λ e. other (sym e))

abbrev pub AreApart : List Happened → List Happened → Type 0
AreApart hs gs = All (λ a. All (IsApart a) gs) hs

-- ---- where one precedes another, it precedes whatever does not precede that one

rank_past : (a b c : Happened) → kind_rank b.what < kind_rank a.what → Precedes a c → Precedes b c
rank_past a b c x (inl y) = inl (omega (arith, x, y))
rank_past a b c x (inr (s, r)) = inl (omega (arith, x, s))

cpu_past : (a b c : Happened) → kind_rank a.what ≡ kind_rank b.what → b.cpu < a.cpu → Precedes a c → Precedes b c
cpu_past a b c e x (inl y) = inl (omega (arith, e, y))
cpu_past a b c e x (inr (s, inl y)) = inr (sym e ∙ s, inl (omega (arith, x, y)))
cpu_past a b c e x (inr (s, inr (u, y))) = inr (sym e ∙ s, inl (omega (arith, x, u)))

number_past : (a b c : Happened) → kind_rank a.what ≡ kind_rank b.what → a.cpu ≡ b.cpu → b.number ≤ a.number → Precedes a c → Precedes b c
number_past a b c e f x (inl y) = inl (omega (arith, e, y))
number_past a b c e f x (inr (s, inl y)) = inr (sym e ∙ s, inl (omega (arith, f, y)))
number_past a b c e f x (inr (s, inr (u, y))) = inr (sym e ∙ s, inr (sym f ∙ u, omega (arith, x, y)))

between : (a b c : Happened) → Precedes a c → Precedes a b ⊎ Precedes b c
between a b c less =
    elim (cases_order (kind_rank a.what) (kind_rank b.what)) [
      | inl e ↦ elim (cases_order a.cpu b.cpu) [
        | inl f ↦ elim (cases_order a.number b.number) [
          | inl g ↦ inr (number_past a b c e f (omega (arith, g)) less)
          | inr o ↦ elim o [ inl x ↦ inl (inr (e, inr (f, x))) | inr x ↦ inr (number_past a b c e f (omega (arith, x)) less) ]
        ]
        | inr o ↦ elim o [ inl x ↦ inl (inr (e, inl x)) | inr x ↦ inr (cpu_past a b c e x less) ]
      ]
      | inr o ↦ elim o [ inl x ↦ inl (inl x) | inr x ↦ inr (rank_past a b c x less) ]
    ]

pub first_order : IsStrictWeakOrder is_first
first_order = record {
  one_way = reverse;
  chain = λ a b c p q. false_from_ne_true (is_first a c) (λ k. elim (between a b c (has_logged a c k)) [
    | inl x ↦ both_ways (is_first a b) p (passes a b x)
    | inr y ↦ both_ways (is_first b c) q (passes b c y)
  ]);
}
