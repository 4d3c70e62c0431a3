-- The laws of the order of the choice.
use Rattle.std.proofs.Common.{◌≡◌, ◌≢◌, ◌<◌, ℕ, ◌+◌, ◌*◌, ◌^◌, ◌∙◌, true, false, ◌&&◌, eqb, ltb, refl, sym, inl, inr, arith, eq-eqb}
use Rattle.std.specs.Prelude.{◌⊎◌}
use Rattle.std.proofs.lemmas.Bool.{or_cases, or_left, or_right, and_parts, and_from, ltb-true, eqb-true, lt-ltb, both_ways, false_from_ne_true, cases_lt, cases_order, cases_Bool, le-ltb, and_right, ne_eqb}
use Rattle.edf_pick.specs.declared.candidate.Candidate.{Candidate}
use Rattle.edf_pick.specs.Choice.{is_before}
use Rattle.edf_pick.specs.Order.{is_same}

-- what the test says
pub before_logs : (a b : Candidate) → is_before a b ≡ true → (a.deadline < b.deadline) ⊎ ((a.deadline ≡ b.deadline) × (a.number < b.number))
before_logs a b h =
    elim (or_cases (ltb a.deadline b.deadline) (eqb a.deadline b.deadline && ltb a.number b.number) h) [
      | inl x ↦ inl (ltb-true a.deadline b.deadline x)
      | inr y ↦ let p = and_parts (eqb a.deadline b.deadline) (ltb a.number b.number) y in inr (eqb-true a.deadline b.deadline p.0, ltb-true a.number b.number p.1)
    ]

before_earlier : (a b : Candidate) → a.deadline < b.deadline → is_before a b ≡ true
before_earlier a b h = or_left (ltb a.deadline b.deadline) (eqb a.deadline b.deadline && ltb a.number b.number) (lt-ltb a.deadline b.deadline h)

before_tie : (a b : Candidate) → a.deadline ≡ b.deadline → a.number < b.number → is_before a b ≡ true
before_tie a b e h =
    or_right (ltb a.deadline b.deadline) (eqb a.deadline b.deadline && ltb a.number b.number)
    (and_from (eqb a.deadline b.deadline) (ltb a.number b.number) (eq-eqb a.deadline b.deadline e) (lt-ltb a.number b.number h))

pub same_logs : (a b : Candidate) → is_same a b ≡ true → (a.deadline ≡ b.deadline) × (a.number ≡ b.number)
same_logs a b h = let p = and_parts (eqb a.deadline b.deadline) (eqb a.number b.number) h in (eqb-true a.deadline b.deadline p.0, eqb-true a.number b.number p.1)

pub before_both : (a b c : Candidate) → is_before a b ≡ true → is_before b c ≡ true → is_before a c ≡ true
before_both a b c p q =
    elim (before_logs a b p) [
      | inl x ↦ elim (before_logs b c q) [ inl y ↦ before_earlier a c (omega arith) | inr y ↦ before_earlier a c (omega arith) ]
      | inr x ↦ elim (before_logs b c q) [ inl y ↦ before_earlier a c (omega arith) | inr y ↦ before_tie a c (omega arith) (omega arith) ]
    ]

pub before_itself : (a : Candidate) → is_before a a ≡ false
before_itself a = false_from_ne_true (is_before a a) (λ h. elim (before_logs a a h) [ inl x ↦ absurd (omega arith) | inr x ↦ absurd (omega arith) ])

pub before_reverse : (a b : Candidate) → is_before a b ≡ true → is_before b a ≡ false
before_reverse a b h = false_from_ne_true (is_before b a) (λ k. both_ways (is_before a a) (before_itself a) (before_both a b a h k))

-- of two with different places one is before the other
pub before_other : (a b : Candidate) → is_before a b ≡ false → is_same a b ≡ false → is_before b a ≡ true
before_other a b h s =
    elim (cases_order a.deadline b.deadline) [
      | inl e ↦ elim (cases_order a.number b.number) [
        | inl f ↦ absurd (both_ways (is_same a b) s (and_from (eqb a.deadline b.deadline) (eqb a.number b.number) (eq-eqb a.deadline b.deadline e) (eq-eqb a.number b.number f)))
        | inr o ↦ elim o [ inl less ↦ absurd (both_ways (is_before a b) h (before_tie a b e less)) | inr more ↦ before_tie b a (sym e) more ]
      ]
      | inr o ↦ elim o [ inl less ↦ absurd (both_ways (is_before a b) h (before_earlier a b less)) | inr more ↦ before_earlier b a more ]
    ]

-- deadline and number as one number
abbrev pub key : Candidate → ℕ
key c = c.deadline * 2 ^ 64 + c.number

pub before_by_key : (a b : Candidate) → a.number < 2 ^ 64 → b.number < 2 ^ 64 → ltb (key a) (key b) ≡ is_before a b
before_by_key a b one other =
    elim (cases_lt (key a) (key b)) [
      | inl less ↦ lt-ltb (key a) (key b) less ∙ sym (elim (cases_order a.deadline b.deadline) [
        | inl e ↦ before_tie a b e (omega arith)
        | inr o ↦ elim o [ inl earlier ↦ before_earlier a b earlier | inr later ↦ absurd (omega arith) ]
      ])
      | inr more ↦ le-ltb (key a) (key b) more ∙ sym (false_from_ne_true (is_before a b) (λ h. elim (before_logs a b h) [ inl x ↦ absurd (omega arith) | inr x ↦ absurd (omega arith) ]))
    ]

-- what is before another has another place
pub before_differs : (a b : Candidate) → is_before a b ≡ true → is_same a b ≡ false
before_differs a b h =
    false_from_ne_true (is_same a b) (λ s. let e = same_logs a b s in elim (before_logs a b h) [ inl x ↦ absurd (omega arith) | inr x ↦ absurd (omega arith) ])

pub differs_reverse : (a b : Candidate) → is_before a b ≡ true → is_same b a ≡ false
differs_reverse a b h =
    false_from_ne_true (is_same b a) (λ s. let e = same_logs b a s in elim (before_logs a b h) [ inl x ↦ absurd (omega arith) | inr x ↦ absurd (omega arith) ])

-- two at one place are before the same tasks
pub same_before : (a c b : Candidate) → is_same a c ≡ true → is_before a b ≡ true → is_before c b ≡ true
same_before a c b s h =
    let e = same_logs a c s in
    elim (before_logs a b h) [ inl x ↦ before_earlier c b (omega arith) | inr x ↦ before_tie c b (omega arith) (omega arith) ]

pub same_itself : (a : Candidate) → is_same a a ≡ true
same_itself a = and_from (eqb a.deadline a.deadline) (eqb a.number a.number) (eq-eqb a.deadline a.deadline refl) (eq-eqb a.number a.number refl)

-- tasks of different numbers have different places
pub number_differs : (a b : Candidate) → a.number ≢ b.number → is_same a b ≡ false
number_differs a b h = and_right (eqb a.deadline b.deadline) (eqb a.number b.number) (ne_eqb a.number b.number h)

-- b, which a is not before, is before all that a is before
pub before_past : (a b c : Candidate) → is_before a b ≡ false → is_before a c ≡ true → is_before b c ≡ true
before_past a b c past h =
    elim (cases_Bool (is_same a b)) [
      | inl same ↦ same_before a b c same h
      | inr other ↦ before_both b a c (before_other a b past other) h
    ]
