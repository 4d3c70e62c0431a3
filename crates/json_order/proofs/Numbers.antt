-- A number, a character at a time.
use Rattle.std.specs.Prelude.{◌==◌, if◌then◌else◌}
use Rattle.std.proofs.Common.{ℕ, ◌≤◌, ◌≡◌, ◌≢◌, ◌⊎◌, inl, inr, Bool, true, false, List, [], ◌∷◌, ◌++◌, refl, ap, ◌∙◌, subst, arith, Option, Some, None}
use Rattle.std.proofs.lemmas.Bool.Decides.{nat_tests}
use Rattle.std.specs.Char.{is_ascii_digit}
use Rattle.std.specs.Int.{is_in_range}
use Rattle.json_order.specs.Grammar.{AreDigits, SomeDigits, IsInteger, IsFraction, IsExponent, IsPower, IsNumber, is_sign, is_mark}
use Rattle.json_order.specs.private.Machine.{part_step, is_done}
use Rattle.json_order.specs.declared.place.Part.{Part}
use Rattle.json_order.specs.declared.place.Part.TheVariants.{Minus, Zero, Whole, Dot, Fraction, Mark, Sign, Exponent}
use Rattle.json_order.proofs.Language.{NumberRest}
use Rattle.json_order.proofs.Spaces.{split}

-- what may follow after c is what may follow in the part that it leads to, and nothing where it leads to none
abbrev pub Parts : Part → ℕ → Option Part → Type 0
Parts p c None = (rest : List ℕ) → ¬ (NumberRest p (c ∷ rest))
Parts p c (Some q) = (rest : List ℕ) → (NumberRest p (c ∷ rest) → NumberRest q rest) × (NumberRest q rest → NumberRest p (c ∷ rest))

pub is_range : (lo hi c : ℕ) → is_in_range lo hi c ≡ true → (lo ≤ c) × (c ≤ hi)
is_range lo hi c h = grind (arith, nat_tests)

-- EXPONENTS

exponent_cons : (c : ℕ) (rest e : List ℕ) → IsExponent e → c ∷ rest ≡ e → (is_mark c ≡ true) × IsPower rest
exponent_cons c rest [] h q = cc
exponent_cons c rest (x ∷ power) h q =
    let same : x ≡ c = cc in let tail : power ≡ rest = cc in (subst (λ y. is_mark y ≡ true) same h.0, subst IsPower tail h.1)

-- digits and an exponent, from a digit or the mark on
digits_cons : (c : ℕ) (rest ds e : List ℕ) → AreDigits ds → IsExponent e → c ∷ rest ≡ ds ++ e →
    ((is_ascii_digit c ≡ true) × ((ds' : List ℕ) × AreDigits ds' × (rest ≡ ds' ++ e))) ⊎ ((is_mark c ≡ true) × IsPower rest)
digits_cons c rest [] e h x q = inr (exponent_cons c rest e x q)
digits_cons c rest (d ∷ ds) e h x q =
    let same : d ≡ c = cc in let tail : rest ≡ ds ++ e = cc in inl (subst (λ y. is_ascii_digit y ≡ true) same h.0, (ds, h.1, tail))

some_cons : (c : ℕ) (rest ds e : List ℕ) → SomeDigits ds → c ∷ rest ≡ ds ++ e → (is_ascii_digit c ≡ true) × ((ds' : List ℕ) × AreDigits ds' × (rest ≡ ds' ++ e))
some_cons c rest [] e h q = absurd h
some_cons c rest (d ∷ ds) e h q =
    let same : d ≡ c = cc in let tail : rest ≡ ds ++ e = cc in (subst (λ y. is_ascii_digit y ≡ true) same h.0, (ds, h.1, tail))

-- a fraction and an exponent, from the point or the mark on
fraction_cons : (c : ℕ) (rest f e : List ℕ) → IsFraction f → IsExponent e → c ∷ rest ≡ f ++ e → ((c ≡ 46) × NumberRest Dot rest) ⊎ ((is_mark c ≡ true) × IsPower rest)
fraction_cons c rest [] e h x q = inr (exponent_cons c rest e x q)
fraction_cons c rest (p ∷ ds) e h x q =
    let same : c ≡ p = cc in let tail : rest ≡ ds ++ e = cc in inl (same ∙ h.0, (ds, e, h.1, x, tail))

whole_cons : (c : ℕ) (rest ds f e : List ℕ) → AreDigits ds → IsFraction f → IsExponent e → c ∷ rest ≡ ds ++ (f ++ e) →
    ((is_ascii_digit c ≡ true) × NumberRest Whole rest) ⊎ (((c ≡ 46) × NumberRest Dot rest) ⊎ ((is_mark c ≡ true) × IsPower rest))
whole_cons c rest [] f e h g x q = inr (fraction_cons c rest f e g x q)
whole_cons c rest (d ∷ ds) f e h g x q =
    let same : d ≡ c = cc in let tail : rest ≡ ds ++ (f ++ e) = cc in inl (subst (λ y. is_ascii_digit y ≡ true) same h.0, (ds, f, e, h.1, g, x, tail))

-- a number without its sign, from its first digit on
unsigned_cons : (c : ℕ) (rest i f e : List ℕ) → IsInteger i → IsFraction f → IsExponent e → c ∷ rest ≡ i ++ (f ++ e) →
    ((c ≡ 48) × NumberRest Zero rest) ⊎ ((is_in_range 49 57 c ≡ true) × NumberRest Whole rest)
unsigned_cons c rest [] f e h g x q = absurd h
unsigned_cons c rest (d ∷ ds) f e (inl z) g x q =
    let same : c ≡ d = cc in let tail : rest ≡ ds ++ (f ++ e) = cc in
    inl (same ∙ z.0, (f, e, g, x, subst (λ y. rest ≡ y ++ (f ++ e)) z.1 tail))
unsigned_cons c rest (d ∷ ds) f e (inr w) g x q =
    let same : d ≡ c = cc in let tail : rest ≡ ds ++ (f ++ e) = cc in
    inr (subst (λ y. is_in_range 49 57 y ≡ true) same w.0, (ds, f, e, w.1, g, x, tail))

-- TESTS

digit_range : (c : ℕ) → is_ascii_digit c ≡ true → (48 ≤ c) × (c ≤ 57)
digit_range c h = grind (arith, nat_tests)

marks : (c : ℕ) → is_mark c ≡ true → (c ≡ 101) ⊎ (c ≡ 69)
marks c h = grind (arith, nat_tests)

signs : (c : ℕ) → is_sign c ≡ true → (c ≡ 43) ⊎ (c ≡ 45)
signs c h = grind (arith, nat_tests)

pub is_eq : (c k : ℕ) → (c == k) ≡ true → c ≡ k
is_eq c k h = grind (arith, nat_tests)

pub not_eq : (c k : ℕ) → (c == k) ≡ false → c ≢ k
not_eq c k h = grind (arith, nat_tests)

digit_no_mark : (c : ℕ) → is_ascii_digit c ≡ true → is_mark c ≡ true → ⊥
digit_no_mark c h m = let a = digit_range c h in let b = marks c m in omega arith

digit_no_sign : (c : ℕ) → is_ascii_digit c ≡ true → is_sign c ≡ true → ⊥
digit_no_sign c h m = let a = digit_range c h in let b = signs c m in omega arith

digit_no_point : (c : ℕ) → is_ascii_digit c ≡ true → c ≡ 46 → ⊥
digit_no_point c h m = let a = digit_range c h in omega arith

point_no_mark : (c : ℕ) → c ≡ 46 → is_mark c ≡ true → ⊥
point_no_mark c h m = let b = marks c m in omega arith

zero_no_other : (c : ℕ) → c ≡ 48 → is_in_range 49 57 c ≡ true → ⊥
zero_no_other c h m = let b = is_range 49 57 c m in omega arith

pub against : {A : Type 0} (b : Bool) → b ≡ true → b ≡ false → A
against b y n = cc

-- EVERY PART

minus_to : (c : ℕ) (rest : List ℕ) → NumberRest Minus (c ∷ rest) → ((c ≡ 48) × NumberRest Zero rest) ⊎ ((is_in_range 49 57 c ≡ true) × NumberRest Whole rest)
minus_to c rest (i, f, e, h, g, x, q) = unsigned_cons c rest i f e h g x q

zero_to : (c : ℕ) (rest : List ℕ) → NumberRest Zero (c ∷ rest) → ((c ≡ 46) × NumberRest Dot rest) ⊎ ((is_mark c ≡ true) × IsPower rest)
zero_to c rest (f, e, g, x, q) = fraction_cons c rest f e g x q

whole_to : (c : ℕ) (rest : List ℕ) → NumberRest Whole (c ∷ rest) → ((is_ascii_digit c ≡ true) × NumberRest Whole rest) ⊎ (((c ≡ 46) × NumberRest Dot rest) ⊎ ((is_mark c ≡ true) × IsPower rest))
whole_to c rest (ds, f, e, h, g, x, q) = whole_cons c rest ds f e h g x q

dot_to : (c : ℕ) (rest : List ℕ) → NumberRest Dot (c ∷ rest) → (is_ascii_digit c ≡ true) × NumberRest Fraction rest
dot_to c rest (ds, e, h, x, q) = let r = some_cons c rest ds e h q in (r.0, (r.1.0, e, r.1.1, x, r.1.2))

fraction_to : (c : ℕ) (rest : List ℕ) → NumberRest Fraction (c ∷ rest) → ((is_ascii_digit c ≡ true) × NumberRest Fraction rest) ⊎ ((is_mark c ≡ true) × IsPower rest)
fraction_to c rest (ds, e, h, x, q) = go (digits_cons c rest ds e h x q)
  where
    go : ((is_ascii_digit c ≡ true) × ((ds' : List ℕ) × AreDigits ds' × (rest ≡ ds' ++ e))) ⊎ ((is_mark c ≡ true) × IsPower rest) → ((is_ascii_digit c ≡ true) × NumberRest Fraction rest) ⊎ ((is_mark c ≡ true) × IsPower rest)
    go (inl w) = inl (w.0, (w.1.0, e, w.1.1, x, w.1.2))
    go (inr w) = inr w

parts_minus : (c : ℕ) → Parts Minus c (part_step Minus c)
parts_minus c =
    split (λ b. Parts Minus c (if b then Some Zero else if is_in_range 49 57 c then Some Whole else None)) (c == 48)
    (λ h rest. (zero rest h, λ w. (c ∷ [], w.0, w.1, inl (is_eq c 48 h, refl), w.2, w.3, ap (λ x. c ∷ x) w.4)))
    (λ n. split (λ b. Parts Minus c (if b then Some Whole else None)) (is_in_range 49 57 c)
    (λ h rest. (whole rest h, λ w. (c ∷ w.0, w.1, w.2, inr (h, w.3), w.4, w.5, ap (λ x. c ∷ x) w.6)))
    (λ m rest. none rest n m))
  where
    zero : (rest : List ℕ) → (c == 48) ≡ true → NumberRest Minus (c ∷ rest) → NumberRest Zero rest
    zero rest h w = elim (minus_to c rest w) [ inl a ↦ a.1 | inr b ↦ absurd (zero_no_other c (is_eq c 48 h) b.0) ]

    whole : (rest : List ℕ) → is_in_range 49 57 c ≡ true → NumberRest Minus (c ∷ rest) → NumberRest Whole rest
    whole rest h w = elim (minus_to c rest w) [ inl a ↦ absurd (zero_no_other c a.0 h) | inr b ↦ b.1 ]

    none : (rest : List ℕ) → (c == 48) ≡ false → is_in_range 49 57 c ≡ false → NumberRest Minus (c ∷ rest) → ⊥
    none rest n m w = elim (minus_to c rest w) [ inl a ↦ not_eq c 48 n a.0 | inr b ↦ against _ b.0 m ]

parts_zero : (c : ℕ) → Parts Zero c (part_step Zero c)
parts_zero c =
    split (λ b. Parts Zero c (if b then Some Dot else if is_mark c then Some Mark else None)) (c == 46)
    (λ h rest. (dot rest h, λ w. (c ∷ w.0, w.1, (is_eq c 46 h, w.2), w.3, ap (λ x. c ∷ x) w.4)))
    (λ n. split (λ b. Parts Zero c (if b then Some Mark else None)) (is_mark c)
    (λ h rest. (mark rest n h, λ w. ([], c ∷ rest, tt, (h, w), refl)))
    (λ m rest. none rest n m))
  where
    dot : (rest : List ℕ) → (c == 46) ≡ true → NumberRest Zero (c ∷ rest) → NumberRest Dot rest
    dot rest h w = elim (zero_to c rest w) [ inl a ↦ a.1 | inr b ↦ absurd (point_no_mark c (is_eq c 46 h) b.0) ]

    mark : (rest : List ℕ) → (c == 46) ≡ false → is_mark c ≡ true → NumberRest Zero (c ∷ rest) → IsPower rest
    mark rest n h w = elim (zero_to c rest w) [ inl a ↦ absurd (not_eq c 46 n a.0) | inr b ↦ b.1 ]

    none : (rest : List ℕ) → (c == 46) ≡ false → is_mark c ≡ false → NumberRest Zero (c ∷ rest) → ⊥
    none rest n m w = elim (zero_to c rest w) [ inl a ↦ not_eq c 46 n a.0 | inr b ↦ against _ b.0 m ]

parts_whole : (c : ℕ) → Parts Whole c (part_step Whole c)
parts_whole c =
    split (λ b. Parts Whole c (if b then Some Whole else if c == 46 then Some Dot else if is_mark c then Some Mark else None)) (is_ascii_digit c)
    (λ h rest. (digit rest h, λ w. (c ∷ w.0, w.1, w.2, (h, w.3), w.4, w.5, ap (λ x. c ∷ x) w.6)))
    (λ d. split (λ b. Parts Whole c (if b then Some Dot else if is_mark c then Some Mark else None)) (c == 46)
    (λ h rest. (dot rest d h, λ w. ([], c ∷ w.0, w.1, tt, (is_eq c 46 h, w.2), w.3, ap (λ x. c ∷ x) w.4)))
    (λ n. split (λ b. Parts Whole c (if b then Some Mark else None)) (is_mark c)
    (λ h rest. (mark rest d n h, λ w. ([], [], c ∷ rest, tt, tt, (h, w), refl)))
    (λ m rest. none rest d n m)))
  where
    digit : (rest : List ℕ) → is_ascii_digit c ≡ true → NumberRest Whole (c ∷ rest) → NumberRest Whole rest
    digit rest h w = elim (whole_to c rest w) [ inl a ↦ a.1 | inr (inl b) ↦ absurd (digit_no_point c h b.0) | inr (inr b) ↦ absurd (digit_no_mark c h b.0) ]

    dot : (rest : List ℕ) → is_ascii_digit c ≡ false → (c == 46) ≡ true → NumberRest Whole (c ∷ rest) → NumberRest Dot rest
    dot rest d h w = elim (whole_to c rest w) [ inl a ↦ against _ a.0 d | inr (inl b) ↦ b.1 | inr (inr b) ↦ absurd (point_no_mark c (is_eq c 46 h) b.0) ]

    mark : (rest : List ℕ) → is_ascii_digit c ≡ false → (c == 46) ≡ false → is_mark c ≡ true → NumberRest Whole (c ∷ rest) → IsPower rest
    mark rest d n h w = elim (whole_to c rest w) [ inl a ↦ against _ a.0 d | inr (inl b) ↦ absurd (not_eq c 46 n b.0) | inr (inr b) ↦ b.1 ]

    none : (rest : List ℕ) → is_ascii_digit c ≡ false → (c == 46) ≡ false → is_mark c ≡ false → NumberRest Whole (c ∷ rest) → ⊥
    none rest d n m w = elim (whole_to c rest w) [ inl a ↦ against _ a.0 d | inr (inl b) ↦ not_eq c 46 n b.0 | inr (inr b) ↦ against _ b.0 m ]

parts_dot : (c : ℕ) → Parts Dot c (part_step Dot c)
parts_dot c =
    split (λ b. Parts Dot c (if b then Some Fraction else None)) (is_ascii_digit c)
    (λ h rest. (λ w. (dot_to c rest w).1, λ w. (c ∷ w.0, w.1, (h, w.2), w.3, ap (λ x. c ∷ x) w.4)))
    (λ d rest w. against _ (dot_to c rest w).0 d)

parts_fraction : (c : ℕ) → Parts Fraction c (part_step Fraction c)
parts_fraction c =
    split (λ b. Parts Fraction c (if b then Some Fraction else if is_mark c then Some Mark else None)) (is_ascii_digit c)
    (λ h rest. (digit rest h, λ w. (c ∷ w.0, w.1, (h, w.2), w.3, ap (λ x. c ∷ x) w.4)))
    (λ d. split (λ b. Parts Fraction c (if b then Some Mark else None)) (is_mark c)
    (λ h rest. (mark rest d h, λ w. ([], c ∷ rest, tt, (h, w), refl)))
    (λ m rest. none rest d m))
  where
    digit : (rest : List ℕ) → is_ascii_digit c ≡ true → NumberRest Fraction (c ∷ rest) → NumberRest Fraction rest
    digit rest h w = elim (fraction_to c rest w) [ inl a ↦ a.1 | inr b ↦ absurd (digit_no_mark c h b.0) ]

    mark : (rest : List ℕ) → is_ascii_digit c ≡ false → is_mark c ≡ true → NumberRest Fraction (c ∷ rest) → IsPower rest
    mark rest d h w = elim (fraction_to c rest w) [ inl a ↦ against _ a.0 d | inr b ↦ b.1 ]

    none : (rest : List ℕ) → is_ascii_digit c ≡ false → is_mark c ≡ false → NumberRest Fraction (c ∷ rest) → ⊥
    none rest d m w = elim (fraction_to c rest w) [ inl a ↦ against _ a.0 d | inr b ↦ against _ b.0 m ]

parts_mark : (c : ℕ) → Parts Mark c (part_step Mark c)
parts_mark c =
    split (λ b. Parts Mark c (if b then Some Exponent else if is_sign c then Some Sign else None)) (is_ascii_digit c)
    (λ h rest. (digit rest h, λ w. inl (h, w)))
    (λ d. split (λ b. Parts Mark c (if b then Some Sign else None)) (is_sign c)
    (λ h rest. (sign rest d, λ w. inr (h, w)))
    (λ m rest. none rest d m))
  where
    digit : (rest : List ℕ) → is_ascii_digit c ≡ true → NumberRest Mark (c ∷ rest) → NumberRest Exponent rest
    digit rest h w = elim w [ inl a ↦ a.1 | inr b ↦ absurd (digit_no_sign c h b.0) ]

    sign : (rest : List ℕ) → is_ascii_digit c ≡ false → NumberRest Mark (c ∷ rest) → SomeDigits rest
    sign rest d w = elim w [ inl a ↦ against _ a.0 d | inr b ↦ b.1 ]

    none : (rest : List ℕ) → is_ascii_digit c ≡ false → is_sign c ≡ false → NumberRest Mark (c ∷ rest) → ⊥
    none rest d m w = elim w [ inl a ↦ against _ a.0 d | inr b ↦ against _ b.0 m ]

parts_sign : (c : ℕ) → Parts Sign c (part_step Sign c)
parts_sign c =
    split (λ b. Parts Sign c (if b then Some Exponent else None)) (is_ascii_digit c)
    (λ h rest. (λ w. w.1, λ w. (h, w)))
    (λ d rest w. against _ w.0 d)

parts_exponent : (c : ℕ) → Parts Exponent c (part_step Exponent c)
parts_exponent c =
    split (λ b. Parts Exponent c (if b then Some Exponent else None)) (is_ascii_digit c)
    (λ h rest. (λ w. w.1, λ w. (h, w)))
    (λ d rest w. against _ w.0 d)

pub parts : (p : Part) (c : ℕ) → Parts p c (part_step p c)
parts Minus c = parts_minus c
parts Zero c = parts_zero c
parts Whole c = parts_whole c
parts Dot c = parts_dot c
parts Fraction c = parts_fraction c
parts Mark c = parts_mark c
parts Sign c = parts_sign c
parts Exponent c = parts_exponent c

-- WHERE A NUMBER ENDS

no_digits : (ds e : List ℕ) → SomeDigits ds → [] ≡ ds ++ e → ⊥
no_digits [] e h q = h
no_digits (d ∷ ds) e h q = cc

no_integer : (i e : List ℕ) → IsInteger i → [] ≡ i ++ e → ⊥
no_integer [] e h q = h
no_integer (d ∷ ds) e h q = cc

pub done_from : (p : Part) → NumberRest p [] → is_done p ≡ true
done_from Minus (i, f, e, h, g, x, q) = absurd (no_integer i (f ++ e) h q)
done_from Zero w = refl
done_from Whole w = refl
done_from Dot (ds, e, h, x, q) = absurd (no_digits ds e h q)
done_from Fraction w = refl
done_from Mark w = absurd w
done_from Sign w = absurd w
done_from Exponent w = refl

pub done_to : (p : Part) → is_done p ≡ true → NumberRest p []
done_to Minus h = cc
done_to Zero h = ([], [], tt, tt, refl)
done_to Whole h = ([], [], [], tt, tt, tt, refl)
done_to Dot h = cc
done_to Fraction h = ([], [], tt, tt, refl)
done_to Mark h = cc
done_to Sign h = cc
done_to Exponent h = tt

-- FROM THE FIRST CHARACTER ON

pub number_minus : (c : ℕ) (rest : List ℕ) → c ≡ 45 → (IsNumber (c ∷ rest) → NumberRest Minus rest) × (NumberRest Minus rest → IsNumber (c ∷ rest))
number_minus c rest h = (to, λ w. inr (h, w))
  where
    to : IsNumber (c ∷ rest) → NumberRest Minus rest
    to (inl w) = elim (minus_to c rest w) [ inl a ↦ absurd (let z : c ≡ 48 = a.0 in omega arith) | inr b ↦ absurd (let z = is_range 49 57 c b.0 in omega arith) ]
    to (inr w) = w.1

pub number_zero : (c : ℕ) (rest : List ℕ) → c ≡ 48 → (IsNumber (c ∷ rest) → NumberRest Zero rest) × (NumberRest Zero rest → IsNumber (c ∷ rest))
number_zero c rest h = (to, λ w. inl (c ∷ [], w.0, w.1, inl (h, refl), w.2, w.3, ap (λ x. c ∷ x) w.4))
  where
    to : IsNumber (c ∷ rest) → NumberRest Zero rest
    to (inl w) = elim (minus_to c rest w) [ inl a ↦ a.1 | inr b ↦ absurd (zero_no_other c h b.0) ]
    to (inr w) = absurd (let z : c ≡ 45 = w.0 in omega arith)

pub number_whole : (c : ℕ) (rest : List ℕ) → is_in_range 49 57 c ≡ true → (IsNumber (c ∷ rest) → NumberRest Whole rest) × (NumberRest Whole rest → IsNumber (c ∷ rest))
number_whole c rest h = (to, λ w. inl (c ∷ w.0, w.1, w.2, inr (h, w.3), w.4, w.5, ap (λ x. c ∷ x) w.6))
  where
    to : IsNumber (c ∷ rest) → NumberRest Whole rest
    to (inl w) = elim (minus_to c rest w) [ inl a ↦ absurd (zero_no_other c a.0 h) | inr b ↦ b.1 ]
    to (inr w) = absurd (let z : c ≡ 45 = w.0 in let y = is_range 49 57 c h in omega arith)

-- a number begins with `-` or a digit
pub number_first : (c : ℕ) (rest : List ℕ) → IsNumber (c ∷ rest) → (c ≡ 45) ⊎ ((48 ≤ c) × (c ≤ 57))
number_first c rest (inl w) = elim (minus_to c rest w) [ inl a ↦ inr (let z : c ≡ 48 = a.0 in (omega arith, omega arith)) | inr b ↦ inr (let z = is_range 49 57 c b.0 in (omega arith, omega arith)) ]
number_first c rest (inr w) = inl w.0

-- what may stand inside of a number
abbrev pub IsInside : ℕ → Type 0
IsInside c = (c ≡ 43) ⊎ (((45 ≤ c) × (c ≤ 57)) ⊎ ((c ≡ 69) ⊎ (c ≡ 101)))

abbrev pub Goes : ℕ → Option Part → Type 0
Goes c None = Unit {0}
Goes c (Some q) = IsInside c

inside_digit : (c : ℕ) → is_ascii_digit c ≡ true → IsInside c
inside_digit c h = let r = digit_range c h in inr (inl (omega arith, omega arith))

inside_range : (c : ℕ) → is_in_range 49 57 c ≡ true → IsInside c
inside_range c h = let r = is_range 49 57 c h in inr (inl (omega arith, omega arith))

inside_eq : (c k : ℕ) → (c == k) ≡ true → 45 ≤ k → k ≤ 57 → IsInside c
inside_eq c k h l u = let r = is_eq c k h in inr (inl (omega arith, omega arith))

inside_mark : (c : ℕ) → is_mark c ≡ true → IsInside c
inside_mark c h = elim (marks c h) [ inl a ↦ inr (inr (inr a)) | inr b ↦ inr (inr (inl b)) ]

inside_sign : (c : ℕ) → is_sign c ≡ true → IsInside c
inside_sign c h = elim (signs c h) [ inl a ↦ inl a | inr b ↦ inr (inl (omega arith, omega arith)) ]

pub part_goes : (p : Part) (c : ℕ) → Goes c (part_step p c)
part_goes Minus c =
    split (λ b. Goes c (if b then Some Zero else if is_in_range 49 57 c then Some Whole else None)) (c == 48)
    (λ h. inside_eq c 48 h (omega arith) (omega arith))
    (λ n. split (λ b. Goes c (if b then Some Whole else None)) (is_in_range 49 57 c) (λ h. inside_range c h) (λ m. tt))
part_goes Zero c =
    split (λ b. Goes c (if b then Some Dot else if is_mark c then Some Mark else None)) (c == 46)
    (λ h. inside_eq c 46 h (omega arith) (omega arith))
    (λ n. split (λ b. Goes c (if b then Some Mark else None)) (is_mark c) (λ h. inside_mark c h) (λ m. tt))
part_goes Whole c =
    split (λ b. Goes c (if b then Some Whole else if c == 46 then Some Dot else if is_mark c then Some Mark else None)) (is_ascii_digit c)
    (λ h. inside_digit c h)
    (λ d. split (λ b. Goes c (if b then Some Dot else if is_mark c then Some Mark else None)) (c == 46)
    (λ h. inside_eq c 46 h (omega arith) (omega arith))
    (λ n. split (λ b. Goes c (if b then Some Mark else None)) (is_mark c) (λ h. inside_mark c h) (λ m. tt)))
part_goes Dot c = split (λ b. Goes c (if b then Some Fraction else None)) (is_ascii_digit c) (λ h. inside_digit c h) (λ m. tt)
part_goes Fraction c =
    split (λ b. Goes c (if b then Some Fraction else if is_mark c then Some Mark else None)) (is_ascii_digit c)
    (λ h. inside_digit c h)
    (λ n. split (λ b. Goes c (if b then Some Mark else None)) (is_mark c) (λ h. inside_mark c h) (λ m. tt))
part_goes Mark c =
    split (λ b. Goes c (if b then Some Exponent else if is_sign c then Some Sign else None)) (is_ascii_digit c)
    (λ h. inside_digit c h)
    (λ n. split (λ b. Goes c (if b then Some Sign else None)) (is_sign c) (λ h. inside_sign c h) (λ m. tt))
part_goes Sign c = split (λ b. Goes c (if b then Some Exponent else None)) (is_ascii_digit c) (λ h. inside_digit c h) (λ m. tt)
part_goes Exponent c = split (λ b. Goes c (if b then Some Exponent else None)) (is_ascii_digit c) (λ h. inside_digit c h) (λ m. tt)
