-- A string, a character at a time.
use Rattle.std.specs.Prelude.{◌==◌, if◌then◌else◌, nat_lt, nat_le, encode_utf8, encode_utf8_all}
use Rattle.std.proofs.Common.{ℕ, suc, ◌+◌, ◌*◌, ◌<◌, ◌≤◌, ◌≡◌, ◌≢◌, ◌⊎◌, inl, inr, true, false, List, [], ◌∷◌, ◌++◌, refl, sym, ap, ◌∙◌, subst, arith, Option, Some, None, append-nil, append_assoc, zero-add}
use Rattle.std.proofs.lemmas.Bool.Decides.{nat_tests}
use Rattle.std.specs.Char.{IsScalar, digit_value}
use Rattle.std.specs.Char.Utf16.{surrogate_pair_char}
use Rattle.std.specs.Int.{is_in_range}
use Rattle.json_order.specs.Grammar.{is_plain, short_escape, IsHex, is_high_surrogate, is_low_surrogate, IsCharacter, plain, short, one_unit, two_units, AreCharacters}
use Rattle.json_order.specs.private.Machine.{IsFine, Quote, going, closed, quote_step, quote_spelled, first_unit}
use Rattle.json_order.specs.declared.place.Escape.{Escape}
use Rattle.json_order.specs.declared.place.Escape.TheVariants.{Outside, Slash, Unit0, Unit1, Unit2, Unit3, High, HighSlash, Low0, Low1, Low2, Low3}
use Rattle.json_order.proofs.Language.{UnitRest, LowRest, FirstRest, EscapeRest, FirstCharacter, StringRest}
use Rattle.json_order.proofs.Spaces.{split}
use Rattle.json_order.proofs.Numbers.{is_range, is_eq, not_eq, against}

-- the text that a string has once its rest is read
abbrev pub Spelt : List ℕ → Escape → List ℕ → List ℕ → List ℕ → Type 0
Spelt text e before after whole = (cs : List ℕ) × StringRest e cs before after × (whole ≡ text ++ encode_utf8_all cs)

-- what may follow after c is what may follow in the string that c makes of it
abbrev pub Quotes : List ℕ → Escape → ℕ → Option Quote → Type 0
Quotes text e c None = (rest after whole : List ℕ) → ¬ (Spelt text e (c ∷ rest) after whole)
Quotes text e c (Some (going u f)) = (rest after whole : List ℕ) → (Spelt text e (c ∷ rest) after whole → Spelt u f rest after whole) × (Spelt u f rest after whole → Spelt text e (c ∷ rest) after whole)
Quotes text e c (Some (closed u)) = (rest after whole : List ℕ) → (Spelt text e (c ∷ rest) after whole → (whole ≡ u) × (after ≡ rest)) × ((whole ≡ u) × (after ≡ rest) → Spelt text e (c ∷ rest) after whole)

-- HEXADECIMAL DIGITS

hex_to : (count high n c : ℕ) (rest after : List ℕ) → IsHex (suc count) high n (c ∷ rest) after → (digit_value c < 16) × IsHex count (16 * high + digit_value c) n rest after
hex_to count high n c rest after (d, mid, q, h, w) =
    let same : d ≡ c = cc in let tail : mid ≡ rest = cc in
    (subst (λ x. digit_value x < 16) same h, subst (λ x. IsHex count (16 * high + digit_value c) n x after) tail (subst (λ x. IsHex count (16 * high + digit_value x) n mid after) same w))

hex_from : (count high n c : ℕ) (rest after : List ℕ) → digit_value c < 16 → IsHex count (16 * high + digit_value c) n rest after → IsHex (suc count) high n (c ∷ rest) after
hex_from count high n c rest after h w = (c, rest, refl, h, w)

-- two digits say little
hex_two : (high n : ℕ) (rest after : List ℕ) → IsHex 2 high n rest after → (256 * high ≤ n) × (n ≤ 256 * high + 255)
hex_two high n rest after (d, mid, q, h, (e, mid', q', h', (w, w'))) = (omega arith, omega arith)

hex_three : (high n : ℕ) (rest after : List ℕ) → IsHex 3 high n rest after → (4096 * high ≤ n) × (n ≤ 4096 * high + 4095)
hex_three high n rest after (d, mid, q, h, w) = let b = hex_two _ n mid after w in (omega arith, omega arith)

hex_one : (high n : ℕ) (rest after : List ℕ) → IsHex 1 high n rest after → (16 * high ≤ n) × (n ≤ 16 * high + 15)
hex_one high n rest after (d, mid, q, h, (w, w')) = (omega arith, omega arith)

-- SURROGATES

scalar_not : (u : ℕ) → IsScalar u → (0xD800 ≤ u) → (u ≤ 0xDFFF) → ⊥
scalar_not u h l r = grind (arith, nat_tests)

pub scalar_is : (u : ℕ) → (u < 0x10000) → ((u < 0xD800) ⊎ (0xDFFF < u)) → IsScalar u
scalar_is u l r = grind (arith, nat_tests)

high_to : (u : ℕ) → is_high_surrogate u ≡ true → (0xD800 ≤ u) × (u ≤ 0xDBFF)
high_to u h = is_range 0xD800 0xDBFF u h

pub high_from : (u : ℕ) → 0xD800 ≤ u → u ≤ 0xDBFF → is_high_surrogate u ≡ true
high_from u h k = grind (arith, nat_tests)

low_to : (u : ℕ) → is_low_surrogate u ≡ true → (0xDC00 ≤ u) × (u ≤ 0xDFFF)
low_to u h = is_range 0xDC00 0xDFFF u h

pub low_from : (u : ℕ) → 0xDC00 ≤ u → u ≤ 0xDFFF → is_low_surrogate u ≡ true
low_from u h k = grind (arith, nat_tests)

pub range_not : (lo hi c : ℕ) → is_in_range lo hi c ≡ false → (c < lo) ⊎ (hi < c)
range_not lo hi c h = grind (arith, nat_tests)

pub lt_from : (a b : ℕ) → nat_lt a b ≡ true → a < b
lt_from a b h = grind (arith, nat_tests)

pub lt_to : (a b : ℕ) → a < b → nat_lt a b ≡ true
lt_to a b h = grind (arith, nat_tests)

pub lt_not : (a b : ℕ) → nat_lt a b ≡ false → b ≤ a
lt_not a b h = grind (arith, nat_tests)

-- a first unit is no low surrogate
unit_not_low : (u c : ℕ) (m after : List ℕ) → UnitRest u c m after → (0xDC00 ≤ u) → (u ≤ 0xDFFF) → ⊥
unit_not_low u c m after (inl w) l r = scalar_not u w.1 (omega arith) r
unit_not_low u c m after (inr w) l r = let b = high_to u w.0 in omega arith

-- ONE CHARACTER, AND THE REST OF THE STRING

abbrev Rest : Type 1
Rest = ℕ → List ℕ → List ℕ → Type 0

abbrev First : List ℕ → Rest → List ℕ → List ℕ → List ℕ → Type 0
First text E before after whole = (x : ℕ) × (xs mid : List ℕ) × E x before mid × AreCharacters xs mid after × (whole ≡ text ++ (encode_utf8 x ++ encode_utf8_all xs))

first_to : (e : Escape) (text before after whole : List ℕ) → (cs : List ℕ) × FirstCharacter e cs before after × (whole ≡ text ++ encode_utf8_all cs) → First text (EscapeRest e) before after whole
first_to e text before after whole ([], h, q) = absurd h
first_to e text before after whole (x ∷ xs, h, q) = (x, xs, h.0, h.1, h.2, q)

first_from : (e : Escape) (text before after whole : List ℕ) → First text (EscapeRest e) before after whole → (cs : List ℕ) × FirstCharacter e cs before after × (whole ≡ text ++ encode_utf8_all cs)
first_from e text before after whole (x, xs, mid, h, w, q) = (x ∷ xs, (mid, h, w), q)

-- c goes on in the escape
abbrev On : Rest → ℕ → Rest → Type 0
On E c F = (x : ℕ) (rest mid : List ℕ) → (E x (c ∷ rest) mid → F x rest mid) × (F x rest mid → E x (c ∷ rest) mid)

on_first : (E F : Rest) (c : ℕ) → On E c F → (text rest after whole : List ℕ) → (First text E (c ∷ rest) after whole → First text F rest after whole) × (First text F rest after whole → First text E (c ∷ rest) after whole)
on_first E F c on text rest after whole = (λ w. (w.0, w.1, w.2, (on w.0 rest w.2).0 w.3, w.4, w.5), λ w. (w.0, w.1, w.2, (on w.0 rest w.2).1 w.3, w.4, w.5))

-- c ends the escape, which spells u
abbrev Last : Rest → ℕ → ℕ → Type 0
Last E c u = (x : ℕ) (rest mid : List ℕ) → (E x (c ∷ rest) mid → (x ≡ u) × (mid ≡ rest)) × ((x ≡ u) × (mid ≡ rest) → E x (c ∷ rest) mid)

last_first : (E : Rest) (c u : ℕ) → Last E c u → (text rest after whole : List ℕ) → (First text E (c ∷ rest) after whole → Spelt (text ++ encode_utf8 u) Outside rest after whole) × (Spelt (text ++ encode_utf8 u) Outside rest after whole → First text E (c ∷ rest) after whole)
last_first E c u last text rest after whole = (to, from)
  where
    to : First text E (c ∷ rest) after whole → Spelt (text ++ encode_utf8 u) Outside rest after whole
    to (x, xs, mid, h, w, q) =
        let r = (last x rest mid).0 h in
        (xs, subst (λ m. AreCharacters xs m after) r.1 w, q ∙ ap (λ y. text ++ (encode_utf8 y ++ encode_utf8_all xs)) r.0 ∙ sym (append_assoc text (encode_utf8 u) (encode_utf8_all xs)))

    from : Spelt (text ++ encode_utf8 u) Outside rest after whole → First text E (c ∷ rest) after whole
    from (xs, w, q) = (u, xs, rest, (last u rest rest).1 (refl, refl), w, q ∙ append_assoc text (encode_utf8 u) (encode_utf8_all xs))

-- c fits nowhere
abbrev Never : Rest → ℕ → Type 0
Never E c = (x : ℕ) (rest mid : List ℕ) → ¬ (E x (c ∷ rest) mid)

never_first : (E : Rest) (c : ℕ) → Never E c → (text rest after whole : List ℕ) → ¬ (First text E (c ∷ rest) after whole)
never_first E c never text rest after whole w = never w.0 rest w.2 w.3

goes_by : (e f : Escape) (text : List ℕ) (c : ℕ) → On (EscapeRest e) c (EscapeRest f) → (rest after whole : List ℕ) →
    ((cs : List ℕ) × FirstCharacter e cs (c ∷ rest) after × (whole ≡ text ++ encode_utf8_all cs) → (cs : List ℕ) × FirstCharacter f cs rest after × (whole ≡ text ++ encode_utf8_all cs))
    × ((cs : List ℕ) × FirstCharacter f cs rest after × (whole ≡ text ++ encode_utf8_all cs) → (cs : List ℕ) × FirstCharacter e cs (c ∷ rest) after × (whole ≡ text ++ encode_utf8_all cs))
goes_by e f text c on rest after whole =
    let r = on_first (EscapeRest e) (EscapeRest f) c on text rest after whole in
    (λ w. first_from f text rest after whole (r.0 (first_to e text (c ∷ rest) after whole w)), λ w. first_from e text (c ∷ rest) after whole (r.1 (first_to f text rest after whole w)))

ends_by : (e : Escape) (text : List ℕ) (c u : ℕ) → Last (EscapeRest e) c u → (rest after whole : List ℕ) →
    ((cs : List ℕ) × FirstCharacter e cs (c ∷ rest) after × (whole ≡ text ++ encode_utf8_all cs) → Spelt (text ++ encode_utf8 u) Outside rest after whole)
    × (Spelt (text ++ encode_utf8 u) Outside rest after whole → (cs : List ℕ) × FirstCharacter e cs (c ∷ rest) after × (whole ≡ text ++ encode_utf8_all cs))
ends_by e text c u last rest after whole =
    let r = last_first (EscapeRest e) c u last text rest after whole in
    (λ w. r.0 (first_to e text (c ∷ rest) after whole w), λ w. first_from e text (c ∷ rest) after whole (r.1 w))

stops_by : (e : Escape) (text : List ℕ) (c : ℕ) → Never (EscapeRest e) c → (rest after whole : List ℕ) →
    ¬ ((cs : List ℕ) × FirstCharacter e cs (c ∷ rest) after × (whole ≡ text ++ encode_utf8_all cs))
stops_by e text c never rest after whole w = never_first (EscapeRest e) c never text rest after whole (first_to e text (c ∷ rest) after whole w)

-- DIGITS

on_digit : (count high c : ℕ) → digit_value c < 16 → On (FirstRest (suc count) high) c (FirstRest count (16 * high + digit_value c))
on_digit count high c h x rest mid =
    (λ w. (w.0, w.1, (hex_to count high w.0 c rest w.1 w.2).1, w.3), λ w. (w.0, w.1, hex_from count high w.0 c rest w.1 h w.2, w.3))

never_digit : (count high c : ℕ) → 16 ≤ digit_value c → Never (FirstRest (suc count) high) c
never_digit count high c h x rest mid w = let d = (hex_to count high w.0 c rest w.1 w.2).0 in omega arith

on_low : (s count v c : ℕ) → digit_value c < 16 → On (LowRest s (suc count) v) c (LowRest s count (16 * v + digit_value c))
on_low s count v c h x rest mid =
    (λ w. (w.0, (hex_to count v w.0 c rest mid w.1).1, w.2, w.3), λ w. (w.0, hex_from count v w.0 c rest mid h w.1, w.2, w.3))

never_low : (s count v c : ℕ) → 16 ≤ digit_value c → Never (LowRest s (suc count) v) c
never_low s count v c h x rest mid w = let d = (hex_to count v w.0 c rest mid w.1).0 in omega arith

-- EVERY ESCAPE

quotes_unit0 : (text : List ℕ) (c : ℕ) → Quotes text Unit0 c (quote_step text Unit0 c)
quotes_unit0 text c =
    split (λ b. Quotes text Unit0 c (if b then Some (going text (Unit1 (digit_value c))) else None)) (nat_lt (digit_value c) 16)
    (λ h. let on : On (EscapeRest Unit0) c (EscapeRest (Unit1 (digit_value c))) = subst (λ v. On (FirstRest 4 0) c (FirstRest 3 v)) (zero-add (digit_value c)) (on_digit 3 0 c (lt_from _ _ h)) in
    goes_by Unit0 (Unit1 (digit_value c)) text c on)
    (λ n. stops_by Unit0 text c (never_digit 3 0 c (lt_not _ _ n)))

no_first_low : (v c : ℕ) → is_in_range 0xDC 0xDF (16 * v + digit_value c) ≡ true → digit_value c < 16 → Never (FirstRest 3 v) c
no_first_low v c h d x rest mid (u, m, hex, unit) =
    let r = is_range 0xDC 0xDF (16 * v + digit_value c) h in let b = hex_two (16 * v + digit_value c) u rest m (hex_to 2 v u c rest m hex).1 in
    unit_not_low u x m mid unit (omega arith) (omega arith)

quotes_unit1 : (text : List ℕ) (v c : ℕ) → Quotes text (Unit1 v) c (quote_step text (Unit1 v) c)
quotes_unit1 text v c =
    split (λ b. Quotes text (Unit1 v) c (if b then (if is_in_range 0xDC 0xDF (16 * v + digit_value c) then None else Some (going text (Unit2 (16 * v + digit_value c)))) else None)) (nat_lt (digit_value c) 16)
    (λ h. split (λ b. Quotes text (Unit1 v) c (if b then None else Some (going text (Unit2 (16 * v + digit_value c))))) (is_in_range 0xDC 0xDF (16 * v + digit_value c))
    (λ low. stops_by (Unit1 v) text c (no_first_low v c low (lt_from _ _ h)))
    (λ m. goes_by (Unit1 v) (Unit2 (16 * v + digit_value c)) text c (on_digit 2 v c (lt_from _ _ h))))
    (λ n. stops_by (Unit1 v) text c (never_digit 2 v c (lt_not _ _ n)))

quotes_unit2 : (text : List ℕ) (v c : ℕ) → Quotes text (Unit2 v) c (quote_step text (Unit2 v) c)
quotes_unit2 text v c =
    split (λ b. Quotes text (Unit2 v) c (if b then Some (going text (Unit3 (16 * v + digit_value c))) else None)) (nat_lt (digit_value c) 16)
    (λ h. goes_by (Unit2 v) (Unit3 (16 * v + digit_value c)) text c (on_digit 1 v c (lt_from _ _ h)))
    (λ n. stops_by (Unit2 v) text c (never_digit 1 v c (lt_not _ _ n)))

-- the fourth digit of a first unit that is a high surrogate
on_high : (v c : ℕ) → digit_value c < 16 → is_high_surrogate (16 * v + digit_value c) ≡ true → On (EscapeRest (Unit3 v)) c (EscapeRest (High (16 * v + digit_value c)))
on_high v c h s x rest mid = (to, from)
  where
    to : FirstRest 1 v x (c ∷ rest) mid → EscapeRest (High (16 * v + digit_value c)) x rest mid
    to (u, m, hex, inl unit) =
        let r = (hex_to 0 v u c rest m hex).1 in let b = high_to (16 * v + digit_value c) s in let e : u ≡ 16 * v + digit_value c = r.0 in
        absurd (scalar_not u unit.1 (omega arith) (omega arith))
    to (u, m, hex, inr (k, (low, (m', q, hex'), l, e))) =
        let r = (hex_to 0 v u c rest m hex).1 in
        (m', r.1 ∙ q, (low, hex', l, e ∙ ap (λ y. surrogate_pair_char y low) r.0))

    from : EscapeRest (High (16 * v + digit_value c)) x rest mid → FirstRest 1 v x (c ∷ rest) mid
    from (m', q, (low, hex', l, e)) = (16 * v + digit_value c, rest, hex_from 0 v _ c rest rest h (refl, refl), inr (s, (low, (m', q, hex'), l, e)))

fourth : (v d : ℕ) → IsFine (Unit3 v) → d < 16 → ((16 * v + d < 0xD800) ⊎ (0xDBFF < 16 * v + d)) → ((16 * v + d < 0xD800) ⊎ (0xDFFF < 16 * v + d))
fourth v d fine h (inl l) = inl l
fourth v d (a, inl m) h (inr l) = absurd (omega arith)
fourth v d (a, inr m) h (inr l) = inr (omega arith)

-- and of one that is not
last_unit : (v c : ℕ) → IsFine (Unit3 v) → digit_value c < 16 → is_high_surrogate (16 * v + digit_value c) ≡ false → Last (EscapeRest (Unit3 v)) c (16 * v + digit_value c)
last_unit v c fine h s x rest mid = (to, from)
  where
    to : FirstRest 1 v x (c ∷ rest) mid → (x ≡ 16 * v + digit_value c) × (mid ≡ rest)
    to (u, m, hex, inl unit) = let r = (hex_to 0 v u c rest m hex).1 in (unit.0 ∙ r.0, sym (r.1 ∙ unit.2))
    to (u, m, hex, inr w) = let r = (hex_to 0 v u c rest m hex).1 in against _ (subst (λ y. is_high_surrogate y ≡ true) r.0 w.0) s

    from : (x ≡ 16 * v + digit_value c) × (mid ≡ rest) → FirstRest 1 v x (c ∷ rest) mid
    from (e, q) =
        let b = range_not 0xD800 0xDBFF (16 * v + digit_value c) s in
        let ok : IsScalar (16 * v + digit_value c) = scalar_is (16 * v + digit_value c) (omega (arith, fine.0)) (fourth v (digit_value c) fine h b) in
        (16 * v + digit_value c, rest, hex_from 0 v _ c rest rest h (refl, refl), inl (e, ok, sym q))

quotes_unit3 : (text : List ℕ) (v c : ℕ) → IsFine (Unit3 v) → Quotes text (Unit3 v) c (quote_step text (Unit3 v) c)
quotes_unit3 text v c fine =
    split (λ b. Quotes text (Unit3 v) c (if b then first_unit text (16 * v + digit_value c) else None)) (nat_lt (digit_value c) 16)
    (λ h. split (λ b. Quotes text (Unit3 v) c (if b then Some (going text (High (16 * v + digit_value c))) else quote_spelled text (Some (16 * v + digit_value c)))) (is_high_surrogate (16 * v + digit_value c))
    (λ s. goes_by (Unit3 v) (High (16 * v + digit_value c)) text c (on_high v c (lt_from _ _ h) s))
    (λ s. ends_by (Unit3 v) text c (16 * v + digit_value c) (last_unit v c fine (lt_from _ _ h) s)))
    (λ n. stops_by (Unit3 v) text c (never_digit 0 v c (lt_not _ _ n)))

quotes_high : (text : List ℕ) (s c : ℕ) → Quotes text (High s) c (quote_step text (High s) c)
quotes_high text s c =
    split (λ b. Quotes text (High s) c (if b then Some (going text (HighSlash s)) else None)) (c == 92)
    (λ h. goes_by (High s) (HighSlash s) text c (λ x rest mid. (λ w. (w.0, (let q = w.1 in cc), w.2), λ w. (w.0, (let q = w.1 in let e = is_eq c 92 h in cc), w.2))))
    (λ n. stops_by (High s) text c (λ x rest mid w. not_eq c 92 n (let q = w.1 in cc)))

quotes_high_slash : (text : List ℕ) (s c : ℕ) → Quotes text (HighSlash s) c (quote_step text (HighSlash s) c)
quotes_high_slash text s c =
    split (λ b. Quotes text (HighSlash s) c (if b then Some (going text (Low0 s)) else None)) (c == 117)
    (λ h. goes_by (HighSlash s) (Low0 s) text c (λ x rest mid. (λ w. subst (λ y. LowRest s 4 0 x y mid) (tail w.0 rest w.1) w.2, λ w. (rest, (let e = is_eq c 117 h in cc), w))))
    (λ n. stops_by (HighSlash s) text c (λ x rest mid w. not_eq c 117 n (let q = w.1 in cc)))
  where
    tail : (xs rest : List ℕ) → c ∷ rest ≡ 117 ∷ xs → xs ≡ rest
    tail xs rest q = cc

on_low0 : (s c : ℕ) → digit_value c ≡ 0xD → On (LowRest s 4 0) c (LowRest s 3 0xD)
on_low0 s c h = subst (λ v. On (LowRest s 4 0) c (LowRest s 3 v)) (zero-add (digit_value c) ∙ h) (on_low s 3 0 c (omega arith))

never_low0 : (s c : ℕ) → digit_value c ≢ 0xD → Never (LowRest s 4 0) c
never_low0 s c n x rest mid (low, hex, l, e) =
    let r = hex_to 3 0 low c rest mid hex in let b = hex_three _ low rest mid r.1 in let k = low_to low l in
    n (omega arith)

quotes_low0 : (text : List ℕ) (s c : ℕ) → Quotes text (Low0 s) c (quote_step text (Low0 s) c)
quotes_low0 text s c =
    split (λ b. Quotes text (Low0 s) c (if b then (if digit_value c == 0xD then Some (going text (Low1 s)) else None) else None)) (nat_lt (digit_value c) 16)
    (λ _. split (λ b. Quotes text (Low0 s) c (if b then Some (going text (Low1 s)) else None)) (digit_value c == 0xD)
    (λ h. goes_by (Low0 s) (Low1 s) text c (on_low0 s c (is_eq _ 0xD h)))
    (λ n. stops_by (Low0 s) text c (never_low0 s c (not_eq _ 0xD n))))
    (λ n. stops_by (Low0 s) text c (never_low s 3 0 c (lt_not _ _ n)))

never_low1 : (s c : ℕ) → is_in_range 0xDC 0xDF (0xD0 + digit_value c) ≡ false → Never (LowRest s 3 0xD) c
never_low1 s c n x rest mid (low, hex, l, e) =
    let r = hex_to 2 0xD low c rest mid hex in let b = hex_two _ low rest mid r.1 in let k = low_to low l in let g = range_not 0xDC 0xDF (0xD0 + digit_value c) n in
    omega arith

quotes_low1 : (text : List ℕ) (s c : ℕ) → Quotes text (Low1 s) c (quote_step text (Low1 s) c)
quotes_low1 text s c =
    split (λ b. Quotes text (Low1 s) c (if b then (if is_in_range 0xDC 0xDF (0xD0 + digit_value c) then Some (going text (Low2 s (0xD0 + digit_value c))) else None) else None)) (nat_lt (digit_value c) 16)
    (λ h. split (λ b. Quotes text (Low1 s) c (if b then Some (going text (Low2 s (0xD0 + digit_value c))) else None)) (is_in_range 0xDC 0xDF (0xD0 + digit_value c))
    (λ low. goes_by (Low1 s) (Low2 s (0xD0 + digit_value c)) text c (on_low s 2 0xD c (lt_from _ _ h)))
    (λ m. stops_by (Low1 s) text c (never_low1 s c m)))
    (λ n. stops_by (Low1 s) text c (never_low s 2 0xD c (lt_not _ _ n)))

quotes_low2 : (text : List ℕ) (s v c : ℕ) → Quotes text (Low2 s v) c (quote_step text (Low2 s v) c)
quotes_low2 text s v c =
    split (λ b. Quotes text (Low2 s v) c (if b then Some (going text (Low3 s (16 * v + digit_value c))) else None)) (nat_lt (digit_value c) 16)
    (λ h. goes_by (Low2 s v) (Low3 s (16 * v + digit_value c)) text c (on_low s 1 v c (lt_from _ _ h)))
    (λ n. stops_by (Low2 s v) text c (never_low s 1 v c (lt_not _ _ n)))

last_low : (s v c : ℕ) → IsFine (Low3 s v) → digit_value c < 16 → Last (EscapeRest (Low3 s v)) c (surrogate_pair_char s (16 * v + digit_value c))
last_low s v c fine h x rest mid = (to, from)
  where
    to : LowRest s 1 v x (c ∷ rest) mid → (x ≡ surrogate_pair_char s (16 * v + digit_value c)) × (mid ≡ rest)
    to (low, hex, l, e) = let r = (hex_to 0 v low c rest mid hex).1 in (e ∙ ap (λ y. surrogate_pair_char s y) r.0, sym r.1)

    from : (x ≡ surrogate_pair_char s (16 * v + digit_value c)) × (mid ≡ rest) → LowRest s 1 v x (c ∷ rest) mid
    from (e, q) = (16 * v + digit_value c, hex_from 0 v _ c rest mid h (refl, sym q), low_from (16 * v + digit_value c) (omega (arith, fine.2)) (omega (arith, fine.3)), e)

quotes_low3 : (text : List ℕ) (s v c : ℕ) → IsFine (Low3 s v) → Quotes text (Low3 s v) c (quote_step text (Low3 s v) c)
quotes_low3 text s v c fine =
    split (λ b. Quotes text (Low3 s v) c (if b then quote_spelled text (Some (surrogate_pair_char s (16 * v + digit_value c))) else None)) (nat_lt (digit_value c) 16)
    (λ h. ends_by (Low3 s v) text c (surrogate_pair_char s (16 * v + digit_value c)) (last_low s v c fine (lt_from _ _ h)))
    (λ n. stops_by (Low3 s v) text c (never_low s 0 v c (lt_not _ _ n)))

-- BEHIND A BACKSLASH

slash_on : (c : ℕ) → c ≡ 117 → On (EscapeRest Slash) c (EscapeRest Unit0)
slash_on c h x rest mid = (to, λ w. inr (rest, ap (λ y. y ∷ rest) h, w))
  where
    to : EscapeRest Slash x (c ∷ rest) mid → FirstRest 4 0 x rest mid
    to (inl (e, q, s)) = let same : e ≡ 117 = cc in let t : None ≡ Some x = subst (λ y. short_escape y ≡ Some x) same s in cc
    to (inr (m, q, w)) = let tail : m ≡ rest = cc in subst (λ y. FirstRest 4 0 x y mid) tail w

slash_last : (c u : ℕ) → c ≢ 117 → short_escape c ≡ Some u → Last (EscapeRest Slash) c u
slash_last c u n s x rest mid = (to, λ w. inl (c, (let q = w.1 in cc), (let e = w.0 in cc)))
  where
    to : EscapeRest Slash x (c ∷ rest) mid → (x ≡ u) × (mid ≡ rest)
    to (inl (e, q, t)) =
        let same : e ≡ c = cc in let t' : short_escape c ≡ Some x = subst (λ y. short_escape y ≡ Some x) same t in
        let both : Some x ≡ Some u = sym t' ∙ s in (cc, cc)
    to (inr (m, q, w)) = absurd (n cc)

slash_never : (c : ℕ) → c ≢ 117 → short_escape c ≡ None → Never (EscapeRest Slash) c
slash_never c n s x rest mid (inl (e, q, t)) =
    let same : e ≡ c = cc in let t' : short_escape c ≡ Some x = subst (λ y. short_escape y ≡ Some x) same t in
    let both : Some x ≡ None = sym t' ∙ s in cc
slash_never c n s x rest mid (inr (m, q, w)) = n cc

quotes_slash : (text : List ℕ) (c : ℕ) → Quotes text Slash c (quote_step text Slash c)
quotes_slash text c =
    split (λ b. Quotes text Slash c (if b then Some (going text Unit0) else quote_spelled text (short_escape c))) (c == 117)
    (λ h. goes_by Slash Unit0 text c (slash_on c (is_eq c 117 h)))
    (λ n. go (short_escape c) refl (not_eq c 117 n))
  where
    go : (o : Option ℕ) → short_escape c ≡ o → c ≢ 117 → Quotes text Slash c (quote_spelled text o)
    go None s n = stops_by Slash text c (slash_never c n s)
    go (Some u) s n = ends_by Slash text c u (slash_last c u n s)

-- IN NO ESCAPE

-- a character of a string that begins with c
char_head : (x c : ℕ) (rest mid : List ℕ) → IsCharacter x (c ∷ rest) mid → ((is_plain x ≡ true) × (x ≡ c) × (mid ≡ rest)) ⊎ ((c ≡ 92) × EscapeRest Slash x rest mid)
char_head x c rest mid (plain h q) = inl (h, cc, cc)
char_head x c rest mid (short e s q) = inr (cc, inl (e, cc, s))
char_head x c rest mid (one_unit k (m, q, hex)) = inr (cc, inr (m, cc, (x, mid, hex, inl (refl, k, refl))))
char_head x c rest mid (two_units high low mid' h l e (m, q, hex) second) = inr (cc, inr (m, cc, (high, mid', hex, inr (h, (low, second, l, e)))))

char_slash : (x : ℕ) (rest mid : List ℕ) → EscapeRest Slash x rest mid → IsCharacter x (92 ∷ rest) mid
char_slash x rest mid (inl (e, q, s)) = short e s (ap (λ y. 92 ∷ y) q)
char_slash x rest mid (inr (m, q, (u, m', hex, inl (e, k, q')))) =
    one_unit (subst (λ y. IsScalar y) (sym e) k) (m, ap (λ y. 92 ∷ y) q, subst (λ y. IsHex 4 0 y m mid) (sym e) (subst (λ y. IsHex 4 0 u m y) q' hex))
char_slash x rest mid (inr (m, q, (u, m', hex, inr (h, (low, second, l, e))))) =
    two_units u low m' h l e (m, ap (λ y. 92 ∷ y) q, hex) second

plain_to : (c : ℕ) → is_plain c ≡ true → (32 ≤ c) × (c ≢ 34) × (c ≢ 92)
plain_to c h = grind (arith, nat_tests)

plain_from : (c : ℕ) → 32 ≤ c → c ≢ 34 → c ≢ 92 → is_plain c ≡ true
plain_from c h n m = grind (arith, nat_tests)

outside_quote : (text : List ℕ) (c : ℕ) → c ≡ 34 → (rest after whole : List ℕ) → (Spelt text Outside (c ∷ rest) after whole → (whole ≡ text) × (after ≡ rest)) × ((whole ≡ text) × (after ≡ rest) → Spelt text Outside (c ∷ rest) after whole)
outside_quote text c h rest after whole = (to, λ w. ([], (let q = w.1 in cc), w.0 ∙ sym (append-nil text)))
  where
    to : Spelt text Outside (c ∷ rest) after whole → (whole ≡ text) × (after ≡ rest)
    to ([], q, e) = (e ∙ append-nil text, cc)
    to (x ∷ xs, (mid, ch, w), e) = elim (char_head x c rest mid ch) [ inl p ↦ absurd ((plain_to x p.0).1 (p.1 ∙ h)) | inr s ↦ absurd (let z = s.0 in omega arith) ]

outside_slash : (text : List ℕ) (c : ℕ) → c ≡ 92 → (rest after whole : List ℕ) → (Spelt text Outside (c ∷ rest) after whole → Spelt text Slash rest after whole) × (Spelt text Slash rest after whole → Spelt text Outside (c ∷ rest) after whole)
outside_slash text c h rest after whole = (to, from)
  where
    to : Spelt text Outside (c ∷ rest) after whole → Spelt text Slash rest after whole
    to ([], q, e) = absurd (let z : c ≡ 34 = cc in omega arith)
    to (x ∷ xs, (mid, ch, w), e) = elim (char_head x c rest mid ch) [ inl p ↦ absurd ((plain_to x p.0).2 (p.1 ∙ h)) | inr s ↦ (x ∷ xs, (mid, s.1, w), e) ]

    from : Spelt text Slash rest after whole → Spelt text Outside (c ∷ rest) after whole
    from ([], q, e) = absurd q
    from (x ∷ xs, (mid, s, w), e) = (x ∷ xs, (mid, subst (λ y. IsCharacter x (y ∷ rest) mid) (sym h) (char_slash x rest mid s), w), e)

outside_plain : (text : List ℕ) (c : ℕ) → c ≢ 34 → c ≢ 92 → is_plain c ≡ true → (rest after whole : List ℕ) → (Spelt text Outside (c ∷ rest) after whole → Spelt (text ++ encode_utf8 c) Outside rest after whole) × (Spelt (text ++ encode_utf8 c) Outside rest after whole → Spelt text Outside (c ∷ rest) after whole)
outside_plain text c n m k rest after whole = (to, from)
  where
    here : (x : ℕ) (xs mid : List ℕ) → x ≡ c → mid ≡ rest → AreCharacters xs mid after → whole ≡ text ++ (encode_utf8 x ++ encode_utf8_all xs) → Spelt (text ++ encode_utf8 c) Outside rest after whole
    here x xs mid e q w z = (xs, subst (λ y. AreCharacters xs y after) q w, z ∙ ap (λ y. text ++ (encode_utf8 y ++ encode_utf8_all xs)) e ∙ sym (append_assoc text (encode_utf8 c) (encode_utf8_all xs)))

    to : Spelt text Outside (c ∷ rest) after whole → Spelt (text ++ encode_utf8 c) Outside rest after whole
    to ([], q, e) = absurd (n cc)
    to (x ∷ xs, (mid, ch, w), e) = elim (char_head x c rest mid ch) [ inl p ↦ here x xs mid p.1 p.2 w e | inr s ↦ absurd (m s.0) ]

    from : Spelt (text ++ encode_utf8 c) Outside rest after whole → Spelt text Outside (c ∷ rest) after whole
    from (xs, w, e) = (c ∷ xs, (rest, plain k refl, w), e ∙ append_assoc text (encode_utf8 c) (encode_utf8_all xs))

outside_none : (text : List ℕ) (c : ℕ) → c ≢ 34 → c ≢ 92 → c < 32 → (rest after whole : List ℕ) → ¬ (Spelt text Outside (c ∷ rest) after whole)
outside_none text c n m l rest after whole ([], q, e) = n cc
outside_none text c n m l rest after whole (x ∷ xs, (mid, ch, w), e) =
    elim (char_head x c rest mid ch) [ inl p ↦ absurd (let z = (plain_to x p.0).0 in let y : x ≡ c = p.1 in omega arith) | inr s ↦ absurd (m s.0) ]

le_from : (a b : ℕ) → nat_le a b ≡ true → a ≤ b
le_from a b h = grind (arith, nat_tests)

le_not : (a b : ℕ) → nat_le a b ≡ false → b < a
le_not a b h = grind (arith, nat_tests)

quotes_outside : (text : List ℕ) (c : ℕ) → Quotes text Outside c (quote_step text Outside c)
quotes_outside text c =
    split (λ b. Quotes text Outside c (if b then Some (closed text) else if c == 92 then Some (going text Slash) else if nat_le 32 c then quote_spelled text (Some c) else None)) (c == 34)
    (λ h. outside_quote text c (is_eq c 34 h))
    (λ n. split (λ b. Quotes text Outside c (if b then Some (going text Slash) else if nat_le 32 c then quote_spelled text (Some c) else None)) (c == 92)
    (λ h. outside_slash text c (is_eq c 92 h))
    (λ m. split (λ b. Quotes text Outside c (if b then quote_spelled text (Some c) else None)) (nat_le 32 c)
    (λ h. outside_plain text c (not_eq c 34 n) (not_eq c 92 m) (plain_from c (le_from 32 c h) (not_eq c 34 n) (not_eq c 92 m)))
    (λ l. outside_none text c (not_eq c 34 n) (not_eq c 92 m) (le_not 32 c l))))

pub quotes : (text : List ℕ) (e : Escape) (c : ℕ) → IsFine e → Quotes text e c (quote_step text e c)
quotes text Outside c fine = quotes_outside text c
quotes text Slash c fine = quotes_slash text c
quotes text Unit0 c fine = quotes_unit0 text c
quotes text (Unit1 v) c fine = quotes_unit1 text v c
quotes text (Unit2 v) c fine = quotes_unit2 text v c
quotes text (Unit3 v) c fine = quotes_unit3 text v c fine
quotes text (High s) c fine = quotes_high text s c
quotes text (HighSlash s) c fine = quotes_high_slash text s c
quotes text (Low0 s) c fine = quotes_low0 text s c
quotes text (Low1 s) c fine = quotes_low1 text s c
quotes text (Low2 s v) c fine = quotes_low2 text s v c
quotes text (Low3 s v) c fine = quotes_low3 text s v c fine

-- WHAT IS KNOWN OF THE DIGITS STAYS KNOWN

abbrev pub FineQuote : Option Quote → Type 0
FineQuote None = Unit {0}
FineQuote (Some (going text e)) = IsFine e
FineQuote (Some (closed text)) = Unit {0}

fine_spelled : (text : List ℕ) (o : Option ℕ) → FineQuote (quote_spelled text o)
fine_spelled text None = tt
fine_spelled text (Some c) = tt

fine_unit2 : (v d : ℕ) → v < 16 → d < 16 → is_in_range 0xDC 0xDF (16 * v + d) ≡ false → IsFine (Unit2 (16 * v + d))
fine_unit2 v d h k m = (omega arith, range_not 0xDC 0xDF (16 * v + d) m)

fine_unit3 : (v d : ℕ) → IsFine (Unit2 v) → d < 16 → IsFine (Unit3 (16 * v + d))
fine_unit3 v d (a, inl l) k = (omega arith, inl (omega arith))
fine_unit3 v d (a, inr l) k = (omega arith, inr (omega arith))

pub fine_quote : (text : List ℕ) (e : Escape) (c : ℕ) → IsFine e → FineQuote (quote_step text e c)
fine_quote text Outside c fine =
    split (λ b. FineQuote (if b then Some (closed text) else if c == 92 then Some (going text Slash) else if nat_le 32 c then quote_spelled text (Some c) else None)) (c == 34) (λ h. tt)
    (λ n. split (λ b. FineQuote (if b then Some (going text Slash) else if nat_le 32 c then quote_spelled text (Some c) else None)) (c == 92) (λ h. tt)
    (λ m. split (λ b. FineQuote (if b then quote_spelled text (Some c) else None)) (nat_le 32 c) (λ h. tt) (λ l. tt)))
fine_quote text Slash c fine = split (λ b. FineQuote (if b then Some (going text Unit0) else quote_spelled text (short_escape c))) (c == 117) (λ h. tt) (λ n. fine_spelled text (short_escape c))
fine_quote text Unit0 c fine = split (λ b. FineQuote (if b then Some (going text (Unit1 (digit_value c))) else None)) (nat_lt (digit_value c) 16) (λ h. lt_from (digit_value c) 16 h) (λ n. tt)
fine_quote text (Unit1 v) c fine =
    split (λ b. FineQuote (if b then (if is_in_range 0xDC 0xDF (16 * v + digit_value c) then None else Some (going text (Unit2 (16 * v + digit_value c)))) else None)) (nat_lt (digit_value c) 16)
    (λ h. split (λ b. FineQuote (if b then None else Some (going text (Unit2 (16 * v + digit_value c))))) (is_in_range 0xDC 0xDF (16 * v + digit_value c))
    (λ low. tt) (λ m. fine_unit2 v (digit_value c) fine (lt_from (digit_value c) 16 h) m))
    (λ n. tt)
fine_quote text (Unit2 v) c fine =
    split (λ b. FineQuote (if b then Some (going text (Unit3 (16 * v + digit_value c))) else None)) (nat_lt (digit_value c) 16)
    (λ h. fine_unit3 v (digit_value c) fine (lt_from (digit_value c) 16 h)) (λ n. tt)
fine_quote text (Unit3 v) c fine =
    split (λ b. FineQuote (if b then first_unit text (16 * v + digit_value c) else None)) (nat_lt (digit_value c) 16)
    (λ h. split (λ b. FineQuote (if b then Some (going text (High (16 * v + digit_value c))) else quote_spelled text (Some (16 * v + digit_value c)))) (is_high_surrogate (16 * v + digit_value c))
    (λ s. high_to (16 * v + digit_value c) s) (λ s. tt))
    (λ n. tt)
fine_quote text (High s) c fine = split (λ b. FineQuote (if b then Some (going text (HighSlash s)) else None)) (c == 92) (λ h. fine) (λ n. tt)
fine_quote text (HighSlash s) c fine = split (λ b. FineQuote (if b then Some (going text (Low0 s)) else None)) (c == 117) (λ h. fine) (λ n. tt)
fine_quote text (Low0 s) c fine =
    split (λ b. FineQuote (if b then (if digit_value c == 0xD then Some (going text (Low1 s)) else None) else None)) (nat_lt (digit_value c) 16)
    (λ _. split (λ b. FineQuote (if b then Some (going text (Low1 s)) else None)) (digit_value c == 0xD) (λ h. fine) (λ n. tt)) (λ n. tt)
fine_quote text (Low1 s) c fine =
    split (λ b. FineQuote (if b then (if is_in_range 0xDC 0xDF (0xD0 + digit_value c) then Some (going text (Low2 s (0xD0 + digit_value c))) else None) else None)) (nat_lt (digit_value c) 16)
    (λ h. split (λ b. FineQuote (if b then Some (going text (Low2 s (0xD0 + digit_value c))) else None)) (is_in_range 0xDC 0xDF (0xD0 + digit_value c))
    (λ low. let r = is_range 0xDC 0xDF (0xD0 + digit_value c) low in (fine.0, fine.1, r.0, r.1)) (λ m. tt))
    (λ n. tt)
fine_quote text (Low2 s v) c fine =
    split (λ b. FineQuote (if b then Some (going text (Low3 s (16 * v + digit_value c))) else None)) (nat_lt (digit_value c) 16)
    (λ h. let d = lt_from (digit_value c) 16 h in (fine.0, fine.1, omega (arith, fine.2), omega (arith, fine.3))) (λ n. tt)
fine_quote text (Low3 s v) c fine =
    split (λ b. FineQuote (if b then quote_spelled text (Some (surrogate_pair_char s (16 * v + digit_value c))) else None)) (nat_lt (digit_value c) 16) (λ h. tt) (λ n. tt)
