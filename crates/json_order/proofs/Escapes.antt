-- A whole escape of a string, taken at once.
use Rattle.std.specs.Prelude.{IfSome, ◌==◌, encode_utf8, encode_utf8_all}
use Rattle.std.specs.Char.{IsScalar, digit_value}
use Rattle.std.specs.Char.Utf16.{surrogate_pair_char}
use Rattle.std.specs.Int.{is_in_range}
use Rattle.std.specs.List.{AllByRecursion}
use Rattle.std.specs.Str.{IsUtf8, IsAscii, IsCharBoundary}
use Rattle.std.proofs.Common.{ℕ, Bool, lit<, ◌+◌, ◌*◌, ◌<◌, ◌≤◌, ◌≡◌, ◌⊎◌, inl, inr, true, false, List, [], ◌∷◌, ◌++◌, length, take, refl, sym, ap, ◌∙◌, subst, arith, Option, Some, None, Ok}
use Rattle.std.proofs.lemmas.Bool.{cases_lt}
use Rattle.std.proofs.lemmas.Bool.Decides.{nat_tests}
use Rattle.std.proofs.lemmas.Str.{encode_ascii, encodes-IsAscii, IsUtf8-from_ascii, IsCharBoundary-from_take}
use Rattle.std.proofs.lemmas.Str.Ascii.{IsAscii-from_all}
use Rattle.std.proofs.lemmas.List.Elements.{All-from_recursion}
use Rattle.std.proofs.lemmas.List.{length-append}
use Rattle.json_order.specs.Grammar.{is_plain, short_escape, IsHex, IsUnit, is_high_surrogate, is_low_surrogate, plain, short, one_unit, two_units}
use Rattle.json_order.specs.Fault.{strict}
use Rattle.json_order.specs.private.Machine.{Entries, Frame, state, run, in_string, in_key, Quote, going, closed, quote_step, quote_spelled, first_unit}
use Rattle.json_order.specs.private.AtOnce.{TakesQuoted, MovesPlain, UnitEnds, IsEscape}
use Rattle.json_order.specs.declared.place.Escape.{Escape}
use Rattle.json_order.specs.declared.place.Escape.TheVariants.{Outside, Slash, Unit0, Unit1, Unit2, Unit3, High, Low0, Low1, Low2, Low3}
use Rattle.json_order.proofs.Numbers.{is_range, is_eq}
use Rattle.json_order.proofs.Strings.{lt_to}

-- A STRING OVER SEVERAL CHARACTERS

abbrev quoted_on : Option Quote → ℕ → Option Quote
quoted_on None c = None
quoted_on (Some (going text e)) c = quote_step text e c
quoted_on (Some (closed text)) c = None

abbrev quoted : Option Quote → List ℕ → Option Quote
quoted q [] = q
quoted q (c ∷ cs) = quoted (quoted_on q c) cs

quoted_none : (cs : List ℕ) → quoted None cs ≡ None
quoted_none [] = refl
quoted_none (c ∷ cs) = quoted_none cs

quoted_append : (q : Option Quote) (xs ys : List ℕ) → quoted q (xs ++ ys) ≡ quoted (quoted q xs) ys
quoted_append q [] ys = refl
quoted_append q (x ∷ xs) ys = quoted_append (quoted_on q x) xs ys

-- a string that is closed goes on no more
closed_stays : (text new : List ℕ) (f : Escape) (cs : List ℕ) → quoted (Some (closed text)) cs ≡ Some (going new f) → ⊥
closed_stays text new f [] h = cc
closed_stays text new f (c ∷ cs) h = let z : None ≡ Some (going new f) = sym (quoted_none cs) ∙ h in cc

string_run : (cs old new : List ℕ) (e f : Escape) → quoted (Some (going old e)) cs ≡ Some (going new f) → (fs : List Frame) → run strict (Ok (state (in_string old e) fs)) cs ≡ Ok (state (in_string new f) fs)
string_run [] old new e f h fs =
    let a : old ≡ new = cc in
    let b : e ≡ f = cc in
    rw (a, b) refl
string_run (c ∷ cs) old new e f h fs = go (quote_step old e c) refl h (λ t g k. string_run cs t new g f k fs)
  where
    go : (q : Option Quote) → quote_step old e c ≡ q → quoted q cs ≡ Some (going new f) → ((t : List ℕ) (g : Escape) → quoted (Some (going t g)) cs ≡ Some (going new f) → run strict (Ok (state (in_string t g) fs)) cs ≡ Ok (state (in_string new f) fs)) → run strict (Ok (state (in_string old e) fs)) (c ∷ cs) ≡ Ok (state (in_string new f) fs)
    go None s h more = let z : None ≡ Some (going new f) = sym (quoted_none cs) ∙ h in cc
    go (Some (closed t)) s h more = absurd (closed_stays t new f cs h)
    go (Some (going t g)) s h more = rw s (more t g h)

key_run : (es : Entries) (cs old new : List ℕ) (e f : Escape) → quoted (Some (going old e)) cs ≡ Some (going new f) → (fs : List Frame) → run strict (Ok (state (in_key es old e) fs)) cs ≡ Ok (state (in_key es new f) fs)
key_run es [] old new e f h fs =
    let a : old ≡ new = cc in
    let b : e ≡ f = cc in
    rw (a, b) refl
key_run es (c ∷ cs) old new e f h fs = go (quote_step old e c) refl h (λ t g k. key_run es cs t new g f k fs)
  where
    go : (q : Option Quote) → quote_step old e c ≡ q → quoted q cs ≡ Some (going new f) → ((t : List ℕ) (g : Escape) → quoted (Some (going t g)) cs ≡ Some (going new f) → run strict (Ok (state (in_key es t g) fs)) cs ≡ Ok (state (in_key es new f) fs)) → run strict (Ok (state (in_key es old e) fs)) (c ∷ cs) ≡ Ok (state (in_key es new f) fs)
    go None s h more = let z : None ≡ Some (going new f) = sym (quoted_none cs) ∙ h in cc
    go (Some (closed t)) s h more = absurd (closed_stays t new f cs h)
    go (Some (going t g)) s h more = rw s (more t g h)

-- ASCII characters, which are their bytes
taken_ascii : (cs old new before after : List ℕ) (e f : Escape) → AllByRecursion (λ c. c < 128) cs → before ≡ cs ++ after → quoted (Some (going old e)) cs ≡ Some (going new f) → TakesQuoted old e new f before after
taken_ascii cs old new before after e f small split h =
    let same : encode_utf8_all cs ≡ cs = encodes-IsAscii cs (IsAscii-from_all cs (All-from_recursion (λ c. c < 128) cs small)) in
    let here : before ≡ encode_utf8_all cs ++ after = split ∙ ap (λ x. x ++ after) (sym same) in
    ((cs, here, string_run cs old new e f h), λ es. (cs, here, key_run es cs old new e f h))

-- DIGITS

digit_small : (c : ℕ) → digit_value c < 16 → c < 128
digit_small c h = grind (arith, nat_tests)

-- four digits, written out
pub record Four (n : ℕ) (before after : List ℕ) : Type 0 where
  pub a : ℕ
  pub b : ℕ
  pub c : ℕ
  pub d : ℕ
  pub text : before ≡ a ∷ b ∷ c ∷ d ∷ after
  pub small_a : digit_value a < 16
  pub small_b : digit_value b < 16
  pub small_c : digit_value c < 16
  pub small_d : digit_value d < 16
  pub is : n ≡ 16 * (16 * (16 * digit_value a + digit_value b) + digit_value c) + digit_value d

four_of : (n : ℕ) (before after : List ℕ) → IsHex 4 0 n before after → Four n before after
four_of n before after (a, m, p, la, (b, m', q, lb, (c, m'', r, lc, (d, m''', s, ld, (e, t))))) = record {
  a = a;
  b = b;
  c = c;
  d = d;
  text = p ∙ ap (λ x. a ∷ x) (q ∙ ap (λ x. b ∷ x) (r ∙ ap (λ x. c ∷ x) (s ∙ ap (λ x. d ∷ x) t)));
  small_a = la;
  small_b = lb;
  small_c = lc;
  small_d = ld;
  is = sum (digit_value a) (digit_value b) (digit_value c) (digit_value d) e;
}
  where
    sum : (x y z w : ℕ) → n ≡ 16 * (16 * (16 * (16 * 0 + x) + y) + z) + w → n ≡ 16 * (16 * (16 * x + y) + z) + w
    sum x y z w e = omega arith

-- a text may be cut behind four digits
pub hex_cut : (n : ℕ) (bytes after : List ℕ) → IsUtf8 bytes → IsHex 4 0 n bytes after → IsCharBoundary bytes 4
hex_cut n bytes after u h =
    let f = four_of n bytes after h in
    let front : take 4 bytes ≡ f.a ∷ f.b ∷ f.c ∷ f.d ∷ [] = ap (take 4) f.text in
    let small : AllByRecursion (λ c. c < 128) (f.a ∷ f.b ∷ f.c ∷ f.d ∷ []) = (digit_small f.a f.small_a, (digit_small f.b f.small_b, (digit_small f.c f.small_c, (digit_small f.d f.small_d, tt)))) in
    let ascii : IsAscii (take 4 bytes) = subst IsAscii (sym front) (IsAscii-from_all (f.a ∷ f.b ∷ f.c ∷ f.d ∷ []) (All-from_recursion (λ c. c < 128) (f.a ∷ f.b ∷ f.c ∷ f.d ∷ []) small)) in
    let long : 4 ≤ length bytes = omega (arith, ap length f.text) in
    IsCharBoundary-from_take bytes 4 u long (IsUtf8-from_ascii (take 4 bytes) ascii)

-- THE STEPS OF A UNIT

unit0_on : (text : List ℕ) (c : ℕ) → digit_value c < 16 → quote_step text Unit0 c ≡ Some (going text (Unit1 (digit_value c)))
unit0_on text c h = rw (lt_to (digit_value c) 16 h) refl

unit1_on : (text : List ℕ) (v c : ℕ) → digit_value c < 16 → is_in_range 0xDC 0xDF (16 * v + digit_value c) ≡ false → quote_step text (Unit1 v) c ≡ Some (going text (Unit2 (16 * v + digit_value c)))
unit1_on text v c h r = rw (lt_to (digit_value c) 16 h, r) refl

unit2_on : (text : List ℕ) (v c : ℕ) → digit_value c < 16 → quote_step text (Unit2 v) c ≡ Some (going text (Unit3 (16 * v + digit_value c)))
unit2_on text v c h = rw (lt_to (digit_value c) 16 h) refl

unit3_on : (text : List ℕ) (v c : ℕ) → digit_value c < 16 → quote_step text (Unit3 v) c ≡ first_unit text (16 * v + digit_value c)
unit3_on text v c h = rw (lt_to (digit_value c) 16 h) refl

low0_on : (text : List ℕ) (s c : ℕ) → digit_value c ≡ 13 → quote_step text (Low0 s) c ≡ Some (going text (Low1 s))
low0_on text s c h = rw h refl

low1_on : (text : List ℕ) (s c : ℕ) → digit_value c < 16 → is_in_range 0xDC 0xDF (0xD0 + digit_value c) ≡ true → quote_step text (Low1 s) c ≡ Some (going text (Low2 s (0xD0 + digit_value c)))
low1_on text s c h r = rw (lt_to (digit_value c) 16 h, r) refl

low2_on : (text : List ℕ) (s v c : ℕ) → digit_value c < 16 → quote_step text (Low2 s v) c ≡ Some (going text (Low3 s (16 * v + digit_value c)))
low2_on text s v c h = rw (lt_to (digit_value c) 16 h) refl

low3_on : (text : List ℕ) (s v c : ℕ) → digit_value c < 16 → quote_step text (Low3 s v) c ≡ quote_spelled text (Some (surrogate_pair_char s (16 * v + digit_value c)))
low3_on text s v c h = rw (lt_to (digit_value c) 16 h) refl

outside_range : (lo hi c : ℕ) → (c < lo) ⊎ (hi < c) → is_in_range lo hi c ≡ false
outside_range lo hi c h = grind (arith, nat_tests)

inside_range : (lo hi c : ℕ) → lo ≤ c → c ≤ hi → is_in_range lo hi c ≡ true
inside_range lo hi c h k = grind (arith, nat_tests)

-- `\u` and the digits of a first unit
first_steps : (text : List ℕ) (n : ℕ) (before after : List ℕ) → (f : Four n before after) → (n < 0xDC00) ⊎ (0xDFFF < n) → quoted (Some (going text Outside)) (92 ∷ 117 ∷ f.a ∷ f.b ∷ f.c ∷ f.d ∷ []) ≡ first_unit text n
first_steps text n before after f ok =
    ap (λ q. quoted q (f.b ∷ f.c ∷ f.d ∷ [])) (unit0_on text f.a f.small_a)
    ∙ ap (λ q. quoted q (f.c ∷ f.d ∷ [])) (unit1_on text (digit_value f.a) f.b f.small_b (outside_range 0xDC 0xDF (16 * digit_value f.a + digit_value f.b) (no_low (digit_value f.a) (digit_value f.b) (digit_value f.c) (digit_value f.d) f.is f.small_c f.small_d ok)))
    ∙ ap (λ q. quoted q (f.d ∷ [])) (unit2_on text (16 * digit_value f.a + digit_value f.b) f.c f.small_c)
    ∙ unit3_on text (16 * (16 * digit_value f.a + digit_value f.b) + digit_value f.c) f.d f.small_d
    ∙ ap (first_unit text) (sym f.is)
  where
    no_low : (x y z w : ℕ) → n ≡ 16 * (16 * (16 * x + y) + z) + w → z < 16 → w < 16 → (n < 0xDC00) ⊎ (0xDFFF < n) → (16 * x + y < 0xDC) ⊎ (0xDF < 16 * x + y)
    no_low x y z w e lz lw (inl l) = inl (omega arith)
    no_low x y z w e lz lw (inr l) = inr (omega arith)

-- and those of a second one
second_steps : (text : List ℕ) (h n : ℕ) (before after : List ℕ) → (f : Four n before after) → 0xDC00 ≤ n → n ≤ 0xDFFF → quoted (Some (going text (High h))) (92 ∷ 117 ∷ f.a ∷ f.b ∷ f.c ∷ f.d ∷ []) ≡ quote_spelled text (Some (surrogate_pair_char h n))
second_steps text h n before after f l m =
    ap (λ q. quoted q (f.b ∷ f.c ∷ f.d ∷ [])) (low0_on text h f.a (first (digit_value f.a) (digit_value f.b) (digit_value f.c) (digit_value f.d) f.is f.small_a f.small_b f.small_c f.small_d))
    ∙ ap (λ q. quoted q (f.c ∷ f.d ∷ [])) (low1_on text h f.b f.small_b (let r = second (digit_value f.a) (digit_value f.b) (digit_value f.c) (digit_value f.d) f.is f.small_a f.small_b f.small_c f.small_d in inside_range 0xDC 0xDF (0xD0 + digit_value f.b) r.0 r.1))
    ∙ ap (λ q. quoted q (f.d ∷ [])) (low2_on text h (0xD0 + digit_value f.b) f.c f.small_c)
    ∙ low3_on text h (16 * (0xD0 + digit_value f.b) + digit_value f.c) f.d f.small_d
    ∙ ap (λ x. quote_spelled text (Some (surrogate_pair_char h x))) (whole (digit_value f.a) (digit_value f.b) (digit_value f.c) (digit_value f.d) f.is f.small_a f.small_b f.small_c f.small_d)
  where
    first : (x y z w : ℕ) → n ≡ 16 * (16 * (16 * x + y) + z) + w → x < 16 → y < 16 → z < 16 → w < 16 → x ≡ 13
    first x y z w e lx ly lz lw = omega arith

    second : (x y z w : ℕ) → n ≡ 16 * (16 * (16 * x + y) + z) + w → x < 16 → y < 16 → z < 16 → w < 16 → (0xDC ≤ 0xD0 + y) × (0xD0 + y ≤ 0xDF)
    second x y z w e lx ly lz lw = (omega arith, omega arith)

    whole : (x y z w : ℕ) → n ≡ 16 * (16 * (16 * x + y) + z) + w → x < 16 → y < 16 → z < 16 → w < 16 → 16 * (16 * (0xD0 + y) + z) + w ≡ n
    whole x y z w e lx ly lz lw = omega arith

-- `\u` and four digits are ASCII
unit_ascii : (n : ℕ) (before after : List ℕ) (f : Four n before after) → AllByRecursion (λ c. c < 128) (92 ∷ 117 ∷ f.a ∷ f.b ∷ f.c ∷ f.d ∷ [])
unit_ascii n before after f = (lit< tt, (lit< tt, (digit_small f.a f.small_a, (digit_small f.b f.small_b, (digit_small f.c f.small_c, (digit_small f.d f.small_d, tt))))))

-- WHOLE ESCAPES

first_scalar : (text : List ℕ) (c : ℕ) → is_high_surrogate c ≡ false → first_unit text c ≡ Some (going (text ++ encode_utf8 c) Outside)
first_scalar text c h = rw h refl

scalar_range : (c : ℕ) → IsScalar c → ((c < 0xDC00) ⊎ (0xDFFF < c)) × (is_high_surrogate c ≡ false)
scalar_range c h = elim (cases_lt c 0xD800) [
  | inl l ↦ (inl (omega arith), outside_range 0xD800 0xDBFF c (inl l))
  | inr g ↦ (let m : 0xDFFF < c = above c h g in (inr m, outside_range 0xD800 0xDBFF c (inr (omega arith))))
]
  where
    above : (c : ℕ) → IsScalar c → 0xD800 ≤ c → 0xDFFF < c
    above c h g = grind (arith, nat_tests)

one_taken : (old : List ℕ) (c : ℕ) (before after : List ℕ) → IsScalar c → IsUnit c before after → TakesQuoted old Outside (old ++ encode_utf8 c) Outside before after
one_taken old c before after k (m, q, hex) =
    let f = four_of c m after hex in
    let r = scalar_range c k in
    taken_ascii (92 ∷ 117 ∷ f.a ∷ f.b ∷ f.c ∷ f.d ∷ []) old (old ++ encode_utf8 c) before after Outside Outside
    (unit_ascii c m after f)
    (q ∙ ap (λ x. 92 ∷ 117 ∷ x) f.text)
    (first_steps old c m after f r.0 ∙ first_scalar old c r.1)

two_taken : (old : List ℕ) (high low : ℕ) (before mid after : List ℕ) → is_high_surrogate high ≡ true → is_low_surrogate low ≡ true → IsUnit high before mid → IsUnit low mid after → TakesQuoted old Outside (old ++ encode_utf8 (surrogate_pair_char high low)) Outside before after
two_taken old high low before mid after h l (m, q, hex) (m', q', hex') =
    let f = four_of high m mid hex in
    let g = four_of low m' after hex' in
    let a = is_range 0xD800 0xDBFF high h in
    let b = is_range 0xDC00 0xDFFF low l in
    let text : before ≡ (92 ∷ 117 ∷ f.a ∷ f.b ∷ f.c ∷ f.d ∷ 92 ∷ 117 ∷ g.a ∷ g.b ∷ g.c ∷ g.d ∷ []) ++ after = q ∙ ap (λ x. 92 ∷ 117 ∷ x) f.text ∙ ap (λ x. 92 ∷ 117 ∷ f.a ∷ f.b ∷ f.c ∷ f.d ∷ x) (q' ∙ ap (λ x. 92 ∷ 117 ∷ x) g.text) in
    let one : quoted (Some (going old Outside)) (92 ∷ 117 ∷ f.a ∷ f.b ∷ f.c ∷ f.d ∷ []) ≡ Some (going old (High high)) = first_steps old high m mid f (inl (omega arith)) ∙ high_unit old high h in
    taken_ascii ((92 ∷ 117 ∷ f.a ∷ f.b ∷ f.c ∷ f.d ∷ []) ++ (92 ∷ 117 ∷ g.a ∷ g.b ∷ g.c ∷ g.d ∷ [])) old (old ++ encode_utf8 (surrogate_pair_char high low)) before after Outside Outside
    (joined (92 ∷ 117 ∷ f.a ∷ f.b ∷ f.c ∷ f.d ∷ []) (92 ∷ 117 ∷ g.a ∷ g.b ∷ g.c ∷ g.d ∷ []) (unit_ascii high m mid f) (unit_ascii low m' after g))
    text
    (quoted_append (Some (going old Outside)) (92 ∷ 117 ∷ f.a ∷ f.b ∷ f.c ∷ f.d ∷ []) (92 ∷ 117 ∷ g.a ∷ g.b ∷ g.c ∷ g.d ∷ [])
    ∙ ap (λ o. quoted o (92 ∷ 117 ∷ g.a ∷ g.b ∷ g.c ∷ g.d ∷ [])) one
    ∙ second_steps old high low m' after g b.0 b.1)
  where
    high_unit : (text : List ℕ) (n : ℕ) → is_high_surrogate n ≡ true → first_unit text n ≡ Some (going text (High n))
    high_unit text n h = rw h refl

    joined : (xs ys : List ℕ) → AllByRecursion (λ c. c < 128) xs → AllByRecursion (λ c. c < 128) ys → AllByRecursion (λ c. c < 128) (xs ++ ys)
    joined [] ys h k = k
    joined (x ∷ xs) ys h k = (h.0, joined xs ys h.1 k)

not_is : (e n : ℕ) → n < 128 → 128 ≤ e → (e == n) ≡ false
not_is e n l g = grind (arith, nat_tests)

pub short_small : (e c : ℕ) → short_escape e ≡ Some c → e < 128
short_small e c h = elim (cases_lt e 128) [ inl l ↦ l | inr g ↦ absurd (never g) ]
  where
    never : 128 ≤ e → ⊥
    never g =
        let z : None ≡ Some c = rw (not_is e 34 (lit< tt) g, not_is e 92 (lit< tt) g, not_is e 47 (lit< tt) g, not_is e 98 (lit< tt) g, not_is e 102 (lit< tt) g, not_is e 110 (lit< tt) g, not_is e 114 (lit< tt) g, not_is e 116 (lit< tt) g) at h in
        cc

short_taken : (old : List ℕ) (e c : ℕ) (before after : List ℕ) → short_escape e ≡ Some c → before ≡ 92 ∷ e ∷ after → TakesQuoted old Outside (old ++ encode_utf8 c) Outside before after
short_taken old e c before after s q =
    taken_ascii (92 ∷ e ∷ []) old (old ++ encode_utf8 c) before after Outside Outside
    (lit< tt, (short_small e c s, tt))
    q
    (step (e == 117) refl)
  where
    step : (b : Bool) → (e == 117) ≡ b → quote_step old Slash e ≡ Some (going (old ++ encode_utf8 c) Outside)
    step true h =
        let same : e ≡ 117 = is_eq e 117 h in
        let z : None ≡ Some c = subst (λ x. short_escape x ≡ Some c) same s in
        cc
    step false h = rw (h, s) refl

-- a whole escape takes the string on by its character
pub escape_taken : (old : List ℕ) (c : ℕ) (before after : List ℕ) → IsEscape c before after → TakesQuoted old Outside (old ++ encode_utf8 c) Outside before after
escape_taken old c before after (plain h q, (tail, p)) =
    let same : c ≡ 92 = (let z = sym q ∙ p in cc) in
    let z : false ≡ true = subst (λ x. is_plain x ≡ true) same h in
    cc
escape_taken old c before after (short e s q, w) = short_taken old e c before after s q
escape_taken old c before after (one_unit k u, w) = one_taken old c before after k u
escape_taken old c before after (two_units high low mid h l e u v, w) =
    subst (λ x. TakesQuoted old Outside (old ++ encode_utf8 x) Outside before after) (sym e) (two_taken old high low before mid after h l u v)

-- what stands behind it is shorter
unit_shorter : (n : ℕ) (before after : List ℕ) → IsUnit n before after → length after < length before
unit_shorter n before after (m, q, hex) =
    let f = four_of n m after hex in
    omega (arith, ap length q, ap length f.text)

pub escape_shorter : (c : ℕ) (before after : List ℕ) → IsEscape c before after → length after < length before
escape_shorter c before after (plain h q, w) = omega (arith, ap length q)
escape_shorter c before after (short e s q, w) = omega (arith, ap length q)
escape_shorter c before after (one_unit k u, w) = unit_shorter c before after u
escape_shorter c before after (two_units high low mid h l e u v, w) = omega (arith, unit_shorter high before mid u, unit_shorter low mid after v)

-- AN ESCAPE THAT IS FOUND

-- a fact that follows where there is a value
pub if_some : {A : Type 0} (o : Option A) (P Q : A → Type 0) → ((a : A) → P a → Q a) → IfSome o P → IfSome o Q
if_some None P Q f h = tt
if_some (Some a) P Q f h = f a h

-- from a first unit and what follows it
pub unit_escape : (u c : ℕ) (before mid after : List ℕ) → IsUnit u before mid → UnitEnds u c mid after → IsEscape c before after
unit_escape u c before mid after (m, q, hex) (inl w) =
    (one_unit (subst IsScalar (sym w.0) w.1) (subst (λ x. IsUnit c before x) w.2 (subst (λ x. IsUnit x before mid) (sym w.0) (m, q, hex))), (117 ∷ m, q))
unit_escape u c before mid after (m, q, hex) (inr (h, (low, second, l, e))) = (two_units u low mid h l e (m, q, hex) second, (117 ∷ m, q))

pub short_is : (e c : ℕ) (before tail after : List ℕ) → short_escape e ≡ Some c → before ≡ 92 ∷ tail → tail ≡ encode_utf8 e ++ after → IsEscape c before after
short_is e c before tail after s q r =
    let one : tail ≡ e ∷ after = r ∙ ap (λ x. x ++ after) (encode_ascii e (short_small e c s)) in
    (short e s (q ∙ ap (λ x. 92 ∷ x) one), (tail, q))

-- PLAIN CHARACTERS, THEN AN ESCAPE

pub plain_shorter : (old new before after : List ℕ) → MovesPlain old new before after → length after ≤ length before
plain_shorter old new before after m = omega (arith, ap length m.1, length-append (encode_utf8_all m.0) after)
