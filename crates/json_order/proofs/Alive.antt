-- From every state on some characters complete a text: what is open is closed, and a key is made longer than all others.
use Rattle.std.specs.Prelude.{nat_lt, encode_utf8, encode_utf8_all}
use Rattle.std.specs.List.{AllByRecursion}
use Rattle.std.specs.Str.{all_scalars, bytes_eq}
use Rattle.std.specs.Char.Utf16.{surrogate_pair_char}
use Rattle.std.specs.Char.{IsScalar}
use Rattle.std.proofs.Common.{ℕ, zero, suc, ◌+◌, ◌*◌, ◌<◌, ◌≤◌, ◌≡◌, ◌⊎◌, inl, inr, Bool, true, false, not, ◌&&◌, ◌||◌, List, [], ◌∷◌, ◌++◌, length, refl, sym, ap, arith, length-append}
use Rattle.std.proofs.lemmas.Slice.Eq.{bytes_eq-Decides}
use Rattle.std.proofs.lemmas.Str.{encode_ascii}
use Rattle.json_order.specs.Json.{Json, null, number, string, array, object, no_items, item, no_members, member}
use Rattle.json_order.specs.Seen.{items_with, members_with}
use Rattle.json_order.specs.Grammar.{Rules, plain, AreCharacters, has_key, may_follow}
use Rattle.json_order.specs.private.Machine.{Entries, entry_keys, Place, at_value, at_first_item, behind, at_first_key, at_next_key, in_key, behind_key, in_string, in_number, in_word, Frame, in_list, in_object, State, state, IsFine, IsFinePlace}
use Rattle.json_order.specs.declared.place.Escape.{Escape}
use Rattle.json_order.specs.declared.place.Escape.TheVariants.{Outside, Slash, Unit0, Unit1, Unit2, Unit3, High, HighSlash, Low0, Low1, Low2, Low3}
use Rattle.json_order.specs.declared.place.Part.{Part}
use Rattle.json_order.specs.declared.place.Part.TheVariants.{Minus, Zero, Whole, Dot, Fraction, Mark, Sign, Exponent}
use Rattle.json_order.proofs.Language.{NumberRest, UnitRest, LowRest, EscapeRest, FirstCharacter, StringRest, Closes, Completes}
use Rattle.json_order.proofs.Spaces.{none_spaced}
use Rattle.json_order.proofs.Strings.{scalar_is, low_from, high_from, lt_from, lt_not}

abbrev pub Alive : Rules → State → Type 0
Alive r s = (rest : List ℕ) × (t : Json) × (all_scalars rest ≡ true) × Completes r s rest t

-- WHAT CLOSES THE FRAMES

abbrev Closed : Rules → List Frame → Json → Type 0
Closed r fs v = (rest : List ℕ) × (t : Json) × (all_scalars rest ≡ true) × Closes r fs v rest t

closes : (r : Rules) (fs : List Frame) (v : Json) → Closed r fs v
closes r [] v = ([], v, refl, (none_spaced [], refl))
closes r (in_list vs ∷ fs) v =
    let c = closes r fs (array (items_with vs (item v no_items))) in
    (93 ∷ c.0, c.1, c.2, (no_items, 93 ∷ c.0, c.0, none_spaced (93 ∷ c.0), refl, c.3))
closes r (in_object es key ∷ fs) v =
    let c = closes r fs (object (members_with es (member key v no_members))) in
    (125 ∷ c.0, c.1, c.2, (no_members, 125 ∷ c.0, c.0, none_spaced (125 ∷ c.0), refl, c.3))

-- a null where a value may begin
value_alive : (r : Rules) (fs : List Frame) → Alive r (state at_value fs)
value_alive r fs =
    let c = closes r fs null in
    (110 ∷ 117 ∷ 108 ∷ 108 ∷ c.0, c.1, c.2, (110 ∷ 117 ∷ 108 ∷ 108 ∷ c.0, none_spaced (110 ∷ 117 ∷ 108 ∷ 108 ∷ c.0), (null, c.0, refl, c.3)))

behind_key_alive : (r : Rules) (es : Entries) (key : List ℕ) (fs : List Frame) → Alive r (state (behind_key es key) fs)
behind_key_alive r es key fs =
    let c = value_alive r (in_object es key ∷ fs) in
    (58 ∷ c.0, c.1, c.2, (58 ∷ c.0, c.0, none_spaced (58 ∷ c.0), refl, c.3))

-- LETTERS

letters : ℕ → List ℕ
letters zero = []
letters (suc n) = 97 ∷ letters n

letters_plain : (n : ℕ) (k : List ℕ) → AreCharacters (letters n) (letters n ++ (34 ∷ k)) k
unfolding letters
letters_plain zero k = refl
letters_plain (suc n) k = (letters n ++ (34 ∷ k), plain refl refl, letters_plain n k)

letters_scalars : (n : ℕ) (k : List ℕ) → all_scalars k ≡ true → all_scalars (letters n ++ (34 ∷ k)) ≡ true
unfolding letters
letters_scalars zero k h = h
letters_scalars (suc n) k h = letters_scalars n k h

letters_length : (n : ℕ) → length (encode_utf8_all (letters n)) ≡ n
unfolding letters
letters_length zero = refl
letters_length (suc n) =
    let e = length-append (encode_utf8 97) (encode_utf8_all (letters n)) in
    let a = ap length (encode_ascii 97 (omega arith)) in
    let i = letters_length n in
    omega (arith, a)

-- THE END OF AN ESCAPE

abbrev EscapeEnds : Escape → Type 0
EscapeEnds e = (c : ℕ) × (ds : List ℕ) × (all_scalars ds ≡ true) × ((after : List ℕ) → EscapeRest e c (ds ++ after) after)

-- `\udc00`
low_unit : (s : ℕ) (after : List ℕ) → LowRest s 4 0 (surrogate_pair_char s 0xDC00) (100 ∷ 99 ∷ 48 ∷ 48 ∷ after) after
low_unit s after = (0xDC00, (100, 99 ∷ 48 ∷ 48 ∷ after, refl, omega arith, (99, 48 ∷ 48 ∷ after, refl, omega arith, (48, 48 ∷ after, refl, omega arith, (48, after, refl, omega arith, (refl, refl))))), refl, refl)

high_ends : (s : ℕ) → IsFine (High s) → EscapeEnds (High s)
high_ends s h = (surrogate_pair_char s 0xDC00, 92 ∷ 117 ∷ 100 ∷ 99 ∷ 48 ∷ 48 ∷ [], refl, λ after. (100 ∷ 99 ∷ 48 ∷ 48 ∷ after, refl, low_unit s after))

-- after the last digit of a first unit
unit_ends : (u : ℕ) → u < 0x10000 → ((u < 0xDC00) ⊎ (0xDFFF < u)) → (c : ℕ) × (ds : List ℕ) × (all_scalars ds ≡ true) × ((after : List ℕ) → UnitRest u c (ds ++ after) after)
unit_ends u l (inr h) = (u, [], refl, λ after. inl (refl, scalar_is u l (inr h), refl))
unit_ends u l (inl h) = go (nat_lt u 0xD800) refl
  where
    go : (b : Bool) → nat_lt u 0xD800 ≡ b → (c : ℕ) × (ds : List ℕ) × (all_scalars ds ≡ true) × ((after : List ℕ) → UnitRest u c (ds ++ after) after)
    go true e = (u, [], refl, λ after. inl (refl, scalar_is u l (inl (lt_from u 0xD800 e)), refl))
    go false e =
        let m = lt_not u 0xD800 e in (
          surrogate_pair_char u 0xDC00,
          92 ∷ 117 ∷ 100 ∷ 99 ∷ 48 ∷ 48 ∷ [],
          refl,
          λ after. inr (high_from u m (omega arith), (let w = low_unit u after in (w.0, (100 ∷ 99 ∷ 48 ∷ 48 ∷ after, refl, w.1), w.2, w.3))),
        )

-- a `0` for each digit that is missing
unit3_ends : (v : ℕ) → IsFine (Unit3 v) → EscapeEnds (Unit3 v)
unit3_ends v (l, h) =
    let u = unit_ends (16 * v + 0) (omega arith) (elim h [ inl a ↦ inl (omega arith) | inr b ↦ inr (omega arith) ]) in
    (u.0, 48 ∷ u.1, u.2, λ after. (16 * v + 0, u.1 ++ after, (48, u.1 ++ after, refl, omega arith, (refl, refl)), u.3 after))

unit2_ends : (v : ℕ) → IsFine (Unit2 v) → EscapeEnds (Unit2 v)
unit2_ends v (l, h) =
    let u = unit3_ends (16 * v + 0) (omega arith, elim h [ inl a ↦ inl (omega arith) | inr b ↦ inr (omega arith) ]) in
    (u.0, 48 ∷ u.1, u.2, λ after. let w = u.3 after in (w.0, w.1, (48, u.1 ++ after, refl, omega arith, w.2), w.3))

zero_second : (v : ℕ) → v < 16 → (16 * v + 0 < 0xDC) ⊎ (0xDF < 16 * v + 0)
zero_second v h = go (nat_lt v 14) refl
  where
    go : (b : Bool) → nat_lt v 14 ≡ b → (16 * v + 0 < 0xDC) ⊎ (0xDF < 16 * v + 0)
    go true e = let m = lt_from v 14 e in inl (omega arith)
    go false e = let m = lt_not v 14 e in inr (omega arith)

unit1_ends : (v : ℕ) → IsFine (Unit1 v) → EscapeEnds (Unit1 v)
unit1_ends v l =
    let u = unit2_ends (16 * v + 0) (omega arith, zero_second v l) in
    (u.0, 48 ∷ u.1, u.2, λ after. let w = u.3 after in (w.0, w.1, (48, u.1 ++ after, refl, omega arith, w.2), w.3))

unit0_ends : EscapeEnds Unit0
unit0_ends =
    let u = unit1_ends 0 (omega arith) in
    (u.0, 48 ∷ u.1, u.2, λ after. let w = u.3 after in (w.0, w.1, (48, u.1 ++ after, refl, omega arith, w.2), w.3))

low3_ends : (s v : ℕ) → IsFine (Low3 s v) → EscapeEnds (Low3 s v)
low3_ends s v (a, b, l, h) =
    (surrogate_pair_char s (16 * v + 0), 48 ∷ [], refl, λ after. (16 * v + 0, (48, after, refl, omega arith, (refl, refl)), low_from (16 * v + 0) (omega arith) (omega arith), refl))

low2_ends : (s v : ℕ) → IsFine (Low2 s v) → EscapeEnds (Low2 s v)
low2_ends s v (a, b, l, h) =
    let u = low3_ends s (16 * v + 0) (a, b, omega arith, omega arith) in
    (u.0, 48 ∷ u.1, u.2, λ after. let w = u.3 after in (w.0, (48, u.1 ++ after, refl, omega arith, w.1), w.2, w.3))

low1_ends : (s : ℕ) → IsFine (Low1 s) → EscapeEnds (Low1 s)
low1_ends s h = (surrogate_pair_char s 0xDC00, 99 ∷ 48 ∷ 48 ∷ [], refl, λ after. (0xDC00, (99, 48 ∷ 48 ∷ after, refl, omega arith, (48, 48 ∷ after, refl, omega arith, (48, after, refl, omega arith, (refl, refl)))), refl, refl))

low0_ends : (s : ℕ) → EscapeEnds (Low0 s)
low0_ends s = (surrogate_pair_char s 0xDC00, 100 ∷ 99 ∷ 48 ∷ 48 ∷ [], refl, λ after. low_unit s after)

high_slash_ends : (s : ℕ) → EscapeEnds (HighSlash s)
high_slash_ends s = (surrogate_pair_char s 0xDC00, 117 ∷ 100 ∷ 99 ∷ 48 ∷ 48 ∷ [], refl, λ after. (100 ∷ 99 ∷ 48 ∷ 48 ∷ after, refl, low_unit s after))

slash_ends : EscapeEnds Slash
slash_ends = (34, 34 ∷ [], refl, λ after. inl (34, refl, refl))

-- THE END OF A STRING

pub scalars_append : (ds k : List ℕ) → all_scalars ds ≡ true → all_scalars k ≡ true → all_scalars (ds ++ k) ≡ true
scalars_append [] k a b = b
scalars_append (d ∷ ds) k a b = and_both _ (all_scalars (ds ++ k)) (and_left _ (all_scalars ds) a) (scalars_append ds k (and_right _ (all_scalars ds) a) b)
  where
    and_left : (a b : Bool) → (a && b) ≡ true → a ≡ true
    and_left true b h = refl
    and_left false b h = h

    and_right : (a b : Bool) → (a && b) ≡ true → b ≡ true
    and_right true b h = h
    and_right false b h = cc

    and_both : (a b : Bool) → a ≡ true → b ≡ true → (a && b) ≡ true
    and_both true b x y = y
    and_both false b x y = x

-- the rest of a string with n letters or more
abbrev StringEnds : Escape → ℕ → Type 0
StringEnds e n = (cs : List ℕ) × (n ≤ length (encode_utf8_all cs)) × ((k : List ℕ) → all_scalars k ≡ true → (before : List ℕ) × (all_scalars before ≡ true) × StringRest e cs before k)

outside_ends : (n : ℕ) → StringEnds Outside n
outside_ends n = (letters n, (let e = letters_length n in omega arith), λ k h. (letters n ++ (34 ∷ k), letters_scalars n k h, letters_plain n k))

abbrev FirstEnds : Escape → ℕ → Type 0
FirstEnds e n = (cs : List ℕ) × (n ≤ length (encode_utf8_all cs)) × ((k : List ℕ) → all_scalars k ≡ true → (before : List ℕ) × (all_scalars before ≡ true) × FirstCharacter e cs before k)

first_ends : (e : Escape) (n : ℕ) → EscapeEnds e → FirstEnds e n
first_ends e n (c, ds, s, w) = (
  c ∷ letters n,
  (let l = letters_length n in let a = length-append (encode_utf8 c) (encode_utf8_all (letters n)) in omega arith),
  λ k h. (ds ++ (letters n ++ (34 ∷ k)), scalars_append ds (letters n ++ (34 ∷ k)) s (letters_scalars n k h), (letters n ++ (34 ∷ k), w (letters n ++ (34 ∷ k)), letters_plain n k)),
)

string_ends : (e : Escape) (n : ℕ) → IsFine e → StringEnds e n
string_ends Outside n h = outside_ends n
string_ends Slash n h = first_ends Slash n slash_ends
string_ends Unit0 n h = first_ends Unit0 n unit0_ends
string_ends (Unit1 v) n h = first_ends (Unit1 v) n (unit1_ends v h)
string_ends (Unit2 v) n h = first_ends (Unit2 v) n (unit2_ends v h)
string_ends (Unit3 v) n h = first_ends (Unit3 v) n (unit3_ends v h)
string_ends (High s) n h = first_ends (High s) n (high_ends s h)
string_ends (HighSlash s) n h = first_ends (HighSlash s) n (high_slash_ends s)
string_ends (Low0 s) n h = first_ends (Low0 s) n (low0_ends s)
string_ends (Low1 s) n h = first_ends (Low1 s) n (low1_ends s h)
string_ends (Low2 s v) n h = first_ends (Low2 s v) n (low2_ends s v h)
string_ends (Low3 s v) n h = first_ends (Low3 s v) n (low3_ends s v h)

-- A NEW KEY

total : List (List ℕ) → ℕ
total [] = 0
total (k ∷ ks) = length k + total ks

longer_differs : (a b : List ℕ) → length a < length b → bytes_eq a b ≡ false
longer_differs a b h = go (bytes_eq a b) refl
  where
    go : (x : Bool) → bytes_eq a b ≡ x → bytes_eq a b ≡ false
    go false e = e
    go true e = absurd (let same : a ≡ b = (bytes_eq-Decides a b).0 e in let l : length a ≡ length b = ap length same in omega arith)

new_key : (ks : List (List ℕ)) (key : List ℕ) → total ks < length key → has_key ks key ≡ false
unfolding total
new_key [] key h = refl
new_key (k ∷ ks) key h = or_both (bytes_eq k key) (has_key ks key) (longer_differs k key (omega arith)) (new_key ks key (omega arith))
  where
    or_both : (a b : Bool) → a ≡ false → b ≡ false → (a || b) ≡ false
    or_both false b x y = y
    or_both true b x y = x

follows : (r : Rules) (ks : List (List ℕ)) (key : List ℕ) → total ks < length key → may_follow r ks key ≡ true
follows r ks key h = go r.repeats
  where
    flip : (x : Bool) → x ≡ false → not x ≡ true
    flip true e = sym e
    flip false e = refl

    go : (b : Bool) → (b || not (has_key ks key)) ≡ true
    go true = refl
    go false = flip (has_key ks key) (new_key ks key h)

key_alive : (r : Rules) (es : Entries) (text : List ℕ) (e : Escape) (fs : List Frame) → IsFine e → Alive r (state (in_key es text e) fs)
key_alive r es text e fs fine =
    let s = string_ends e (suc (total (entry_keys es))) fine in
    let whole = text ++ encode_utf8_all s.0 in
    let b = behind_key_alive r es whole fs in
    let w = s.2 b.0 b.2 in
    let l = length-append text (encode_utf8_all s.0) in
    (w.0, b.1, w.1, (s.0, b.0, b.3.0, b.3.1, w.2, follows r (entry_keys es) whole (omega (arith, s.1)), b.3.2, b.3.3, b.3.4))

next_key_alive : (r : Rules) (es : Entries) (fs : List Frame) → Alive r (state (at_next_key es) fs)
next_key_alive r es fs =
    let k = key_alive r es [] Outside fs tt in
    (34 ∷ k.0, k.1, k.2, (encode_utf8_all k.3.0, k.3.3, (34 ∷ k.0, k.3.1, k.3.2, none_spaced (34 ∷ k.0), (k.3.0, k.0, refl, refl, k.3.4), k.3.5, k.3.6, k.3.7), k.3.8))

string_alive : (r : Rules) (text : List ℕ) (e : Escape) (fs : List Frame) → IsFine e → Alive r (state (in_string text e) fs)
string_alive r text e fs fine =
    let s = string_ends e 0 fine in
    let c = closes r fs (string (text ++ encode_utf8_all s.0)) in
    let w = s.2 c.0 c.2 in
    (w.0, c.1, w.1, (s.0, c.0, w.2, c.3))

-- NUMBERS AND WORDS

number_ends : (p : Part) → (more : List ℕ) × NumberRest p more × (all_scalars more ≡ true)
number_ends Minus = (48 ∷ [], (48 ∷ [], [], [], inl (refl, refl), tt, tt, refl), refl)
number_ends Zero = ([], ([], [], tt, tt, refl), refl)
number_ends Whole = ([], ([], [], [], tt, tt, tt, refl), refl)
number_ends Dot = (48 ∷ [], (48 ∷ [], [], (refl, tt), tt, refl), refl)
number_ends Fraction = ([], ([], [], tt, tt, refl), refl)
number_ends Mark = (48 ∷ [], inl (refl, tt), refl)
number_ends Sign = (48 ∷ [], (refl, tt), refl)
number_ends Exponent = ([], tt, refl)

number_alive : (r : Rules) (text : List ℕ) (p : Part) (fs : List Frame) → Alive r (state (in_number text p) fs)
number_alive r text p fs =
    let n = number_ends p in
    let c = closes r fs (number (text ++ n.0)) in
    (n.0 ++ c.0, c.1, scalars_append n.0 c.0 n.2 c.2, (n.0, c.0, n.1, refl, c.3))

ascii_scalars : (ls : List ℕ) → AllByRecursion (λ l. l < 128) ls → all_scalars ls ≡ true
ascii_scalars [] h = refl
ascii_scalars (l ∷ ls) h = let s : IsScalar l = scalar_is l (omega (arith, h.0)) (inl (omega (arith, h.0))) in rw s (ascii_scalars ls h.1)

-- EVERY STATE

pub alive : (r : Rules) (p : Place) (fs : List Frame) → IsFinePlace p → Alive r (state p fs)
alive r at_value fs h = value_alive r fs
alive r at_first_item fs h = let c = closes r fs (array no_items) in (93 ∷ c.0, c.1, c.2, (no_items, c.0, none_spaced (93 ∷ c.0), c.3))
alive r (behind v) fs h = closes r fs v
alive r at_first_key fs h = let c = closes r fs (object no_members) in (125 ∷ c.0, c.1, c.2, (no_members, c.0, none_spaced (125 ∷ c.0), c.3))
alive r (at_next_key es) fs h = next_key_alive r es fs
alive r (in_key es text e) fs h = key_alive r es text e fs h
alive r (behind_key es key) fs h = behind_key_alive r es key fs
alive r (in_string text e) fs h = string_alive r text e fs h
alive r (in_number text p) fs h = number_alive r text p fs
alive r (in_word ls v) fs h = let c = closes r fs v in (ls ++ c.0, c.1, scalars_append ls c.0 (ascii_scalars ls h) c.2, (c.0, refl, c.3))
