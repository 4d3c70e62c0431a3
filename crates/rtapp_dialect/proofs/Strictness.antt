-- A text that spells a JSON value has no comment, no last comma, and no key without a value.
use Rattle.std.specs.Prelude.{◌==◌, ◌&&◌, ◌||◌, not, codes}
use Rattle.std.specs.List.{slice_get}
use Rattle.std.specs.Char.{is_ascii_digit, digit_value}
use Rattle.std.specs.Int.{is_in_range}
use Rattle.std.proofs.Common.{ℕ, zero, suc, ◌+◌, ◌-◌, ◌<◌, ◌*◌, ◌≡◌, ◌⊎◌, inl, inr, Bool, true, false, List, [], ◌∷◌, ◌++◌, length, take, Some, refl, sym, ap, ◌∙◌, subst, arith}
use Rattle.std.proofs.lemmas.Bool.Decides.{nat_tests}
use Rattle.std.proofs.Math.Seq.{take-append_seam}
use Rattle.std.proofs.lemmas.List.{length-append}
use Rattle.std.proofs.lemmas.Option.{slice_get-get_or}
use Rattle.std.proofs.lemmas.Grind.{get_or_at_push}
use Rattle.json_order.specs.Json.{Json, null, boolean, number, string, array, object, Items, no_items, item, Members, no_members, member}
use Rattle.json_order.specs.Grammar.{Rules, is_space, AreSpaces, IsSpaced, AreDigits, SomeDigits, IsInteger, IsFraction, IsPower, IsExponent, IsUnsigned, IsNumber, is_sign, is_mark, is_plain, IsHex, IsUnit, IsCharacter, plain, short, one_unit, two_units, AreCharacters, IsString, IsKey, IsValue, AreItems, AreMoreItems, AreMembers, AreMoreMembers, IsText}
use Rattle.rtapp_dialect.specs.Filling.{opens, closes, quote_after, last_after, inside_after, is_key_place, may_begin, is_curly, string_part}
use Rattle.rtapp_dialect.specs.declared.bracket.Bracket.{Bracket}
use Rattle.rtapp_dialect.specs.declared.bracket.Bracket.TheVariants.{Square, Curly}
use Rattle.rtapp_dialect.specs.declared.spot.Quote.{Quote}
use Rattle.rtapp_dialect.specs.declared.spot.Quote.TheVariants.{Closed, Open, Escaped}
use Rattle.rtapp_dialect.specs.declared.spot.Last.{Last}
use Rattle.rtapp_dialect.specs.declared.spot.Last.TheVariants.{Opening, Comma, Key, Other}

-- c is no `/`, closes no bracket after a comma, and follows no key whose value is missing
abbrev pub goes_on : Last → ℕ → Bool
goes_on Opening c = not (c == 47)
goes_on Comma c = not (c == 47 || closes c)
goes_on Key c = not (c == 47 || (c == 44 || c == 125))
goes_on Other c = not (c == 47)

abbrev pub is_fine : Quote → Last → ℕ → Bool
is_fine Closed last c = goes_on last c
is_fine Open last c = true
is_fine Escaped last c = true

-- no byte is changed by the definitions
abbrev pub IsStrict : Quote → Last → List Bracket → List ℕ → Type 0
IsStrict quote last inside [] = Unit {0}
IsStrict quote last inside (c ∷ cs) =
    (is_fine quote last c ≡ true) × IsStrict (quote_after quote c) (last_after quote last inside c) (inside_after quote inside c) cs

-- BYTES

-- from one state to another
pub at_state : (q r : Quote) (l m : Last) (a b : List Bracket) (cs : List ℕ) → q ≡ r → l ≡ m → a ≡ b → IsStrict r m b cs → IsStrict q l a cs
at_state q r l m a b cs e f g h = rw (e, f, g) h

abbrev pub is_tame : ℕ → Bool
is_tame c = not (is_space c) && (not (c == 34) && (not (c == 47) && (not (opens c) && (not (closes c) && not (c == 44)))))

pub tame_quote : (c : ℕ) → is_tame c ≡ true → quote_after Closed c ≡ Closed
tame_quote c h = grind (arith, nat_tests)

pub tame_last : (last : Last) (inside : List Bracket) (c : ℕ) → is_tame c ≡ true → last_after Closed last inside c ≡ Other
tame_last last inside c h = grind (arith, nat_tests)

pub tame_inside : (inside : List Bracket) (c : ℕ) → is_tame c ≡ true → inside_after Closed inside c ≡ inside
tame_inside inside c h = grind (arith, nat_tests)

pub tame_fine : (last : Last) (c : ℕ) → is_tame c ≡ true → goes_on last c ≡ true
tame_fine Opening c h = grind (arith, nat_tests)
tame_fine Comma c h = grind (arith, nat_tests)
tame_fine Key c h = grind (arith, nat_tests)
tame_fine Other c h = grind (arith, nat_tests)

tame : (last : Last) (inside : List Bracket) (c : ℕ) (cs : List ℕ) → is_tame c ≡ true → IsStrict Closed Other inside cs → IsStrict Closed last inside (c ∷ cs)
tame last inside c cs t h =
    (tame_fine last c t, at_state (quote_after Closed c) Closed (last_after Closed last inside c) Other (inside_after Closed inside c) inside cs (tame_quote c t) (tame_last last inside c t) (tame_inside inside c t) h)

abbrev pub AreTame : List ℕ → Type 0
AreTame [] = Unit {0}
AreTame (c ∷ cs) = (is_tame c ≡ true) × AreTame cs

tames : (inside : List Bracket) (text after : List ℕ) → AreTame text → IsStrict Closed Other inside after → IsStrict Closed Other inside (text ++ after)
tames inside [] after t h = h
tames inside (c ∷ cs) after t h = tame Other inside c (cs ++ after) t.0 (tames inside cs after t.1 h)

-- a text that is not empty
pub tamed : (last : Last) (inside : List Bracket) (c : ℕ) (cs after : List ℕ) → AreTame (c ∷ cs) → IsStrict Closed Other inside after → IsStrict Closed last inside ((c ∷ cs) ++ after)
tamed last inside c cs after t h = tame last inside c (cs ++ after) t.0 (tames inside cs after t.1 h)

-- WHITE SPACE

spaces_are : (c : ℕ) → is_space c ≡ true → (c ≡ 32) ⊎ ((c ≡ 9) ⊎ ((c ≡ 10) ⊎ (c ≡ 13)))
spaces_are c h = grind (arith, nat_tests)

space_fine : (last : Last) (c : ℕ) → is_space c ≡ true → goes_on last c ≡ true
space_fine Opening c h = grind (arith, nat_tests)
space_fine Comma c h = grind (arith, nat_tests)
space_fine Key c h = grind (arith, nat_tests)
space_fine Other c h = grind (arith, nat_tests)

pub space_quote : (c : ℕ) → is_space c ≡ true → quote_after Closed c ≡ Closed
space_quote c h = grind (arith, nat_tests)

pub space_last : (last : Last) (inside : List Bracket) (c : ℕ) → is_space c ≡ true → last_after Closed last inside c ≡ last
space_last last inside c h = rw h refl

pub space_inside : (inside : List Bracket) (c : ℕ) → is_space c ≡ true → inside_after Closed inside c ≡ inside
space_inside inside c h = grind (arith, nat_tests)

space : (last : Last) (inside : List Bracket) (c : ℕ) (cs : List ℕ) → is_space c ≡ true → IsStrict Closed last inside cs → IsStrict Closed last inside (c ∷ cs)
space last inside c cs s h =
    (space_fine last c s, at_state (quote_after Closed c) Closed (last_after Closed last inside c) last (inside_after Closed inside c) inside cs (space_quote c s) (space_last last inside c s) (space_inside inside c s) h)

spaces : (last : Last) (inside : List Bracket) (cs after : List ℕ) → AreSpaces cs → IsStrict Closed last inside after → IsStrict Closed last inside (cs ++ after)
spaces last inside [] after s h = h
spaces last inside (c ∷ cs) after s h = space last inside c (cs ++ after) s.0 (spaces last inside cs after s.1 h)

spaced : (last : Last) (inside : List Bracket) (before after : List ℕ) → IsSpaced before after → IsStrict Closed last inside after → IsStrict Closed last inside before
spaced last inside before after (cs, s, e) h = subst (IsStrict Closed last inside) (sym e) (spaces last inside cs after s h)

-- STRINGS

plain_quote : (c : ℕ) → is_plain c ≡ true → quote_after Open c ≡ Open
plain_quote c h = grind (arith, nat_tests)

hex_quote : (c : ℕ) → digit_value c < 16 → quote_after Open c ≡ Open
hex_quote c h = grind (arith, nat_tests)

hex : (last : Last) (inside : List Bracket) (count high n : ℕ) (before after : List ℕ) → IsHex count high n before after → IsStrict Open last inside after → IsStrict Open last inside before
hex last inside zero high n before after (e, w) h = subst (IsStrict Open last inside) (sym w) h
hex last inside (suc count) high n before after (d, mid, e, s, x) h =
    subst (IsStrict Open last inside) (sym e) (refl, at_state (quote_after Open d) Open last last inside inside mid (hex_quote d s) refl refl (hex last inside count (16 * high + digit_value d) n mid after x h))

unit : (last : Last) (inside : List Bracket) (n : ℕ) (before after : List ℕ) → IsUnit n before after → IsStrict Open last inside after → IsStrict Open last inside before
unit last inside n before after (mid, e, x) h =
    subst (IsStrict Open last inside) (sym e) (refl, (refl, hex last inside 4 0 n mid after x h))

character : (last : Last) (inside : List Bracket) (c : ℕ) (before mid : List ℕ) → IsCharacter c before mid → IsStrict Open last inside mid → IsStrict Open last inside before
character last inside c before mid (plain p e) h =
    subst (IsStrict Open last inside) (sym e) (refl, at_state (quote_after Open c) Open last last inside inside mid (plain_quote c p) refl refl h)
character last inside c before mid (short x s e) h = subst (IsStrict Open last inside) (sym e) (refl, (refl, h))
character last inside c before mid (one_unit s u) h = unit last inside c before mid u h
character last inside c before mid (two_units high low m a b e u v) h =
    unit last inside high before m u (unit last inside low m mid v h)

characters : (last : Last) (inside : List Bracket) (cs before after : List ℕ) → AreCharacters cs before after → IsStrict Closed last inside after → IsStrict Open last inside before
characters last inside [] before after e h = subst (IsStrict Open last inside) (sym e) (refl, h)
characters last inside (c ∷ cs) before after (mid, one, more) h =
    character last inside c before mid one (characters last inside cs mid after more h)

quote_fine : (last : Last) → goes_on last 34 ≡ true
quote_fine Opening = refl
quote_fine Comma = refl
quote_fine Key = refl
quote_fine Other = refl

text_at : (last : Last) (inside : List Bracket) (key : Bool) (bytes before after : List ℕ) → is_key_place last inside ≡ key → IsString bytes before after → IsStrict Closed (string_part key) inside after → IsStrict Closed last inside before
text_at last inside key bytes before after k (cs, mid, e, u, x) h =
    subst (IsStrict Closed last inside) (sym e) (quote_fine last, at_state Open Open (string_part (is_key_place last inside)) (string_part key) inside inside mid refl (ap string_part k) refl (characters (string_part key) inside cs mid after x h))

-- NUMBERS

tame_append : (xs ys : List ℕ) → AreTame xs → AreTame ys → AreTame (xs ++ ys)
tame_append [] ys h k = k
tame_append (x ∷ xs) ys h k = (h.0, tame_append xs ys h.1 k)

digit_tame : (c : ℕ) → is_ascii_digit c ≡ true → is_tame c ≡ true
digit_tame c h = grind (arith, nat_tests)

first_tame : (c : ℕ) → is_in_range 49 57 c ≡ true → is_tame c ≡ true
first_tame c h = grind (arith, nat_tests)

sign_tame : (c : ℕ) → is_sign c ≡ true → is_tame c ≡ true
sign_tame c h = grind (arith, nat_tests)

mark_tame : (c : ℕ) → is_mark c ≡ true → is_tame c ≡ true
mark_tame c h = grind (arith, nat_tests)

same_tame : (c d : ℕ) → c ≡ d → is_tame d ≡ true → is_tame c ≡ true
same_tame c d e h = subst (λ (x : ℕ). is_tame x ≡ true) (sym e) h

digits_tame : (ds : List ℕ) → AreDigits ds → AreTame ds
digits_tame [] h = tt
digits_tame (d ∷ ds) h = (digit_tame d h.0, digits_tame ds h.1)

some_tame : (ds : List ℕ) → SomeDigits ds → AreTame ds
some_tame [] h = absurd h
some_tame (d ∷ ds) h = (digit_tame d h.0, digits_tame ds h.1)

integer_tame : (ds : List ℕ) → IsInteger ds → AreTame ds
integer_tame [] h = absurd h
integer_tame (d ∷ ds) (inl (e, f)) = (same_tame d 48 e refl, subst AreTame (sym f) tt)
integer_tame (d ∷ ds) (inr (r, h)) = (first_tame d r, digits_tame ds h)

fraction_tame : (ds : List ℕ) → IsFraction ds → AreTame ds
fraction_tame [] h = tt
fraction_tame (d ∷ ds) h = (same_tame d 46 h.0 refl, some_tame ds h.1)

power_tame : (ds : List ℕ) → IsPower ds → AreTame ds
power_tame [] h = absurd h
power_tame (d ∷ ds) (inl h) = some_tame (d ∷ ds) h
power_tame (d ∷ ds) (inr (s, h)) = (sign_tame d s, some_tame ds h)

exponent_tame : (ds : List ℕ) → IsExponent ds → AreTame ds
exponent_tame [] h = tt
exponent_tame (d ∷ ds) h = (mark_tame d h.0, power_tame ds h.1)

unsigned_tame : (text : List ℕ) → IsUnsigned text → AreTame text
unsigned_tame text (i, f, e, a, b, x, q) =
    subst AreTame (sym q) (tame_append i (f ++ e) (integer_tame i a) (tame_append f e (fraction_tame f b) (exponent_tame e x)))

pub number_tame : (c : ℕ) (more : List ℕ) → IsNumber (c ∷ more) → AreTame (c ∷ more)
number_tame c more (inl h) = unsigned_tame (c ∷ more) h
number_tame c more (inr (e, h)) = (same_tame c 45 e refl, unsigned_tame more h)

number_at : (last : Last) (inside : List Bracket) (text after : List ℕ) → IsNumber text → IsStrict Closed Other inside after → IsStrict Closed last inside (text ++ after)
number_at last inside [] after n h = absurd n
number_at last inside (c ∷ more) after n h = tamed last inside c more after (number_tame c more n) h

-- BRACKETS

pub back : (b : Bracket) (inside : List Bracket) → length (inside ++ b ∷ []) - 1 ≡ length inside
back b inside = omega (arith, length-append inside (b ∷ []))

top : (b : Bracket) (inside : List Bracket) → slice_get (inside ++ b ∷ []) (length (inside ++ b ∷ []) - 1) ≡ Some b
top b inside =
    let fits : length inside < length (inside ++ b ∷ []) = omega (arith, length-append inside (b ∷ [])) in
    ap (slice_get (inside ++ b ∷ [])) (back b inside) ∙ slice_get-get_or (inside ++ b ∷ []) (length inside) b fits ∙ ap Some (get_or_at_push inside b).1

pub out_of : (b : Bracket) (inside : List Bracket) → take (length (inside ++ b ∷ []) - 1) (inside ++ b ∷ []) ≡ inside
out_of b inside = ap (λ (n : ℕ). take n (inside ++ b ∷ [])) (back b inside) ∙ take-append_seam inside (b ∷ [])

and_false : (b : Bool) → (b && false) ≡ false
and_false true = refl
and_false false = refl

pub no_key : (last : Last) (inside : List Bracket) → is_key_place last (inside ++ Square ∷ []) ≡ false
no_key last inside = ap (λ x. may_begin last && is_curly x) (top Square inside) ∙ and_false (may_begin last)

pub first_key : (inside : List Bracket) → is_key_place Opening (inside ++ Curly ∷ []) ≡ true
first_key inside = ap is_curly (top Curly inside)

pub next_key : (inside : List Bracket) → is_key_place Comma (inside ++ Curly ∷ []) ≡ true
next_key inside = ap is_curly (top Curly inside)

bracket_fine : (last : Last) → (goes_on last 91 ≡ true) × (goes_on last 123 ≡ true)
bracket_fine Opening = (refl, refl)
bracket_fine Comma = (refl, refl)
bracket_fine Key = (refl, refl)
bracket_fine Other = (refl, refl)

-- `]` or `}`
shut_square : (last : Last) (b : Bracket) (inside : List Bracket) (after : List ℕ) → goes_on last 93 ≡ true → IsStrict Closed Other inside after → IsStrict Closed last (inside ++ b ∷ []) (93 ∷ after)
shut_square last b inside after f h =
    (f, at_state Closed Closed Other Other (take (length (inside ++ b ∷ []) - 1) (inside ++ b ∷ [])) inside after refl refl (out_of b inside) h)

shut_curly : (last : Last) (b : Bracket) (inside : List Bracket) (after : List ℕ) → goes_on last 125 ≡ true → IsStrict Closed Other inside after → IsStrict Closed last (inside ++ b ∷ []) (125 ∷ after)
shut_curly last b inside after f h =
    (f, at_state Closed Closed Other Other (take (length (inside ++ b ∷ []) - 1) (inside ++ b ∷ [])) inside after refl refl (out_of b inside) h)

-- VALUES

key_at : (r : Rules) (keys : List (List ℕ)) (key : List ℕ) (last : Last) (inside : List Bracket) (before after : List ℕ) → is_key_place last inside ≡ true → IsKey r keys key before after → IsStrict Closed Other inside after → IsStrict Closed last inside before
key_at r keys key last inside before after k (s, t, c, sp, str, may, sq, e) h =
    spaced last inside before s sp (text_at last inside true key s t k str (spaced Key inside t c sq (subst (IsStrict Closed Key inside) (sym e) (refl, h))))

mutual
  value_at : (r : Rules) (d : ℕ) (v : Json) (last : Last) (inside : List Bracket) (x y : List ℕ) → is_key_place last inside ≡ false → IsValue r d v x y → IsStrict Closed Other inside y → IsStrict Closed last inside x
  value_at r d null last inside x y k e h = subst (IsStrict Closed last inside) (sym e) (tamed last inside 110 (codes "ull") y (refl, (refl, (refl, (refl, tt)))) h)
  value_at r d (boolean true) last inside x y k e h = subst (IsStrict Closed last inside) (sym e) (tamed last inside 116 (codes "rue") y (refl, (refl, (refl, (refl, tt)))) h)
  value_at r d (boolean false) last inside x y k e h = subst (IsStrict Closed last inside) (sym e) (tamed last inside 102 (codes "alse") y (refl, (refl, (refl, (refl, (refl, tt))))) h)
  value_at r d (number text) last inside x y k (n, e) h = subst (IsStrict Closed last inside) (sym e) (number_at last inside text y n h)
  value_at r d (string bytes) last inside x y k s h = text_at last inside false bytes x y k s h
  value_at r d (array items) last inside x y k (lt, (mid, e, its)) h =
      subst (IsStrict Closed last inside) (sym e) ((bracket_fine last).0, items_at r (suc d) items inside mid y its h)
  value_at r d (object members) last inside x y k (lt, (mid, e, ms)) h =
      subst (IsStrict Closed last inside) (sym e) ((bracket_fine last).1, members_at r (suc d) members inside mid y ms h)

  items_at : (r : Rules) (d : ℕ) (items : Items) (inside : List Bracket) (x y : List ℕ) → AreItems r d items x y → IsStrict Closed Other inside y → IsStrict Closed Opening (inside ++ Square ∷ []) x
  items_at r d no_items inside x y sp h =
      spaced Opening (inside ++ Square ∷ []) x (93 ∷ y) sp (shut_square Opening Square inside y refl h)
  items_at r d (item v items) inside x y (s, e, m, sp, val, sq, more) h =
      spaced Opening (inside ++ Square ∷ []) x s sp (value_at r d v Opening (inside ++ Square ∷ []) s e (no_key Opening inside) val (spaced Other (inside ++ Square ∷ []) e m sq (more_items_at r d items inside m y more h)))

  more_items_at : (r : Rules) (d : ℕ) (items : Items) (inside : List Bracket) (x y : List ℕ) → AreMoreItems r d items x y → IsStrict Closed Other inside y → IsStrict Closed Other (inside ++ Square ∷ []) x
  more_items_at r d no_items inside x y e h = subst (IsStrict Closed Other (inside ++ Square ∷ [])) (sym e) (shut_square Other Square inside y refl h)
  more_items_at r d (item v items) inside x y (b, s, e, m, q, sp, val, sq, more) h =
      subst (IsStrict Closed Other (inside ++ Square ∷ [])) (sym q) (refl, spaced Comma (inside ++ Square ∷ []) b s sp (value_at r d v Comma (inside ++ Square ∷ []) s e (no_key Comma inside) val (spaced Other (inside ++ Square ∷ []) e m sq (more_items_at r d items inside m y more h))))

  members_at : (r : Rules) (d : ℕ) (members : Members) (inside : List Bracket) (x y : List ℕ) → AreMembers r d members x y → IsStrict Closed Other inside y → IsStrict Closed Opening (inside ++ Curly ∷ []) x
  members_at r d no_members inside x y sp h =
      spaced Opening (inside ++ Curly ∷ []) x (125 ∷ y) sp (shut_curly Opening Curly inside y refl h)
  members_at r d (member key v members) inside x y (k, s, e, m, kp, sp, val, sq, more) h =
      key_at r [] key Opening (inside ++ Curly ∷ []) x k (first_key inside) kp (spaced Other (inside ++ Curly ∷ []) k s sp (value_at r d v Other (inside ++ Curly ∷ []) s e refl val (spaced Other (inside ++ Curly ∷ []) e m sq (more_members_at r d (key ∷ []) members inside m y more h))))

  more_members_at : (r : Rules) (d : ℕ) (keys : List (List ℕ)) (members : Members) (inside : List Bracket) (x y : List ℕ) → AreMoreMembers r d keys members x y → IsStrict Closed Other inside y → IsStrict Closed Other (inside ++ Curly ∷ []) x
  more_members_at r d keys no_members inside x y e h = subst (IsStrict Closed Other (inside ++ Curly ∷ [])) (sym e) (shut_curly Other Curly inside y refl h)
  more_members_at r d keys (member key v members) inside x y (b, k, s, e, m, q, kp, sp, val, sq, more) h =
      subst (IsStrict Closed Other (inside ++ Curly ∷ [])) (sym q) (refl, key_at r keys key Comma (inside ++ Curly ∷ []) b k (next_key inside) kp (spaced Other (inside ++ Curly ∷ []) k s sp (value_at r d v Other (inside ++ Curly ∷ []) s e refl val (spaced Other (inside ++ Curly ∷ []) e m sq (more_members_at r d (keys ++ key ∷ []) members inside m y more h)))))

pub text_strict : (r : Rules) (v : Json) (cs : List ℕ) → IsText r v cs → IsStrict Closed Other [] cs
text_strict r v cs (s, e, sp, val, sq) =
    spaced Other [] cs s sp (value_at r 0 v Other [] s e refl val (spaced Other [] e [] sq tt))
