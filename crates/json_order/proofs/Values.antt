-- The first character of a value.
use Rattle.std.specs.Prelude.{◌==◌, if◌then◌else◌, codes, encode_utf8_all}
use Rattle.std.proofs.Common.{ℕ, suc, ◌<◌, ◌≤◌, ◌≡◌, ◌≢◌, ◌⊎◌, inl, inr, true, false, List, [], ◌∷◌, ◌++◌, length, refl, ap, subst, arith}
use Rattle.std.proofs.lemmas.Bool.Decides.{nat_tests}
use Rattle.std.specs.Int.{is_in_range}
use Rattle.json_order.specs.Json.{Json, null, boolean, number, string, array, object}
use Rattle.json_order.specs.Grammar.{Rules, is_space, IsNumber, AreCharacters, may_follow, IsValue, AreItems, AreMembers}
use Rattle.json_order.specs.private.Machine.{at_first_item, at_first_key, in_string, in_number, in_word, Frame, state, Move, goes, opens, names, stops, value_move}
use Rattle.json_order.specs.declared.place.Escape.TheVariants.{Outside}
use Rattle.json_order.specs.declared.place.Part.{Part}
use Rattle.json_order.specs.declared.place.Part.TheVariants.{Minus, Zero, Whole}
use Rattle.json_order.proofs.Language.{NumberRest, Closes, BeginsValue, Completes}
use Rattle.json_order.proofs.Spaces.{split}
use Rattle.json_order.proofs.Numbers.{is_range, is_eq, not_eq, number_first, number_minus, number_zero, number_whole}
use Rattle.json_order.proofs.Strings.{range_not}

-- L is what may follow, and the move leads to a state from which just that may follow
abbrev pub Leads : Rules → (List ℕ → Json → Type 0) → Move → Type 0
Leads r L (goes s) = (rest : List ℕ) (t : Json) → (L rest t → Completes r s rest t) × (Completes r s rest t → L rest t)
Leads r L (opens s) = (rest : List ℕ) (t : Json) → (L rest t → (length s.frames < r.limit) × Completes r s rest t) × ((length s.frames < r.limit) × Completes r s rest t → L rest t)
Leads r L (names earlier key s) = (rest : List ℕ) (t : Json) → (L rest t → (may_follow r earlier key ≡ true) × Completes r s rest t) × ((may_follow r earlier key ≡ true) × Completes r s rest t → L rest t)
Leads r L stops = (rest : List ℕ) (t : Json) → ¬ (L rest t)

pub leads_by : (r : Rules) (L M : List ℕ → Json → Type 0) → ((rest : List ℕ) (t : Json) → (L rest t → M rest t) × (M rest t → L rest t)) → (m : Move) → Leads r M m → Leads r L m
leads_by r L M same (goes s) h = λ rest t. (λ w. (h rest t).0 ((same rest t).0 w), λ w. (same rest t).1 ((h rest t).1 w))
leads_by r L M same (opens s) h = λ rest t. (λ w. (h rest t).0 ((same rest t).0 w), λ w. (same rest t).1 ((h rest t).1 w))
leads_by r L M same (names earlier key s) h = λ rest t. (λ w. (h rest t).0 ((same rest t).0 w), λ w. (same rest t).1 ((h rest t).1 w))
leads_by r L M same stops h = λ rest t w. h rest t ((same rest t).0 w)

-- with which character a value begins
abbrev pub FirstOf : Json → ℕ → Type 0
FirstOf null c = c ≡ 110
FirstOf (boolean b) c = (c ≡ 116) ⊎ (c ≡ 102)
FirstOf (number text) c = (c ≡ 45) ⊎ ((48 ≤ c) × (c ≤ 57))
FirstOf (string bytes) c = c ≡ 34
FirstOf (array items) c = c ≡ 91
FirstOf (object ms) c = c ≡ 123

pub value_first : (r : Rules) (d c : ℕ) (rest : List ℕ) (v : Json) (e : List ℕ) → IsValue r d v (c ∷ rest) e → FirstOf v c
value_first r d c rest null e h = let q : c ∷ rest ≡ 110 ∷ 117 ∷ 108 ∷ 108 ∷ e = h in cc
value_first r d c rest (boolean true) e h = let q : c ∷ rest ≡ 116 ∷ 114 ∷ 117 ∷ 101 ∷ e = h in inl cc
value_first r d c rest (boolean false) e h = let q : c ∷ rest ≡ 102 ∷ 97 ∷ 108 ∷ 115 ∷ 101 ∷ e = h in inr cc
value_first r d c rest (number []) e h = absurd h.0
value_first r d c rest (number (x ∷ more)) e h = let q = h.1 in let same : x ≡ c = cc in subst (λ y. (y ≡ 45) ⊎ ((48 ≤ y) × (y ≤ 57))) same (number_first x more h.0)
value_first r d c rest (string bytes) e (cs, mid, q, z, w) = cc
value_first r d c rest (array items) e (l, (mid, q, w)) = cc
value_first r d c rest (object ms) e (l, (mid, q, w)) = cc

pub spaces_are : (c : ℕ) → is_space c ≡ true → (c ≡ 32) ⊎ ((c ≡ 9) ⊎ ((c ≡ 10) ⊎ (c ≡ 13)))
spaces_are c h = grind (arith, nat_tests)

first_not_space : (v : Json) (c : ℕ) → FirstOf v c → is_space c ≡ true → ⊥
first_not_space null c f h = let s = spaces_are c h in omega arith
first_not_space (boolean b) c f h = let s = spaces_are c h in omega arith
first_not_space (number text) c f h = let s = spaces_are c h in omega arith
first_not_space (string bytes) c f h = let s = spaces_are c h in omega arith
first_not_space (array items) c f h = let s = spaces_are c h in omega arith
first_not_space (object ms) c f h = let s = spaces_are c h in omega arith

-- no value begins with white space
pub value_not_space : (r : Rules) (fs : List Frame) (c : ℕ) (rest : List ℕ) (t : Json) → is_space c ≡ true → ¬ (BeginsValue r fs (c ∷ rest) t)
value_not_space r fs c rest t h (v, e, w, k) = first_not_space v c (value_first r (length fs) c rest v e w) h

-- nor with a closing bracket
pub value_not_bracket : (r : Rules) (fs : List Frame) (c : ℕ) (rest : List ℕ) (t : Json) → (c ≡ 93) → ¬ (BeginsValue r fs (c ∷ rest) t)
value_not_bracket r fs c rest t h (v, e, w, k) = go v (value_first r (length fs) c rest v e w)
  where
    go : (v : Json) → FirstOf v c → ⊥
    go null f = omega arith
    go (boolean b) f = omega arith
    go (number text) f = omega arith
    go (string bytes) f = omega arith
    go (array items) f = omega arith
    go (object ms) f = omega arith

-- A VALUE OF EACH KIND

module _ (r : Rules) (fs : List Frame) (c : ℕ) (rest : List ℕ) (t : Json) where
  abbrev Starts : Type 0
  Starts = BeginsValue r fs (c ∷ rest) t

  null_to : c ≡ 110 → (v : Json) (e : List ℕ) → IsValue r (length fs) v (c ∷ rest) e → Closes r fs v e t → Completes r (state (in_word (codes "ull") null) fs) rest t
  null_to h null e w k = let q : c ∷ rest ≡ 110 ∷ 117 ∷ 108 ∷ 108 ∷ e = w in let p : rest ≡ 117 ∷ 108 ∷ 108 ∷ e = cc in (e, p, k)
  null_to h v e w k = absurd (let f = value_first r (length fs) c rest v e w in omega arith)

  null_from : c ≡ 110 → Completes r (state (in_word (codes "ull") null) fs) rest t → Starts
  null_from h (m, q, k) = let p : rest ≡ 117 ∷ 108 ∷ 108 ∷ m = q in let z : c ∷ rest ≡ 110 ∷ 117 ∷ 108 ∷ 108 ∷ m = cc in (null, m, z, k)

  true_to : c ≡ 116 → (v : Json) (e : List ℕ) → IsValue r (length fs) v (c ∷ rest) e → Closes r fs v e t → Completes r (state (in_word (codes "rue") (boolean true)) fs) rest t
  true_to h (boolean true) e w k = let q : c ∷ rest ≡ 116 ∷ 114 ∷ 117 ∷ 101 ∷ e = w in let p : rest ≡ 114 ∷ 117 ∷ 101 ∷ e = cc in (e, p, k)
  true_to h (boolean false) e w k = let q : c ∷ rest ≡ 102 ∷ 97 ∷ 108 ∷ 115 ∷ 101 ∷ e = w in let p : c ≡ 102 = cc in absurd (omega arith)
  true_to h v e w k = absurd (let f = value_first r (length fs) c rest v e w in omega arith)

  true_from : c ≡ 116 → Completes r (state (in_word (codes "rue") (boolean true)) fs) rest t → Starts
  true_from h (m, q, k) = let p : rest ≡ 114 ∷ 117 ∷ 101 ∷ m = q in let z : c ∷ rest ≡ 116 ∷ 114 ∷ 117 ∷ 101 ∷ m = cc in (boolean true, m, z, k)

  false_to : c ≡ 102 → (v : Json) (e : List ℕ) → IsValue r (length fs) v (c ∷ rest) e → Closes r fs v e t → Completes r (state (in_word (codes "alse") (boolean false)) fs) rest t
  false_to h (boolean true) e w k = let q : c ∷ rest ≡ 116 ∷ 114 ∷ 117 ∷ 101 ∷ e = w in let p : c ≡ 116 = cc in absurd (omega arith)
  false_to h (boolean false) e w k = let q : c ∷ rest ≡ 102 ∷ 97 ∷ 108 ∷ 115 ∷ 101 ∷ e = w in let p : rest ≡ 97 ∷ 108 ∷ 115 ∷ 101 ∷ e = cc in (e, p, k)
  false_to h v e w k = absurd (let f = value_first r (length fs) c rest v e w in omega arith)

  false_from : c ≡ 102 → Completes r (state (in_word (codes "alse") (boolean false)) fs) rest t → Starts
  false_from h (m, q, k) = let p : rest ≡ 97 ∷ 108 ∷ 115 ∷ 101 ∷ m = q in let z : c ∷ rest ≡ 102 ∷ 97 ∷ 108 ∷ 115 ∷ 101 ∷ m = cc in (boolean false, m, z, k)

  string_to : c ≡ 34 → (v : Json) (e : List ℕ) → IsValue r (length fs) v (c ∷ rest) e → Closes r fs v e t → Completes r (state (in_string [] Outside) fs) rest t
  string_to h (string bytes) e (cs, mid, q, z, w) k = let tail : mid ≡ rest = cc in (cs, e, subst (λ y. AreCharacters cs y e) tail w, subst (λ y. Closes r fs (string y) e t) z k)
  string_to h v e w k = absurd (let f = value_first r (length fs) c rest v e w in omega arith)

  string_from : c ≡ 34 → Completes r (state (in_string [] Outside) fs) rest t → Starts
  string_from h (cs, m, w, k) = (string (encode_utf8_all cs), m, (cs, rest, ap (λ y. y ∷ rest) h, refl, w), k)

  number_to : (p : Part) → ((more : List ℕ) → (IsNumber (c ∷ more) → NumberRest p more)) → (c ≡ 45) ⊎ ((48 ≤ c) × (c ≤ 57)) → (v : Json) (e : List ℕ) → IsValue r (length fs) v (c ∷ rest) e → Closes r fs v e t → Completes r (state (in_number (c ∷ []) p) fs) rest t
  number_to p to h (number []) e w k = absurd w.0
  number_to p to h (number (x ∷ more)) e w k =
      let q = w.1 in let same : x ≡ c = cc in let tail : rest ≡ more ++ e = cc in
      (more, e, to more (subst (λ y. IsNumber (y ∷ more)) same w.0), tail, subst (λ y. Closes r fs (number (y ∷ more)) e t) same k)
  number_to p to h v e w k = absurd (let f = value_first r (length fs) c rest v e w in omega arith)

  number_from : (p : Part) → ((more : List ℕ) → (NumberRest p more → IsNumber (c ∷ more))) → Completes r (state (in_number (c ∷ []) p) fs) rest t → Starts
  number_from p from (more, m, w, q, k) = (number (c ∷ more), m, (from more w, ap (λ y. c ∷ y) q), k)

  array_to : c ≡ 91 → (v : Json) (e : List ℕ) → IsValue r (length fs) v (c ∷ rest) e → Closes r fs v e t → (length fs < r.limit) × Completes r (state at_first_item fs) rest t
  array_to h (array items) e (l, (mid, q, w)) k = let tail : mid ≡ rest = cc in (l, (items, e, subst (λ y. AreItems r (suc (length fs)) items y e) tail w, k))
  array_to h v e w k = absurd (let f = value_first r (length fs) c rest v e w in omega arith)

  array_from : c ≡ 91 → (length fs < r.limit) × Completes r (state at_first_item fs) rest t → Starts
  array_from h (l, (items, e, w, k)) = (array items, e, (l, (rest, ap (λ y. y ∷ rest) h, w)), k)

  object_to : c ≡ 123 → (v : Json) (e : List ℕ) → IsValue r (length fs) v (c ∷ rest) e → Closes r fs v e t → (length fs < r.limit) × Completes r (state at_first_key fs) rest t
  object_to h (object ms) e (l, (mid, q, w)) k = let tail : mid ≡ rest = cc in (l, (ms, e, subst (λ y. AreMembers r (suc (length fs)) ms y e) tail w, k))
  object_to h v e w k = absurd (let f = value_first r (length fs) c rest v e w in omega arith)

  object_from : c ≡ 123 → (length fs < r.limit) × Completes r (state at_first_key fs) rest t → Starts
  object_from h (l, (members, e, w, k)) = (object members, e, (l, (rest, ap (λ y. y ∷ rest) h, w)), k)

  nothing_to : c ≢ 110 → c ≢ 116 → c ≢ 102 → c ≢ 34 → c ≢ 45 → c ≢ 48 → ((c < 49) ⊎ (57 < c)) → c ≢ 91 → c ≢ 123 → (v : Json) → FirstOf v c → ⊥
  nothing_to a b d e f g h i j null w = a w
  nothing_to a b d e f g h i j (boolean x) w = omega arith
  nothing_to a b d e f g h i j (number text) w = omega arith
  nothing_to a b d e f g h i j (string bytes) w = e w
  nothing_to a b d e f g h i j (array items) w = i w
  nothing_to a b d e f g h i j (object ms) w = j w

no_value : (r : Rules) (fs : List Frame) (c : ℕ) → c ≢ 110 → c ≢ 116 → c ≢ 102 → c ≢ 34 → c ≢ 45 → c ≢ 48 → ((c < 49) ⊎ (57 < c)) → c ≢ 91 → c ≢ 123 → (rest : List ℕ) (t : Json) → ¬ (BeginsValue r fs (c ∷ rest) t)
no_value r fs c a b d e f g h i j rest t (v, m, w, k) = nothing_to r fs c rest t a b d e f g h i j v (value_first r (length fs) c rest v m w)

-- EVERY FIRST CHARACTER

abbrev Value : Rules → List Frame → ℕ → List ℕ → Json → Type 0
Value r fs c rest t = BeginsValue r fs (c ∷ rest) t

bracket_leads : (r : Rules) (fs : List Frame) (c : ℕ) → c ≢ 110 → c ≢ 116 → c ≢ 102 → c ≢ 34 → c ≢ 45 → c ≢ 48 → ((c < 49) ⊎ (57 < c)) →
    Leads r (Value r fs c) (if c == 91 then opens (state at_first_item fs) else if c == 123 then opens (state at_first_key fs) else stops)
bracket_leads r fs c a b d e f g i =
    split (λ x. Leads r (Value r fs c) (if x then opens (state at_first_item fs) else if c == 123 then opens (state at_first_key fs) else stops)) (c == 91)
    (λ h rest t. (λ w. array_to r fs c rest t (is_eq c 91 h) w.0 w.1 w.2 w.3, array_from r fs c rest t (is_eq c 91 h)))
    (λ n. split (λ x. Leads r (Value r fs c) (if x then opens (state at_first_key fs) else stops)) (c == 123)
    (λ h rest t. (λ w. object_to r fs c rest t (is_eq c 123 h) w.0 w.1 w.2 w.3, object_from r fs c rest t (is_eq c 123 h)))
    (λ m. no_value r fs c a b d e f g i (not_eq c 91 n) (not_eq c 123 m)))

abbrev NumberMove : List Frame → ℕ → Move
NumberMove fs c =
    if c == 45 then goes (state (in_number (c ∷ []) Minus) fs) else
    if c == 48 then goes (state (in_number (c ∷ []) Zero) fs) else
    if is_in_range 49 57 c then goes (state (in_number (c ∷ []) Whole) fs) else
    if c == 91 then opens (state at_first_item fs) else
    if c == 123 then opens (state at_first_key fs) else stops

range_digit : (c : ℕ) → is_in_range 49 57 c ≡ true → (c ≡ 45) ⊎ ((48 ≤ c) × (c ≤ 57))
range_digit c h = let r = is_range 49 57 c h in inr (omega arith, omega arith)

number_leads : (r : Rules) (fs : List Frame) (c : ℕ) → c ≢ 110 → c ≢ 116 → c ≢ 102 → c ≢ 34 → Leads r (Value r fs c) (NumberMove fs c)
number_leads r fs c a b d e =
    split (λ x. Leads r (Value r fs c) (if x then goes (state (in_number (c ∷ []) Minus) fs) else if c == 48 then goes (state (in_number (c ∷ []) Zero) fs) else if is_in_range 49 57 c then goes (state (in_number (c ∷ []) Whole) fs) else if c == 91 then opens (state at_first_item fs) else if c == 123 then opens (state at_first_key fs) else stops)) (c == 45)
    (λ h rest t. (λ w. number_to r fs c rest t Minus (λ more. (number_minus c more (is_eq c 45 h)).0) (inl (is_eq c 45 h)) w.0 w.1 w.2 w.3, number_from r fs c rest t Minus (λ more. (number_minus c more (is_eq c 45 h)).1)))
    (λ f. split (λ x. Leads r (Value r fs c) (if x then goes (state (in_number (c ∷ []) Zero) fs) else if is_in_range 49 57 c then goes (state (in_number (c ∷ []) Whole) fs) else if c == 91 then opens (state at_first_item fs) else if c == 123 then opens (state at_first_key fs) else stops)) (c == 48)
    (λ h rest t. (λ w. number_to r fs c rest t Zero (λ more. (number_zero c more (is_eq c 48 h)).0) (inr (let z = is_eq c 48 h in (omega arith, omega arith))) w.0 w.1 w.2 w.3, number_from r fs c rest t Zero (λ more. (number_zero c more (is_eq c 48 h)).1)))
    (λ g. split (λ x. Leads r (Value r fs c) (if x then goes (state (in_number (c ∷ []) Whole) fs) else if c == 91 then opens (state at_first_item fs) else if c == 123 then opens (state at_first_key fs) else stops)) (is_in_range 49 57 c)
    (λ h rest t. (λ w. number_to r fs c rest t Whole (λ more. (number_whole c more h).0) (range_digit c h) w.0 w.1 w.2 w.3, number_from r fs c rest t Whole (λ more. (number_whole c more h).1)))
    (λ i. bracket_leads r fs c a b d e (not_eq c 45 f) (not_eq c 48 g) (range_not 49 57 c i))))

pub value_leads : (r : Rules) (fs : List Frame) (c : ℕ) → Leads r (Value r fs c) (value_move fs c)
value_leads r fs c =
    split (λ x. Leads r (Value r fs c) (if x then goes (state (in_word (codes "ull") null) fs) else if c == 116 then goes (state (in_word (codes "rue") (boolean true)) fs) else if c == 102 then goes (state (in_word (codes "alse") (boolean false)) fs) else if c == 34 then goes (state (in_string [] Outside) fs) else NumberMove fs c)) (c == 110)
    (λ h rest t. (λ w. null_to r fs c rest t (is_eq c 110 h) w.0 w.1 w.2 w.3, null_from r fs c rest t (is_eq c 110 h)))
    (λ a. split (λ x. Leads r (Value r fs c) (if x then goes (state (in_word (codes "rue") (boolean true)) fs) else if c == 102 then goes (state (in_word (codes "alse") (boolean false)) fs) else if c == 34 then goes (state (in_string [] Outside) fs) else NumberMove fs c)) (c == 116)
    (λ h rest t. (λ w. true_to r fs c rest t (is_eq c 116 h) w.0 w.1 w.2 w.3, true_from r fs c rest t (is_eq c 116 h)))
    (λ b. split (λ x. Leads r (Value r fs c) (if x then goes (state (in_word (codes "alse") (boolean false)) fs) else if c == 34 then goes (state (in_string [] Outside) fs) else NumberMove fs c)) (c == 102)
    (λ h rest t. (λ w. false_to r fs c rest t (is_eq c 102 h) w.0 w.1 w.2 w.3, false_from r fs c rest t (is_eq c 102 h)))
    (λ d. split (λ x. Leads r (Value r fs c) (if x then goes (state (in_string [] Outside) fs) else NumberMove fs c)) (c == 34)
    (λ h rest t. (λ w. string_to r fs c rest t (is_eq c 34 h) w.0 w.1 w.2 w.3, string_from r fs c rest t (is_eq c 34 h)))
    (λ e. number_leads r fs c (not_eq c 110 a) (not_eq c 116 b) (not_eq c 102 d) (not_eq c 34 e)))))
