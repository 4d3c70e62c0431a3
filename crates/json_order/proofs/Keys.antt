-- The keys of an object with one member more.
use Rattle.std.specs.Str.{bytes_eq}
use Rattle.std.specs.Prelude.{Result, Ok, Err, OnOk, OnErr, ◌⊎◌}
use Rattle.std.specs.Ordering.{nat_cmp, is_lt, is_eq}
use Rattle.std.specs.Cmp.Lexicographic.{slice_cmp}
use Rattle.std.proofs.lemmas.Cmp.{nat_list_cmp_total}
use Rattle.std.proofs.lemmas.Map.Text.{is_eq-slice_cmp}
use Rattle.std.proofs.lemmas.List.{take_all, take_more}
use Rattle.std.specs.declared.cmp.Ordering.{Ordering}
use Rattle.std.specs.declared.cmp.Ordering.TheVariants.{Less, Equal, Greater}
use Rattle.std.proofs.Common.{inl, inr, length, get_or, take, sym, ◌+◌, ℕ, ◌≡◌, Bool, true, false, cond, ◌||◌, ◌&&◌, arith, List, [], ◌∷◌, ◌++◌, refl, ap, ◌∙◌}
use Rattle.json_order.specs.Grammar.{has_key}
use Rattle.json_order.specs.Lent.{text_bytes}
use Rattle.json_order.specs.private.Entries.{keys_of, key_precedes, all_before, last_before}
use Rattle.json_order.specs.declared.key_order.KeyOrder.{KeyOrder}
use Rattle.json_order.specs.declared.key_order.KeyOrder.TheVariants.{Rising, Falling}
use Rattle.std.proofs.lemmas.Slice.Eq.{bytes_eq-Decides}
use Rattle.json_order.specs.declared.lent.LentText.{LentText}
use Rattle.json_order.specs.declared.lent.LentTree.{LentTree}

pub has_push : (ms : List (LentText × LentTree)) (k : LentText) (v : LentTree) (key : List ℕ) → has_key (keys_of (ms ++ (k, v) ∷ [])) key ≡ cond (bytes_eq (text_bytes k) key) true (has_key (keys_of ms) key)
has_push [] k v key = go (bytes_eq (text_bytes k) key)
  where
    go : (b : Bool) → (b || false) ≡ cond b true false
    go true = refl
    go false = refl
has_push (m ∷ ms) k v key = ap (λ b. bytes_eq (text_bytes m.0) key || b) (has_push ms k v key) ∙ go (bytes_eq (text_bytes m.0) key) (bytes_eq (text_bytes k) key) (has_key (keys_of ms) key)
  where
    go : (a b d : Bool) → (a || cond b true d) ≡ cond b true (a || d)
    go true true d = refl
    go true false d = refl
    go false true d = refl
    go false false d = refl

-- a key of the first members is one of all of them
pub has_front : (xs ys : List (LentText × LentTree)) (key : List ℕ) → has_key (keys_of xs) key ≡ true → has_key (keys_of (xs ++ ys)) key ≡ true
has_front [] ys key h = cc
has_front (m ∷ xs) ys key h = go (bytes_eq (text_bytes m.0) key) h (λ e. has_front xs ys key e)
  where
    go : (b : Bool) → (b || has_key (keys_of xs) key) ≡ true → (has_key (keys_of xs) key ≡ true → has_key (keys_of (xs ++ ys)) key ≡ true) → (b || has_key (keys_of (xs ++ ys)) key) ≡ true
    go true h more = refl
    go false h more = more h

-- what holds of both ends of a call
pub either : {A B : Type 0} (r : Result A B) (X Y : Type 0) → OnOk r X → OnErr r Y → X ⊎ Y
either (Ok a) X Y h g = inl h
either (Err e) X Y h g = inr g

-- KEYS IN AN ORDER

less : (o : Ordering) → is_lt o ≡ true → o ≡ Less
less Less h = refl
less Equal h = cc
less Greater h = cc

less_trans : (x y z : List ℕ) → is_lt (slice_cmp nat_cmp x y) ≡ true → is_lt (slice_cmp nat_cmp y z) ≡ true → is_lt (slice_cmp nat_cmp x z) ≡ true
less_trans x y z h g = ap is_lt (nat_list_cmp_total.trans x y z (less (slice_cmp nat_cmp x y) h) (less (slice_cmp nat_cmp y z) g))

less_other : (x y : List ℕ) → is_lt (slice_cmp nat_cmp x y) ≡ true → bytes_eq x y ≡ false
less_other x y h = sym (is_eq-slice_cmp x y) ∙ ap is_eq (less (slice_cmp nat_cmp x y) h)

turned : (x y : List ℕ) → bytes_eq x y ≡ false → bytes_eq y x ≡ false
turned x y h = grind (arith, bytes_eq-Decides)

before_trans : (o : KeyOrder) (x y z : List ℕ) → key_precedes o x y ≡ true → key_precedes o y z ≡ true → key_precedes o x z ≡ true
before_trans Rising x y z h g = less_trans x y z h g
before_trans Falling x y z h g = less_trans z y x g h

before_other : (o : KeyOrder) (x y : List ℕ) → key_precedes o x y ≡ true → bytes_eq x y ≡ false
before_other Rising x y h = less_other x y h
before_other Falling x y h = turned y x (less_other y x h)

both : (a b : Bool) → (a && b) ≡ true → (a ≡ true) × (b ≡ true)
both true true h = (refl, refl)
both true false h = cc
both false b h = cc

-- a key that follows all is new
pub follows_new : (o : KeyOrder) (ks : List (List ℕ)) (key : List ℕ) → all_before o ks key ≡ true → has_key ks key ≡ false
follows_new o [] key h = refl
follows_new o (k ∷ ks) key h =
    let p = both (key_precedes o k key) (all_before o ks key) h in
    ap (λ b. b || has_key ks key) (before_other o k key p.0) ∙ follows_new o ks key p.1

all_trans : (o : KeyOrder) (ks : List (List ℕ)) (x key : List ℕ) → all_before o ks x ≡ true → key_precedes o x key ≡ true → all_before o ks key ≡ true
all_trans o [] x key h g = refl
all_trans o (k ∷ ks) x key h g =
    let p = both (key_precedes o k x) (all_before o ks x) h in
    ap (λ b. b && all_before o ks key) (before_trans o k x key p.0 g) ∙ all_trans o ks x key p.1 g

all_push : (o : KeyOrder) (ks : List (List ℕ)) (x key : List ℕ) → all_before o ks key ≡ true → key_precedes o x key ≡ true → all_before o (ks ++ x ∷ []) key ≡ true
all_push o [] x key h g = ap (λ b. b && true) g
all_push o (k ∷ ks) x key h g =
    let p = both (key_precedes o k key) (all_before o ks key) h in
    ap (λ b. b && all_before o (ks ++ x ∷ []) key) p.0 ∙ all_push o ks x key p.1 g

last_push : (o : KeyOrder) (ks : List (List ℕ)) (x key : List ℕ) → last_before o (ks ++ x ∷ []) key ≡ key_precedes o x key
last_push o [] x key = refl
last_push o (k ∷ []) x key = refl
last_push o (k ∷ l ∷ ks) x key = last_push o (l ∷ ks) x key

pub keys_push : (ms : List (LentText × LentTree)) (k : LentText) (v : LentTree) → keys_of (ms ++ (k, v) ∷ []) ≡ keys_of ms ++ text_bytes k ∷ []
keys_push [] k v = refl
keys_push (m ∷ ms) k v = ap (λ ks. text_bytes m.0 ∷ ks) (keys_push ms k v)

-- the last of the members by its place
pub last_at : (o : KeyOrder) (ms : List (LentText × LentTree)) (i : ℕ) (m : LentText × LentTree) (key : List ℕ) → i + 1 ≡ length ms → m ≡ get_or ms i m → last_before o (keys_of ms) key ≡ key_precedes o (text_bytes m.0) key
last_at o ms i m key e g =
    let whole : ms ≡ take i ms ++ m ∷ [] = sym (take_all (i + 1) ms (omega arith)) ∙ take_more ms i m (omega arith) ∙ ap (λ x. take i ms ++ x ∷ []) (sym g) in
    ap (λ x. last_before o (keys_of x) key) whole ∙ ap (λ ks. last_before o ks key) (keys_push (take i ms) m.0 m.1) ∙ last_push o (keys_of (take i ms)) (text_bytes m.0) key

-- one key more, which follows the last
pub ordered_more : (o : KeyOrder) (ms : List (LentText × LentTree)) (k : LentText) (v : LentTree) → ((key : List ℕ) → last_before o (keys_of ms) key ≡ true → all_before o (keys_of ms) key ≡ true) → last_before o (keys_of ms) (text_bytes k) ≡ true → (key : List ℕ) → last_before o (keys_of (ms ++ (k, v) ∷ [])) key ≡ true → all_before o (keys_of (ms ++ (k, v) ∷ [])) key ≡ true
ordered_more o ms k v h g key l =
    let x = text_bytes k in
    let here : key_precedes o x key ≡ true = sym (last_push o (keys_of ms) x key) ∙ sym (ap (λ ks. last_before o ks key) (keys_push ms k v)) ∙ l in
    ap (λ ks. all_before o ks key) (keys_push ms k v) ∙ all_push o (keys_of ms) x key (all_trans o (keys_of ms) x key (h x g) here) here
