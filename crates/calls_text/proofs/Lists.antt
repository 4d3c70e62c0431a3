-- Items one after the other, as a text spells them and as a loop reads them.
use Rattle.std.proofs.Common.{◌≡◌, ℕ, zero, suc, ◌≤◌, ◌<◌, List, [], ◌∷◌, ◌++◌, length, map, Option, Some, None, refl, sym, ap, subst, ◌∙◌, arith}
use Rattle.std.specs.Option.{option_map_or}
use Rattle.std.specs.List.{flat_map, join_with_byte, AllByRecursion}
use Rattle.std.proofs.lemmas.List.{append-nil, length-append}
use Rattle.std.proofs.lemmas.Option.{same_Some}
use Rattle.calls_text.specs.private.Reading.{◌>>=◌, many_at}
use Rattle.calls_text.proofs.Numbers.{bind_some}

-- the spellings of items, with a text between each two
abbrev pub joined : {X : Type 0} → List ℕ → (X → List ℕ) → List X → List ℕ
joined between spell [] = []
joined between spell (x ∷ []) = spell x
joined between spell (x ∷ y ∷ xs) = spell x ++ (between ++ joined between spell (y ∷ xs))

-- what was read of an item at the front, and what follows it
abbrev pub TookItem : {X : Type 0} → (X → Type 0) → List ℕ → (X → List ℕ) → List ℕ → X → Option (List ℕ) → Type 0
TookItem Is between spell text x None = Is x × (text ≡ spell x)
TookItem Is between spell text x (Some rest) = Is x × (text ≡ spell x ++ (between ++ rest))

pub record ReadsItems {X : Type 0} (item : List ℕ → Option (X × Option (List ℕ))) (Is : X → Type 0) (between : List ℕ) (spell : X → List ℕ) : Type 0 where
  pub takes : (text : List ℕ) (x : X) (rest : Option (List ℕ)) → item text ≡ Some (x, rest) → TookItem Is between spell text x rest
  pub last : (x : X) → Is x → item (spell x) ≡ Some (x, None)
  pub again : (x : X) (rest : List ℕ) → Is x → 0 < length rest → item (spell x ++ (between ++ rest)) ≡ Some (x, Some rest)
  pub some : (x : X) → Is x → 0 < length (spell x)

pub record AreItems {X : Type 0} (Is : X → Type 0) (between : List ℕ) (spell : X → List ℕ) (most : ℕ) (text : List ℕ) (xs : List X) : Type 0 where
  pub text_is : text ≡ joined between spell xs
  pub some : 0 < length xs
  pub few : length xs ≤ most
  pub each : AllByRecursion Is xs

add_item : {X : Type 0} (Is : X → Type 0) (between : List ℕ) (spell : X → List ℕ) (most : ℕ) (text rest : List ℕ) (x : X) (xs : List X) → Is x → text ≡ spell x ++ (between ++ rest) → AreItems Is between spell most rest xs → AreItems Is between spell (suc most) text (x ∷ xs)
add_item Is between spell most text rest x [] is e items = absurd (omega (arith, items.some))
add_item Is between spell most text rest x (y ∷ ys) is e items = record {
  text_is = e ∙ ap (λ (r : List ℕ). spell x ++ (between ++ r)) items.text_is;
  some = omega arith;
  few = omega (arith, items.few);
  each = (is, items.each);
}

went_on : {X : Type 0} (item : List ℕ → Option (X × Option (List ℕ))) (Is : X → Type 0) (between : List ℕ) (spell : X → List ℕ) → ReadsItems item Is between spell
    → (most : ℕ) → ((r : List ℕ) (ys : List X) → many_at item most r ≡ Some ys → AreItems Is between spell most r ys)
    → (text : List ℕ) (x : X) (rest : Option (List ℕ)) (xs : List X) → item text ≡ Some (x, rest) → option_map_or (λ r. many_at item most r >>= λ ys. Some (x ∷ ys)) rest (Some (x ∷ [])) ≡ Some xs
    → AreItems Is between spell (suc most) text xs
went_on item Is between spell reads most others text x None xs e h =
    let t = reads.takes text x None e in
    subst (AreItems Is between spell (suc most) text) (same_Some (x ∷ []) xs h) (record { text_is = t.1; some = omega arith; few = omega arith; each = (t.0, tt) })
went_on item Is between spell reads most others text x (Some r) xs e h =
    let t = reads.takes text x (Some r) e in
    let b = bind_some (many_at item most r) (λ ys. Some (x ∷ ys)) xs h in
    subst (AreItems Is between spell (suc most) text) (same_Some (x ∷ b.0) xs b.2) (add_item Is between spell most text r x b.0 t.0 t.1 (others r b.0 b.1))

joined_some : {X : Type 0} (between : List ℕ) (spell : X → List ℕ) (x : X) (xs : List X) → 0 < length (spell x) → 0 < length (joined between spell (x ∷ xs))
joined_some between spell x [] h = h
joined_some between spell x (y ∷ ys) h = omega (arith, length-append (spell x) (between ++ joined between spell (y ∷ ys)))

pub many_takes : {X : Type 0} (item : List ℕ → Option (X × Option (List ℕ))) (Is : X → Type 0) (between : List ℕ) (spell : X → List ℕ) → ReadsItems item Is between spell
    → (most : ℕ) (text : List ℕ) (xs : List X) → many_at item most text ≡ Some xs → AreItems Is between spell most text xs
unfolding many_at
many_takes item Is between spell reads zero text xs e = absurd cc
many_takes item Is between spell reads (suc most) text xs e =
    let b = bind_some (item text) (λ first. option_map_or (λ rest. many_at item most rest >>= λ others. Some (first.0 ∷ others)) first.1 (Some (first.0 ∷ []))) xs e in
    went_on item Is between spell reads most (many_takes item Is between spell reads most) text b.0.0 b.0.1 xs b.1 b.2

pub many_again : {X : Type 0} (item : List ℕ → Option (X × Option (List ℕ))) (Is : X → Type 0) (between : List ℕ) (spell : X → List ℕ) → ReadsItems item Is between spell
    → (most : ℕ) (xs : List X) → 0 < length xs → length xs ≤ most → AllByRecursion Is xs → many_at item most (joined between spell xs) ≡ Some xs
unfolding many_at
many_again item Is between spell reads most [] some few each = absurd (omega arith)
many_again item Is between spell reads zero (x ∷ xs) some few each = absurd (omega arith)
many_again item Is between spell reads (suc most) (x ∷ []) some few each = rw (reads.last x each.0) refl
many_again item Is between spell reads (suc most) (x ∷ y ∷ xs) some few each =
    let rest = joined between spell (y ∷ xs) in
    rw (reads.again x rest each.0 (joined_some between spell y xs (reads.some y each.1.0)), many_again item Is between spell reads most (y ∷ xs) (omega arith) (omega arith) each.1) refl

-- commas between
pub joined-comma : {X : Type 0} (spell : X → List ℕ) (xs : List X) → joined (44 ∷ []) spell xs ≡ join_with_byte 44 (map spell xs)
joined-comma spell [] = refl
joined-comma spell (x ∷ []) = refl
joined-comma spell (x ∷ y ∷ xs) = ap (λ (r : List ℕ). spell x ++ (44 ∷ r)) (joined-comma spell (y ∷ xs))

-- nothing between
pub joined-flat : {X : Type 0} (spell : X → List ℕ) (xs : List X) → joined [] spell xs ≡ flat_map spell xs
joined-flat spell [] = refl
joined-flat spell (x ∷ []) = sym (append-nil (spell x))
joined-flat spell (x ∷ y ∷ xs) = ap (λ (r : List ℕ). spell x ++ r) (joined-flat spell (y ∷ xs))
