-- The insertions of a text lie in the order of their places, and so do the offsets that they lead back to.
use Rattle.std.specs.Prelude.{nat_lt}
use Rattle.std.proofs.Common.{ℕ, ◌+◌, ◌-◌, ◌<◌, ◌≤◌, ◌≡◌, Bool, true, false, List, [], ◌∷◌, ◌++◌, cond, refl, sym, subst, arith}
use Rattle.std.proofs.lemmas.Bool.Decides.{nat_tests}
use Rattle.rtapp_dialect.specs.Filling.{quote_after, last_after, inside_after, lacks_value, inserted_at, inserted_from, values_inserted}
use Rattle.rtapp_dialect.specs.Places.{origin_at, KeepsOrder}
use Rattle.rtapp_dialect.specs.declared.bracket.Bracket.{Bracket}
use Rattle.rtapp_dialect.specs.declared.spot.Quote.{Quote}
use Rattle.rtapp_dialect.specs.declared.spot.Quote.TheVariants.{Closed}
use Rattle.rtapp_dialect.specs.declared.spot.Last.{Last}
use Rattle.rtapp_dialect.specs.declared.spot.Last.TheVariants.{Other}
use Rattle.rtapp_dialect.specs.declared.insertion.Insertion.{Insertion}

-- none lies before k, or before an earlier one
abbrev pub AreFrom : ℕ → List Insertion → Type 0
AreFrom k [] = Unit {0}
AreFrom k (i ∷ is) = (k ≤ i.at) × AreFrom i.at is

add_front : (k n : ℕ) (b : Bool) (is : List Insertion) → k ≤ n → AreFrom n is → AreFrom k is → AreFrom k (inserted_at b n ++ is)
add_front k n true is h f g = (h, f)
add_front k n false is h f g = g

pub inserted_in_order : (q : Quote) (l : Last) (a : List Bracket) (n : ℕ) (cs : List ℕ) (k : ℕ) → k ≤ n → AreFrom k (inserted_from q l a n cs)
inserted_in_order q l a n [] k h = tt
inserted_in_order q l a n (c ∷ cs) k h =
    let rest = inserted_from (quote_after q c) (last_after q l a c) (inside_after q a c) (n + 1) cs in
    add_front k n (lacks_value q l c) rest h (inserted_in_order (quote_after q c) (last_after q l a c) (inside_after q a c) (n + 1) cs n (omega arith)) (inserted_in_order (quote_after q c) (last_after q l a c) (inside_after q a c) (n + 1) cs k (omega arith))

pub is_below : (a b : ℕ) → nat_lt a b ≡ true → a < b
is_below a b h = grind (arith, nat_tests)

pub is_not : (a b : ℕ) → nat_lt a b ≡ false → b ≤ a
is_not a b h = grind (arith, nat_tests)

not_before_one : (k m at len rest : ℕ) (p q : Bool) → nat_lt m at ≡ p → nat_lt (m - at) len ≡ q → k ≤ m → k ≤ at → (at ≤ m - len → at ≤ rest) → k ≤ cond p m (cond q at rest)
not_before_one k m at len rest true q a b h f g = h
not_before_one k m at len rest false true a b h f g = f
not_before_one k m at len rest false false a b h f g =
    let x = is_not m at a in
    let y = is_not (m - at) len b in
    let z = g (omega (arith, x, y)) in
    omega (arith, z, f)

pub not_before : (k : ℕ) (is : List Insertion) (m : ℕ) → AreFrom k is → k ≤ m → k ≤ origin_at is m
not_before k [] m f h = h
not_before k (i ∷ is) m f h =
    not_before_one k m i.at i.len (origin_at is (m - i.len)) (nat_lt m i.at) (nat_lt (m - i.at) i.len) refl refl h f.0 (λ g. not_before i.at is (m - i.len) f.1 g)

in_order_one : (m n at len x y : ℕ) (p q r s : Bool) → nat_lt m at ≡ p → nat_lt (m - at) len ≡ q → nat_lt n at ≡ r → nat_lt (n - at) len ≡ s → m ≤ n →
    (at ≤ n - len → at ≤ y) → (m - len ≤ n - len → x ≤ y) → cond p m (cond q at x) ≤ cond r n (cond s at y)
in_order_one m n at len x y true q true s a b c d h f g = h
in_order_one m n at len x y true q false true a b c d h f g = let e = is_below m at a in omega (arith, e)
in_order_one m n at len x y true q false false a b c d h f g =
    let e = is_below m at a in
    let i = is_not n at c in
    let j = is_not (n - at) len d in
    let z = f (omega (arith, i, j)) in
    omega (arith, e, z)
in_order_one m n at len x y false q true s a b c d h f g =
    let e = is_not m at a in let i = is_below n at c in absurd (omega (arith, e, i, h))
in_order_one m n at len x y false true false true a b c d h f g = omega arith
in_order_one m n at len x y false true false false a b c d h f g =
    let i = is_not n at c in
    let j = is_not (n - at) len d in
    f (omega (arith, i, j))
in_order_one m n at len x y false false false true a b c d h f g =
    let e = is_not m at a in
    let i = is_not (m - at) len b in
    let j = is_below (n - at) len d in
    absurd (omega (arith, e, i, j, h))
in_order_one m n at len x y false false false false a b c d h f g = g (omega (arith, h))

pub in_order : (k : ℕ) (is : List Insertion) → AreFrom k is → KeepsOrder is
in_order k [] f m n h = h
in_order k (i ∷ is) f m n h =
    in_order_one m n i.at i.len (origin_at is (m - i.len)) (origin_at is (n - i.len)) (nat_lt m i.at) (nat_lt (m - i.at) i.len) (nat_lt n i.at) (nat_lt (n - i.at) i.len) refl refl refl refl h
    (λ g. not_before i.at is (n - i.len) f.1 g) (λ g. in_order i.at is f.1 (m - i.len) (n - i.len) g)

pub ordered : (text : List ℕ) (is : List Insertion) → is ≡ values_inserted text → KeepsOrder is
ordered text is e = subst KeepsOrder (sym e) (in_order 0 (values_inserted text) (inserted_in_order Closed Other [] 0 text 0 (omega arith)))
