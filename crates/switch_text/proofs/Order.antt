-- Entries in order: the earliest comes first.
use Rattle.std.proofs.Common.{◌≡◌, ◌+◌, true, false, cond, List, [], ◌∷◌, ◌++◌, length, refl, ap, ◌∙◌, arith}
use Rattle.std.specs.List.{AllByRecursion}
use Rattle.std.proofs.lemmas.Bool.Decides.{nat_tests}
use Rattle.switch_text.specs.Trace.{Entry, is_earlier, placed_in, entries_in_order}

pub earlier_trans : (a b c : Entry) → is_earlier a b ≡ true → is_earlier b c ≡ true → is_earlier a c ≡ true
earlier_trans a b c p q = grind (arith, nat_tests)

-- a is not later than b, and b is earlier than c
pub not_later_trans : (a b c : Entry) → is_earlier b a ≡ false → is_earlier b c ≡ true → is_earlier c a ≡ false
not_later_trans a b c p q = grind (arith, nat_tests)

-- a is not later than b, and b is not later than c
pub not_later_twice : (a b c : Entry) → is_earlier b a ≡ false → is_earlier c b ≡ false → is_earlier c a ≡ false
not_later_twice a b c p q = grind (arith, nat_tests)

-- a is earlier than b, and b is not later than c
pub earlier_then : (a b c : Entry) → is_earlier a b ≡ true → is_earlier c b ≡ false → is_earlier a c ≡ true
earlier_then a b c p q = grind (arith, nat_tests)

pub not_later-from_earlier : (a b : Entry) → is_earlier a b ≡ true → is_earlier b a ≡ false
not_later-from_earlier a b p = grind (arith, nat_tests)

pub AllByRecursion-weaker : {X : Type 0} (P Q : X → Type 0) (xs : List X) → ((x : X) → P x → Q x) → AllByRecursion P xs → AllByRecursion Q xs
AllByRecursion-weaker P Q [] f all = tt
AllByRecursion-weaker P Q (x ∷ xs) f all = (f x all.0, AllByRecursion-weaker P Q xs f all.1)

pub AllByRecursion-append : {X : Type 0} (P : X → Type 0) (xs ys : List X) → AllByRecursion P xs → AllByRecursion P ys → AllByRecursion P (xs ++ ys)
AllByRecursion-append P [] ys all more = more
AllByRecursion-append P (x ∷ xs) ys all more = (all.0, AllByRecursion-append P xs ys all.1 more)

pub AllByRecursion-placed_in : (P : Entry → Type 0) (e : Entry) (es : List Entry) → P e → AllByRecursion P es → AllByRecursion P (placed_in e es)
AllByRecursion-placed_in P e [] h all = (h, tt)
AllByRecursion-placed_in P e (f ∷ fs) h all =
    let more = AllByRecursion-placed_in P e fs h all.1 in
    elim (is_earlier f e) as (λ b. AllByRecursion P (cond b (f ∷ placed_in e fs) (e ∷ f ∷ fs))) [ true ↦ (all.0, more) | false ↦ (h, all) ]

pub AllByRecursion-in_order : (P : Entry → Type 0) (es : List Entry) → AllByRecursion P es → AllByRecursion P (entries_in_order es)
unfolding entries_in_order
AllByRecursion-in_order P [] all = tt
AllByRecursion-in_order P (e ∷ es) all = AllByRecursion-placed_in P e (entries_in_order es) all.0 (AllByRecursion-in_order P es all.1)

-- what is later than no other goes first
pub placed_in-first : (e : Entry) (es : List Entry) → AllByRecursion (λ x. is_earlier x e ≡ false) es → placed_in e es ≡ e ∷ es
placed_in-first e [] all = refl
placed_in-first e (f ∷ fs) all = rw all.0 refl

pub in_order-first : (before : List Entry) (e : Entry) (after : List Entry) → AllByRecursion (λ x. is_earlier e x ≡ true) before → AllByRecursion (λ x. is_earlier x e ≡ false) after
    → entries_in_order (before ++ e ∷ after) ≡ e ∷ entries_in_order (before ++ after)
unfolding entries_in_order
in_order-first [] e after earlier not_later = placed_in-first e (entries_in_order after) (AllByRecursion-in_order (λ x. is_earlier x e ≡ false) after not_later)
in_order-first (x ∷ xs) e after earlier not_later =
    let others = in_order-first xs e after earlier.1 not_later in
    ap (placed_in x) others ∙ rw earlier.0 refl

length-placed_in : (e : Entry) (es : List Entry) → length (placed_in e es) ≡ length es + 1
length-placed_in e [] = refl
length-placed_in e (f ∷ fs) =
    let more = length-placed_in e fs in
    elim (is_earlier f e) as (λ b. length (cond b (f ∷ placed_in e fs) (e ∷ f ∷ fs)) ≡ length (f ∷ fs) + 1) [ true ↦ omega arith | false ↦ omega arith ]

pub length-in_order : (es : List Entry) → length (entries_in_order es) ≡ length es
unfolding entries_in_order
length-in_order [] = refl
length-in_order (e ∷ es) = omega (arith, length-placed_in e (entries_in_order es), length-in_order es)
