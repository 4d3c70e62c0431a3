-- The values at some slots.
use Rattle.std.proofs.Common.{◌≡◌, ◌≢◌, ℕ, zero, suc, ◌<◌, List, [], ◌∷◌, ◌++◌, Option, None, Some, length, get_or, set, All, refl, sym, ap, ◌∙◌, subst, arith}
use Rattle.std.specs.List.{AllPairs, slice_get, cons_option, remove}
use Rattle.slot_list.specs.private.Slots.{values_at}

-- what a slot has, where there is one
some_at : {X : Type 0} (slots : List X) (s : ℕ) (d : X) → s < length slots
    → slice_get slots s ≡ Some (get_or slots s d)
some_at [] s d h = absurd (omega (arith, h))
some_at (x ∷ slots) zero d h = refl
some_at (x ∷ slots) (suc s) d h = some_at slots s d (omega (arith, h))

-- the first of the slots, and the rest
pub values_first : {X : Type 0} (slots : List X) (s : ℕ) (order : List ℕ) (d : X) → s < length slots
    → values_at slots (s ∷ order) ≡ get_or slots s d ∷ values_at slots order
values_first slots s order d h =
    ap (λ o. cons_option o (values_at slots order)) (some_at slots s d h)

-- the rest of what holds of all
pub rest_all : (P : ℕ → Type 0) (s : ℕ) (order : List ℕ) → All P (s ∷ order) → All P order
rest_all P s order all k d h = all (suc k) d (omega (arith, h))

-- a value of a list that has one
a_value : {X : Type 0} (slots : List X) (s : ℕ) → s < length slots → X
a_value [] s h = absurd (omega (arith, h))
a_value (x ∷ slots) s h = x

-- there are as many values as slots in the order
pub values_long : {X : Type 0} (slots : List X) (order : List ℕ) → All (λ s. s < length slots) order
    → length (values_at slots order) ≡ length order
values_long slots [] all = refl
values_long slots (s ∷ order) all =
    let h = all zero zero (omega arith) in
    ap (λ vs. length vs) (values_first slots s order (a_value slots s h) h)
    ∙ ap suc (values_long slots order (rest_all (λ s. s < length slots) s order all))

-- a value is what its slot has
pub value_at : {X : Type 0} (slots : List X) (order : List ℕ) (i : ℕ) (d : X)
    → All (λ s. s < length slots) order → i < length order
    → get_or (values_at slots order) i d ≡ get_or slots (get_or order i 0) d
value_at slots [] i d all h = absurd (omega (arith, h))
value_at slots (s ∷ order) zero d all h =
    ap (λ vs. get_or vs 0 d) (values_first slots s order d (all zero zero (omega arith)))
value_at slots (s ∷ order) (suc i) d all h =
    ap (λ vs. get_or vs (suc i) d) (values_first slots s order d (all zero zero (omega arith)))
    ∙ value_at slots order i d (rest_all (λ s. s < length slots) s order all) (omega (arith, h))

-- what is set into another slot leaves this one
get_set_other : {X : Type 0} (slots : List X) (t s : ℕ) (x : X) → s ≢ t
    → slice_get (set slots t x) s ≡ slice_get slots s
get_set_other [] t s x other = refl
get_set_other (y ∷ slots) zero zero x other = absurd (other refl)
get_set_other (y ∷ slots) zero (suc s) x other = refl
get_set_other (y ∷ slots) (suc t) zero x other = refl
get_set_other (y ∷ slots) (suc t) (suc s) x other =
    get_set_other slots t s x (λ e. other (ap suc e))

-- what was set into a slot is there
pub get_set_same : {X : Type 0} (slots : List X) (s : ℕ) (x : X) → s < length slots
    → slice_get (set slots s x) s ≡ Some x
get_set_same [] s x h = absurd (omega (arith, h))
get_set_same (y ∷ slots) zero x h = refl
get_set_same (y ∷ slots) (suc s) x h = get_set_same slots s x (omega (arith, h))

-- what is set into another slot changes none of the values
pub values_other : {X : Type 0} (slots : List X) (order : List ℕ) (t : ℕ) (x : X)
    → All (λ s. s ≢ t) order → values_at (set slots t x) order ≡ values_at slots order
values_other slots [] t x apart = refl
values_other slots (s ∷ order) t x apart =
    ap (λ o. cons_option o (values_at (set slots t x) order))
    (get_set_other slots t s x (apart zero zero (omega arith)))
    ∙ ap (cons_option (slice_get slots s))
    (values_other slots order t x (rest_all (λ s. s ≢ t) s order apart))

-- the first is another than the rest
pub first_apart : (s : ℕ) (order : List ℕ) → AllPairs (λ s t. s ≢ t) (s ∷ order)
    → All (λ t. t ≢ s) order
first_apart s order once k d h e = once zero (suc k) d (omega arith) (omega (arith, h)) (sym e)

-- the rest are others than one another
pub rest_once : (s : ℕ) (order : List ℕ) → AllPairs (λ s t. s ≢ t) (s ∷ order)
    → AllPairs (λ s t. s ≢ t) order
rest_once s order once i j d less h =
    once (suc i) (suc j) d (omega (arith, less)) (omega (arith, h))

-- what is set into the slot of a place is set there in the list, and nowhere else
pub values_set : {X : Type 0} (slots : List X) (order : List ℕ) (i : ℕ) (x : X)
    → All (λ s. s < length slots) order → AllPairs (λ s t. s ≢ t) order → i < length order
    → values_at (set slots (get_or order i 0) x) order ≡ set (values_at slots order) i x
values_set slots [] i x all once h = absurd (omega (arith, h))
values_set slots (s ∷ order) zero x all once h =
    let there = all zero zero (omega arith) in
    ap (λ o. cons_option o (values_at (set slots s x) order)) (get_set_same slots s x there)
    ∙ ap (λ vs. x ∷ vs) (values_other slots order s x (first_apart s order once))
    ∙ sym (ap (λ vs. set vs 0 x) (values_first slots s order x there))
values_set slots (s ∷ order) (suc i) x all once h =
    let there = all zero zero (omega arith) in
    let within : i < length order = omega (arith, h) in
    let other : s ≢ get_or order i 0 = λ e. once zero (suc i) 0 (omega arith) h e in
    ap (λ o. cons_option o (values_at (set slots (get_or order i 0) x) order))
    (get_set_other slots (get_or order i 0) s x other)
    ∙ ap (cons_option (slice_get slots s))
    (values_set slots order i x (rest_all (λ s. s < length slots) s order all)
    (rest_once s order once) within)
    ∙ ap (λ o. cons_option o (set (values_at slots order) i x)) (some_at slots s x there)
    ∙ sym (ap (λ vs. set vs (suc i) x) (values_first slots s order x there))

-- a slot less in the order is a value less in the list
pub values_remove : {X : Type 0} (slots : List X) (order : List ℕ) (i : ℕ)
    → All (λ s. s < length slots) order
    → values_at slots (remove order i) ≡ remove (values_at slots order) i
values_remove slots [] zero all = refl
values_remove slots [] (suc i) all = refl
values_remove slots (s ∷ order) zero all =
    let there = all zero zero (omega arith) in
    sym (ap (λ vs. remove vs 0) (values_first slots s order (a_value slots s there) there))
values_remove slots (s ∷ order) (suc i) all =
    let there = all zero zero (omega arith) in
    let d = a_value slots s there in
    values_first slots s (remove order i) d there
    ∙ ap (λ vs. get_or slots s d ∷ vs)
    (values_remove slots order i (rest_all (λ s. s < length slots) s order all))
    ∙ sym (ap (λ vs. remove vs (suc i)) (values_first slots s order d there))

-- one slot more changes none of those before
pub values_more : {X : Type 0} (slots : List X) (order : List ℕ) (x : X)
    → All (λ s. s < length slots) order → values_at (slots ++ x ∷ []) order ≡ values_at slots order
values_more slots [] x all = refl
values_more slots (s ∷ order) x all =
    ap (λ o. cons_option o (values_at (slots ++ x ∷ []) order))
    (before slots s x (all zero zero (omega arith)))
    ∙ ap (cons_option (slice_get slots s))
    (values_more slots order x (rest_all (λ s. s < length slots) s order all))
  where
    before : {X : Type 0} (slots : List X) (s : ℕ) (x : X) → s < length slots
        → slice_get (slots ++ x ∷ []) s ≡ slice_get slots s
    before [] s x h = absurd (omega (arith, h))
    before (y ∷ slots) zero x h = refl
    before (y ∷ slots) (suc s) x h = before slots s x (omega (arith, h))

-- the last slot is the last value
pub values_last : {X : Type 0} (slots : List X) (order : List ℕ) (s : ℕ) (x : X)
    → slice_get slots s ≡ Some x
    → values_at slots (order ++ s ∷ []) ≡ values_at slots order ++ x ∷ []
values_last slots [] s x is = ap (λ o. cons_option o []) is
values_last {X = X} slots (t ∷ order) s x is =
    more (slice_get slots t) (values_last slots order s x is)
  where
    more : (o : Option X) → values_at slots (order ++ s ∷ []) ≡ values_at slots order ++ x ∷ []
        → cons_option o (values_at slots (order ++ s ∷ []))
        ≡ cons_option o (values_at slots order) ++ x ∷ []
    more None rest = rest
    more (Some y) rest = ap (λ vs. y ∷ vs) rest

-- the order is as long as the list
pub long_as : {X : Type 0} (slots : List X) (order : List ℕ) (now : List X)
    → All (λ s. s < length slots) order → values_at slots order ≡ now → length order ≡ length now
long_as slots order now all is = sym (values_long slots order all) ∙ ap length is

-- a place of the list is one of its order
pub within_as : {X : Type 0} (slots : List X) (order : List ℕ) (now : List X) (i : ℕ)
    → All (λ s. s < length slots) order → values_at slots order ≡ now → i < length now
    → i < length order
within_as slots order now i all is h =
    subst (λ (n : ℕ). i < n) (sym (long_as slots order now all is)) h

-- what is read at the slot of a place is the list's value there
pub read_as : {X : Type 0} (slots : List X) (order : List ℕ) (now : List X) (i n : ℕ) (x : X)
    → All (λ s. s < length slots) order → values_at slots order ≡ now → i < length order
    → n ≡ get_or order i 0 → x ≡ get_or slots n x → x ≡ get_or now i x
read_as slots order now i n x all is h slot read =
    read
    ∙ ap (λ (k : ℕ). get_or slots k x) slot
    ∙ sym (value_at slots order i x all h)
    ∙ ap (λ vs. get_or vs i x) is

-- what is written there is written into the list
pub written_as : {X : Type 0} (slots : List X) (order : List ℕ) (now : List X) (i n : ℕ) (x : X)
    → All (λ s. s < length slots) order → AllPairs (λ s t. s ≢ t) order
    → values_at slots order ≡ now → i < length order → n ≡ get_or order i 0
    → values_at (set slots n x) order ≡ set now i x
written_as slots order now i n x all once is h slot =
    ap (λ (k : ℕ). values_at (set slots k x) order) slot
    ∙ values_set slots order i x all once h
    ∙ ap (λ vs. set vs i x) is

-- the slot after the others
pub get_more : {X : Type 0} (slots : List X) (x : X)
    → slice_get (slots ++ x ∷ []) (length slots) ≡ Some x
get_more [] x = refl
get_more (y ∷ slots) x = get_more slots x

-- a list of no length is empty
pub none_long : {X : Type 0} (xs : List X) → length xs ≡ 0 → xs ≡ []
none_long [] none = refl
none_long (x ∷ xs) none = absurd (omega (arith, none))
