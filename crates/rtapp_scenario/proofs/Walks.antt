-- Loops over members in text order.
use Rattle.std.proofs.Common.{ℕ, ◌≡◌, ◌<◌, ◌≤◌, ◌+◌, ◌||◌, Bool, true, false, List, [], ◌∷◌, ◌++◌, map, length, get_or, drop, take, refl, sym, ap, ◌∙◌, Option, Some, None}
use Rattle.std.proofs.lemmas.List.{at_drop_more, at_drop_all, take_more, map-append}
use Rattle.std.specs.List.{list_any}
use Rattle.std.specs.Str.{bytes_eq}
use Rattle.json_order.specs.Lent.{text_bytes, lent_json}
use Rattle.json_order.specs.declared.lent.LentText.{LentText}
use Rattle.json_order.specs.declared.lent.LentTree.{LentTree}
use Rattle.rtapp_scenario.specs.Values.{Member, member_of, members_of, at}
use Rattle.rtapp_scenario.specs.Faults.{Fault, first, first_fault_in}

-- a function of what is left, at the next item
pub here : {X Y : Type 0} (F : List X → Y) (xs : List X) (i : ℕ) (x : X) → i < length xs → x ≡ get_or xs i x → F (drop i xs) ≡ F (x ∷ drop (i + 1) xs)
here F xs i x h e = at_drop_more F xs i x h ∙ ap (λ y. F (y ∷ drop (i + 1) xs)) (sym e)

-- ---- some of several

pub any_of_map : {X Y : Type 0} (test : Y → Bool) (f : X → Y) (xs : List X) → list_any (λ x. test (f x)) xs ≡ list_any test (map f xs)
any_of_map test f [] = refl
any_of_map test f (x ∷ xs) = ap (λ b. test (f x) || b) (any_of_map test f xs)

-- ---- the value at a key

pub at_found : (key : List ℕ) (ms : List (LentText × LentTree)) (i : ℕ) (m : LentText × LentTree) → i < length ms → m ≡ get_or ms i m → bytes_eq (text_bytes m.0) key ≡ true
    → at key (members_of (drop i ms)) ≡ at key (members_of ms) → Some (lent_json m.1) ≡ at key (members_of ms)
unfolding at
at_found key ms i m h e same so_far =
    let step : at key (members_of (drop i ms)) ≡ at key (members_of (m ∷ drop (i + 1) ms)) = here (λ xs. at key (members_of xs)) ms i m h e in
    let now : at key (members_of (m ∷ drop (i + 1) ms)) ≡ Some (lent_json m.1) = rw same refl in
    sym now ∙ sym step ∙ so_far

pub at_passed : (key : List ℕ) (ms : List (LentText × LentTree)) (i : ℕ) (m : LentText × LentTree) → i < length ms → m ≡ get_or ms i m → bytes_eq (text_bytes m.0) key ≡ false
    → at key (members_of (drop i ms)) ≡ at key (members_of ms) → at key (members_of (drop (i + 1) ms)) ≡ at key (members_of ms)
unfolding at
at_passed key ms i m h e other so_far =
    let step : at key (members_of (drop i ms)) ≡ at key (members_of (m ∷ drop (i + 1) ms)) = here (λ xs. at key (members_of xs)) ms i m h e in
    let on : at key (members_of (m ∷ drop (i + 1) ms)) ≡ at key (members_of (drop (i + 1) ms)) = rw other refl in
    sym on ∙ sym step ∙ so_far

pub at_end : (key : List ℕ) (ms : List (LentText × LentTree)) (i : ℕ) → length ms ≤ i → at key (members_of (drop i ms)) ≡ at key (members_of ms) → None ≡ at key (members_of ms)
unfolding at
at_end key ms i h so_far = sym (at_drop_all (λ xs. at key (members_of xs)) ms i h) ∙ so_far

-- ---- the first of several

-- it is here
pub first_found : {X Y : Type 0} (f : X → Option Y) (xs : List X) (i : ℕ) (x : X) (y : Y) → i < length xs → x ≡ get_or xs i x → f x ≡ Some y
    → first (map f (drop i xs)) ≡ first (map f xs) → Some y ≡ first (map f xs)
first_found f xs i x y h e found so_far =
    let step : first (map f (drop i xs)) ≡ first (map f (x ∷ drop (i + 1) xs)) = here (λ ys. first (map f ys)) xs i x h e in
    let now : first (map f (x ∷ drop (i + 1) xs)) ≡ Some y = rw found refl in
    sym now ∙ sym step ∙ so_far

-- it is not here
pub first_passed : {X Y : Type 0} (f : X → Option Y) (xs : List X) (i : ℕ) (x : X) → i < length xs → x ≡ get_or xs i x → f x ≡ None
    → first (map f (drop i xs)) ≡ first (map f xs) → first (map f (drop (i + 1) xs)) ≡ first (map f xs)
first_passed f xs i x h e none so_far =
    let step : first (map f (drop i xs)) ≡ first (map f (x ∷ drop (i + 1) xs)) = here (λ ys. first (map f ys)) xs i x h e in
    let on : first (map f (x ∷ drop (i + 1) xs)) ≡ first (map f (drop (i + 1) xs)) = rw none refl in
    sym on ∙ sym step ∙ so_far

pub first_end : {X Y : Type 0} (f : X → Option Y) (xs : List X) (i : ℕ) → length xs ≤ i → first (map f (drop i xs)) ≡ first (map f xs) → None ≡ first (map f xs)
first_end f xs i h so_far = sym (at_drop_all (λ ys. first (map f ys)) xs i h) ∙ so_far

-- ---- the first fault in text order, by what stands before

pub order_found : (test : List Member → Member → Option Fault) (ms : List (LentText × LentTree)) (i : ℕ) (m : LentText × LentTree) (fault : Fault) → i < length ms → m ≡ get_or ms i m
    → test (members_of (take i ms)) (member_of m) ≡ Some fault
    → first_fault_in test (members_of (take i ms)) (members_of (drop i ms)) ≡ first_fault_in test [] (members_of ms) → Some fault ≡ first_fault_in test [] (members_of ms)
order_found test ms i m fault h e found so_far =
    let step : first_fault_in test (members_of (take i ms)) (members_of (drop i ms)) ≡ first_fault_in test (members_of (take i ms)) (members_of (m ∷ drop (i + 1) ms)) =
    here (λ xs. first_fault_in test (members_of (take i ms)) (members_of xs)) ms i m h e in
    let now : first_fault_in test (members_of (take i ms)) (members_of (m ∷ drop (i + 1) ms)) ≡ Some fault = rw found refl in
    sym now ∙ sym step ∙ so_far

pub order_end : (test : List Member → Member → Option Fault) (ms : List (LentText × LentTree)) (i : ℕ) → length ms ≤ i
    → first_fault_in test (members_of (take i ms)) (members_of (drop i ms)) ≡ first_fault_in test [] (members_of ms) → None ≡ first_fault_in test [] (members_of ms)
order_end test ms i h so_far = sym (at_drop_all (λ xs. first_fault_in test (members_of (take i ms)) (members_of xs)) ms i h) ∙ so_far

-- one member more stands before
pub before_more : (ms : List (LentText × LentTree)) (i : ℕ) (m : LentText × LentTree) → i < length ms → m ≡ get_or ms i m → members_of (take (i + 1) ms) ≡ members_of (take i ms) ++ member_of m ∷ []
before_more ms i m h e = ap (λ xs. members_of xs) (take_more ms i m h) ∙ map-append member_of (take i ms) (get_or ms i m ∷ []) ∙ ap (λ x. members_of (take i ms) ++ member_of x ∷ []) (sym e)

pub first_none : {X : Type 0} (o : Option X) → first (o ∷ []) ≡ o
first_none None = refl
first_none (Some x) = refl

pub order_passed : (test : List Member → Member → Option Fault) (ms : List (LentText × LentTree)) (i : ℕ) (m : LentText × LentTree) → i < length ms → m ≡ get_or ms i m
    → test (members_of (take i ms)) (member_of m) ≡ None
    → first_fault_in test (members_of (take i ms)) (members_of (drop i ms)) ≡ first_fault_in test [] (members_of ms)
    → first_fault_in test (members_of (take (i + 1) ms)) (members_of (drop (i + 1) ms)) ≡ first_fault_in test [] (members_of ms)
order_passed test ms i m h e none so_far =
    let step : first_fault_in test (members_of (take i ms)) (members_of (drop i ms)) ≡ first_fault_in test (members_of (take i ms)) (members_of (m ∷ drop (i + 1) ms)) =
    here (λ xs. first_fault_in test (members_of (take i ms)) (members_of xs)) ms i m h e in
    let on : first_fault_in test (members_of (take i ms)) (members_of (m ∷ drop (i + 1) ms)) ≡ first_fault_in test (members_of (take i ms) ++ member_of m ∷ []) (members_of (drop (i + 1) ms)) =
    rw none (first_none (first_fault_in test (members_of (take i ms) ++ member_of m ∷ []) (members_of (drop (i + 1) ms)))) in
    rw (before_more ms i m h e) (sym on ∙ sym step ∙ so_far)
