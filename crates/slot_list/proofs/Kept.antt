-- What a list keeps of its slots, where one goes from its order to those that are free, and back.
use Rattle.std.proofs.Common.{◌≡◌, ◌≢◌, ℕ, zero, suc, ◌<◌, ◌+◌, List, [], ◌∷◌, ◌++◌, length, get_or, All, refl, sym, ◌∙◌, subst, arith}
use Rattle.std.proofs.lemmas.List.{get_or_append_left, length-append}
use Rattle.std.proofs.lemmas.List.Edits.{length-remove}
use Rattle.std.proofs.lemmas.List.Elements.{All-push}
use Rattle.std.proofs.lemmas.List.Quantifiers.{all_pairs_push, all_pairs_remove}
use Rattle.std.specs.List.{AllPairs, remove}
use Rattle.slot_list.specs.private.Slots.{AreSlots}
use Rattle.slot_list.proofs.Values.{first_apart, rest_all, rest_once}

-- the free ones under another name
pub free_as : {n : ℕ} {order free now : List ℕ} {capacity o f : ℕ} → free ≡ now
    → AreSlots n order free capacity o f → AreSlots n order now capacity o f
free_as {n} {order} {free} {now} {capacity} {o} {f} same was =
    subst (λ (fs : List ℕ). AreSlots n order fs capacity o f) same was

-- WITHOUT ONE
-- what holds of all holds of those that stay
all_remove : (P : ℕ → Type 0) (xs : List ℕ) (i : ℕ) → i < length xs → All P xs → All P (remove xs i)
all_remove P [] i within all k d h = absurd (omega (arith, within))
all_remove P (x ∷ xs) zero within all k d h = rest_all P x xs all k d h
all_remove P (x ∷ xs) (suc i) within all zero d h = all zero d (omega arith)
all_remove P (x ∷ xs) (suc i) within all (suc k) d h =
    all_remove P xs i (omega (arith, within)) (rest_all P x xs all) k d (omega (arith, h))

-- those that stay are others than the one that goes
left_other : (xs : List ℕ) (i d : ℕ) → i < length xs → AllPairs (λ s t. s ≢ t) xs
    → All (λ u. u ≢ get_or xs i d) (remove xs i)
left_other [] i d within once k e h = absurd (omega (arith, within))
left_other (x ∷ xs) zero d within once k e h = first_apart x xs once k e h
left_other (x ∷ xs) (suc i) d within once zero e h =
    λ same. once zero (suc i) d (omega arith) within same
left_other (x ∷ xs) (suc i) d within once (suc k) e h =
    left_other xs i d (omega (arith, within)) (rest_once x xs once) k e (omega (arith, h))

-- a slot of the order is free now
pub kept_removed : (n : ℕ) (order free : List ℕ) (i s capacity o f : ℕ) → i < length order
    → s ≡ get_or order i s → AreSlots n order free capacity o f
    → AreSlots n (remove order i) (free ++ s ∷ []) capacity o f
kept_removed n order free i s capacity o f within is was = record {
  all =
      let less = length-remove order i within in
      let more : length (free ++ s ∷ []) ≡ length free + 1 = simp length-append in
      omega (arith, less, more, was.all);
  few = was.few;
  there = all_remove (λ u. u < n) order i within was.there;
  free_there =
      All-push (λ u. u < n) free s was.free_there
      (subst (λ (u : ℕ). u < n) (sym is) (was.there i s within));
  once = all_pairs_remove (λ u t. u ≢ t) order i within was.once;
  free_once =
      all_pairs_push (λ u t. u ≢ t) free s was.free_once
      (λ k d h e. was.apart i s within k d h (sym is ∙ sym e));
  apart = λ k d h. All-push (λ t. get_or (remove order i) k d ≢ t) free s
      (all_remove (λ u. All (λ t. u ≢ t) free) order i within was.apart k d h)
      (λ e. left_other order i s within was.once k d h (e ∙ is));
  room = was.room;
  room_in_order = was.room_in_order;
  room_in_free = was.room_in_free;
}

-- BEFORE THE LAST
-- the last is the one that was added
pub last_is : (xs : List ℕ) (x d : ℕ) → get_or (xs ++ x ∷ []) (length xs) d ≡ x
last_is [] x d = refl
last_is (y ∷ xs) x d = last_is xs x d

-- the last is in the list
last_in : (xs : List ℕ) (x : ℕ) → length xs < length (xs ++ x ∷ [])
last_in xs x =
    let more : length (xs ++ x ∷ []) ≡ length xs + 1 = simp length-append in
    omega (arith, more)

-- what holds of all holds of the last
pub last_all : (P : ℕ → Type 0) (xs : List ℕ) (x : ℕ) → All P (xs ++ x ∷ []) → P x
last_all P xs x all = subst P (last_is xs x x) (all (length xs) x (last_in xs x))

-- what holds of all holds of those before the last
front_all : (P : ℕ → Type 0) (xs : List ℕ) (x : ℕ) → All P (xs ++ x ∷ []) → All P xs
front_all P xs x all k d h =
    subst P (get_or_append_left xs (x ∷ []) d k h)
    (all k d (let last = last_in xs x in omega (arith, h, last)))

-- what holds of each two holds of those before the last
front_pairs : (R : ℕ → ℕ → Type 0) (xs : List ℕ) (x : ℕ) → AllPairs R (xs ++ x ∷ []) → AllPairs R xs
front_pairs R xs x pairs i j d less h =
    let last = last_in xs x in
    subst (λ (u : ℕ). R u (get_or xs j d))
    (get_or_append_left xs (x ∷ []) d i (omega (arith, less, h)))
    (subst (λ (u : ℕ). R (get_or (xs ++ x ∷ []) i d) u) (get_or_append_left xs (x ∷ []) d j h)
    (pairs i j d less (omega (arith, h, last))))

-- what holds of each two holds of each with the last
last_pairs : (R : ℕ → ℕ → Type 0) (xs : List ℕ) (x : ℕ) → AllPairs R (xs ++ x ∷ [])
    → All (λ u. R u x) xs
last_pairs R xs x pairs k d h =
    subst (λ (u : ℕ). R u x) (get_or_append_left xs (x ∷ []) d k h)
    (subst (λ (t : ℕ). R (get_or (xs ++ x ∷ []) k d) t) (last_is xs x d)
    (pairs k (length xs) d h (last_in xs x)))

-- the last of those that are free is the last of the order now
pub kept_pushed : (n : ℕ) (order free : List ℕ) (s capacity o f : ℕ)
    → AreSlots n order (free ++ s ∷ []) capacity o f
    → AreSlots n (order ++ s ∷ []) free capacity o f
kept_pushed n order free s capacity o f was = record {
  all =
      let one : length (order ++ s ∷ []) ≡ length order + 1 = simp length-append in
      let other : length (free ++ s ∷ []) ≡ length free + 1 = simp length-append in
      omega (arith, one, other, was.all);
  few = was.few;
  there = All-push (λ u. u < n) order s was.there (last_all (λ u. u < n) free s was.free_there);
  free_there = front_all (λ u. u < n) free s was.free_there;
  once = all_pairs_push (λ u t. u ≢ t) order s was.once
      (λ k d h. last_all (λ t. get_or order k d ≢ t) free s (was.apart k d h));
  free_once = front_pairs (λ u t. u ≢ t) free s was.free_once;
  apart = All-push (λ u. All (λ t. u ≢ t) free) order s
      (λ k d h. front_all (λ t. get_or order k d ≢ t) free s (was.apart k d h))
      (λ k d h e. last_pairs (λ u t. u ≢ t) free s was.free_once k d h (sym e));
  room = was.room;
  room_in_order = was.room_in_order;
  room_in_free = was.room_in_free;
}

-- a slot more, which is the last of the order
pub kept_grown : (n : ℕ) (order : List ℕ) (capacity o f : ℕ) → n < 256
    → AreSlots n order [] capacity o f → AreSlots (n + 1) (order ++ n ∷ []) [] capacity o f
kept_grown n order capacity o f few was = record {
  all =
      let one : length (order ++ n ∷ []) ≡ length order + 1 = simp length-append in
      omega (arith, one, was.all);
  few = omega (arith, few);
  there = All-push (λ u. u < n + 1) order n
      (λ k d h. let less = was.there k d h in omega (arith, less)) (omega arith);
  free_there = λ k d h. absurd (omega (arith, h));
  once = all_pairs_push (λ u t. u ≢ t) order n was.once
      (λ k d h e. let less = was.there k d h in absurd (omega (arith, less, e)));
  free_once = λ i j d less h. absurd (omega (arith, h));
  apart = λ i e within k d h. absurd (omega (arith, h));
  room = was.room;
  room_in_order = was.room_in_order;
  room_in_free = was.room_in_free;
}
