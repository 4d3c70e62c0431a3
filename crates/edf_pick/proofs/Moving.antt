-- The CPUs that another one has, found one after another.
use Rattle.std.proofs.Common.{◌≡◌, ◌<◌, ◌≤◌, ◌+◌, ℕ, zero, suc, Bool, true, false, cond, Option, Some, None, List, [], ◌∷◌, ◌++◌, length, get_or, set, refl, sym, ap, ◌∙◌, arith, eqb-true, eq-eqb, zero-add, length-append}
use Rattle.std.proofs.lemmas.List.{same_lists, get_or_default}
use Rattle.edf_pick.specs.declared.moves.Moved.{Moved}
use Rattle.edf_pick.specs.Moves.{same_occupant, moved_at, moved_from}
use Rattle.edf_pick.specs.Places.{Places}

same_itself : (o : Option ℕ) → same_occupant o o ≡ true
same_itself None = refl
same_itself (Some n) = eq-eqb n n refl

pub same_is : (a b : Option ℕ) → same_occupant a b ≡ true → a ≡ b
same_is None None e = refl
same_is None (Some n) e = absurd cc
same_is (Some m) None e = absurd cc
same_is (Some m) (Some n) e = ap (λ (k : ℕ). Some k) (eqb-true m n e)

-- all are the same
pub moved_none : (k : ℕ) (before after : Places) → ((cpu : ℕ) → get_or before cpu None ≡ get_or after cpu None) → moved_from k before after ≡ []
moved_none k [] after same = refl
moved_none k (b ∷ before) [] same = refl
moved_none k (b ∷ before) (a ∷ after) same =
    let rest = moved_from (k + 1) before after in
    ap (λ (t : Bool). cond t rest (record { cpu = k; before = b } ∷ rest)) (ap (λ (o : Option ℕ). same_occupant o a) (same 0) ∙ same_itself a)
    ∙ moved_none (k + 1) before after (λ cpu. same (suc cpu))

-- the first that may differ, and then the others
pub moved_first : (k i : ℕ) (before after : Places) → length before ≡ length after → i < length before → ((cpu : ℕ) → cpu < i → get_or before cpu None ≡ get_or after cpu None)
    → moved_from k before after ≡ moved_at (k + i) (get_or before i None) (get_or after i None) ++ moved_from k (set before i (get_or after i None)) after
moved_first k i [] after len h same = absurd (omega arith)
moved_first k i (b ∷ before) [] len h same = absurd (omega (arith, len))
moved_first k zero (b ∷ before) (a ∷ after) len h same =
    let rest = moved_from (k + 1) before after in
    let here : k + 0 ≡ k = omega arith in
    let after_it : cond (same_occupant a a) rest (record { cpu = k; before = a } ∷ rest) ≡ rest = ap (λ (t : Bool). cond t rest (record { cpu = k; before = a } ∷ rest)) (same_itself a) in
    (elim (same_occupant b a) as (λ t. cond t rest (record { cpu = k; before = b } ∷ rest) ≡ cond t [] (record { cpu = k; before = b } ∷ []) ++ rest) [ true ↦ refl | false ↦ refl ])
    ∙ ap (λ (xs : List Moved). moved_at k b a ++ xs) (sym after_it)
    ∙ ap (λ (j : ℕ). moved_at j b a ++ moved_from k (a ∷ before) (a ∷ after)) (sym here)
moved_first k (suc i) (b ∷ before) (a ∷ after) len h same =
    let rest = moved_from (k + 1) before after in
    let new = set before i (get_or after i None) in
    let next = moved_from (k + 1) new after in
    let at : (k + 1) + i ≡ k + suc i = omega arith in
    let first : same_occupant b a ≡ true = ap (λ (o : Option ℕ). same_occupant o a) (same 0 (omega arith)) ∙ same_itself a in
    ap (λ (t : Bool). cond t rest (record { cpu = k; before = b } ∷ rest)) first
    ∙ moved_first (k + 1) i before after (omega (arith, len)) (omega (arith, h)) (λ cpu l. same (suc cpu) (omega (arith, l)))
    ∙ ap (λ (j : ℕ). moved_at j (get_or before i None) (get_or after i None) ++ next) at
    ∙ ap (λ (xs : List Moved). moved_at (k + suc i) (get_or before i None) (get_or after i None) ++ xs) (sym (ap (λ (t : Bool). cond t next (record { cpu = k; before = b } ∷ next)) first))

pub moved_length : (k : ℕ) (before after : Places) → length (moved_from k before after) ≤ length before
moved_length k [] after = omega arith
moved_length k (b ∷ before) [] = omega arith
moved_length k (b ∷ before) (a ∷ after) =
    let rest = moved_from (k + 1) before after in
    let less = moved_length (k + 1) before after in
    elim (same_occupant b a) as (λ t. length (cond t rest (record { cpu = k; before = b } ∷ rest)) ≤ length (b ∷ before)) [ true ↦ omega (arith, less) | false ↦ omega (arith, less) ]

pub moved_step : (i : ℕ) (before after : Places) → length before ≡ length after → i < length before → ((cpu : ℕ) → cpu < i → get_or before cpu None ≡ get_or after cpu None)
    → moved_from 0 before after ≡ moved_at i (get_or before i None) (get_or after i None) ++ moved_from 0 (set before i (get_or after i None)) after
moved_step i before after len h same =
    moved_first 0 i before after len h same
    ∙ ap (λ (j : ℕ). moved_at j (get_or before i None) (get_or after i None) ++ moved_from 0 (set before i (get_or after i None)) after) (zero-add i)

-- one that differs has room
pub room_for : (list rest total : List Moved) (i : ℕ) (b a : Option ℕ) → list ++ (moved_at i b a ++ rest) ≡ total → same_occupant b a ≡ false → length list < length total
room_for list rest total i b a whole differs =
    let one : moved_at i b a ≡ record { cpu = i; before = b } ∷ [] = ap (λ (t : Bool). cond t [] (record { cpu = i; before = b } ∷ [])) differs in
    let all : length list + length (moved_at i b a ++ rest) ≡ length total = sym (length-append list (moved_at i b a ++ rest)) ∙ ap (λ (xs : List Moved). length xs) whole in
    let some : length (moved_at i b a ++ rest) ≡ length (moved_at i b a) + length rest = length-append (moved_at i b a) rest in
    let single : length (moved_at i b a) ≡ 1 = ap (λ (xs : List Moved). length xs) one in
    omega (arith, all, some, single)

-- a CPU past the last has no other one
pub differs_within : (before after : Places) (i : ℕ) → length before ≡ length after → same_occupant (get_or before i None) (get_or after i None) ≡ false → i < length before
differs_within [] [] i len differs = absurd (let same : true ≡ false = differs in cc)
differs_within [] (a ∷ after) i len differs = absurd (omega (arith, len))
differs_within (b ∷ before) [] i len differs = absurd (omega (arith, len))
differs_within (b ∷ before) (a ∷ after) zero len differs = omega arith
differs_within (b ∷ before) (a ∷ after) (suc i) len differs = let more = differs_within before after i (omega (arith, len)) differs in omega (arith, more)

pub same_all : (before after : Places) → length before ≡ length after → ((cpu : ℕ) → get_or before cpu None ≡ get_or after cpu None) → before ≡ after
same_all before after len same = same_lists before after len (λ k d h. get_or_default before k d None h ∙ same k ∙ get_or_default after k None d (omega (arith, len, h)))
