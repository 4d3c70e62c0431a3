-- Marks for numbers that stand in a list.
use Rattle.std.proofs.Common.{ℕ, ◌≡◌, ◌<◌, ◌+◌, ◌==◌, Bool, true, false, List, [], ◌∷◌, ◌++◌, map, length, get_or, set, replicate, drop, take, refl, sym, ap, ◌∙◌, Some, None, arith, length-set}
use Rattle.std.proofs.lemmas.Bool.Decides.{nat_tests}
use Rattle.std.proofs.lemmas.List.{take_more, map-append, get_or-replicate, length-replicate}
use Rattle.std.proofs.lemmas.List.Folds.{list_any-append}
use Rattle.std.proofs.lemmas.Grind.{common_steps, get_or-set_at}
use Rattle.std.specs.List.{list_any}
use Rattle.json_order.specs.Lent.{lent_json}
use Rattle.json_order.specs.declared.lent.LentTree.{LentTree}
use Rattle.rtapp_scenario.specs.Values.{natural_within}
use Rattle.rtapp_scenario.specs.Keys.{cpus_after, numbers_in}
use Rattle.rtapp_scenario.specs.private.Marks.{AreMarks}
use Rattle.rtapp_scenario.proofs.Walks.{here}

mark_more : (seen : List Bool) (ns : List ℕ) (n k : ℕ) → n < 512 → length seen ≡ 512 → get_or seen k false ≡ list_any (λ m. m == k) ns → get_or (set seen n true) k false ≡ list_any (λ m. m == k) (ns ++ n ∷ [])
mark_more seen ns n k h long e = rw (list_any-append (λ m. m == k) ns (n ∷ [])) (grind (arith, nat_tests, common_steps, get_or-set_at))

pub marked : (seen : List Bool) (ns : List ℕ) (n : ℕ) → n < 512 → AreMarks seen ns → AreMarks (set seen n true) (ns ++ n ∷ [])
marked seen ns n h are = record { long = length-set seen n true ∙ are.long; mark = λ k below. mark_more seen ns n k h are.long (are.mark k below) }

-- no mark stands at first
pub none_marked : AreMarks (replicate 512 false) []
none_marked = record { long = length-replicate 512 false; mark = λ k below. get_or-replicate 512 k false false below }

-- the numbers before, with one item more
pub numbers_more : (items : List LentTree) (i : ℕ) (item : LentTree) (n : ℕ) → i < length items → item ≡ get_or items i item → natural_within 0 511 (lent_json item) ≡ Some n
    → numbers_in (map lent_json (take (i + 1) items)) ≡ numbers_in (map lent_json (take i items)) ++ n ∷ []
numbers_more items i item n h e q =
    let t : take (i + 1) items ≡ take i items ++ item ∷ [] = take_more items i item h ∙ ap (λ x. take i items ++ x ∷ []) (sym e) in
    rw t (simp map-append (rw q refl))

pub cpus_stop : (items : List LentTree) (i : ℕ) (item : LentTree) (before : List ℕ) (total : Bool) → i < length items → item ≡ get_or items i item → natural_within 0 511 (lent_json item) ≡ None
    → cpus_after before (map lent_json (drop i items)) ≡ total → false ≡ total
cpus_stop items i item before total h e q so_far =
    let step = here (λ xs. cpus_after before (map lent_json xs)) items i item h e in
    let now : cpus_after before (map lent_json (item ∷ drop (i + 1) items)) ≡ false = rw q refl in
    sym now ∙ sym step ∙ so_far

pub cpus_twice : (items : List LentTree) (i : ℕ) (item : LentTree) (n : ℕ) (before : List ℕ) (total : Bool) → i < length items → item ≡ get_or items i item → natural_within 0 511 (lent_json item) ≡ Some n
    → list_any (λ m. m == n) before ≡ true → cpus_after before (map lent_json (drop i items)) ≡ total → false ≡ total
cpus_twice items i item n before total h e q twice so_far =
    let step = here (λ xs. cpus_after before (map lent_json xs)) items i item h e in
    let now : cpus_after before (map lent_json (item ∷ drop (i + 1) items)) ≡ false = rw (q, twice) refl in
    sym now ∙ sym step ∙ so_far

pub cpus_on : (items : List LentTree) (i : ℕ) (item : LentTree) (n : ℕ) (before : List ℕ) (total : Bool) → i < length items → item ≡ get_or items i item → natural_within 0 511 (lent_json item) ≡ Some n
    → list_any (λ m. m == n) before ≡ false → cpus_after before (map lent_json (drop i items)) ≡ total → cpus_after (before ++ n ∷ []) (map lent_json (drop (i + 1) items)) ≡ total
cpus_on items i item n before total h e q new so_far =
    let step = here (λ xs. cpus_after before (map lent_json xs)) items i item h e in
    let now : cpus_after before (map lent_json (item ∷ drop (i + 1) items)) ≡ cpus_after (before ++ n ∷ []) (map lent_json (drop (i + 1) items)) = rw (q, new) refl in
    sym now ∙ sym step ∙ so_far
