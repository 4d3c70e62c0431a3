-- Runs of plain bytes, seen a vector at a time through the mask of the bytes that end them.
use Rattle.std.specs.Prelude.{nat_le, slice_index}
use Rattle.std.proofs.Common.{◌≡◌, ℕ, suc, ◌+◌, ◌-◌, ◌*◌, ◌%◌, ◌^◌, ◌<◌, ◌≤◌, Bool, true, false, not, ◌&&◌, cond, eqb, ltb, List, [], ◌∷◌, map, length, drop, take, refl, sym, ap, ap₂, ◌∙◌, subst, arith}
use Rattle.std.proofs.lemmas.Simd.{chunk-drop, length-chunk, leading_from_mask_l, trailing_mask_l, mask_l-mod, zip2_splat, zip2_of_maps}
use Rattle.std.proofs.lemmas.List.{drop-drop, length-drop, length-map, take_all}
use Rattle.std.proofs.lemmas.List.Folds.{prefix_len-append}
use Rattle.std.proofs.lemmas.List.Sums.{prefix_len-le-length, prefix_len_stops}
use Rattle.std.proofs.lemmas.Bool.{eq-eqb, ne_eqb}
use Rattle.std.proofs.lemmas.Bool.Decides.{nat_tests}
use Rattle.std.specs.List.{prefix_len, AllByRecursion}
use lib.Bits.{bit_or}
use lib.Lanes.{chunk, mask_l, zip2, top}
use lib.ListN.{replicate}
use lib.Count.{count_trailing_zeros}
use Rattle.json_order.specs.Grammar.{is_plain}
use Rattle.json_order.specs.private.AtOnce.{is_end}

-- THE MASK

abbrev hit : ℕ → ℕ → ℕ
hit a b = cond (eqb a b) 255 0

abbrev below : ℕ → ℕ → ℕ
below a b = cond (ltb a b) 255 0

-- what the three comparisons leave of one byte
abbrev marked : ℕ → ℕ
marked b = bit_or (bit_or (hit b 34) (hit b 92)) (below b 32)

joined : (quote slash low : Bool) → top 7 (bit_or (bit_or (cond quote 255 0) (cond slash 255 0)) (cond low 255 0)) ≡ not (not low && (not quote && not slash))
joined true true true = refl
joined true true false = refl
joined true false true = refl
joined true false false = refl
joined false true true = refl
joined false true false = refl
joined false false true = refl
joined false false false = refl

low_is : (b : ℕ) → nat_le 32 b ≡ not (ltb b 32)
low_is b = grind (arith, nat_tests)

marks_end : (b : ℕ) → top 7 (marked b) ≡ is_end b
marks_end b = joined (eqb b 34) (eqb b 92) (ltb b 32) ∙ ap (λ l. not (l && (not (eqb b 34) && not (eqb b 92)))) (sym (low_is b))

each_end : (v : List ℕ) → map (top 7) (map marked v) ≡ map is_end v
each_end [] = refl
each_end (b ∷ bs) = ap₂ (λ x xs. x ∷ xs) (marks_end b) (each_end bs)

pub mask_of_ends : (n : ℕ) (v : List ℕ) → n ≤ 64 → length v ≡ n
    → mask_l (map (top 7) (zip2 bit_or (zip2 bit_or (zip2 hit v (replicate n 34)) (zip2 hit v (replicate n 92))) (zip2 below v (replicate n 32)))) % 2 ^ 64 ≡ mask_l (map is_end v)
mask_of_ends n v few long =
    let quotes = zip2_splat hit v n 34 long in
    let slashes = zip2_splat hit v n 92 long in
    let lows = zip2_splat below v n 32 long in
    let both = zip2_of_maps bit_or (λ b. hit b 34) (λ b. hit b 92) v quotes slashes in
    let all = zip2_of_maps bit_or (λ b. bit_or (hit b 34) (hit b 92)) (λ b. below b 32) v both lows in
    ap (λ z. mask_l (map (top 7) z) % 2 ^ 64) all ∙ ap (λ z. mask_l z % 2 ^ 64) (each_end v) ∙ mask_l-mod (map is_end v) 64 (omega (arith, length-map v is_end, long))

-- THE RUN

not_not : (b : Bool) → b ≡ not (not b)
not_not true = refl
not_not false = refl

same_run : (xs : List ℕ) → prefix_len is_plain xs ≡ prefix_len (λ b. not (is_end b)) xs
same_run [] = refl
same_run (x ∷ xs) = ap₂ (λ b n. cond b (1 + n) 0) (not_not (is_plain x)) (same_run xs)

none_ends : (b : Bool) (n l m : ℕ) → n ≤ l → cond b (1 + n) 0 ≡ 1 + l → (n ≡ l → m ≡ 0) → cond (not b) 1 0 + 2 * m ≡ 0
none_ends true n l m le e ih = let z = ih (omega arith) in omega arith
none_ends false n l m le e ih = let no : ⊥ = omega arith in absurd no

all_plain : (xs : List ℕ) → prefix_len is_plain xs ≡ length xs → mask_l (map is_end xs) ≡ 0
all_plain [] e = refl
all_plain (x ∷ xs) e = none_ends (is_plain x) _ (length xs) _ (prefix_len-le-length is_plain xs) (omega arith) (all_plain xs)

split : (d : List ℕ) (i n : ℕ) → prefix_len is_plain (drop i d) ≡ cond (eqb (prefix_len is_plain (chunk i n d)) (length (chunk i n d))) (length (chunk i n d) + prefix_len is_plain (drop (i + n) d)) (prefix_len is_plain (chunk i n d))
split d i n = ap (prefix_len is_plain) (chunk-drop i n d) ∙ prefix_len-append is_plain (chunk i n d) (drop (i + n) d)

-- a vector without an end is passed whole
pub run_through : (d : List ℕ) (i n : ℕ) → i + n ≤ length d → mask_l (map is_end (chunk i n d)) ≡ 0 → prefix_len is_plain (drop i d) ≡ n + prefix_len is_plain (drop (i + n) d)
run_through d i n room none =
    let v = chunk i n d in
    split d i n ∙ ap (λ b. cond b (length v + prefix_len is_plain (drop (i + n) d)) (prefix_len is_plain v)) (eq-eqb _ _ (same_run v ∙ leading_from_mask_l is_end v none))
    ∙ ap (λ k. k + prefix_len is_plain (drop (i + n) d)) (length-chunk i n d room)

-- in another the lowest bit tells where the run ends
pub run_stops : (d : List ℕ) (i n : ℕ) → i + n ≤ length d → n ≤ 64 → 0 < mask_l (map is_end (chunk i n d)) → prefix_len is_plain (drop i d) ≡ count_trailing_zeros 64 (mask_l (map is_end (chunk i n d)))
run_stops d i n room short some =
    let v = chunk i n d in
    split d i n ∙ ap (λ b. cond b (length v + prefix_len is_plain (drop (i + n) d)) (prefix_len is_plain v)) (ne_eqb _ _ (λ (e : prefix_len is_plain v ≡ length v). omega (arith, all_plain v e)))
    ∙ same_run v ∙ sym (trailing_mask_l is_end 64 v (omega (arith, length-chunk i n d room)) some)

pub run_within : (d : List ℕ) (i : ℕ) → i ≤ length d → i + prefix_len is_plain (drop i d) ≤ length d
run_within d i h = omega (arith, prefix_len-le-length is_plain (drop i d), length-drop i d)

-- wide vectors behind some bytes
pub run_wide : (d : List ℕ) (i n : ℕ) → i ≤ length d → n ≤ length (take (length d - i) (drop i d)) → prefix_len is_plain (take (length d - i) (drop i d)) ≡ n + prefix_len is_plain (drop n (take (length d - i) (drop i d))) → (i + n ≤ length d) × (prefix_len is_plain (drop i d) ≡ n + prefix_len is_plain (drop (i + n) d))
run_wide d i n h l run =
    let left = length-drop i d in
    let whole : take (length d - i) (drop i d) ≡ drop i d = take_all (length d - i) (drop i d) (omega (arith, left)) in
    let inside : n ≤ length (drop i d) = subst (λ xs. n ≤ length xs) whole l in
    let same : prefix_len is_plain (drop i d) ≡ n + prefix_len is_plain (drop n (drop i d)) = subst (λ xs. prefix_len is_plain xs ≡ n + prefix_len is_plain (drop n xs)) whole run in
    (omega (arith, left, inside), same ∙ ap (λ xs. n + prefix_len is_plain xs) (drop-drop n i d))

-- what is left behind the vectors, looked at one by one
pub run_left : (d : List ℕ) (i n : ℕ) → prefix_len is_plain d ≡ i + prefix_len is_plain (drop i d) → n ≡ prefix_len is_plain (take (length d - i) (drop i d)) → i + n ≡ prefix_len is_plain d
run_left d i n run e =
    let whole : take (length d - i) (drop i d) ≡ drop i d = take_all (length d - i) (drop i d) (omega (arith, length-drop i d)) in
    omega (arith, run, e ∙ ap (prefix_len is_plain) whole)

-- a byte from 128 on ends no run
end_is_low : (b : ℕ) → is_plain b ≡ false → b < 128
end_is_low b h = grind (arith, nat_tests)

pub run_ends : (d : List ℕ) (n : ℕ) → n ≡ prefix_len is_plain d → n < length d → slice_index d n < 128
run_ends d n e l =
    let inside : prefix_len is_plain d < length d = subst (λ k. k < length d) e l in
    subst (λ k. slice_index d k < 128) (sym e) (end_is_low _ (prefix_len_stops is_plain d 0 inside))

front_plain : (b : Bool) (x n : ℕ) (xs : List ℕ) → is_plain x ≡ b → AllByRecursion (λ y. is_plain y ≡ true) (take n xs) → AllByRecursion (λ y. is_plain y ≡ true) (take (cond b (1 + n) 0) (x ∷ xs))
front_plain true x n xs e h =
    let next : 1 + n ≡ suc n = omega arith in
    subst (λ k. AllByRecursion (λ y. is_plain y ≡ true) (take k (x ∷ xs))) (sym next) (e, h)
front_plain false x n xs e h = tt

pub run_plain : (xs : List ℕ) → AllByRecursion (λ b. is_plain b ≡ true) (take (prefix_len is_plain xs) xs)
run_plain [] = tt
run_plain (x ∷ xs) = front_plain (is_plain x) x (prefix_len is_plain xs) xs refl (run_plain xs)
