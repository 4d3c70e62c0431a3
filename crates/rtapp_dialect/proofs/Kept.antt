-- A byte of a strict text that was not inserted is the byte that it comes from, or a space.
use Rattle.std.specs.Prelude.{◌==◌, ◌&&◌, ◌||◌, not, nat_lt, slice_index}
use Rattle.std.proofs.Common.{ℕ, zero, suc, ◌+◌, ◌-◌, ◌<◌, ◌≤◌, ◌≡◌, ◌⊎◌, inl, inr, Bool, true, false, List, [], ◌∷◌, ◌++◌, cond, length, get_or, refl, sym, ap, ◌∙◌, subst, arith}
use Rattle.std.proofs.lemmas.Bool.Decides.{nat_tests}
use Rattle.rtapp_dialect.specs.Comments.{within_after, byte_written, blanked_from, comments_blanked}
use Rattle.rtapp_dialect.specs.Filling.{closes, first_solid, quote_after, last_after, inside_after, may_begin, lacks_value, added, byte_kept, filled_from, values_filled, inserted_at, inserted_from, values_inserted}
use Rattle.rtapp_dialect.specs.Places.{origin_at, is_inserted, KeepsOrBlanks}
use Rattle.rtapp_dialect.specs.declared.comments.Within.{Within}
use Rattle.rtapp_dialect.specs.declared.comments.Within.TheVariants.{Outside, Text, Escape, Line, Opening, Block, Closing}
use Rattle.rtapp_dialect.specs.declared.bracket.Bracket.{Bracket}
use Rattle.rtapp_dialect.specs.declared.insertion.Insertion.{Insertion}
use Rattle.rtapp_dialect.specs.declared.spot.Quote.{Quote}
use Rattle.rtapp_dialect.specs.declared.spot.Quote.TheVariants.{Closed, Open, Escaped}
use Rattle.rtapp_dialect.specs.declared.spot.Last.{Last}
use Rattle.rtapp_dialect.specs.declared.spot.Last.TheVariants.{Other}
use Rattle.rtapp_dialect.proofs.Order.{AreFrom, inserted_in_order, not_before, is_below, is_not}

-- COMMENTS

is_feed : (c : ℕ) → (c == 10) ≡ true → c ≡ 10
is_feed c h = grind (arith, nat_tests)

blank_is : (c feed space : ℕ) (b : Bool) → feed ≡ 10 → (c == 10) ≡ b → (cond b feed space ≡ c) ⊎ (cond b feed space ≡ space)
blank_is c feed space true f e = inl (f ∙ sym (is_feed c e))
blank_is c feed space false f e = inr refl

space_or : (c : ℕ) (b : Bool) → (cond b 32 c ≡ c) ⊎ (cond b 32 c ≡ 32)
space_or c true = inr refl
space_or c false = inl refl

written_is : (w : Within) (c next : ℕ) → (byte_written w c next ≡ c) ⊎ (byte_written w c next ≡ 32)
written_is Outside c next = space_or c (c == 47 && (next == 47 || next == 42))
written_is Text c next = inl refl
written_is Escape c next = inl refl
written_is Line c next = blank_is c 10 32 (c == 10) refl refl
written_is Opening c next = blank_is c 10 32 (c == 10) refl refl
written_is Block c next = blank_is c 10 32 (c == 10) refl refl
written_is Closing c next = blank_is c 10 32 (c == 10) refl refl

blanked_kept : (w : Within) (cs : List ℕ) (k : ℕ) → (get_or (blanked_from w cs) k 0 ≡ get_or cs k 0) ⊎ (get_or (blanked_from w cs) k 0 ≡ 32)
blanked_kept w [] k = inl refl
blanked_kept w (c ∷ cs) zero = written_is w c (slice_index cs 0)
blanked_kept w (c ∷ cs) (suc k) = blanked_kept (within_after w c (slice_index cs 0)) cs k

-- COMMAS AND VALUES

kept_is : (q : Quote) (l : Last) (c solid : ℕ) → (byte_kept q l c solid ≡ c) ⊎ (byte_kept q l c solid ≡ 32)
kept_is Closed l c solid = space_or c (c == 44 && (not (may_begin l) && closes solid))
kept_is Open l c solid = inl refl
kept_is Escaped l c solid = inl refl

-- before the first insertion nothing moves
before_all : (k : ℕ) (is : List Insertion) (m : ℕ) → AreFrom k is → m < k → origin_at is m ≡ m
before_all k [] m f h = refl
before_all k (i ∷ is) m f h = first (nat_lt m i.at) refl
  where
    first : (b : Bool) → nat_lt m i.at ≡ b → cond b m (cond (nat_lt (m - i.at) i.len) i.at (origin_at is (m - i.len))) ≡ m
    first true e = refl
    first false e = let x = is_not m i.at e in let y = f.0 in absurd (omega (arith, x, y, h))

-- the byte at n + j of a rest that begins at n
rest_kept : (n j kept c : ℕ) (cs rest : List ℕ) (is : List Insertion) → AreFrom (n + 1) is → (kept ≡ c) ⊎ (kept ≡ 32) →
    ((k : ℕ) → n + 1 ≤ k → k < n + 1 + length rest → is_inserted is k ≡ false → (get_or rest (k - (n + 1)) 0 ≡ get_or cs (origin_at is k - (n + 1)) 0) ⊎ (get_or rest (k - (n + 1)) 0 ≡ 32)) →
    j < suc (length rest) → is_inserted is (n + j) ≡ false →
    (get_or (kept ∷ rest) j 0 ≡ get_or (c ∷ cs) (origin_at is (n + j) - n) 0) ⊎ (get_or (kept ∷ rest) j 0 ≡ 32)
rest_kept n zero kept c cs rest is f here more h outside =
    let e = before_all (n + 1) is (n + 0) f (omega arith) in
    let at : 0 ≡ origin_at is (n + 0) - n = omega (arith, e) in
    subst (λ (x : ℕ). (kept ≡ get_or (c ∷ cs) x 0) ⊎ (kept ≡ 32)) at here
rest_kept n (suc j) kept c cs rest is f here more h outside =
    let k = n + suc j in
    let low = not_before (n + 1) is k f (omega arith) in
    let one : k - (n + 1) ≡ j = omega arith in
    let two : suc (origin_at is k - (n + 1)) ≡ origin_at is k - n = omega (arith, low) in
    let there = more k (omega arith) (omega (arith, h)) outside in
    let moved = subst (λ (x : ℕ). (get_or rest x 0 ≡ get_or cs (origin_at is k - (n + 1)) 0) ⊎ (get_or rest x 0 ≡ 32)) one there in
    subst (λ (x : ℕ). (get_or rest j 0 ≡ get_or (c ∷ cs) x 0) ⊎ (get_or rest j 0 ≡ 32)) two moved

-- the same after an added value
piece_kept : (n j kept c : ℕ) (b : Bool) (cs rest : List ℕ) (is : List Insertion) → AreFrom (n + 1) is → (kept ≡ c) ⊎ (kept ≡ 32) →
    ((k : ℕ) → n + 1 ≤ k → k < n + 1 + length rest → is_inserted is k ≡ false → (get_or rest (k - (n + 1)) 0 ≡ get_or cs (origin_at is k - (n + 1)) 0) ⊎ (get_or rest (k - (n + 1)) 0 ≡ 32)) →
    j < length (added b ++ (kept ∷ rest)) → is_inserted (inserted_at b n ++ is) (n + j) ≡ false →
    (get_or (added b ++ (kept ∷ rest)) j 0 ≡ get_or (c ∷ cs) (origin_at (inserted_at b n ++ is) (n + j) - n) 0) ⊎ (get_or (added b ++ (kept ∷ rest)) j 0 ≡ 32)
piece_kept n j kept c false cs rest is f here more h outside = rest_kept n j kept c cs rest is f here more h outside
piece_kept n j kept c true cs rest is f here more h outside = behind (nat_lt (n + j) n) (nat_lt (n + j - n) 5) refl refl outside
  where
    five : (i : ℕ) → get_or (added true ++ (kept ∷ rest)) (5 + i) 0 ≡ get_or (kept ∷ rest) i 0
    five i = let e : 5 + i ≡ suc (suc (suc (suc (suc i)))) = omega arith in rw e refl

    behind : (p q : Bool) → nat_lt (n + j) n ≡ p → nat_lt (n + j - n) 5 ≡ q → cond p false (cond q true (is_inserted is (n + j - 5))) ≡ false →
        (get_or (added true ++ (kept ∷ rest)) j 0 ≡ get_or (c ∷ cs) (cond p (n + j) (cond q n (origin_at is (n + j - 5))) - n) 0) ⊎ (get_or (added true ++ (kept ∷ rest)) j 0 ≡ 32)
    behind true q x y z = let a = is_below (n + j) n x in absurd (omega (arith, a))
    behind false true x y z = cc
    behind false false x y z =
        let a = is_not (n + j - n) 5 y in
        let i = j - 5 in
        let e : j ≡ 5 + i = omega (arith, a) in
        let g : n + j - 5 ≡ n + i = omega (arith, a) in
        let short : i < suc (length rest) = omega (arith, h, a) in
        let kept_there = rest_kept n i kept c cs rest is f here more short (subst (λ (m : ℕ). is_inserted is m ≡ false) g z) in
        let byte : get_or (added true ++ (kept ∷ rest)) j 0 ≡ get_or (kept ∷ rest) i 0 = ap (λ (m : ℕ). get_or (added true ++ (kept ∷ rest)) m 0) e ∙ five i in
        let place : get_or (c ∷ cs) (origin_at is (n + i) - n) 0 ≡ get_or (c ∷ cs) (origin_at is (n + j - 5) - n) 0 = ap (λ (m : ℕ). get_or (c ∷ cs) (origin_at is m - n) 0) (sym g) in
        elim kept_there [ inl same ↦ inl (byte ∙ same ∙ place) | inr space ↦ inr (byte ∙ space) ]

filled_kept : (q : Quote) (l : Last) (a : List Bracket) (n : ℕ) (cs : List ℕ) (m : ℕ) → n ≤ m → m < n + length (filled_from q l a cs) → is_inserted (inserted_from q l a n cs) m ≡ false →
    (get_or (filled_from q l a cs) (m - n) 0 ≡ get_or cs (origin_at (inserted_from q l a n cs) m - n) 0) ⊎ (get_or (filled_from q l a cs) (m - n) 0 ≡ 32)
filled_kept q l a n [] m h g outside = absurd (omega (arith, h, g))
filled_kept q l a n (c ∷ cs) m h g outside =
    let rest = filled_from (quote_after q c) (last_after q l a c) (inside_after q a c) cs in
    let is = inserted_from (quote_after q c) (last_after q l a c) (inside_after q a c) (n + 1) cs in
    let b = lacks_value q l c in
    let j = m - n in
    let e : n + j ≡ m = omega (arith, h) in
    let there = piece_kept n j (byte_kept q l c (first_solid cs)) c b cs rest is (inserted_in_order (quote_after q c) (last_after q l a c) (inside_after q a c) (n + 1) cs (n + 1) (omega arith)) (kept_is q l c (first_solid cs))
    (λ k x y z. filled_kept (quote_after q c) (last_after q l a c) (inside_after q a c) (n + 1) cs k x y z) (omega (arith, h, g)) (subst (λ (x : ℕ). is_inserted (inserted_at b n ++ is) x ≡ false) (sym e) outside) in
    subst (λ (x : ℕ). (get_or (added b ++ (byte_kept q l c (first_solid cs) ∷ rest)) j 0 ≡ get_or (c ∷ cs) (origin_at (inserted_at b n ++ is) x - n) 0) ⊎ (get_or (added b ++ (byte_kept q l c (first_solid cs) ∷ rest)) j 0 ≡ 32)) e there

-- FILES

filled_bytes : (text : List ℕ) → KeepsOrBlanks text (values_filled text) (values_inserted text)
filled_bytes text n h outside =
    let there = filled_kept Closed Other [] 0 text n (omega arith) (omega (arith, h)) outside in
    let one : n - 0 ≡ n = omega arith in
    let two : origin_at (values_inserted text) n - 0 ≡ origin_at (values_inserted text) n = omega arith in
    let moved = subst (λ (x : ℕ). (get_or (values_filled text) x 0 ≡ get_or text (origin_at (values_inserted text) n - 0) 0) ⊎ (get_or (values_filled text) x 0 ≡ 32)) one there in
    subst (λ (x : ℕ). (get_or (values_filled text) n 0 ≡ get_or text x 0) ⊎ (get_or (values_filled text) n 0 ≡ 32)) two moved

file_bytes : (file : List ℕ) → KeepsOrBlanks file (values_filled (comments_blanked file)) (values_inserted (comments_blanked file))
file_bytes file n h outside =
    let k = origin_at (values_inserted (comments_blanked file)) n in
    elim (filled_bytes (comments_blanked file) n h outside) [
      | inl same ↦ elim (blanked_kept Outside file k) [ inl as_it_was ↦ inl (same ∙ as_it_was) | inr space ↦ inr (same ∙ space) ]
      | inr space ↦ inr space
    ]

pub strict_bytes : (file new : List ℕ) (is : List Insertion) → new ≡ values_filled (comments_blanked file) → is ≡ values_inserted (comments_blanked file) → KeepsOrBlanks file new is
strict_bytes file new is e f = rw (e, f) (file_bytes file)
