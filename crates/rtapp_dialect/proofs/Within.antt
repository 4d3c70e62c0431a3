-- What the offsets of a strict text lead back to lies within the file.
use Rattle.std.specs.Prelude.{nat_lt, slice_index, map, decimal}
use Rattle.std.proofs.Common.{ℕ, suc, ◌+◌, ◌-◌, ◌≤◌, ◌≡◌, Bool, true, false, List, [], ◌∷◌, ◌++◌, cond, length, drop, refl, sym, ap, subst, arith}
use Rattle.std.proofs.lemmas.List.{length-append, length-drop, length-take}
use Rattle.rtapp_dialect.specs.Filling.{first_solid, quote_after, last_after, inside_after, lacks_value, added, byte_kept, filled_from, values_filled, inserted_at, inserted_from, values_inserted}
use Rattle.rtapp_dialect.specs.Comments.{within_after, blanked_from, comments_blanked}
use Rattle.rtapp_dialect.specs.Numbers.{keys_from, keys_numbered, number_inserted, numbers_inserted}
use Rattle.rtapp_dialect.specs.Places.{origin_at, LeadsInto}
use Rattle.rtapp_dialect.specs.Repeats.{spelled_at, key_span, last_mark, earlier_in, ends_key, shuts, starts_bracket, start_after, keys_after, marks_after, repeat_if, repeats_from, repeats_in}
use Rattle.rtapp_dialect.specs.declared.keys.Span.{Span}
use Rattle.rtapp_dialect.specs.declared.repeats.Repeat.{Repeat}
use Rattle.rtapp_dialect.specs.declared.bracket.Bracket.{Bracket}
use Rattle.rtapp_dialect.specs.declared.comments.Within.{Within}
use Rattle.rtapp_dialect.specs.declared.comments.Within.TheVariants.{Outside}
use Rattle.rtapp_dialect.specs.declared.spot.Quote.{Quote}
use Rattle.rtapp_dialect.specs.declared.spot.Quote.TheVariants.{Closed}
use Rattle.rtapp_dialect.specs.declared.spot.Last.{Last}
use Rattle.rtapp_dialect.specs.declared.spot.Last.TheVariants.{Other}
use Rattle.rtapp_dialect.specs.declared.insertion.Insertion.{Insertion}
use Rattle.rtapp_dialect.proofs.Order.{is_below, is_not}

-- one insertion
pub one_within : (m at len rest end : ℕ) (p q : Bool) → nat_lt m at ≡ p → nat_lt (m - at) len ≡ q → at ≤ end → (m - len ≤ m → at + len ≤ m → rest ≤ end) → cond p m (cond q at rest) ≤ end
one_within m at len rest end true q a b h f = let x = is_below m at a in omega (arith, x, h)
one_within m at len rest end false true a b h f = h
one_within m at len rest end false false a b h f =
    let x = is_not m at a in
    let y = is_not (m - at) len b in
    f (omega arith) (omega (arith, x, y))

step_within : (n m size : ℕ) (b : Bool) (kept : ℕ) (rest : List ℕ) (is : List Insertion) → m ≤ n + length (added b ++ (kept ∷ rest)) → ((k : ℕ) → k ≤ n + 1 + length rest → origin_at is k ≤ n + 1 + size) → origin_at (inserted_at b n ++ is) m ≤ n + (size + 1)
step_within n m size true kept rest is h f =
    one_within m n 5 (origin_at is (m - 5)) (n + (size + 1)) (nat_lt m n) (nat_lt (m - n) 5) refl refl (omega arith) (λ _ g. let z = f (m - 5) (omega (arith, h, g)) in omega (arith, z))
step_within n m size false kept rest is h f = let z = f m (omega (arith, h)) in omega (arith, z)

pub filled_within : (q : Quote) (l : Last) (a : List Bracket) (n : ℕ) (cs : List ℕ) (m : ℕ) → m ≤ n + length (filled_from q l a cs) → origin_at (inserted_from q l a n cs) m ≤ n + length cs
filled_within q l a n [] m h = h
filled_within q l a n (c ∷ cs) m h =
    let rest = filled_from (quote_after q c) (last_after q l a c) (inside_after q a c) cs in
    let is = inserted_from (quote_after q c) (last_after q l a c) (inside_after q a c) (n + 1) cs in
    let z = step_within n m (length cs) (lacks_value q l c) (byte_kept q l c (first_solid cs)) rest is h (λ k g. filled_within (quote_after q c) (last_after q l a c) (inside_after q a c) (n + 1) cs k g) in
    omega (arith, z)

blanked_length : (w : Within) (cs : List ℕ) → length (blanked_from w cs) ≡ length cs
blanked_length w [] = refl
blanked_length w (c ∷ cs) = ap (λ (n : ℕ). suc n) (blanked_length (within_after w c (slice_index cs 0)) cs)

pub text_within : (file new : List ℕ) (is : List Insertion) → new ≡ values_filled (comments_blanked file) → is ≡ values_inserted (comments_blanked file) → LeadsInto is (length new) (length file)
text_within file new is e f = λ n h.
    let z = filled_within Closed Other [] 0 (comments_blanked file) n (subst (λ (x : List ℕ). n ≤ 0 + length x) e (omega (arith, h))) in
    let same = blanked_length Outside file in
    let led : origin_at is n ≤ 0 + length (comments_blanked file) = subst (λ (x : List Insertion). origin_at x n ≤ 0 + length (comments_blanked file)) (sym f) z in
    omega (arith, led, same)

-- NUMBERS

-- each is at k or later, no earlier than the one before it, and at most at the end
abbrev pub LieUpTo : ℕ → ℕ → List Repeat → Type 0
LieUpTo k end [] = Unit {0}
LieUpTo k end (r ∷ repeats) = (k ≤ r.at) × (r.at ≤ end) × LieUpTo r.at end repeats

if_inside : (k n end count : ℕ) (p : Bool) (rest : List Repeat) → k ≤ n → n ≤ end → LieUpTo n end rest → LieUpTo k end rest → LieUpTo k end (cond p (record { at = n; earlier = count } ∷ []) [] ++ rest)
if_inside k n end count true rest h i f g = (h, i, f)
if_inside k n end count false rest h i f g = g

key_inside : (k n end count : ℕ) (b : Bool) (rest : List Repeat) → k ≤ n → n ≤ end → LieUpTo n end rest → LieUpTo k end rest → LieUpTo k end (repeat_if b n count ++ rest)
key_inside k n end count true rest h i f g = if_inside k n end count (nat_lt 0 count) rest h i f g
key_inside k n end count false rest h i f g = g

repeats_inside : (text : List ℕ) (q : Quote) (l : Last) (a : List Bracket) (st : ℕ) (ms : List ℕ) (ks : List Span) (n : ℕ) (cs : List ℕ) (k end : ℕ) → k ≤ n → n + length cs ≤ end → LieUpTo k end (repeats_from text q l a st ms ks n cs)
repeats_inside text q l a st ms ks n [] k end h i = tt
repeats_inside text q l a st ms ks n (c ∷ cs) k end h i =
    key_inside k n end (earlier_in text ms ks (key_span st n)) (ends_key q l c)
    (repeats_from text (quote_after q c) (last_after q l a c) (inside_after q a c) (start_after q st n c) (marks_after (starts_bracket q c) (shuts q c) (length ks) ms) (keys_after (ends_key q l c) (shuts q c) (last_mark ms) ks (key_span st n)) (n + 1) cs)
    h (omega (arith, i))
    (repeats_inside text (quote_after q c) (last_after q l a c) (inside_after q a c) (start_after q st n c) (marks_after (starts_bracket q c) (shuts q c) (length ks) ms) (keys_after (ends_key q l c) (shuts q c) (last_mark ms) ks (key_span st n)) (n + 1) cs n end (omega arith) (omega (arith, i)))
    (repeats_inside text (quote_after q c) (last_after q l a c) (inside_after q a c) (start_after q st n c) (marks_after (starts_bracket q c) (shuts q c) (length ks) ms) (keys_after (ends_key q l c) (shuts q c) (last_mark ms) ks (key_span st n)) (n + 1) cs k end (omega (arith, h)) (omega (arith, i)))

pub all_inside : (text : List ℕ) → LieUpTo 0 (length text) (repeats_in text)
all_inside text = repeats_inside text Closed Other [] 0 [] [] 0 text 0 (length text) (omega arith) (omega arith)

spelled_short : (text : List ℕ) (n at : ℕ) → length (spelled_at text (key_span n at)) ≤ at - n
spelled_short text n at = let e = length-take (at - n) (drop n text) in omega (arith, e)

numbered_within : (text : List ℕ) (n : ℕ) (repeats : List Repeat) (m : ℕ) → n ≤ length text → LieUpTo n (length text) repeats → m ≤ n + length (keys_from text n repeats) → origin_at (map number_inserted repeats) m ≤ length text
numbered_within text n [] m h f g = let e = length-drop n text in omega (arith, e, g, h)
numbered_within text n (r ∷ repeats) m h f g =
    let rest = keys_from text r.at repeats in
    let len = length (decimal r.earlier) in
    let short = spelled_short text n r.at in
    let a = length-append (spelled_at text (key_span n r.at)) (decimal r.earlier ++ rest) in
    let b = length-append (decimal r.earlier) rest in
    let behind = f.0 in
    let inside = f.1 in
    one_within m r.at len (origin_at (map number_inserted repeats) (m - len)) (length text) (nat_lt m r.at) (nat_lt (m - r.at) len) refl refl inside
    (λ _ i. numbered_within text r.at repeats (m - len) inside f.2 (omega (arith, g, a, b, short, behind, i)))

pub numbers_within : (text new : List ℕ) (is : List Insertion) → new ≡ keys_numbered text → is ≡ numbers_inserted text → LeadsInto is (length new) (length text)
numbers_within text new is e f = λ n h.
    let inside = all_inside text in
    let z = numbered_within text 0 (repeats_in text) n (omega arith) inside (subst (λ (x : List ℕ). n ≤ 0 + length x) e (omega (arith, h))) in
    subst (λ (x : List Insertion). origin_at x n ≤ length text) (sym f) z
