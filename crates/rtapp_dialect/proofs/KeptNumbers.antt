-- A byte that is no digit of a number is the byte that it comes from.
use Rattle.std.specs.Prelude.{nat_lt, map, decimal}
use Rattle.std.proofs.Common.{ℕ, ◌+◌, ◌-◌, ◌<◌, ◌≤◌, ◌≡◌, Bool, true, false, List, [], ◌∷◌, ◌++◌, cond, length, drop, get_or, refl, ap, ◌∙◌, arith}
use Rattle.std.proofs.lemmas.List.{get_or-append-add, get_or-drop, get_or-take, get_or_append_left, length-append, length-drop, length-take}
use Rattle.rtapp_dialect.specs.Numbers.{keys_from, keys_numbered, number_inserted, numbers_inserted}
use Rattle.rtapp_dialect.specs.Places.{origin_at, is_inserted, KeepsBytes}
use Rattle.rtapp_dialect.specs.Repeats.{spelled_at, key_span, repeats_in}
use Rattle.rtapp_dialect.specs.declared.repeats.Repeat.{Repeat}
use Rattle.rtapp_dialect.specs.declared.insertion.Insertion.{Insertion}
use Rattle.rtapp_dialect.proofs.Order.{is_below, is_not}
use Rattle.rtapp_dialect.proofs.Within.{LieUpTo, all_inside}

spelled_length : (text : List ℕ) (n at : ℕ) → n ≤ at → at ≤ length text → length (spelled_at text (key_span n at)) ≡ at - n
spelled_length text n at h g =
    let a = length-take (at - n) (drop n text) in let b = length-drop n text in omega (arith, a, b, h, g)

-- one repeated key: the byte at m, by where it is
key_kept : (text digits rest : List ℕ) (n at m there : ℕ) (p q : Bool) → nat_lt m at ≡ p → nat_lt (m - at) (length digits) ≡ q → n ≤ m → n ≤ at → at ≤ length text →
    cond p false (cond q true false) ≡ false →
    (at + length digits ≤ m → get_or rest (m - length digits - at) 0 ≡ get_or text there 0) →
    get_or (spelled_at text (key_span n at) ++ (digits ++ rest)) (m - n) 0 ≡ get_or text (cond p m (cond q at there)) 0
key_kept text digits rest n at m there true q x y low behind inside outside after =
    let size = spelled_length text n at behind inside in
    let less = is_below m at x in
    let short : m - n < length (spelled_at text (key_span n at)) = omega (arith, size, less, low) in
    let part : m - n < at - n = omega (arith, less, low) in
    let same : n + (m - n) ≡ m = omega (arith, low) in
    get_or_append_left (spelled_at text (key_span n at)) (digits ++ rest) 0 (m - n) short
    ∙ get_or-take (at - n) (drop n text) (m - n) 0 part
    ∙ get_or-drop n text (m - n) 0
    ∙ ap (λ (k : ℕ). get_or text k 0) same
key_kept text digits rest n at m there false true x y low behind inside outside after = cc
key_kept text digits rest n at m there false false x y low behind inside outside after =
    let size = spelled_length text n at behind inside in
    let more = is_not m at x in
    let past = is_not (m - at) (length digits) y in
    let k = m - length digits - at in
    let first : m - n ≡ length (spelled_at text (key_span n at)) + (length digits + k) = omega (arith, size, more, past, behind) in
    ap (λ (i : ℕ). get_or (spelled_at text (key_span n at) ++ (digits ++ rest)) i 0) first
    ∙ get_or-append-add (spelled_at text (key_span n at)) (digits ++ rest) (length digits + k) 0
    ∙ get_or-append-add digits rest k 0
    ∙ after (omega (arith, more, past))

not_inserted : (p q b : Bool) → cond p false (cond q true b) ≡ false → cond p false (cond q true false) ≡ false
not_inserted true q b h = refl
not_inserted false true b h = h
not_inserted false false b h = refl

rest_outside : (m at len : ℕ) (p q b : Bool) → nat_lt m at ≡ p → nat_lt (m - at) len ≡ q → at + len ≤ m → cond p false (cond q true b) ≡ false → b ≡ false
rest_outside m at len true q b x y h outside = let a = is_below m at x in absurd (omega (arith, a, h))
rest_outside m at len false true b x y h outside = cc
rest_outside m at len false false b x y h outside = outside

numbered_kept : (text : List ℕ) (n : ℕ) (repeats : List Repeat) (m : ℕ) → n ≤ m → m < n + length (keys_from text n repeats) → n ≤ length text → LieUpTo n (length text) repeats → is_inserted (map number_inserted repeats) m ≡ false →
    get_or (keys_from text n repeats) (m - n) 0 ≡ get_or text (origin_at (map number_inserted repeats) m) 0
numbered_kept text n [] m low high inside lie outside =
    let same : n + (m - n) ≡ m = omega (arith, low) in
    get_or-drop n text (m - n) 0 ∙ ap (λ (k : ℕ). get_or text k 0) same
numbered_kept text n (r ∷ repeats) m low high inside lie outside =
    let rest = keys_from text r.at repeats in
    let digits = decimal r.earlier in
    let len = length digits in
    let size = spelled_length text n r.at lie.0 lie.1 in
    let a = length-append (spelled_at text (key_span n r.at)) (digits ++ rest) in
    let b = length-append digits rest in
    let behind = lie.0 in
    key_kept text digits rest n r.at m (origin_at (map number_inserted repeats) (m - len)) (nat_lt m r.at) (nat_lt (m - r.at) len) refl refl low lie.0 lie.1
    (not_inserted (nat_lt m r.at) (nat_lt (m - r.at) len) (is_inserted (map number_inserted repeats) (m - len)) outside)
    (λ past. numbered_kept text r.at repeats (m - len) (omega (arith, past)) (omega (arith, past, high, a, b, size, behind)) lie.1 lie.2
    (rest_outside m r.at len (nat_lt m r.at) (nat_lt (m - r.at) len) (is_inserted (map number_inserted repeats) (m - len)) refl refl past outside))

text_bytes_kept : (text : List ℕ) → KeepsBytes text (keys_numbered text) (numbers_inserted text)
text_bytes_kept text n h outside =
    let same : n ≡ n - 0 = omega arith in
    ap (λ (k : ℕ). get_or (keys_numbered text) k 0) same
    ∙ numbered_kept text 0 (repeats_in text) n (omega arith) (omega (arith, h)) (omega arith) (all_inside text) outside

pub numbers_kept : (text new : List ℕ) (is : List Insertion) → new ≡ keys_numbered text → is ≡ numbers_inserted text → KeepsBytes text new is
numbers_kept text new is e f = rw (e, f) (text_bytes_kept text)
