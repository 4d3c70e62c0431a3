-- Numbers of repeated keys, one at a time.
use Rattle.std.specs.Prelude.{nat_lt, map, decimal}
use Rattle.std.proofs.Common.{ℕ, ◌+◌, ◌<◌, ◌≤◌, ◌≡◌, Bool, true, false, List, [], ◌∷◌, ◌++◌, cond, length, take, drop, get_or, sym, ap, ◌∙◌, subst, arith, append-nil, append_assoc}
use Rattle.std.proofs.lemmas.List.{at_drop_more, drop_all, length-drop}
use Rattle.std.proofs.Math.Seq.{take-length}
use Rattle.rtapp_dialect.specs.Filling.{quote_after, last_after, inside_after}
use Rattle.rtapp_dialect.specs.Places.{KeepsOrder}
use Rattle.rtapp_dialect.specs.Repeats.{spelled_at, key_span, last_mark, earlier_in, ends_key, shuts, starts_bracket, start_after, keys_after, marks_after, repeat_if, repeats_from, repeats_in}
use Rattle.rtapp_dialect.specs.Numbers.{keys_from, keys_numbered, number_inserted, numbers_inserted}
use Rattle.rtapp_dialect.specs.declared.bracket.Bracket.{Bracket}
use Rattle.rtapp_dialect.specs.declared.spot.Quote.{Quote}
use Rattle.rtapp_dialect.specs.declared.spot.Quote.TheVariants.{Closed}
use Rattle.rtapp_dialect.specs.declared.spot.Last.{Last}
use Rattle.rtapp_dialect.specs.declared.spot.Last.TheVariants.{Other}
use Rattle.rtapp_dialect.specs.declared.keys.Span.{Span}
use Rattle.rtapp_dialect.specs.declared.repeats.Repeat.{Repeat}
use Rattle.rtapp_dialect.specs.declared.insertion.Insertion.{Insertion}
use Rattle.rtapp_dialect.proofs.Order.{AreFrom, in_order}

-- one more number
pub number_step : (text out new all : List ℕ) (rs : List Repeat) (n i : ℕ) (d : Repeat) → i < length rs →
    new ≡ out ++ (spelled_at text (key_span n (get_or rs i d).at) ++ decimal (get_or rs i d).earlier) →
    out ++ keys_from text n (drop i rs) ≡ all → new ++ keys_from text (get_or rs i d).at (drop (i + 1) rs) ≡ all
number_step text out new all rs n i d h e inv =
    let r = get_or rs i d in
    let rest = keys_from text r.at (drop (i + 1) rs) in
    ap (λ (x : List ℕ). x ++ rest) e
    ∙ append_assoc out (spelled_at text (key_span n r.at) ++ decimal r.earlier) rest
    ∙ ap (λ (x : List ℕ). out ++ x) (append_assoc (spelled_at text (key_span n r.at)) (decimal r.earlier) rest ∙ sym (at_drop_more (keys_from text n) rs i d h))
    ∙ inv

pub numbers_step : (out new all : List Insertion) (rs : List Repeat) (i : ℕ) (d : Repeat) → i < length rs →
    new ≡ out ++ (number_inserted (get_or rs i d) ∷ []) →
    out ++ map number_inserted (drop i rs) ≡ all → new ++ map number_inserted (drop (i + 1) rs) ≡ all
numbers_step out new all rs i d h e inv =
    let rest = map number_inserted (drop (i + 1) rs) in
    ap (λ (x : List Insertion). x ++ rest) e
    ∙ append_assoc out (number_inserted (get_or rs i d) ∷ []) rest
    ∙ ap (λ (x : List Insertion). out ++ x) (sym (at_drop_more (λ (x : List Repeat). map number_inserted x) rs i d h))
    ∙ inv

-- what is spelled up to the end is all that is left
pub rest_is : (text : List ℕ) (n : ℕ) → spelled_at text (key_span n (length text)) ≡ drop n text
rest_is text n = ap (λ (k : ℕ). take k (drop n text)) (sym (length-drop n text)) ∙ take-length (drop n text)

-- the numbers lie in the order of their places
if_ordered : (k n count : ℕ) (p : Bool) (rest : List Repeat) → k ≤ n → AreFrom n (map number_inserted rest) → AreFrom k (map number_inserted rest) →
    AreFrom k (map number_inserted (cond p (record { at = n; earlier = count } ∷ []) [] ++ rest))
if_ordered k n count true rest h f g = (h, f)
if_ordered k n count false rest h f g = g

key_ordered : (k n count : ℕ) (b : Bool) (rest : List Repeat) → k ≤ n → AreFrom n (map number_inserted rest) → AreFrom k (map number_inserted rest) →
    AreFrom k (map number_inserted (repeat_if b n count ++ rest))
key_ordered k n count true rest h f g = if_ordered k n count (nat_lt 0 count) rest h f g
key_ordered k n count false rest h f g = g

repeats_ordered : (text : List ℕ) (q : Quote) (l : Last) (a : List Bracket) (st : ℕ) (ms : List ℕ) (ks : List Span) (n : ℕ) (cs : List ℕ) (k : ℕ) → k ≤ n → AreFrom k (map number_inserted (repeats_from text q l a st ms ks n cs))
repeats_ordered text q l a st ms ks n [] k h = tt
repeats_ordered text q l a st ms ks n (c ∷ cs) k h =
    key_ordered k n (earlier_in text ms ks (key_span st n)) (ends_key q l c)
    (repeats_from text (quote_after q c) (last_after q l a c) (inside_after q a c) (start_after q st n c) (marks_after (starts_bracket q c) (shuts q c) (length ks) ms) (keys_after (ends_key q l c) (shuts q c) (last_mark ms) ks (key_span st n)) (n + 1) cs)
    h
    (repeats_ordered text (quote_after q c) (last_after q l a c) (inside_after q a c) (start_after q st n c) (marks_after (starts_bracket q c) (shuts q c) (length ks) ms) (keys_after (ends_key q l c) (shuts q c) (last_mark ms) ks (key_span st n)) (n + 1) cs n (omega arith))
    (repeats_ordered text (quote_after q c) (last_after q l a c) (inside_after q a c) (start_after q st n c) (marks_after (starts_bracket q c) (shuts q c) (length ks) ms) (keys_after (ends_key q l c) (shuts q c) (last_mark ms) ks (key_span st n)) (n + 1) cs k (omega arith))

pub numbers_ordered : (text : List ℕ) (is : List Insertion) → is ≡ numbers_inserted text → KeepsOrder is
numbers_ordered text is e =
    subst KeepsOrder (sym e) (in_order 0 (numbers_inserted text) (repeats_ordered text Closed Other [] 0 [] [] 0 text 0 (omega arith)))

-- without repeated keys nothing changes
pub none_numbered : (text new : List ℕ) → repeats_in text ≡ [] → new ≡ keys_numbered text → new ≡ text
none_numbered text new e f = f ∙ ap (keys_from text 0) e

-- the end of the numbers
pub text_done : (text out new all : List ℕ) (rs : List Repeat) (n i : ℕ) → length rs ≤ i → new ≡ out ++ spelled_at text (key_span n (length text)) → out ++ keys_from text n (drop i rs) ≡ all → new ≡ all
text_done text out new all rs n i h e inv =
    e ∙ ap (λ (x : List ℕ). out ++ x) (rest_is text n ∙ ap (keys_from text n) (sym (drop_all i rs h))) ∙ inv

pub numbers_done : (out all : List Insertion) (rs : List Repeat) (i : ℕ) → length rs ≤ i → out ++ map number_inserted (drop i rs) ≡ all → out ≡ all
numbers_done out all rs i h inv =
    sym (append-nil out) ∙ ap (λ (x : List Repeat). out ++ map number_inserted x) (sym (drop_all i rs h)) ∙ inv

pub none_inserted : (text : List ℕ) (is : List Insertion) → repeats_in text ≡ [] → is ≡ numbers_inserted text → is ≡ []
none_inserted text is e f = f ∙ ap (λ (x : List Repeat). map number_inserted x) e
