-- Cutting a text at a byte.
use Rattle.std.proofs.Common.{◌≡◌, ℕ, zero, suc, ◌+◌, ◌-◌, ◌≤◌, ◌<◌, true, not, eqb, ltb, List, [], ◌∷◌, ◌++◌, length, get_or, take, drop, Some, None, refl, sym, ap, ◌∙◌, arith}
use Rattle.std.specs.List.{before_first, after_first, position_or_len, list_all}
use Rattle.std.proofs.lemmas.Bool.{ne_eqb, eq-eqb, lt-ltb, le-ltb, eqb-true, eqb-false, ltb-true, and_parts, not-true}
use Rattle.std.proofs.lemmas.List.Sums.{position_or_len_is, split_at_first, passes_at_first}
use Rattle.std.proofs.lemmas.Option.{cond_some}
use Rattle.std.proofs.lemmas.List.{take_at, length-append, length-drop, get_or_append_left, get_or-append_right}
use Rattle.std.proofs.Math.Seq.{drop-append-add, take-length}
use Rattle.calls_text.specs.private.Reading.{cut_at}

-- the text has no such byte
abbrev pub Lacks : ℕ → List ℕ → Type 0
Lacks c [] = Unit {0}
Lacks c (x ∷ xs) = (x ≡ c → ⊥) × Lacks c xs

pub cut_found : (c i : ℕ) (text : List ℕ) → i < length text → ((k : ℕ) → k < i → get_or text k 0 ≡ c → ⊥) → get_or text i 0 ≡ c → cut_at c text ≡ Some (take i text, drop (i + 1) text)
unfolding cut_at
cut_found c i text lt before here =
    let e : position_or_len (λ b. eqb b c) text ≡ i = position_or_len_is (λ b. eqb b c) text i 0 (omega arith) (λ k h. ne_eqb _ _ (before k h)) (λ h. eq-eqb _ _ here) in
    rw (e, lt-ltb _ _ lt) refl

pub cut_missing : (c : ℕ) (text : List ℕ) → ((k : ℕ) → k < length text → get_or text k 0 ≡ c → ⊥) → cut_at c text ≡ None
unfolding cut_at
cut_missing c text before =
    let e : position_or_len (λ b. eqb b c) text ≡ length text = position_or_len_is (λ b. eqb b c) text (length text) 0 (omega arith) (λ k h. ne_eqb _ _ (before k h)) (λ h. absurd (omega arith)) in
    rw (e, le-ltb (length text) (length text) (omega arith)) refl

-- the parts, and the byte between them, are the text
pub cut_takes : (c : ℕ) (text : List ℕ) (p : List ℕ × List ℕ) → cut_at c text ≡ Some p → text ≡ p.0 ++ c ∷ p.1
unfolding cut_at
cut_takes c text p e =
    let n = position_or_len (λ b. eqb b c) text in
    let both = cond_some (ltb n (length text)) (before_first (λ b. eqb b c) text, after_first (λ b. eqb b c) text) p e in
    let lt : n < length text = ltb-true _ _ both.0 in
    let is_c : get_or text n 0 ≡ c = eqb-true _ _ (passes_at_first (λ b. eqb b c) text 0 lt) in
    let parts : text ≡ before_first (λ b. eqb b c) text ++ c ∷ after_first (λ b. eqb b c) text = split_at_first (λ b. eqb b c) text 0 lt ∙ ap (λ (x : ℕ). before_first (λ b. eqb b c) text ++ x ∷ after_first (λ b. eqb b c) text) is_c in
    parts ∙ ap (λ (q : List ℕ × List ℕ). q.0 ++ c ∷ q.1) both.1

Lacks-at : (c : ℕ) (a : List ℕ) (k : ℕ) → Lacks c a → k < length a → get_or a k 0 ≡ c → ⊥
Lacks-at c [] k h lt e = absurd (omega arith)
Lacks-at c (x ∷ xs) zero h lt e = h.0 e
Lacks-at c (x ∷ xs) (suc k) h lt e = Lacks-at c xs k h.1 (omega arith) e

-- a text that has no such byte is not cut
pub cut_none : (c : ℕ) (a : List ℕ) → Lacks c a → cut_at c a ≡ None
cut_none c a h = cut_missing c a (λ k. Lacks-at c a k h)

-- what stands before the first such byte, and what follows it
pub cut_again : (c : ℕ) (a b : List ℕ) → Lacks c a → cut_at c (a ++ c ∷ b) ≡ Some (a, b)
cut_again c a b h =
    let len = length-append a (c ∷ b) in
    let lt : length a < length (a ++ c ∷ b) = omega (arith, len) in
    let z : length a - length a ≡ 0 = omega arith in
    let here : get_or (a ++ c ∷ b) (length a) 0 ≡ c = get_or-append_right a (c ∷ b) (length a) (length a) 0 refl (omega arith) ∙ rw z refl in
    let e = cut_found c (length a) (a ++ c ∷ b) lt (λ k l. rw (get_or_append_left a (c ∷ b) 0 k l) (Lacks-at c a k h l)) here in
    e ∙ rw (take_at a (c ∷ b) (length a) refl, drop-append-add a (c ∷ b) 1) refl

-- a slice from k on is what is dropped to
pub rest_is : {X : Type 0} (k : ℕ) (items : List X) → take (length items - k) (drop k items) ≡ drop k items
rest_is k items = ap (λ (n : ℕ). take n (drop k items)) (sym (length-drop k items)) ∙ take-length (drop k items)

pub Lacks-append : (c : ℕ) (a b : List ℕ) → Lacks c a → Lacks c b → Lacks c (a ++ b)
Lacks-append c [] b h k = k
Lacks-append c (x ∷ a) b h k = (h.0, Lacks-append c a b h.1 k)

-- a text that is written out
pub Lacks-written : (c : ℕ) (text : List ℕ) → list_all (λ x. not (eqb x c)) text ≡ true → Lacks c text
Lacks-written c [] h = tt
Lacks-written c (x ∷ xs) h = let p = and_parts (not (eqb x c)) (list_all (λ y. not (eqb y c)) xs) h in (eqb-false _ _ (not-true _ p.0), Lacks-written c xs p.1)

-- a text with this byte at its front
pub front_byte : (c : ℕ) (text : List ℕ) → 1 ≤ length text → get_or text 0 0 ≡ c → text ≡ c ∷ take (length text - 1) (drop 1 text)
front_byte c [] some e = absurd (omega arith)
front_byte c (x ∷ xs) some e = ap (λ (y : ℕ). y ∷ xs) e ∙ ap (λ (ys : List ℕ). c ∷ ys) (sym (rest_is 1 (x ∷ xs)))
