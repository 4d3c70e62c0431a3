-- Bytes that are read or written piece by piece.
use Rattle.std.proofs.Common.{◌≡◌, ℕ, ◌+◌, ◌-◌, ◌<◌, List, ◌++◌, length, take, drop, Option, Some, None, refl, sym, ap, ◌∙◌, subst, append-nil}
use Rattle.std.specs.Prelude.{IfSome}
use Rattle.std.specs.Io.KnownBytes.{Appends, Consumes, IsAtEnd, Keeps}
use Rattle.std.proofs.KnownBytes.{Appends-trans, Consumes-trans, Consumes-whole}
use Rattle.std.proofs.lemmas.List.{take_rest, length-drop}
use Rattle.std.proofs.Math.Seq.{take-add, take-length}

-- a read of 0 bytes into a buffer that has room: all was read
pub whole_from_end : (a b c : Option (List ℕ)) (bytes buf : List ℕ) (n : ℕ) → Consumes a b bytes → Consumes b c (take n buf) → n ≡ 0 → 0 < length buf → (n ≡ 0 → 0 < length buf → IsAtEnd c)
    → IfSome a (λ xs. bytes ≡ xs)
whole_from_end a b c bytes buf n p q none room end =
    let both = Consumes-trans a b c bytes (take n buf) p q in
    let same : bytes ++ take n buf ≡ bytes = ap (λ (k : ℕ). bytes ++ take k buf) none ∙ append-nil bytes in
    Consumes-whole a c bytes (λ xs. bytes ≡ xs) (subst (λ (t : List ℕ). Consumes a c t) same both) (end none room) refl

-- the front of what is left follows what was taken
pub Appends-next : (a b c : Option (List ℕ)) (bytes : List ℕ) (at n : ℕ) → Appends a b (take at bytes) → Appends b c (take n (take (length bytes - at) (drop at bytes))) → Appends a c (take (at + n) bytes)
Appends-next a b c bytes at n p q =
    let same : take at bytes ++ take n (take (length bytes - at) (drop at bytes)) ≡ take (at + n) bytes = ap (λ (t : List ℕ). take at bytes ++ take n t) (take_rest bytes at) ∙ sym (take-add at n bytes) in
    subst (λ (t : List ℕ). Appends a c t) same (Appends-trans a b c _ _ p q)

-- how much is left
pub rest_length : (bytes : List ℕ) (at : ℕ) → length (take (length bytes - at) (drop at bytes)) ≡ length bytes - at
rest_length bytes at = ap length (take_rest bytes at) ∙ length-drop at bytes

-- all was taken
pub Appends-all : (a b : Option (List ℕ)) (bytes : List ℕ) (at : ℕ) → at ≡ length bytes → Appends a b (take at bytes) → Appends a b bytes
Appends-all a b bytes at all p = subst (λ (t : List ℕ). Appends a b t) (ap (λ (k : ℕ). take k bytes) all ∙ take-length bytes) p

-- and then nothing more
pub Appends-kept : (a b c : Option (List ℕ)) (bytes : List ℕ) → Appends a b bytes → Keeps b c → Appends a c bytes
Appends-kept None b c bytes p q = tt
Appends-kept (Some x) None c bytes p q = absurd p
Appends-kept (Some x) (Some y) None bytes p q = absurd q
Appends-kept (Some x) (Some y) (Some z) bytes p q = q ∙ p
