-- A text that is copied at a width of its own, and counts up to its length.
use Rattle.std.proofs.Common.{◌≡◌, ℕ, ◌+◌, ◌≤◌, List, ◌++◌, length, take, drop, sym, ap, ◌∙◌, arith}
use Rattle.std.proofs.Math.Seq.{take-append-add}
use Rattle.std.proofs.lemmas.List.{length-take-le, take-append-le}
use Rattle.std.proofs.lemmas.Simd.{put_chunk_is}
use lib.Lanes.{put_chunk}

-- after a copy of more bytes, the front up to n bytes of what was copied
pub take-put_chunk_front : (a n : ℕ) (xs ys : List ℕ) → n ≤ length ys → a + length ys ≤ length xs → take (a + n) (put_chunk a xs ys) ≡ take a xs ++ take n ys
take-put_chunk_front a n xs ys within room =
    let rest = drop (length ys) (drop a xs) in
    let long : length (take a xs) ≡ a = length-take-le a xs (omega arith) in
    ap (take (a + n)) (put_chunk_is a xs ys room)
    ∙ ap (λ (m : ℕ). take (m + n) (take a xs ++ (ys ++ rest))) (sym long)
    ∙ take-append-add (take a xs) (ys ++ rest) n
    ∙ ap (λ (zs : List ℕ). take a xs ++ zs) (take-append-le n ys rest within)
