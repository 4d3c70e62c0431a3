-- The pieces of a list, one after another, are the list.
use Rattle.std.proofs.Common.{◌≡◌, ℕ, ◌+◌, ◌-◌, ◌*◌, ◌/◌, ◌<◌, ◌≤◌, List, ◌++◌, length, take, drop, map, refl, sym, ap, ◌∙◌, arith, length-append}
use Rattle.std.specs.Prelude.{slice_range}
use borrow.Rule.Slice.PartMut.{put_mid}
use Rattle.std.proofs.Math.Seq.{take-add}
use Rattle.std.proofs.Math.Nat.{div-le_of_le-mul, div-mul-le_self, mul-div_cancel_left, mul-le-mul_right}
use Rattle.std.proofs.lemmas.Nat.{le-div}
use Rattle.std.proofs.lemmas.List.{take_all, drop_all, append-nil, map-append, take-append-le, take-append-drop, length-map, length-take, length-drop}
use Rattle.std.proofs.lemmas.Slice.{take-put_mid, drop-put_mid, drop-append-drop}
use Rattle.tick_split.specs.Pieces.{piece_start, piece_of}

pub start_within : (k pieces len : ℕ) → k ≤ pieces → piece_start k pieces len ≤ len
start_within k pieces len h = div-le_of_le-mul pieces (mul-le-mul_right len h)

pub start_rises : (k pieces len : ℕ) → 0 < pieces → piece_start k pieces len ≤ piece_start (k + 1) pieces len
start_rises k pieces len some =
    let low : k * len / pieces * pieces ≤ k * len = div-mul-le_self (k * len) pieces in
    le-div (piece_start k pieces len) ((k + 1) * len) pieces some (omega (arith, low))

pub start_last : (pieces len : ℕ) → 0 < pieces → piece_start pieces pieces len ≡ len
start_last pieces len some = mul-div_cancel_left len some

-- the front of a list up to one place, and what stands from there to the next
front_more : {X : Type 0} (xs : List X) (a b : ℕ) → a ≤ b → take b xs ≡ take a xs ++ slice_range xs a b
front_more xs a b h = let e : b ≡ a + (b - a) = omega arith in ap (λ n. take n xs) e ∙ take-add a (b - a) xs

-- the place of a piece is as long as what comes back of it
pub place_long : {X : Type 0} (f : X → X) (xs ys part : List X) (k pieces : ℕ) → k < pieces → length ys ≡ length xs → part ≡ map f (piece_of k pieces xs)
    → length (take (piece_start (k + 1) pieces (length xs) - piece_start k pieces (length xs)) (drop (piece_start k pieces (length xs)) ys)) ≡ length part
place_long f xs ys part k pieces within long new =
    let low = start_rises k pieces (length xs) (omega (arith, within)) in
    let high = start_within (k + 1) pieces (length xs) (omega (arith, within)) in
    rw new (simp (length-map, length-take, length-drop) (omega (arith, low, high, long)))

-- a list whose pieces up to one place are written, and the next piece
module _ {X : Type 0} (f : X → X) (xs : List X) (pieces : ℕ) (some : 0 < pieces) where
  -- all pieces up to this one are written
  abbrev pub written_to : ℕ → List X
  written_to at = map f (take at xs) ++ drop at xs

  pub next_written : (k : ℕ) (ys part : List X) → k < pieces → ys ≡ written_to (piece_start k pieces (length xs)) → part ≡ map f (piece_of k pieces xs)
      → put_mid (piece_start k pieces (length xs)) (piece_start (k + 1) pieces (length xs) - piece_start k pieces (length xs)) ys part ≡ written_to (piece_start (k + 1) pieces (length xs))
  next_written k ys part within is new =
      let a = piece_start k pieces (length xs) in
      let b = piece_start (k + 1) pieces (length xs) in
      let front = map f (take a xs) in
      let low : a ≤ b = start_rises k pieces (length xs) some in
      let high : b ≤ length xs = start_within (k + 1) pieces (length xs) (omega arith) in
      let long : length front ≡ a = simp (length-map, length-take) (omega arith) in
      let part_long : length part ≡ b - a = rw new (simp (length-map, length-take, length-drop) (omega arith)) in
      let fits : a ≤ length ys = rw is (simp (length-append, length-map, length-take, length-drop) (omega arith)) in
      let zs = put_mid a (b - a) ys part in
      let before : take b zs ≡ take a ys ++ part = take-put_mid a (b - a) ys part b (omega (arith, part_long)) fits in
      let after : drop b zs ≡ drop b ys = drop-put_mid a (b - a) ys part b (omega arith) fits part_long in
      let old : take a ys ≡ front = rw is (take-append-le a front (drop a xs) (omega arith) ∙ take_all a front (omega arith)) in
      let rest : drop b ys ≡ drop b xs = rw is (drop-append-drop a xs front b low long) in
      let more : map f (take b xs) ≡ front ++ map f (piece_of k pieces xs) = ap (map f) (front_more xs a b low) ∙ map-append f (take a xs) (piece_of k pieces xs) in
      let both : take b zs ≡ map f (take b xs) = rw (before, old, new, more) refl in
      sym (take-append-drop b zs) ∙ ap (λ l. l ++ drop b zs) both ∙ ap (λ l. map f (take b xs) ++ l) (after ∙ rest)

  -- all pieces are the whole
  pub whole_written : (k : ℕ) (ys : List X) → k ≡ pieces → ys ≡ written_to (piece_start k pieces (length xs)) → ys ≡ map f xs
  whole_written k ys all is =
      let last = start_last pieces (length xs) some in
      let end : piece_start k pieces (length xs) ≡ length xs = ap (λ n. piece_start n pieces (length xs)) all ∙ last in
      is ∙ ap written_to end ∙ rw (take_all (length xs) xs (omega arith), drop_all (length xs) xs (omega arith), append-nil) refl
