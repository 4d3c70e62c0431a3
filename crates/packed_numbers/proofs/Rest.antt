-- What is left to be read.
use Rattle.std.proofs.Common.{◌≡◌, ℕ, zero, suc, ◌+◌, ◌-◌, ◌*◌, ◌/◌, ◌≢◌, ◌<◌, ◌≤◌, ◌^◌, Bool, true, false, cond, ltb, List, [], ◌∷◌, ◌++◌, length, get_or, drop, fold, refl, sym, ap, ◌∙◌, subst, arith}
use Rattle.std.proofs.lemmas.Bool.{lt-ltb, le-ltb}
use Rattle.std.proofs.lemmas.List.{append_assoc, drop_all, length-append}
use Rattle.std.proofs.Math.Seq.{drop-cons}
use Rattle.std.proofs.lemmas.List.Elements.{All-head, All-tail}
use Rattle.packed_numbers.specs.private.Groups.{Read, with_byte, nothing_read, read_of, IsReadWhole}

-- from some groups of the next number on
abbrev pub from : ℕ → List ℕ → Read
from part bytes = fold with_byte (record { numbers = []; part = part }) bytes

-- numbers that were read before stay in front
abbrev pub after : List ℕ → Read → Read
after ns r = record { numbers = ns ++ r.numbers; part = r.part }

pub read_after : (ns : List ℕ) (r : Read) (bytes : List ℕ) → fold with_byte (after ns r) bytes ≡ after ns (fold with_byte r bytes)
read_after ns r [] = refl
read_after ns r (b ∷ bs) =
    ap (λ (x : Read). fold with_byte x bs) (one (ltb b 128)) ∙ read_after ns (with_byte r b) bs
  where
    one : (c : Bool) → cond c (record { numbers = (ns ++ r.numbers) ++ (r.part * 128 + b) ∷ []; part = 0 }) (record { numbers = ns ++ r.numbers; part = r.part * 128 + (b - 128) })
        ≡ after ns (cond c (record { numbers = r.numbers ++ (r.part * 128 + b) ∷ []; part = 0 }) (record { numbers = r.numbers; part = r.part * 128 + (b - 128) }))
    one true = λ i. record { numbers = append_assoc ns r.numbers ((r.part * 128 + b) ∷ []) i; part = 0 }
    one false = refl

-- the last byte of a number, and one that is not its last
pub from_last : (part b : ℕ) (bs : List ℕ) → ltb b 128 ≡ true → from part (b ∷ bs) ≡ after ((part * 128 + b) ∷ []) (read_of bs)
from_last part b bs last =
    ap (λ (c : Bool). fold with_byte (cond c (record { numbers = (part * 128 + b) ∷ []; part = 0 }) (record { numbers = []; part = part * 128 + (b - 128) })) bs) last
    ∙ read_after ((part * 128 + b) ∷ []) nothing_read bs

pub from_more : (part b : ℕ) (bs : List ℕ) → ltb b 128 ≡ false → from part (b ∷ bs) ≡ from (part * 128 + (b - 128)) bs
from_more part b bs more =
    ap (λ (c : Bool). fold with_byte (cond c (record { numbers = (part * 128 + b) ∷ []; part = 0 }) (record { numbers = []; part = part * 128 + (b - 128) })) bs) more

-- groups of a number are below it
pub part_small : (part : ℕ) (bytes : List ℕ) → IsReadWhole (from part bytes) → part < 2 ^ 64
part_small part [] is = omega (arith, is.whole)
part_small part (b ∷ bs) is = by (ltb b 128) refl (part_small (part * 128 + (b - 128)) bs)
  where
    by : (c : Bool) → ltb b 128 ≡ c → (IsReadWhole (from (part * 128 + (b - 128)) bs) → part * 128 + (b - 128) < 2 ^ 64) → part < 2 ^ 64
    by true last rest =
        let ends : IsReadWhole (after ((part * 128 + b) ∷ []) (read_of bs)) = subst IsReadWhole (from_last part b bs last) is in
        let small = All-head (λ (n : ℕ). n < 2 ^ 64) (part * 128 + b) (read_of bs).numbers ends.wide in
        omega (arith, small)
    by false more rest =
        let small = rest (subst IsReadWhole (from_more part b bs more) is) in
        omega (arith, small)

-- the groups but the last of a number that has so many at most
pub front_small : (part most : ℕ) → part < 128 ^ most → part ≢ 0 → part / 128 < 128 ^ (most - 1)
front_small part zero small some = absurd (some (omega (arith, small)))
front_small part (suc m) small some =
    let less : part / 128 < 128 ^ m = omega (arith, small) in
    let e : suc m - 1 ≡ m = omega arith in
    rw e less

-- ---- at a place of the bytes

here : (bytes : List ℕ) (at part : ℕ) → at < length bytes → from part (drop at bytes) ≡ read_of bytes → from part (get_or bytes at 0 ∷ drop (suc at) bytes) ≡ read_of bytes
here bytes at part inside is = ap (from part) (sym (drop-cons bytes at 0 inside)) ∙ is

pub at_last : (bytes : List ℕ) (at part : ℕ) → at < length bytes → from part (drop at bytes) ≡ read_of bytes → get_or bytes at 0 < 128 → read_of bytes ≡ after ((part * 128 + get_or bytes at 0) ∷ []) (read_of (drop (at + 1) bytes))
at_last bytes at part inside is last =
    let b = get_or bytes at 0 in
    let e : suc at ≡ at + 1 = omega arith in
    sym (here bytes at part inside is) ∙ from_last part b (drop (suc at) bytes) (lt-ltb b 128 last) ∙ ap (λ (k : ℕ). after ((part * 128 + b) ∷ []) (read_of (drop k bytes))) e

pub at_more : (bytes : List ℕ) (at part : ℕ) → at < length bytes → from part (drop at bytes) ≡ read_of bytes → 128 ≤ get_or bytes at 0 → from (part * 128 + (get_or bytes at 0 - 128)) (drop (at + 1) bytes) ≡ read_of bytes
at_more bytes at part inside is more =
    let b = get_or bytes at 0 in
    let e : at + 1 ≡ suc at = omega arith in
    ap (λ (k : ℕ). from (part * 128 + (b - 128)) (drop k bytes)) e ∙ sym (from_more part b (drop (suc at) bytes) (le-ltb b 128 more)) ∙ here bytes at part inside is

pub number_fits : (bytes : List ℕ) (at part : ℕ) → IsReadWhole (read_of bytes) → at < length bytes → from part (drop at bytes) ≡ read_of bytes → get_or bytes at 0 < 128 → part * 128 + get_or bytes at 0 < 2 ^ 64
number_fits bytes at part whole inside is last =
    let ends : IsReadWhole (after ((part * 128 + get_or bytes at 0) ∷ []) (read_of (drop (at + 1) bytes))) = subst IsReadWhole (at_last bytes at part inside is last) whole in
    All-head (λ (n : ℕ). n < 2 ^ 64) (part * 128 + get_or bytes at 0) (read_of (drop (at + 1) bytes)).numbers ends.wide

pub rest_whole : (bytes : List ℕ) (at part : ℕ) → IsReadWhole (read_of bytes) → at < length bytes → from part (drop at bytes) ≡ read_of bytes → get_or bytes at 0 < 128 → IsReadWhole (read_of (drop (at + 1) bytes))
rest_whole bytes at part whole inside is last =
    let ends : IsReadWhole (after ((part * 128 + get_or bytes at 0) ∷ []) (read_of (drop (at + 1) bytes))) = subst IsReadWhole (at_last bytes at part inside is last) whole in
    record { whole = ends.whole; wide = All-tail (λ (n : ℕ). n < 2 ^ 64) (part * 128 + get_or bytes at 0) (read_of (drop (at + 1) bytes)).numbers ends.wide }

pub part_fits : (bytes : List ℕ) (at part : ℕ) → IsReadWhole (read_of bytes) → at < length bytes → from part (drop at bytes) ≡ read_of bytes → 128 ≤ get_or bytes at 0 → part * 128 + (get_or bytes at 0 - 128) < 2 ^ 64
part_fits bytes at part whole inside is more =
    part_small (part * 128 + (get_or bytes at 0 - 128)) (drop (at + 1) bytes) (subst IsReadWhole (sym (at_more bytes at part inside is more)) whole)

-- after the last byte nothing is left
pub none_left : (bytes : List ℕ) (at part : ℕ) → length bytes ≤ at → from part (drop at bytes) ≡ read_of bytes → (read_of bytes).numbers ≡ []
none_left bytes at part end is = sym (ap (λ (r : Read). r.numbers) is) ∙ ap (λ (bs : List ℕ). (from part bs).numbers) (drop_all at bytes end)

-- each number has a byte of its own
read_few : (r : Read) (bytes : List ℕ) → length (fold with_byte r bytes).numbers ≤ length r.numbers + length bytes
read_few r [] = omega arith
read_few r (b ∷ bs) = by (ltb b 128) refl (read_few (with_byte r b) bs)
  where
    by : (c : Bool) → ltb b 128 ≡ c → length (fold with_byte (with_byte r b) bs).numbers ≤ length (with_byte r b).numbers + length bs → length (fold with_byte (with_byte r b) bs).numbers ≤ length r.numbers + suc (length bs)
    by true last rest =
        let one : (with_byte r b).numbers ≡ r.numbers ++ (r.part * 128 + b) ∷ [] = ap (λ (c : Bool). (cond {A = Read} c (record { numbers = r.numbers ++ (r.part * 128 + b) ∷ []; part = 0 }) (record { numbers = r.numbers; part = r.part * 128 + (b - 128) })).numbers) last in
        omega (arith, rest, ap length one, length-append r.numbers ((r.part * 128 + b) ∷ []))
    by false more rest =
        let none : (with_byte r b).numbers ≡ r.numbers = ap (λ (c : Bool). (cond {A = Read} c (record { numbers = r.numbers ++ (r.part * 128 + b) ∷ []; part = 0 }) (record { numbers = r.numbers; part = r.part * 128 + (b - 128) })).numbers) more in
        omega (arith, rest, ap length none)

pub numbers_few : (bytes : List ℕ) → length (read_of bytes).numbers ≤ length bytes
numbers_few bytes = let few = read_few nothing_read bytes in omega (arith, few)
