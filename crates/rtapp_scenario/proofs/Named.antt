-- The names of tasks.
use Rattle.std.proofs.Common.{ℕ, ◌≡◌, ◌==◌, ◌<◌, ◌≤◌, ◌^◌, Bool, true, false, cond, ◌&&◌, leb, ltb, List, ◌++◌, length, take, All, get_or, arith, decimal}
use Rattle.std.proofs.lemmas.Bool.{ltb-true, leb-true, and_parts}
use Rattle.std.proofs.lemmas.List.{length-take}
use Rattle.std.proofs.lemmas.List.Sums.{AllPass-from_list_all}
use Rattle.std.proofs.lemmas.List.Elements.{All-append, All-take, All-from_recursion}
use Rattle.std.proofs.lemmas.Fmt.{digits_decimal}
use Rattle.std.specs.Prelude.{codes}
use Rattle.std.specs.Char.{is_ascii_digit}
use Rattle.std.specs.List.{list_all}
use Rattle.task_script.specs.NameView.{IsNameByte, IsName}
use Rattle.rtapp_scenario.specs.Tests.{is_name}
use Rattle.rtapp_scenario.proofs.Naturals.{own}

in_range : (lo hi b : ℕ) → leb lo b && leb b hi ≡ true → (lo ≤ b) × (b ≤ hi)
in_range lo hi b h = let p = and_parts (leb lo b) (leb b hi) h in (leb-true lo b p.0, leb-true b hi p.1)

name_bytes : (name : List ℕ) → is_name name ≡ true → All IsNameByte name
name_bytes name h =
    let p = and_parts (ltb 0 (length name) && leb (length name) 64) (list_all (λ b. leb 33 b && leb b 126) name) h in
    λ k d lt. in_range 33 126 _ (AllPass-from_list_all (λ b. leb 33 b && leb b 126) name p.1 k d lt)

pub name_some : (name : List ℕ) → is_name name ≡ true → 0 < length name
name_some name h =
    let p = and_parts (ltb 0 (length name) && leb (length name) 64) (list_all (λ b. leb 33 b && leb b 126) name) h in
    ltb-true _ _ (and_parts (ltb 0 (length name)) (leb (length name) 64) p.0).0

digit_bytes : (n : ℕ) → n < 2 ^ 64 → All IsNameByte (decimal n)
digit_bytes n h = let digits = digits_decimal own n h in λ k d lt. let r = in_range 48 57 (get_or (decimal n) k d) (AllPass-from_list_all is_ascii_digit (decimal n) digits k d lt) in (omega (arith, r.0), omega (arith, r.1))

dash : All IsNameByte (codes "-")
dash = All-from_recursion IsNameByte (codes "-") ((omega arith, omega arith), tt)

pub long_bytes : (name : List ℕ) (instances k : ℕ) → is_name name ≡ true → k < 2 ^ 64 → All IsNameByte (cond (instances == 1) name (name ++ (codes "-" ++ decimal k)))
long_bytes name instances k h small = by_test (instances == 1)
  where
    by_test : (b : Bool) → All IsNameByte (cond b name (name ++ (codes "-" ++ decimal k)))
    by_test true = name_bytes name h
    by_test false = All-append IsNameByte name (codes "-" ++ decimal k) (name_bytes name h) (All-append IsNameByte (codes "-") (decimal k) dash (digit_bytes k small))

pub cut_name : (text : List ℕ) → All IsNameByte text → 0 < length text → IsName (take 15 text)
cut_name text bytes some = record {
  some = rw length-take (omega arith);
  most = rw length-take (omega arith);
  bytes = All-take IsNameByte 15 text bytes;
}
