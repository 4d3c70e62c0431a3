-- Reading items one after the other, as a loop does.
use Rattle.std.proofs.Common.{◌≡◌, ℕ, suc, ◌-◌, ◌+◌, ◌≤◌, ◌<◌, List, [], ◌∷◌, ◌++◌, Option, Some, None, refl, sym, ap, ◌∙◌, append_assoc, arith}
use Rattle.calls_text.specs.declared.fault.PartFault.{PartFault}
use Rattle.calls_text.specs.declared.fault.PartFault.TheVariants.{Bad, Memory}
use Rattle.calls_text.specs.private.Reading.{◌>>=◌, PartFails, many_at}

-- what was read before, and what is still read
abbrev pub with_front : {X : Type 0} → List X → Option (List X) → Option (List X)
with_front front read = read >>= λ xs. Some (front ++ xs)

regroup : {X : Type 0} (front : List X) (x : X) (read : Option (List X)) → with_front front (read >>= λ xs. Some (x ∷ xs)) ≡ with_front (front ++ x ∷ []) read
regroup front x (Some xs) = ap (λ (ys : List _). Some ys) (simp append_assoc)
regroup front x None = refl

pub goes_on : {X : Type 0} (item : List ℕ → Option (X × Option (List ℕ))) (front : List X) (count i : ℕ) (text : List ℕ) (x : X) (after : List ℕ) (total : Option (List X))
    → i < count → item text ≡ Some (x, Some after) → with_front front (many_at item (count - i) text) ≡ total → with_front (front ++ x ∷ []) (many_at item (count - (i + 1)) after) ≡ total
unfolding many_at
goes_on item front count i text x after total lt h so_far =
    let k : count - i ≡ suc (count - (i + 1)) = omega arith in
    let one : with_front front (many_at item (count - i) text) ≡ with_front (front ++ x ∷ []) (many_at item (count - (i + 1)) after) = rw (k, h) (regroup front x (many_at item (count - (i + 1)) after)) in
    sym one ∙ so_far

pub ends : {X : Type 0} (item : List ℕ → Option (X × Option (List ℕ))) (front : List X) (count i : ℕ) (text : List ℕ) (x : X) (total : Option (List X))
    → i < count → item text ≡ Some (x, None) → with_front front (many_at item (count - i) text) ≡ total → total ≡ Some (front ++ x ∷ [])
unfolding many_at
ends item front count i text x total lt h so_far =
    let k : count - i ≡ suc (count - (i + 1)) = omega arith in
    let one : with_front front (many_at item (count - i) text) ≡ Some (front ++ x ∷ []) = rw (k, h) refl in
    sym so_far ∙ one

pub stops : {X : Type 0} (item : List ℕ → Option (X × Option (List ℕ))) (e : PartFault) (front : List X) (count i : ℕ) (text : List ℕ) (total : Option (List X))
    → i < count → PartFails e (item text) → with_front front (many_at item (count - i) text) ≡ total → PartFails e total
unfolding many_at
stops item Memory front count i text total lt h so_far = tt
stops item Bad front count i text total lt h so_far =
    let k : count - i ≡ suc (count - (i + 1)) = omega arith in
    let one : with_front front (many_at item (count - i) text) ≡ None = rw (k, h) refl in
    sym so_far ∙ one

pub is_full : {X : Type 0} (item : List ℕ → Option (X × Option (List ℕ))) (front : List X) (count i : ℕ) (text : List ℕ) (total : Option (List X))
    → count ≤ i → with_front front (many_at item (count - i) text) ≡ total → total ≡ None
unfolding many_at
is_full item front count i text total le so_far =
    let k : count - i ≡ 0 = omega arith in
    let one : with_front front (many_at item (count - i) text) ≡ None = rw k refl in
    sym so_far ∙ one
