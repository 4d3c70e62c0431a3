-- The tasks that stay, as a list.
use Rattle.std.proofs.Common.{◌≡◌, ◌<◌, ◌≤◌, ℕ, zero, suc, List, [], ◌∷◌, length, get_or, set, Option, Some, None, refl, subst, ap, arith, inl, inr}
use Rattle.std.specs.Prelude.{All, Contains}
use Rattle.std.specs.List.Sorted.{IsPermutation}
use Rattle.std.proofs.lemmas.List.Elements.{All-nil, All-cons, All-contains}
use Rattle.std.proofs.lemmas.List.Sorted.{IsPermutation-refl, IsPermutation-cons, IsPermutation-trans, IsPermutation-middle}
use Rattle.edf_pick.specs.declared.candidate.Candidate.{Candidate}
use Rattle.edf_pick.specs.private.Ready.{all_held}
use Rattle.edf_pick.proofs.Sorting.{contains_parts}

-- ---- ONE MORE, ONE LESS

-- the first two the other way round
turned : (a b : Candidate) (xs : List Candidate) → IsPermutation (a ∷ b ∷ xs) (b ∷ a ∷ xs)
turned a b xs = IsPermutation-middle (a ∷ []) b xs

pub held_more : (stays : List (Option Candidate)) (cpu : ℕ) (c : Candidate) → cpu < length stays → get_or stays cpu None ≡ None → IsPermutation (all_held (set stays cpu (Some c))) (c ∷ all_held stays)
held_more [] cpu c h bare = absurd (omega (arith, h))
held_more (None ∷ stays) zero c h bare = IsPermutation-refl (c ∷ all_held stays)
held_more (Some a ∷ stays) zero c h bare = absurd cc
held_more (None ∷ stays) (suc cpu) c h bare = held_more stays cpu c (omega (arith, h)) bare
held_more (Some a ∷ stays) (suc cpu) c h bare =
    IsPermutation-trans (a ∷ all_held (set stays cpu (Some c))) (a ∷ c ∷ all_held stays) (c ∷ a ∷ all_held stays)
    (IsPermutation-cons a (all_held (set stays cpu (Some c))) (c ∷ all_held stays) (held_more stays cpu c (omega (arith, h)) bare))
    (turned a c (all_held stays))

pub held_less : (stays : List (Option Candidate)) (cpu : ℕ) (c : Candidate) → get_or stays cpu None ≡ Some c → IsPermutation (all_held stays) (c ∷ all_held (set stays cpu None))
held_less [] cpu c at = absurd cc
held_less (None ∷ stays) zero c at = absurd cc
held_less (Some a ∷ stays) zero c at =
    let same : a ≡ c = cc in
    subst (λ b. IsPermutation (a ∷ all_held stays) (b ∷ all_held stays)) same (IsPermutation-refl (a ∷ all_held stays))
held_less (None ∷ stays) (suc cpu) c at = held_less stays cpu c at
held_less (Some a ∷ stays) (suc cpu) c at =
    let left = all_held (set stays cpu None) in
    IsPermutation-trans (a ∷ all_held stays) (a ∷ c ∷ left) (c ∷ a ∷ left)
    (IsPermutation-cons a (all_held stays) (c ∷ left) (held_less stays cpu c at))
    (turned a c left)

-- ---- EACH OF THEM

pub All_held : (P : Candidate → Type 0) (stays : List (Option Candidate)) → ((cpu : ℕ) (c : Candidate) → get_or stays cpu None ≡ Some c → P c) → All P (all_held stays)
All_held P [] each = All-nil P
All_held P (None ∷ stays) each = All_held P stays (λ cpu c at. each (suc cpu) c at)
All_held P (Some a ∷ stays) each = All-cons P a (all_held stays) (each 0 a refl) (All_held P stays (λ cpu c at. each (suc cpu) c at))

pub held_contains : (stays : List (Option Candidate)) (cpu : ℕ) (c : Candidate) → get_or stays cpu None ≡ Some c → Contains (all_held stays) c
held_contains [] cpu c at = absurd cc
held_contains (None ∷ stays) zero c at = absurd cc
held_contains (Some a ∷ stays) zero c at = let same : a ≡ c = cc in (0, omega arith, same)
held_contains (None ∷ stays) (suc cpu) c at = held_contains stays cpu c at
held_contains (Some a ∷ stays) (suc cpu) c at =
    let rest = held_contains stays cpu c at in
    (suc rest.0, (let h = rest.1 in omega (arith, h)), rest.2)

pub held_at : (P : Candidate → Type 0) (stays : List (Option Candidate)) (cpu : ℕ) (c : Candidate) → All P (all_held stays) → get_or stays cpu None ≡ Some c → P c
held_at P stays cpu c all at = All-contains P (all_held stays) c all (held_contains stays cpu c at)

pub held_where : (stays : List (Option Candidate)) (c : Candidate) → Contains (all_held stays) c → (cpu : ℕ) × (get_or stays cpu None ≡ Some c)
held_where [] c there = absurd (let h = there.1 in omega (arith, h))
held_where (None ∷ stays) c there = let rest = held_where stays c there in (suc rest.0, rest.1)
held_where (Some a ∷ stays) c there =
    elim (contains_parts a (all_held stays) c there) [
      | inl same ↦ (0, ap (λ (b : Candidate). Some b) same)
      | inr later ↦ let rest = held_where stays c later in (suc rest.0, rest.1)
    ]

-- ---- HOW MANY

pub held_length : (stays : List (Option Candidate)) → length (all_held stays) ≤ length stays
held_length [] = omega arith
held_length (None ∷ stays) = let rest = held_length stays in omega (arith, rest)
held_length (Some a ∷ stays) = let rest = held_length stays in omega (arith, rest)
