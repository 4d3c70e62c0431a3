-- The root of a timer tree is the first of its leaves.
use Rattle.std.proofs.Common.{◌≡◌, ℕ, zero, suc, ◌+◌, ◌-◌, ◌*◌, ◌/◌, ◌^◌, ◌<◌, ◌≤◌, min, List, [], ◌∷◌, length, get_or, refl, sym, ap, ◌∙◌, arith, subst, inl, inr}
use Rattle.std.proofs.lemmas.Bool.{cases_lt}
use Rattle.std.proofs.lemmas.List.{get_or-drop, length-drop}
use Rattle.due_times.specs.Timers.{least, IsSize}
use Rattle.due_times.specs.private.TimerTree.{IsTimerTreeOf, least_below, leaves}
use Rattle.due_times.proofs.Climbing.{covers_pow, four_times, some_wide, down_low, down_high, down_inner}

pub least_le : (xs : List ℕ) (k : ℕ) → k < length xs → least xs ≤ get_or xs k 0
least_le [] k h = absurd (omega (arith, h))
least_le (x ∷ xs) zero h = omega arith
least_le (x ∷ xs) (suc k) h = omega (arith, least_le xs k (omega (arith, h)))

pub le_least : (xs : List ℕ) (v : ℕ) → v ≤ 2 ^ 64 - 1 → ((k : ℕ) → k < length xs → v ≤ get_or xs k 0) → v ≤ least xs
le_least [] v top each = top
le_least (x ∷ xs) v top each = omega (arith, each 0 (omega arith), le_least xs v top (λ k h. each (suc k) (omega (arith, h))))

-- a leaf that has a node's time
record Leaf (nodes : List ℕ) (i : ℕ) : Type 0 where
  at : ℕ
  past : length nodes / 2 ≤ at
  within : at < length nodes
  same : get_or nodes at 0 ≡ get_or nodes i 0

-- one of the four that has the least time
record OfFour (nodes : List ℕ) (i : ℕ) : Type 0 where
  at : ℕ
  low : 4 * i ≤ at
  high : at ≤ 4 * i + 3
  same : get_or nodes at 0 ≡ least_below nodes i

of_four : (nodes : List ℕ) (i : ℕ) → OfFour nodes i
of_four nodes i =
    let a = get_or nodes (4 * i) 0 in
    let b = get_or nodes (4 * i + 1) 0 in
    let c = get_or nodes (4 * i + 2) 0 in
    let d = get_or nodes (4 * i + 3) 0 in
    elim (cases_lt (min a b) (min c d)) [
      | inl left ↦ elim (cases_lt a b) [
        | inl h ↦ record { at = 4 * i; low = omega arith; high = omega arith; same = omega (arith, left, h) }
        | inr h ↦ record { at = 4 * i + 1; low = omega arith; high = omega arith; same = omega (arith, left, h) }
      ]
      | inr right ↦ elim (cases_lt c d) [
        | inl h ↦ record { at = 4 * i + 2; low = omega arith; high = omega arith; same = omega (arith, right, h) }
        | inr h ↦ record { at = 4 * i + 3; low = omega arith; high = omega arith; same = omega (arith, right, h) }
      ]
    ]

reached : (nodes : List ℕ) → IsTimerTreeOf nodes → (k i : ℕ) → 1 ≤ i → length nodes / 2 ≤ i * 4 ^ k → (i + 1) * 4 ^ k ≤ length nodes → Leaf nodes i
reached nodes is zero i one low high = record { at = i; past = omega (arith, low); within = omega (arith, high); same = refl }
reached nodes is (suc k) i one low high =
    let more : suc k ≡ k + 1 = omega arith in
    let wide : 4 ^ suc k ≡ 4 ^ k * 4 = ap (λ n. 4 ^ n) more ∙ four_times k in
    let from : length nodes / 2 ≤ i * (4 ^ k * 4) = subst (λ n. length nodes / 2 ≤ i * n) wide low in
    let upto : (i + 1) * (4 ^ k * 4) ≤ length nodes = subst (λ n. (i + 1) * n ≤ length nodes) wide high in
    let next = of_four nodes i in
    let here = is.each i one (down_inner nodes i (4 ^ k) (some_wide k) is upto) (λ z. absurd (omega (arith, z, one))) in
    let leaf = reached nodes is k next.at (omega (arith, next.low, one)) (down_low (length nodes / 2) i next.at (4 ^ k) from next.low) (down_high (length nodes) i next.at (4 ^ k) upto next.high) in
    record { at = leaf.at; past = leaf.past; within = leaf.within; same = leaf.same ∙ next.same ∙ sym here }

rooted_at : (nodes : List ℕ) (k : ℕ) → IsTimerTreeOf nodes → length nodes / 2 ≡ 4 ^ k → get_or nodes 1 0 ≤ 2 ^ 64 - 1 → get_or nodes 1 0 ≡ least (leaves nodes)
rooted_at nodes k is wide top =
    let half = length nodes / 2 in
    let two : length nodes ≡ 2 * half = omega (arith, is.fours) in
    let leaf = reached nodes is k 1 (omega arith) (omega (arith, wide)) (omega (arith, wide, two)) in
    let read : get_or (leaves nodes) (leaf.at - half) 0 ≡ get_or nodes leaf.at 0 = get_or-drop half nodes (leaf.at - half) 0 ∙ ap (λ (k : ℕ). get_or nodes k 0) (omega (arith, leaf.past)) in
    let most = least_le (leaves nodes) (leaf.at - half) (omega (arith, leaf.past, leaf.within, length-drop half nodes)) in
    let covers = covers_pow nodes is k 1 (omega arith) in
    let least_of : get_or nodes 1 0 ≤ least (leaves nodes) = le_least (leaves nodes) (get_or nodes 1 0) top (λ j h.
    let within : half + j < length nodes = omega (arith, h, length-drop half nodes) in
    subst (λ (v : ℕ). get_or nodes 1 0 ≤ v) (sym (get_or-drop half nodes j 0)) (covers.each (half + j) (omega (arith, wide)) (omega (arith, wide, within, two)) within)) in
    omega (arith, most, read, leaf.same, least_of)

pub rooted : (nodes : List ℕ) → IsTimerTreeOf nodes → IsSize (length nodes / 2) → get_or nodes 1 0 ≤ 2 ^ 64 - 1 → get_or nodes 1 0 ≡ least (leaves nodes)
rooted nodes is (inl e) top = rooted_at nodes 1 is e top
rooted nodes is (inr (inl e)) top = rooted_at nodes 2 is e top
rooted nodes is (inr (inr (inl e))) top = rooted_at nodes 3 is e top
rooted nodes is (inr (inr (inr (inl e)))) top = rooted_at nodes 4 is e top
rooted nodes is (inr (inr (inr (inr e)))) top = rooted_at nodes 5 is e top
