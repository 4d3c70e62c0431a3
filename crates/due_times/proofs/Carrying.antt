-- A time of a timer tree that is carried up.
use Rattle.std.proofs.Common.{◌≡◌, ◌≢◌, ℕ, zero, suc, ◌+◌, ◌-◌, ◌*◌, ◌/◌, ◌^◌, ◌<◌, ◌≤◌, min, List, length, get_or, set, drop, sym, ap, subst, refl, ◌∙◌, arith, inl, inr}
use Rattle.std.specs.Int.Bits.{bit_xor, xor_zero_r}
use Rattle.std.proofs.lemmas.Bool.{cases_eq}
use Rattle.std.proofs.lemmas.List.{length-set, length-drop, drop-set-add, get_or-set_same, get_or-set_other}
use Rattle.std.proofs.lemmas.Nat.{xor_block, xor_lt}
use Rattle.due_times.specs.private.TimerTree.{IsTimerTreeOf, IsTreeBut, least_below, leaves}

-- within a group of four
beside : (at q r s : ℕ) → at ≡ 4 * q + r → r < 4 → s < 4 → bit_xor at s ≡ 4 * q + bit_xor r s
beside at q r s e less other =
    let here : at ≡ q * 2 ^ 2 + r = omega (arith, e) in
    let there : s ≡ 0 * 2 ^ 2 + s = omega arith in
    let block = xor_block 2 q 0 r s less other in
    let same : bit_xor at s ≡ bit_xor (q * 2 ^ 2 + r) (0 * 2 ^ 2 + s) = ap (λ n. bit_xor n s) here ∙ ap (λ n. bit_xor (q * 2 ^ 2 + r) n) there in
    omega (arith, same, block, xor_zero_r q)

pub beside_within : (nodes : List ℕ) (at s : ℕ) → length nodes ≡ 4 * (length nodes / 4) → at < length nodes → s < 4 → bit_xor at s < length nodes
beside_within nodes at s fours there less =
    let r = at - 4 * (at / 4) in
    let low : r < 4 = omega arith in
    let is = beside at (at / 4) r s (omega arith) low less in
    omega (arith, is, xor_lt 2 r s low less, fours, there)

pub least_of_group : (nodes : List ℕ) (at time : ℕ) → get_or nodes at 0 ≡ time → min (min time (get_or nodes (bit_xor at 1) 0)) (min (get_or nodes (bit_xor at 2) 0) (get_or nodes (bit_xor at 3) 0)) ≡ least_below nodes (at / 4)
least_of_group nodes at time own = by_rest (at - 4 * (at / 4)) (omega arith) (omega arith)
  where
    read : (r s n : ℕ) → at ≡ 4 * (at / 4) + r → r < 4 → s < 4 → bit_xor r s ≡ n → get_or nodes (bit_xor at s) 0 ≡ get_or nodes (4 * (at / 4) + n) 0
    read r s n e less other is = ap (λ k. get_or nodes k 0) (beside at (at / 4) r s e less other ∙ ap (λ k. 4 * (at / 4) + k) is)

    first : get_or nodes (4 * (at / 4) + 0) 0 ≡ get_or nodes (4 * (at / 4)) 0
    first = ap (λ k. get_or nodes k 0) (omega arith)

    here : (r : ℕ) → at ≡ 4 * (at / 4) + r → get_or nodes (4 * (at / 4) + r) 0 ≡ time
    here r e = ap (λ k. get_or nodes k 0) (sym e) ∙ own

    by_rest : (r : ℕ) → at ≡ 4 * (at / 4) + r → r < 4 → min (min time (get_or nodes (bit_xor at 1) 0)) (min (get_or nodes (bit_xor at 2) 0) (get_or nodes (bit_xor at 3) 0)) ≡ least_below nodes (at / 4)
    by_rest zero e less = omega (arith, first, here 0 e, read 0 1 1 e less (omega arith) refl, read 0 2 2 e less (omega arith) refl, read 0 3 3 e less (omega arith) refl)
    by_rest (suc zero) e less = omega (arith, first, here 1 e, read 1 1 0 e less (omega arith) refl, read 1 2 3 e less (omega arith) refl, read 1 3 2 e less (omega arith) refl)
    by_rest (suc (suc zero)) e less = omega (arith, first, here 2 e, read 2 1 3 e less (omega arith) refl, read 2 2 0 e less (omega arith) refl, read 2 3 1 e less (omega arith) refl)
    by_rest (suc (suc (suc zero))) e less = omega (arith, first, here 3 e, read 3 1 2 e less (omega arith) refl, read 3 2 1 e less (omega arith) refl, read 3 3 0 e less (omega arith) refl)
    by_rest (suc (suc (suc (suc r)))) e less = absurd (omega (arith, less))

-- what a write leaves of the four below another node
kept : (nodes : List ℕ) (at i time : ℕ) → at / 4 ≢ i → least_below (set nodes at time) i ≡ least_below nodes i
kept nodes at i time other =
    let a = get_or-set_other nodes at (4 * i) time 0 (λ e. other (omega (arith, e))) in
    let b = get_or-set_other nodes at (4 * i + 1) time 0 (λ e. other (omega (arith, e))) in
    let c = get_or-set_other nodes at (4 * i + 2) time 0 (λ e. other (omega (arith, e))) in
    let d = get_or-set_other nodes at (4 * i + 3) time 0 (λ e. other (omega (arith, e))) in
    cc (a, b, c, d)

-- a leaf is another, so the node above it may not be right
pub leaf_changed : (nodes : List ℕ) (at time : ℕ) → IsTimerTreeOf nodes → length nodes / 2 ≤ at → IsTreeBut (at / 4) (set nodes at time)
leaf_changed nodes at time is from =
    let long = length-set nodes at time in
    record {
      fours = omega (arith, long, is.fours);
      each = λ i one within other.
          get_or-set_other nodes at i time 0 (λ e. absurd (omega (arith, e, within, long, from)))
          ∙ is.each i one (omega (arith, within, long)) (λ z. absurd (omega (arith, z, one)))
          ∙ sym (kept nodes at i time (λ e. other (sym e)));
    }

-- the node above is right again, and the one above that may not be
pub carried : (nodes : List ℕ) (at least : ℕ) → IsTreeBut (at / 4) nodes → 4 ≤ at → at < length nodes → least ≡ least_below nodes (at / 4) → IsTreeBut (at / 16) (set nodes (at / 4) least)
carried nodes at least is inner there e =
    let q = at / 4 in
    let long = length-set nodes (at / 4) least in
    record {
      fours = omega (arith, long, is.fours);
      each = λ i one within other.
          let apart : at / 4 / 4 ≢ i = λ up. other (omega (arith, up)) in
          let below = kept nodes (at / 4) i least apart in
          elim (cases_eq i (at / 4)) [
            | inl same ↦
                let read : get_or (set nodes (at / 4) least) i 0 ≡ least = ap (λ k. get_or (set nodes (at / 4) least) k 0) same ∙ get_or-set_same nodes (at / 4) least 0 (omega (arith, there)) in
                read ∙ e ∙ ap (least_below nodes) (sym same) ∙ sym below
            | inr differs ↦
                get_or-set_other nodes (at / 4) i least 0 differs ∙ is.each i one (omega (arith, within, long)) differs ∙ sym below
          ];
    }

-- where it was right already, each node is
pub right_already : (nodes : List ℕ) (at : ℕ) → IsTreeBut at nodes → get_or nodes at 0 ≡ least_below nodes at → IsTimerTreeOf nodes
right_already nodes at is e = record {
  fours = is.fours;
  each = λ i one within other.
      elim (cases_eq i at) [
        | inl same ↦ subst (λ (k : ℕ). get_or nodes k 0 ≡ least_below nodes k) (sym same) e
        | inr differs ↦ is.each i one within differs
      ];
}

pub leaf_within : (nodes : List ℕ) (leaf : ℕ) → IsTimerTreeOf nodes → leaf < length (leaves nodes) → leaf < length nodes / 2
leaf_within nodes leaf is h = omega (arith, h, is.fours, length-drop (length nodes / 2) nodes)

pub leaves_set : (nodes : List ℕ) (half leaf time : ℕ) → half ≡ length nodes / 2 → leaves (set nodes (half + leaf) time) ≡ set (leaves nodes) leaf time
leaves_set nodes half leaf time e =
    ap (λ n. drop (n / 2) (set nodes (half + leaf) time)) (length-set nodes (half + leaf) time)
    ∙ ap (λ n. drop (length nodes / 2) (set nodes (n + leaf) time)) e ∙ drop-set-add (length nodes / 2) nodes leaf time
