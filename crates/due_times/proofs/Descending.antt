-- From the root of a timer tree down to the first leaf that has come.
use Rattle.std.proofs.Common.{◌≡◌, ℕ, zero, suc, ◌+◌, ◌*◌, ◌/◌, ◌^◌, ◌-◌, ◌<◌, ◌≤◌, List, length, get_or, sym, ap, subst, ◌∙◌, arith, inl, inr}
use Rattle.std.proofs.lemmas.Bool.{cases_lt}
use Rattle.std.proofs.lemmas.List.{length-drop, get_or-drop}
use Rattle.due_times.specs.Timers.{least, AreLater, IsSize}
use Rattle.due_times.specs.private.TimerTree.{IsLeast, IsTimerTreeOf, ArePassed, IsOnWay, leaves}
use Rattle.due_times.proofs.Rooted.{rooted}
use Rattle.due_times.proofs.Climbing.{Covers, covers_pow, four_times, some_wide, down_low, down_high, down_inner}

-- after those of one more node that has not come
ahead_more : (nodes : List ℕ) (time low b s : ℕ) → Covers nodes b s → time < get_or nodes b 0 → AreLater nodes time low (b * s) → AreLater nodes time low ((b + 1) * s)
ahead_more nodes time low b s covers later ahead node above before within =
    elim (cases_lt node (b * s)) [
      | inl less ↦ ahead node above less within
      | inr past ↦
          let covered = covers.each node past before within in
          omega (arith, covered, later)
    ]

module _ (nodes : List ℕ) (time at n k : ℕ) (is : IsTimerTreeOf nodes) (one : 1 ≤ at) (passed : ArePassed (get_or nodes (4 * at) 0) (get_or nodes (4 * at + 1) 0) (get_or nodes (4 * at + 2) 0) time n) where
  -- as many of the four as have not come lie after
  down_ahead : (low : ℕ) → AreLater nodes time low (at * (4 ^ k * 4)) → AreLater nodes time low ((4 * at + n) * 4 ^ k)
  down_ahead low ahead =
      let s = 4 ^ k in
      let upto = λ (b : ℕ) (e : b ≡ 4 * at + n) (h : AreLater nodes time low (b * 4 ^ k)). subst (λ (j : ℕ). AreLater nodes time low (j * 4 ^ k)) e h in
      let first : AreLater nodes time low (4 * at * s) = subst (AreLater nodes time low) (omega arith) ahead in
      let second = λ (h : 0 < n). ahead_more nodes time low (4 * at) s (covers_pow nodes is k (4 * at) (omega (arith, one))) (passed.one h) first in
      let third = λ (h : 1 < n). ahead_more nodes time low (4 * at + 1) s (covers_pow nodes is k (4 * at + 1) (omega arith)) (passed.two h) (second (omega (arith, h))) in
      let last = λ (h : 2 < n). ahead_more nodes time low (4 * at + 2) s (covers_pow nodes is k (4 * at + 2) (omega arith)) (passed.three h) (subst (λ (j : ℕ). AreLater nodes time low (j * 4 ^ k)) (omega arith) (third (omega (arith, h)))) in
      elim (cases_lt 0 n) [
        | inr none ↦ upto (4 * at) (omega (arith, none)) first
        | inl some ↦ elim (cases_lt 1 n) [
          | inr alone ↦ upto (4 * at + 1) (omega (arith, some, alone)) (second some)
          | inl more ↦ elim (cases_lt 2 n) [
            | inr both ↦ upto (4 * at + 1 + 1) (omega (arith, more, both)) (third more)
            | inl all ↦ upto (4 * at + 2 + 1) (omega (arith, all, passed.most)) (last all)
          ]
        ]
      ]

  down_come : IsLeast nodes at → get_or nodes at 0 ≤ time → get_or nodes (4 * at + n) 0 ≤ time
  down_come least_of come =
      let there = λ (b : ℕ) (e : b ≡ 4 * at + n) (h : get_or nodes b 0 ≤ time). subst (λ (j : ℕ). get_or nodes j 0 ≤ time) e h in
      elim (cases_lt 0 n) [
        | inr none ↦ there (4 * at) (omega (arith, none)) (passed.at_one (omega (arith, none)))
        | inl some ↦ elim (cases_lt 1 n) [
          | inr alone ↦ there (4 * at + 1) (omega (arith, some, alone)) (passed.at_two (omega (arith, some, alone)))
          | inl more ↦ elim (cases_lt 2 n) [
            | inr both ↦ there (4 * at + 2) (omega (arith, more, both)) (passed.at_three (omega (arith, more, both)))
            | inl all ↦
                let last : get_or nodes (4 * at + 3) 0 ≤ time = omega (arith, least_of, come, passed.one some, passed.two more, passed.three all) in
                there (4 * at + 3) (omega (arith, all, passed.most)) last
          ]
        ]
      ]

-- from a node on the way to that of the four below it which is chosen
pub way_down : (nodes : List ℕ) (time at n k : ℕ) → IsTimerTreeOf nodes → ArePassed (get_or nodes (4 * at) 0) (get_or nodes (4 * at + 1) 0) (get_or nodes (4 * at + 2) 0) time n → IsOnWay nodes time at (4 ^ (k + 1)) → IsOnWay nodes time (4 * at + n) (4 ^ k)
way_down nodes time at n k is passed way =
    let wide = four_times k in
    let high : (at + 1) * (4 ^ k * 4) ≤ length nodes = subst (λ n. (at + 1) * n ≤ length nodes) wide way.high in
    let least_of : IsLeast nodes at = is.each at way.one (down_inner nodes at (4 ^ k) (some_wide k) is high) (λ z. absurd (omega (arith, z, way.one))) in
    record {
      one = omega (arith, way.one);
      low = down_low (length nodes / 2) at (4 * at + n) (4 ^ k) (subst (λ n. length nodes / 2 ≤ at * n) wide way.low) (omega arith);
      high = down_high (length nodes) at (4 * at + n) (4 ^ k) high (omega (arith, passed.most));
      ahead = down_ahead nodes time at n k is way.one passed (length nodes / 2) (subst (λ n. AreLater nodes time (length nodes / 2) (at * n)) wide way.ahead);
      come = down_come nodes time at n k is way.one passed least_of way.come;
    }

-- the way begins at the root
pub from_root : (nodes : List ℕ) (time k : ℕ) → IsTimerTreeOf nodes → IsSize (length nodes / 2) → length nodes / 2 ≡ 4 ^ k → get_or nodes 1 0 ≤ 2 ^ 64 - 1 → least (leaves nodes) ≤ time → IsOnWay nodes time 1 (4 ^ k)
from_root nodes time k is size e top come =
    let root = rooted nodes is size top in
    record {
      one = omega arith;
      low = omega (arith, e);
      high = omega (arith, e, is.fours);
      ahead = λ node above before within. absurd (omega (arith, above, before, e));
      come = omega (arith, root, come);
    }

pub leaves_half : (nodes : List ℕ) → IsTimerTreeOf nodes → length (leaves nodes) ≡ length nodes / 2
leaves_half nodes is = omega (arith, is.fours, length-drop (length nodes / 2) nodes)

-- the sizes, one after another
pub some_four : (n : ℕ) → IsSize n → 4 ≤ n
some_four n (inl e) = omega (arith, e)
some_four n (inr (inl e)) = omega (arith, e)
some_four n (inr (inr (inl e))) = omega (arith, e)
some_four n (inr (inr (inr (inl e)))) = omega (arith, e)
some_four n (inr (inr (inr (inr e)))) = omega (arith, e)

pub most_1024 : (n : ℕ) → IsSize n → n ≤ 1024
most_1024 n (inl e) = omega (arith, e)
most_1024 n (inr (inl e)) = omega (arith, e)
most_1024 n (inr (inr (inl e))) = omega (arith, e)
most_1024 n (inr (inr (inr (inl e)))) = omega (arith, e)
most_1024 n (inr (inr (inr (inr e)))) = omega (arith, e)

-- a width of a level: a power of four
pub record IsWidth (span : ℕ) : Type 0 where
  pub level : ℕ
  pub is : span ≡ 4 ^ level

pub size_width : (n : ℕ) → IsSize n → IsWidth n
size_width n (inl e) = record { level = 1; is = e }
size_width n (inr (inl e)) = record { level = 2; is = e }
size_width n (inr (inr (inl e))) = record { level = 3; is = e }
size_width n (inr (inr (inr (inl e)))) = record { level = 4; is = e }
size_width n (inr (inr (inr (inr e)))) = record { level = 5; is = e }

-- the width of the level below
pub record IsAbove (span : ℕ) : Type 0 where
  pub level : ℕ
  pub wide : span ≡ 4 ^ (level + 1)
  pub next : span / 4 ≡ 4 ^ level

pub level_below : (span : ℕ) → IsWidth span → 1 < span → IsAbove span
level_below span width more = by_level width.level width.is
  where
    by_level : (k : ℕ) → span ≡ 4 ^ k → IsAbove span
    by_level zero e = absurd (omega (arith, e, more))
    by_level (suc k) e =
        let wide : span ≡ 4 ^ (k + 1) = e ∙ ap (λ n. 4 ^ n) (omega arith) in
        record { level = k; wide = wide; next = omega (arith, wide, four_times k) }

pub width_below : (span : ℕ) → IsWidth span → 1 < span → IsWidth (span / 4)
width_below span width more =
    let above = level_below span width more in
    record { level = above.level; is = above.next }

-- the four below a node on the way are there
pub way_within : (nodes : List ℕ) (time at span : ℕ) → IsTimerTreeOf nodes → IsWidth span → 1 < span → IsOnWay nodes time at span → 4 * at + 3 < length nodes
way_within nodes time at span is width more way =
    let above = level_below span width more in
    let wide : span ≡ 4 ^ above.level * 4 = above.wide ∙ four_times above.level in
    let inner = down_inner nodes at (4 ^ above.level) (some_wide above.level) is (subst (λ n. (at + 1) * n ≤ length nodes) wide way.high) in
    omega (arith, inner, is.fours)

-- the way ends at a leaf
pub way_ended : (nodes : List ℕ) (time at span : ℕ) → IsWidth span → span ≤ 1 → IsOnWay nodes time at span → IsOnWay nodes time at 1
way_ended nodes time at span width last way =
    subst (λ n. IsOnWay nodes time at n) (omega (arith, width.is, some_wide width.level, last)) way

-- what the end of the way says of the leaves
pub leaves_ahead : (nodes : List ℕ) (time at : ℕ) → IsOnWay nodes time at 1 → AreLater (leaves nodes) time 0 (at - length nodes / 2)
leaves_ahead nodes time at way place from before within =
    let half = length nodes / 2 in
    subst (λ (n : ℕ). time < n) (sym (get_or-drop half nodes place 0)) (way.ahead (half + place) (omega arith) (omega (arith, before)) (omega (arith, within, length-drop half nodes)))

pub leaf_come : (nodes : List ℕ) (time at : ℕ) → IsOnWay nodes time at 1 → get_or (leaves nodes) (at - length nodes / 2) 0 ≤ time
leaf_come nodes time at way =
    let half = length nodes / 2 in
    let there : half + (at - half) ≡ at = omega (arith, way.low) in
    subst (λ (n : ℕ). n ≤ time) (sym (get_or-drop half nodes (at - half) 0 ∙ ap (λ (k : ℕ). get_or nodes k 0) there)) way.come
