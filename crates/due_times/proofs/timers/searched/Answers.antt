use Rattle.std.proofs.Common.{◌≡◌, ◌+◌, ◌-◌, ◌/◌, ◌<◌, ◌≤◌, ℕ, length, get_or, subst, arith, inl, inr}
use Rattle.std.proofs.lemmas.Bool.{cases_lt}
use Rattle.due_times.proofs.Orders.{before_low, rise_low}
use Rattle.due_times.proofs.timers.searched.Goals as goal

pub returns-then-from-leaf : goal.returns-then-from-leaf
returns-then-from-leaf c =
    let order = c.args.order.now in
    let place = c.min-low.result in
    let gone : c.saturating_sub-gone.result ≡ get_or order (length order - 1) 0 - (length order - 1) = omega (arith, c.saturating_sub-gone.ensures, c.from.ensures) in
    let before_it = λ (k : ℕ) (low : k < c.min-low.result). before_low order c.args.leaf k c.requires.rising (omega (arith, low, c.min-low.ensures)) (omega (arith, low, c.min-low.ensures, c.saturating_sub.ensures, gone)) in
    let here : c.args.leaf ≤ get_or order place 0 = omega (arith, c.if-from-leaf.true, c.from-then-low-high.ensures) in
    record {
      within = omega (arith, c.min-low.ensures);
      before = λ k low. before_it k low;
      following = λ k from within. elim (cases_lt place k) [
        | inl less ↦ let up = c.requires.rising place k 0 less within in omega (arith, up, here)
        | inr not_less ↦ let same : place ≡ k = omega (arith, from, not_less) in subst (λ n. c.args.leaf ≤ get_or order n 0) same here
      ];
    }

pub loop-low-init : goal.loop-low-init
loop-low-init c =
    let order = c.args.order.now in
    let gone : c.saturating_sub-gone.result ≡ get_or order (length order - 1) 0 - (length order - 1) = omega (arith, c.saturating_sub-gone.ensures, c.from.ensures) in
    let before_it = λ (k : ℕ) (low : k < c.min-low.result). before_low order c.args.leaf k c.requires.rising (omega (arith, low, c.min-low.ensures)) (omega (arith, low, c.min-low.ensures, c.saturating_sub.ensures, gone)) in
    record {
      ordered = omega (arith, c.min-low.ensures, c.min-high.ensures, c.saturating_sub.ensures);
      most = omega (arith, c.min-high.ensures);
      before = λ k low. before_it k low;
      following = λ k from within. let least = rise_low c.args.order.now k c.requires.rising within in omega (arith, least, from, within, c.min-high.ensures);
    }

pub loop-low-preserved-then-from-leaf-2 : goal.loop-low-preserved-then-from-leaf-2
loop-low-preserved-then-from-leaf-2 c =
    let order = c.args.order.now in
    let i = c.loop-low.invariant in
    let middle = (c.loop-low.low + c.loop-low.high) / 2 in
    let here : get_or order middle 0 < c.args.leaf = omega (arith, c.if-from-leaf-2.true, c.from-in-loop-low.ensures) in
    record {
      ordered = omega (arith, c.loop-low-test.true);
      most = i.most;
      before = λ k low. elim (cases_lt k middle) [
        | inl less ↦ let up = c.requires.rising k middle 0 less (omega (arith, c.loop-low-test.true, i.most)) in omega (arith, up, here)
        | inr not_less ↦ let same : middle ≡ k = omega (arith, low, not_less) in subst (λ n. get_or order n 0 < c.args.leaf) same here
      ];
      following = i.following;
    }
