use Rattle.std.proofs.Common.{◌≡◌, ℕ, ◌+◌, ◌-◌, ◌*◌, ◌≤◌, ◌^◌, List, [], ◌∷◌, ◌++◌, map, sym, ap, ◌∙◌, subst, arith, All}
use Rattle.std.specs.List.{range_with_len}
use Rattle.std.proofs.lemmas.List.Elements.{All-push}
use Rattle.std.proofs.lemmas.List.FromFn.{map-range_with_len_more}
use Rattle.chart.proofs.axis.ticks_between.Goals as goal

pub loop-k-preserved : goal.loop-k-preserved
loop-k-preserved c =
    let k = c.loop-k.k in
    let first = c.args.first in
    let step = c.args.step in
    let by = λ (j : ℕ). j * step in
    let at : first + (k - first) ≡ k = omega (arith, c.loop-k.invariant.above) in
    let next : k - first + 1 ≡ k + 1 - first = omega (arith, c.loop-k.invariant.above) in
    record {
      ticks = c.in_ok-push.ensures.items ∙ ap (λ (xs : List ℕ). xs ++ k * step ∷ []) c.loop-k.invariant.ticks
          ∙ sym (map-range_with_len_more by first (k - first) k at) ∙ ap (λ n. map by (range_with_len first n)) next;
      early = subst (λ (xs : List ℕ). All (λ t. t ≤ 2 ^ 42) xs) (sym c.in_ok-push.ensures.items)
          (All-push (λ t. t ≤ 2 ^ 42) c.loop-k.ticks.items (k * step) c.loop-k.invariant.early (c.requires.fits k c.loop-k-test.true));
      above = omega (arith, c.loop-k.invariant.above);
      few = omega (arith, c.loop-k-test.true);
    }
