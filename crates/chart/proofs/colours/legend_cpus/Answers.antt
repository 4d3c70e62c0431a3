use Rattle.std.proofs.Common.{◌≡◌, ℕ, List, [], ◌∷◌, ◌++◌, length, get_or, sym, ap, ◌∙◌, arith}
use Rattle.std.proofs.lemmas.List.FromFn.{map-range_with_len_more, get_or-map-range_with_len, length-map-range_with_len}
use Rattle.chart.specs.Colours.{first_of_colour}
use Rattle.chart.proofs.colours.legend_cpus.Goals as goal

pub loop-place-preserved : goal.loop-place-preserved
loop-place-preserved c =
    let place = c.loop-place.place in
    record {
      all = c.in_ok-push.ensures.items ∙ ap (λ (xs : List ℕ). xs ++ place ∷ []) c.loop-place.invariant.all ∙ sym (map-range_with_len_more (λ (k : ℕ). k) 0 place place (omega arith));
      few = omega (arith, c.loop-place-test.true);
    }

pub returns-then-cpus-le8-clause-small : goal.returns-then-cpus-le8-clause-small
returns-then-cpus-le8-clause-small c k d l =
    let place = c.loop-place.place in
    let is = c.loop-place.invariant.all in
    let len : length c.loop-place.all.items ≡ place = ap (λ (xs : List ℕ). length xs) is ∙ length-map-range_with_len (λ (k : ℕ). k) 0 place in
    let here : get_or c.loop-place.all.items k d ≡ k = ap (λ (xs : List ℕ). get_or xs k d) is ∙ get_or-map-range_with_len (λ (k : ℕ). k) 0 place k k d (omega (arith, l, len)) (omega arith) in
    omega (arith, here, l, len, c.loop-place.invariant.few, c.if-cpus-le8.true)

pub returns-then-cpus-le8-clause-few : goal.returns-then-cpus-le8-clause-few
returns-then-cpus-le8-clause-few c =
    let place = c.loop-place.place in
    let len : length c.loop-place.all.items ≡ place = ap (λ (xs : List ℕ). length xs) c.loop-place.invariant.all ∙ length-map-range_with_len (λ (k : ℕ). k) 0 place in
    omega (arith, len, c.loop-place.invariant.few, c.if-cpus-le8.true)

pub loop-place-2-preserved : goal.loop-place-2-preserved
loop-place-2-preserved c =
    let place = c.loop-place-2.place in
    record {
      all = c.in_ok-push-2.ensures.items ∙ ap (λ (xs : List ℕ). xs ++ first_of_colour c.args.cpus place ∷ []) c.loop-place-2.invariant.all ∙ sym (map-range_with_len_more (first_of_colour c.args.cpus) 0 place place (omega arith));
      few = omega (arith, c.loop-place-2-test.true);
    }
