use Rattle.std.proofs.Common.{◌≡◌, suc, ◌+◌, ap, ◌∙◌, arith}
use Rattle.chart.specs.Axis as axis
use Rattle.chart.proofs.axis.widened.Goals as goal

pub loop-times-preserved : goal.loop-times-preserved
loop-times-preserved c =
    let times = c.loop-times.times in
    let next : suc times ≡ times + 1 = omega arith in
    record {
      few = omega (arith, c.loop-times-test.true);
      unit = c.wider-unit.ensures.wider ∙ ap (axis.wider c.args.length) c.loop-times.invariant.unit ∙ ap (λ k. axis.widened k c.args.length) next;
      some = c.wider-unit.ensures.some;
      small = c.wider-unit.ensures.small;
    }

pub returns-clause-widened : goal.returns-clause-widened
returns-clause-widened c =
    let all : c.loop-times.times ≡ 12 = omega (arith, c.loop-times.invariant.few, c.loop-times-test.false) in
    c.loop-times.invariant.unit ∙ ap (λ k. axis.widened k c.args.length) all
