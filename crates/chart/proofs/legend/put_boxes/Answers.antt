use Rattle.std.proofs.Common.{arith}
use Rattle.std.proofs.lemmas.Grind.{common_steps}
use Rattle.chart.specs.Legend.{colour_line}
use Rattle.chart.proofs.Lines.{more_numbered}
use Rattle.chart.proofs.legend.put_boxes.Goals as goal

pub loop-place-preserved : goal.loop-place-preserved
loop-place-preserved c =
    more_numbered (colour_line c.args.sheet.now) c.args.cpus.now c.loop-place.place _ c.args.out.now c.loop-place.out c.put_colour.new.out c.loop-place-test.true c.loop-place.invariant c.put_colour.ensures

pub returns : goal.returns
returns c = grind (arith, common_steps)
