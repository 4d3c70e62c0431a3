use Rattle.std.proofs.Common.{arith}
use Rattle.std.proofs.lemmas.Grind.{common_steps}
use Rattle.chart.specs.Chart.{labels}
use Rattle.draft.proofs.CallerLemmas.{more_lines}
use Rattle.chart.proofs.chart.put_all_labels.Goals as goal

pub loop-time-preserved : goal.loop-time-preserved
loop-time-preserved c =
    more_lines (labels c.args.sheet.now) c.args.ticks.now c.loop-time.time-index _ c.args.out.now c.loop-time.out c.put_labels.new.out c.loop-time-test.true c.loop-time.invariant c.put_labels.ensures

pub returns : goal.returns
returns c = grind (arith, common_steps)
