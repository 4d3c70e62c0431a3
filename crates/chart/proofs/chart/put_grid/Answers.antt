use Rattle.chart.specs.Chart.{grid_line}
use Rattle.draft.proofs.CallerLemmas.{more_lines}
use Rattle.chart.proofs.chart.put_grid.Goals as goal

pub loop-time-preserved : goal.loop-time-preserved
loop-time-preserved c =
    more_lines (grid_line c.args.sheet.now) c.args.ticks.now c.loop-time.time-index _ c.args.out.now c.loop-time.out c.put_grid_line.new.out c.loop-time-test.true c.loop-time.invariant c.put_grid_line.ensures
