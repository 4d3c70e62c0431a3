use Rattle.std.proofs.Common.{arith}
use Rattle.std.proofs.lemmas.Grind.{common_steps}
use Rattle.chart.specs.Pieces.{bar_line}
use Rattle.chart.specs.Rows.{chart_row_view_of}
use Rattle.draft.proofs.CallerLemmas.{more_lines}
use Rattle.chart.proofs.pieces.put_bars.Goals as goal

pub loop-bar-preserved : goal.loop-bar-preserved
loop-bar-preserved c =
    more_lines (bar_line c.args.sheet.now c.args.place (chart_row_view_of c.args.row.now)) c.args.bars.now c.loop-bar.bar-index _ c.args.out.now c.loop-bar.out c.put_bar.new.out c.loop-bar-test.true c.loop-bar.invariant c.put_bar.ensures

pub returns : goal.returns
returns c = grind (arith, common_steps)
