use Rattle.chart.specs.Pieces.{gap_line}
use Rattle.draft.proofs.CallerLemmas.{more_lines}
use Rattle.chart.proofs.pieces.put_gaps.Goals as goal

pub loop-gap-preserved : goal.loop-gap-preserved
loop-gap-preserved c =
    more_lines (gap_line c.args.sheet.now c.args.place c.args.name.now) c.args.gaps.now c.loop-gap.gap-index _ c.args.out.now c.loop-gap.out c.put_gap.new.out c.loop-gap-test.true c.loop-gap.invariant c.put_gap.ensures
