use Rattle.std.proofs.Common.{arith}
use Rattle.std.proofs.lemmas.Grind.{common_steps}
use Rattle.chart.specs.Pieces.{mark_line}
use Rattle.draft.proofs.CallerLemmas.{more_lines}
use Rattle.chart.proofs.over.put_marks.Goals as goal

pub loop-mark-preserved : goal.loop-mark-preserved
loop-mark-preserved c =
    more_lines (mark_line c.args.sheet.now c.args.place c.args.name.now) c.args.marks.now c.loop-mark.mark-index _ c.args.out.now c.loop-mark.out c.put_mark.new.out c.loop-mark-test.true c.loop-mark.invariant c.put_mark.ensures

pub returns : goal.returns
returns c = grind (arith, common_steps)
