use Rattle.std.proofs.Common.{take}
use Rattle.std.specs.Prelude.{flat_map}
use Rattle.chart.specs.Pieces.{mark_line}
use Rattle.draft.specs.Draft.{Adds}
use Rattle.chart.proofs.over.put_marks.Given as goal

abbrev pub invariant-loop-mark : goal.invariant-loop-mark
invariant-loop-mark l = Adds l.initial.out l.out (flat_map (mark_line l.sheet l.place l.name) (take l.mark-index l.marks))
