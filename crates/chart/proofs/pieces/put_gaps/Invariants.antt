use Rattle.std.proofs.Common.{take}
use Rattle.std.specs.Prelude.{flat_map}
use Rattle.chart.specs.Pieces.{gap_line}
use Rattle.draft.specs.Draft.{Adds}
use Rattle.chart.proofs.pieces.put_gaps.Given as goal

abbrev pub invariant-loop-gap : goal.invariant-loop-gap
invariant-loop-gap l = Adds l.initial.out l.out (flat_map (gap_line l.sheet l.place l.name) (take l.gap-index l.gaps))
