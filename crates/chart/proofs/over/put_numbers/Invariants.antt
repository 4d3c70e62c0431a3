use Rattle.std.proofs.Common.{take}
use Rattle.std.specs.Prelude.{flat_map}
use Rattle.chart.specs.Pieces.{number_line}
use Rattle.draft.specs.Draft.{Adds}
use Rattle.chart.proofs.over.put_numbers.Given as goal

abbrev pub invariant-loop-bar : goal.invariant-loop-bar
invariant-loop-bar l = Adds l.initial.out l.out (flat_map (number_line l.sheet l.place l.base) (take l.bar-index l.bars))
