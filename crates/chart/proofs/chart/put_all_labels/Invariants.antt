use Rattle.std.proofs.Common.{take}
use Rattle.std.specs.Prelude.{flat_map}
use Rattle.chart.specs.Chart.{labels}
use Rattle.draft.specs.Draft.{Adds}
use Rattle.chart.proofs.chart.put_all_labels.Given as goal

abbrev pub invariant-loop-time : goal.invariant-loop-time
invariant-loop-time l = Adds l.initial.out l.out (flat_map (labels l.sheet) (take l.time-index l.ticks))
