use Rattle.std.proofs.Common.{take}
use Rattle.run_figures.specs.Lines.{numbered_lines}
use Rattle.chart.specs.Legend.{colour_line}
use Rattle.draft.specs.Draft.{Adds}
use Rattle.chart.proofs.legend.put_boxes.Given as goal

abbrev pub invariant-loop-place : goal.invariant-loop-place
invariant-loop-place l = Adds l.initial.out l.out (numbered_lines (colour_line l.sheet) 0 (take l.place l.cpus))
