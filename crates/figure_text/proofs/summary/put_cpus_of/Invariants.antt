use Rattle.std.proofs.Common.{take}
use Rattle.run_figures.specs.Lines.{numbered_lines}
use Rattle.figure_text.specs.Summary.{cpu_line}
use Rattle.draft.specs.Draft.{Adds}
use Rattle.figure_text.proofs.summary.put_cpus_of.Given as goal

abbrev pub invariant-loop-place : goal.invariant-loop-place
invariant-loop-place l = Adds l.initial.out l.out (numbered_lines (cpu_line l.domain l.of.time) l.base (take l.place l.of.cpus.now))
