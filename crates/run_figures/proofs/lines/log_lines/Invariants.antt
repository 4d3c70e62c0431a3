use Rattle.std.proofs.Common.{◌≡◌, map, take}
use Rattle.run_figures.specs.private.Lines.{line_all}
use Rattle.run_figures.proofs.lines.log_lines.Given as goal

abbrev pub invariant-loop-entry : goal.invariant-loop-entry
invariant-loop-entry l = l.table.items ≡ map (line_all (take l.entry-index l.happened)) l.initial.table.items
