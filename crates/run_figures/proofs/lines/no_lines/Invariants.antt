use Rattle.std.proofs.Common.{◌≡◌, map, take}
use Rattle.run_figures.specs.private.Lines.{no_line}
use Rattle.run_figures.proofs.lines.no_lines.Given as goal

abbrev pub invariant-loop-task : goal.invariant-loop-task
invariant-loop-task l = l.table.items ≡ map (λ t. no_line t.number) (take l.task-index l.tasks)
