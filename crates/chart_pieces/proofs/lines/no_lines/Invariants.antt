use Rattle.std.proofs.Common.{◌≡◌, map, take}
use Rattle.chart_pieces.specs.private.Lines.{line_without_bars}
use Rattle.chart_pieces.proofs.lines.no_lines.Given as goal

abbrev pub invariant-loop-task : goal.invariant-loop-task
invariant-loop-task l = l.table.items ≡ map (λ t. line_without_bars t.number) (take l.task-index l.tasks)
