use Rattle.std.proofs.Common.{◌≡◌, ℕ, map, take, length}
use Rattle.run_figures.specs.private.LineView.{JobLineView}
use Rattle.run_figures.specs.private.Lines.{closed_line}
use Rattle.run_figures.proofs.Closing.{AreLeft}
use Rattle.run_figures.proofs.lines.closed_lines.Given as goal

-- those that are closed, and those that are left
abbrev pub invariant-loop-task : goal.invariant-loop-task
invariant-loop-task l = record {
  as_many : length l.table.items ≡ length l.places;
  put : (f : ℕ → JobLineView) → l.initial.table.items ≡ map f l.places → l.all.items ≡ map (λ t. closed_line (f t.number)) (take l.task-index l.tasks);
  left : (f : ℕ → JobLineView) → l.initial.table.items ≡ map f l.places → AreLeft f l.places l.tasks l.task-index l.table.items;
}
