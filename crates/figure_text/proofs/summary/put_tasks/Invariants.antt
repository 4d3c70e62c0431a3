use Rattle.std.proofs.Common.{take}
use Rattle.run_figures.specs.Lines.{numbered_lines}
use Rattle.figure_text.specs.Summary.{summary_view_of, tasks_of}
use Rattle.draft.specs.Draft.{Adds}
use Rattle.figure_text.proofs.summary.put_tasks.Given as goal

abbrev pub invariant-loop-number : goal.invariant-loop-number
invariant-loop-number l = Adds l.initial.out l.out (numbered_lines (λ k d. tasks_of k (summary_view_of d)) 0 (take l.number l.domains))
