use Rattle.std.proofs.Common.{take}
use Rattle.run_figures.specs.Lines.{numbered_lines}
use Rattle.figure_text.specs.Summary.{summary_view_of, domain_row}
use Rattle.draft.specs.Draft.{Adds}
use Rattle.figure_text.proofs.summary.put_domains.Given as goal

abbrev pub invariant-loop-number : goal.invariant-loop-number
invariant-loop-number l = Adds l.initial.out l.out (numbered_lines (λ k d. domain_row k (summary_view_of d)) 0 (take l.number l.domains))
