use Rattle.std.proofs.Common.{take}
use Rattle.std.specs.List.{flat_map}
use Rattle.compare_report.specs.Table.{row_line}
use Rattle.draft.specs.Draft.{Adds}
use Rattle.compare_report.proofs.text.put_rows.Given as goal

abbrev pub invariant-loop-finding : goal.invariant-loop-finding
invariant-loop-finding l = Adds l.initial.out l.out (flat_map (λ f. row_line f.row) (take l.finding-index l.findings))
