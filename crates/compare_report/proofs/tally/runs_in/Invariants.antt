use Rattle.std.proofs.Common.{◌≡◌, ◌*◌, ◌≤◌, take}
use Rattle.std.specs.Prelude.{sum_by}
use Rattle.compare_report.proofs.tally.runs_in.Given as goal

abbrev pub invariant-loop-finding : goal.invariant-loop-finding
invariant-loop-finding l = (l.total ≡ sum_by (λ f. f.row.runs) (take l.finding-index l.findings)) × (l.total ≤ l.finding-index * 18446744073709551616)
