use Rattle.std.proofs.Common.{◌≡◌, take}
use Rattle.std.specs.Prelude.{filter}
use Rattle.trace_compare.specs.Differences.{is_inside}
use Rattle.compare_report.proofs.row.inside_of.Given as goal

abbrev pub invariant-loop-run : goal.invariant-loop-run
invariant-loop-run l = l.runs.items ≡ filter (is_inside l.span.from l.span.until l.span.shift) (take l.run-index l.left)
