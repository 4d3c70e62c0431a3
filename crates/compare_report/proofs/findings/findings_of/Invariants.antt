use Rattle.compare_report.specs.Findings.{AreFindings}
use Rattle.compare_report.proofs.findings.findings_of.Given as goal

abbrev pub invariant-loop-number : goal.invariant-loop-number
invariant-loop-number l = AreFindings l.fn.span.shift l.fn.span.from l.fn.span.until l.fn.names l.fn.tasks l.fn.matchings l.number l.findings.items
