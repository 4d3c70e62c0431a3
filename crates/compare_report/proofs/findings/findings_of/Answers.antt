use Rattle.compare_report.proofs.OneMore.{one_more}
use Rattle.compare_report.proofs.findings.findings_of.Goals as goal

pub loop-number-preserved : goal.loop-number-preserved
loop-number-preserved c =
    one_more c.args.span.shift c.args.span.from c.args.span.until c.args.names.now c.args.tasks.now c.args.matchings.now c.loop-number.number c.loop-number.findings.items c.push.new.self.items c.in_ok-finding.finding c.loop-number.invariant c.in_ok-finding.ensures c.in_ok-push.ensures.items
