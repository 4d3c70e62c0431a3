use Rattle.compare_report.proofs.finding.finding_of.Goals as goal

pub returns : goal.returns
returns c = record { row = c.in_ok-row.ensures; missing = c.missing_in.ensures; other = c.other_in.ensures; same = c.in_ok-apart.ensures.same }
