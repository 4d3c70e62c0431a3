use Rattle.std.proofs.Common.{◌≡◌, take}
use Rattle.compare_report.specs.Text.{other_starts}
use Rattle.compare_report.proofs.text.first_other.Given as goal

abbrev pub invariant-loop-finding : goal.invariant-loop-finding
invariant-loop-finding l = l.starts.items ≡ other_starts (take l.finding-index l.findings)
