use Rattle.compare_report.specs.private.SoFar.{IsFirstSoFar}
use Rattle.compare_report.proofs.first.earliest.Given as goal

abbrev pub invariant-loop-place : goal.invariant-loop-place
invariant-loop-place l = IsFirstSoFar l.starts l.place l.found
