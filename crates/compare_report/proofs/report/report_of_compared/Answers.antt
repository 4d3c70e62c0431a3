use Rattle.std.proofs.Common.{subst, sym}
use Rattle.std.specs.Prelude.{All}
use Rattle.trace_compare.specs.Clocks.{IsSmallShift}
use Rattle.trace_compare.specs.Matched.{IsSoundMatching}
use Rattle.compare_report.specs.private.Fitting.{AreFitting}
use Rattle.compare_report.proofs.Reports.{of_findings}
use Rattle.compare_report.proofs.report.report_of_compared.Goals as goal

pub span_of-span-requires : goal.span_of-span-requires
span_of-span-requires c = c.requires.tasks

pub findings_of-requires : goal.findings_of-requires
findings_of-requires c = record {
  shift = subst IsSmallShift (sym c.span_of-span.ensures.shift) c.requires.shift;
  from = c.span_of-span.ensures.small_from;
  until = c.span_of-span.ensures.small_until;
  names = c.requires.names;
  matchings = subst (AreFitting c.args.tasks.now) (sym c.as_slice.ensures.value) c.requires.fitting;
  tasks = c.requires.tasks;
  matched = subst (All IsSoundMatching) (sym c.as_slice.ensures.value) c.requires.matched;
}

pub returns : goal.returns
returns c =
    of_findings c.in_ok-text.text.items c.tally_in-tally.result c.args.cpus c.args.names.now c.args.tasks.now c.args.compared.now c.as_slice.result.now c.in_ok-findings.findings.items c.as_slice-3.result.now c.as_slice-2.result.now c.span_of-span.result.shift c.span_of-span.result.from c.span_of-span.result.until
    c.span_of-span.ensures.shift c.span_of-span.ensures.from c.span_of-span.ensures.until c.as_slice.ensures.value c.as_slice-3.ensures.value c.as_slice-2.ensures.value c.in_ok-findings.ensures c.tally_in-tally.ensures c.in_ok-text.ensures
