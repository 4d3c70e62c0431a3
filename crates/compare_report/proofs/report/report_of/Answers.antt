use Rattle.std.proofs.Common.{◌≡◌, rules}
use Rattle.compare_report.proofs.Reports.{of_runs, fitting_in}
use Rattle.compare_report.proofs.report.report_of.Goals as goal

pub report_of_compared-requires-clause-fitting : goal.report_of_compared-requires-clause-fitting
report_of_compared-requires-clause-fitting c =
    fitting_in c.from-within.result c.in_ok-compared.compared.shift c.in_ok-tasks.tasks.items c.as_slice.result.now c.as_slice-2.result.now c.in_ok-compared.compared.tasks.items
    c.as_slice.ensures.value c.as_slice-2.ensures.value c.in_ok-compared.ensures.compared.matched

pub returns : goal.returns
returns c =
    let same_within : c.from-within.result ≡ c.args.options.within = search rules in
    of_runs c.report_of_compared.result c.args.options c.args.names.now c.args.many c.args.model.now c.args.recorded.now c.in_ok-tasks.tasks.items c.as_slice.result.now c.as_slice-2.result.now c.in_ok-compared.compared
    c.from-within.result c.shift_asked.result c.noise_asked.result same_within c.shift_asked.ensures.value c.noise_asked.ensures.value c.as_slice.ensures.value c.as_slice-2.ensures.value
    c.in_ok-tasks.ensures.tasks c.in_ok-compared.ensures.compared c.report_of_compared.ensures
