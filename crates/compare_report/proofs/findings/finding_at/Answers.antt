use Rattle.std.proofs.Common.{◌<◌, length, sym, subst, arith}
use Rattle.trace_compare.specs.Matched.{IsSoundMatching}
use Rattle.compare_report.proofs.OneMore.{at_place}
use Rattle.compare_report.proofs.findings.finding_at.Goals as goal

pub finding_of-requires-clause-matching : goal.finding_of-requires-clause-matching
finding_of-requires-clause-matching c =
    let inside : c.args.number < length c.args.matchings.now = omega (arith, c.requires.there, c.requires.matchings.as_many) in
    subst IsSoundMatching (sym c.index-matchings-number.is) (c.requires.matched c.args.number c.index-matchings-number.result inside)

pub returns : goal.returns
returns c =
    let inside : c.args.number < length c.args.matchings.now = omega (arith, c.requires.there, c.requires.matchings.as_many) in
    at_place c.args.span.shift c.args.span.from c.args.span.until c.args.names.now c.args.tasks.now c.args.matchings.now c.args.number c.name_of-name.result.now c.index-tasks-number.result c.index-matchings-number.result c.finding_of.result
    c.name_of-name.ensures c.index-tasks-number.is c.requires.there c.index-matchings-number.is inside c.finding_of.ensures
