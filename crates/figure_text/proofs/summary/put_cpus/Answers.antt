use Rattle.std.proofs.Common.{subst, sym, arith}
use Rattle.figure_text.specs.Summary.{IsShortSummary, IsOfMachine}
use Rattle.figure_text.proofs.Lines.{one_more_domain}
use Rattle.figure_text.proofs.summary.put_cpus.Goals as goal

pub put_cpus_of-requires-clause-short : goal.put_cpus_of-requires-clause-short
put_cpus_of-requires-clause-short c =
    let d = c.index-domains-number.result in
    let short : IsShortSummary d = subst IsShortSummary (sym c.index-domains-number.is) (c.requires.short c.loop-number.number d c.loop-number-test.true) in
    short.1

pub loop-number-preserved : goal.loop-number-preserved
loop-number-preserved c =
    let d = c.index-domains-number.result in
    let few : IsOfMachine d = subst IsOfMachine (sym c.index-domains-number.is) (c.requires.few c.loop-number.number d c.loop-number-test.true) in
    record {
      put = one_more_domain c.args.out.now c.loop-number.out c.put_cpus_of.new.out c.loop-number.base c.args.domains.now c.loop-number.number d c.loop-number-test.true c.index-domains-number.is c.loop-number.invariant.put c.put_cpus_of.ensures;
      few = omega (arith, few, c.loop-number.invariant.few);
    }
