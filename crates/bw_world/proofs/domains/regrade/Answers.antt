use Rattle.std.proofs.Common.{sym, ap, rules}
use Rattle.std.proofs.lemmas.Result.{on_err_weaker}
use Rattle.bw_world.specs.declared.step.Outcome.TheVariants.{Done}
use Rattle.bw_world.specs.DomainStep.{regraded}
use Rattle.bw_world.specs.WorldStep.{WorldStep, at_home}
use Rattle.bw_world.proofs.Stepping.{at_home_is, at_no_home, outcome_told, domains_told, kept_on_err, would_do}
use Rattle.bw_world.proofs.WorldLaw.{lengthens_at}
use Rattle.bw_world.proofs.domains.regrade.Goals as goal

pub returns-in_default-clause-outcome : goal.returns-in_default-clause-outcome
returns-in_default-clause-outcome c = ap (λ (w : WorldStep). w.outcome) (sym (at_no_home c.args.ticket (regraded c.args.ticket c.args.bw c.args.expected) c.args.domains.now.items c.as_slice.result.now c.as_slice.ensures.value c.in_default.ensures.home))

pub returns-in_default-clause-domains : goal.returns-in_default-clause-domains
returns-in_default-clause-domains c = ap (λ (w : WorldStep). w.domains) (sym (at_no_home c.args.ticket (regraded c.args.ticket c.args.bw c.args.expected) c.args.domains.now.items c.as_slice.result.now c.as_slice.ensures.value c.in_default.ensures.home))

pub returns-clause-outcome : goal.returns-clause-outcome
returns-clause-outcome c =
    outcome_told c.regrade.result c.args.domains.now.items c.in-Some.k (regraded c.args.ticket c.args.bw c.args.expected c.index_mut-d.result.now) (at_home c.args.domains.now.items c.args.ticket (regraded c.args.ticket c.args.bw c.args.expected))
    (at_home_is c.args.ticket (regraded c.args.ticket c.args.bw c.args.expected) c.args.domains.now.items c.as_slice.result.now c.in-Some.k c.index_mut-d.result.now c.as_slice.ensures.value c.in-Some.ensures.home c.in-Some.ensures.within c.index_mut-d.ensures.value)
    c.regrade.ensures.outcome

pub returns-clause-domains : goal.returns-clause-domains
returns-clause-domains c =
    domains_told c.regrade.result c.args.domains.now.items c.in-Some.k c.regrade.new.self (regraded c.args.ticket c.args.bw c.args.expected c.index_mut-d.result.now) (at_home c.args.domains.now.items c.args.ticket (regraded c.args.ticket c.args.bw c.args.expected))
    (at_home_is c.args.ticket (regraded c.args.ticket c.args.bw c.args.expected) c.args.domains.now.items c.as_slice.result.now c.in-Some.k c.index_mut-d.result.now c.as_slice.ensures.value c.in-Some.ensures.home c.in-Some.ensures.within c.index_mut-d.ensures.value)
    c.regrade.ensures.domain

pub returns-clause-err : goal.returns-clause-err
returns-clause-err c =
    kept_on_err c.regrade.result c.args.domains.now.items c.in-Some.k c.index_mut-d.result.now c.regrade.new.self c.index_mut-d.ensures.value c.regrade.ensures.err

pub returns-clause-err_done : goal.returns-clause-err_done
returns-clause-err_done c =
    would_do c.regrade.result Done c.args.domains.now.items c.in-Some.k (regraded c.args.ticket c.args.bw c.args.expected c.index_mut-d.result.now) (at_home c.args.domains.now.items c.args.ticket (regraded c.args.ticket c.args.bw c.args.expected))
    (at_home_is c.args.ticket (regraded c.args.ticket c.args.bw c.args.expected) c.args.domains.now.items c.as_slice.result.now c.in-Some.k c.index_mut-d.result.now c.as_slice.ensures.value c.in-Some.ensures.home c.in-Some.ensures.within c.index_mut-d.ensures.value)
    c.regrade.ensures.err_only

pub returns-clause-err_longer : goal.returns-clause-err_longer
returns-clause-err_longer c =
    on_err_weaker c.regrade.result (λ here. lengthens_at c.args.domains.now.items c.in-Some.k c.args.ticket c.index_mut-d.result.now (search rules) c.index_mut-d.ensures.value here) c.regrade.ensures.err_admitted
