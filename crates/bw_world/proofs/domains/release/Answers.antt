use Rattle.std.proofs.Common.{rules, sym, ap, ◌≡◌}
use Rattle.std.proofs.lemmas.Result.{on_err_weaker}
use Rattle.bw_world.specs.declared.step.Outcome.TheVariants.{Done}
use Rattle.bw_world.specs.DomainStep.{released}
use Rattle.bw_world.specs.WorldStep.{WorldStep, at_home}
use Rattle.bw_world.proofs.Stepping.{at_home_is, at_no_home, outcome_told, domains_told, kept_on_err, would_do}
use Rattle.bw_world.proofs.domains.release.Goals as goal

pub returns-in_default-clause-outcome : goal.returns-in_default-clause-outcome
returns-in_default-clause-outcome c = ap (λ (w : WorldStep). w.outcome) (sym (at_no_home c.args.ticket (released c.args.ticket) c.args.domains.now.items c.as_slice.result.now c.as_slice.ensures.value c.in_default.ensures.home))

pub returns-in_default-clause-domains : goal.returns-in_default-clause-domains
returns-in_default-clause-domains c = ap (λ (w : WorldStep). w.domains) (sym (at_no_home c.args.ticket (released c.args.ticket) c.args.domains.now.items c.as_slice.result.now c.as_slice.ensures.value c.in_default.ensures.home))

pub returns-clause-outcome : goal.returns-clause-outcome
returns-clause-outcome c =
    outcome_told c.release.result c.args.domains.now.items c.in-Some.k (released c.args.ticket c.index_mut-d.result.now) (at_home c.args.domains.now.items c.args.ticket (released c.args.ticket))
    (at_home_is c.args.ticket (released c.args.ticket) c.args.domains.now.items c.as_slice.result.now c.in-Some.k c.index_mut-d.result.now c.as_slice.ensures.value c.in-Some.ensures.home c.in-Some.ensures.within c.index_mut-d.ensures.value)
    c.release.ensures.outcome

pub returns-clause-domains : goal.returns-clause-domains
returns-clause-domains c =
    domains_told c.release.result c.args.domains.now.items c.in-Some.k c.release.new.self (released c.args.ticket c.index_mut-d.result.now) (at_home c.args.domains.now.items c.args.ticket (released c.args.ticket))
    (at_home_is c.args.ticket (released c.args.ticket) c.args.domains.now.items c.as_slice.result.now c.in-Some.k c.index_mut-d.result.now c.as_slice.ensures.value c.in-Some.ensures.home c.in-Some.ensures.within c.index_mut-d.ensures.value)
    c.release.ensures.domain

pub returns-clause-err : goal.returns-clause-err
returns-clause-err c =
    kept_on_err c.release.result c.args.domains.now.items c.in-Some.k c.index_mut-d.result.now c.release.new.self c.index_mut-d.ensures.value c.release.ensures.err

pub returns-clause-err_only : goal.returns-clause-err_only
returns-clause-err_only c =
    on_err_weaker c.release.result (λ (e : (at_home c.args.domains.now.items c.args.ticket (released c.args.ticket)).outcome ≡ Done). record { would_do = e; longer = search rules })
    (would_do c.release.result Done c.args.domains.now.items c.in-Some.k (released c.args.ticket c.index_mut-d.result.now) (at_home c.args.domains.now.items c.args.ticket (released c.args.ticket))
    (at_home_is c.args.ticket (released c.args.ticket) c.args.domains.now.items c.as_slice.result.now c.in-Some.k c.index_mut-d.result.now c.as_slice.ensures.value c.in-Some.ensures.home c.in-Some.ensures.within c.index_mut-d.ensures.value)
    c.release.ensures.err_only)
