use Rattle.std.proofs.Common.{rules, ◌≡◌, arith}
use Rattle.std.proofs.lemmas.Result.{on_err_weaker}
use Rattle.bw_world.specs.declared.step.Outcome.TheVariants.{Done}
use Rattle.bw_world.specs.declared.step.Step.TheVariants.{Take}
use Rattle.bw_world.specs.DomainStep.{taken}
use Rattle.bw_world.specs.WorldStep.{stepped}
use Rattle.bw_world.proofs.Stepping.{take_is, outcome_told, domains_told, kept_on_err, would_do}
use Rattle.bw_world.proofs.domains.take.Goals as goal

pub returns-clause-outcome : goal.returns-clause-outcome
returns-clause-outcome c =
    outcome_told c.take.result c.args.domains.now.items c.args.domain (taken c.args.ticket c.args.bw c.args.expected c.index_mut-d.result.now) (stepped (Take c.args.ticket c.args.domain c.args.bw c.args.expected) c.args.domains.now.items)
    (take_is c.args.domains.now.items c.as_slice.result.now c.args.domain c.args.ticket c.args.bw c.args.expected c.index_mut-d.result.now c.is_live.result (omega (arith, c.if-bw-gt-UNIT.false)) c.as_slice.ensures.value c.is_live.ensures c.if-is_live.false (omega (arith, c.if-domain-len.false, c.len.ensures)) c.index_mut-d.ensures.value)
    c.take.ensures.outcome

pub returns-clause-domains : goal.returns-clause-domains
returns-clause-domains c =
    domains_told c.take.result c.args.domains.now.items c.args.domain c.take.new.self (taken c.args.ticket c.args.bw c.args.expected c.index_mut-d.result.now) (stepped (Take c.args.ticket c.args.domain c.args.bw c.args.expected) c.args.domains.now.items)
    (take_is c.args.domains.now.items c.as_slice.result.now c.args.domain c.args.ticket c.args.bw c.args.expected c.index_mut-d.result.now c.is_live.result (omega (arith, c.if-bw-gt-UNIT.false)) c.as_slice.ensures.value c.is_live.ensures c.if-is_live.false (omega (arith, c.if-domain-len.false, c.len.ensures)) c.index_mut-d.ensures.value)
    c.take.ensures.domain

pub returns-clause-err : goal.returns-clause-err
returns-clause-err c =
    kept_on_err c.take.result c.args.domains.now.items c.args.domain c.index_mut-d.result.now c.take.new.self c.index_mut-d.ensures.value c.take.ensures.err

pub returns-clause-err_only : goal.returns-clause-err_only
returns-clause-err_only c =
    on_err_weaker c.take.result (λ (e : (stepped (Take c.args.ticket c.args.domain c.args.bw c.args.expected) c.args.domains.now.items).outcome ≡ Done). record { would_do = e; longer = search rules })
    (would_do c.take.result Done c.args.domains.now.items c.args.domain (taken c.args.ticket c.args.bw c.args.expected c.index_mut-d.result.now) (stepped (Take c.args.ticket c.args.domain c.args.bw c.args.expected) c.args.domains.now.items)
    (take_is c.args.domains.now.items c.as_slice.result.now c.args.domain c.args.ticket c.args.bw c.args.expected c.index_mut-d.result.now c.is_live.result (omega (arith, c.if-bw-gt-UNIT.false)) c.as_slice.ensures.value c.is_live.ensures c.if-is_live.false (omega (arith, c.if-domain-len.false, c.len.ensures)) c.index_mut-d.ensures.value)
    c.take.ensures.err_only)
