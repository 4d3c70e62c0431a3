use Rattle.std.proofs.Common.{sym, ap, ◌∙◌, arith}
use Rattle.std.specs.Prelude.{slice_set}
use Rattle.bw_world.specs.WorldStep.{WorldStep}
use Rattle.bw_world.proofs.Stepping.{limit_is}
use Rattle.bw_world.proofs.domains.limit.Goals as goal

pub returns-clause-outcome : goal.returns-clause-outcome
returns-clause-outcome c =
    c.limit.ensures.outcome
    ∙ ap (λ (w : WorldStep). w.outcome) (sym (limit_is c.args.domains.now.items c.args.domain c.args.cap c.args.expected c.index_mut-d.result.now (omega (arith, c.if-cap-gt-WIDEST.false)) (omega (arith, c.if-domain-len.false, c.len.ensures)) c.index_mut-d.ensures.value))

pub returns-clause-domains : goal.returns-clause-domains
returns-clause-domains c =
    ap (slice_set c.args.domains.now.items c.args.domain) c.limit.ensures.domain
    ∙ ap (λ (w : WorldStep). w.domains) (sym (limit_is c.args.domains.now.items c.args.domain c.args.cap c.args.expected c.index_mut-d.result.now (omega (arith, c.if-cap-gt-WIDEST.false)) (omega (arith, c.if-domain-len.false, c.len.ensures)) c.index_mut-d.ensures.value))
