use Rattle.std.proofs.Common.{sym, ap, ◌∙◌}
use Rattle.std.specs.Prelude.{slice_set}
use Rattle.bw_world.specs.DomainStep.{given}
use Rattle.bw_world.specs.WorldStep.{WorldStep}
use Rattle.bw_world.proofs.Stepping.{at_home_is, at_no_home}
use Rattle.bw_world.proofs.domains.give.Goals as goal

pub returns-in_default-clause-outcome : goal.returns-in_default-clause-outcome
returns-in_default-clause-outcome c = ap (λ (w : WorldStep). w.outcome) (sym (at_no_home c.args.ticket (given c.args.ticket) c.args.domains.now.items c.as_slice.result.now c.as_slice.ensures.value c.in_default.ensures.home))

pub returns-in_default-clause-domains : goal.returns-in_default-clause-domains
returns-in_default-clause-domains c = ap (λ (w : WorldStep). w.domains) (sym (at_no_home c.args.ticket (given c.args.ticket) c.args.domains.now.items c.as_slice.result.now c.as_slice.ensures.value c.in_default.ensures.home))

pub returns-clause-outcome : goal.returns-clause-outcome
returns-clause-outcome c =
    c.give.ensures.outcome ∙ ap (λ (w : WorldStep). w.outcome) (sym (at_home_is c.args.ticket (given c.args.ticket) c.args.domains.now.items c.as_slice.result.now c.in-Some.k c.index_mut-d.result.now c.as_slice.ensures.value c.in-Some.ensures.home c.in-Some.ensures.within c.index_mut-d.ensures.value))

pub returns-clause-domains : goal.returns-clause-domains
returns-clause-domains c =
    ap (slice_set c.args.domains.now.items c.in-Some.k) c.give.ensures.domain ∙ ap (λ (w : WorldStep). w.domains) (sym (at_home_is c.args.ticket (given c.args.ticket) c.args.domains.now.items c.as_slice.result.now c.in-Some.k c.index_mut-d.result.now c.as_slice.ensures.value c.in-Some.ensures.home c.in-Some.ensures.within c.index_mut-d.ensures.value))
