use Rattle.std.proofs.Common.{sym, ap, ◌∙◌, arith}
use Rattle.bw_world.specs.WorldView.{DomainView}
use Rattle.bw_world.proofs.Held.{in_hand_within}
use Rattle.bw_world.proofs.domain.Domain.give.Goals as goal

pub overflow_sub-self : goal.overflow_sub-self
overflow_sub-self c =
    omega (arith, in_hand_within c.args.self.now c.args.id c.in-Some.ticket c.requires (sym c.in_hand_of.ensures ∙ c.in-Some.is), ap (λ (d : DomainView). d.used) c.self.view_is)
