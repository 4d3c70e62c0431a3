use Rattle.std.proofs.Common.{sym, ◌∙◌}
use Rattle.bw_world.proofs.Held.{in_hand_within, admitted_within}
use Rattle.bw_world.proofs.domain.Domain.regrade.Goals as goal

pub regrade_in_hand-requires-clause-held : goal.regrade_in_hand-requires-clause-held
regrade_in_hand-requires-clause-held c = in_hand_within c.args.self.now c.args.id c.in-Some.ticket c.requires (sym c.in_hand_of.ensures ∙ c.in-Some.is)

pub regrade_admitted-requires-clause-held : goal.regrade_admitted-requires-clause-held
regrade_admitted-requires-clause-held c = admitted_within c.args.self.now c.args.id c.in-Some-admitted_of.task c.requires (sym c.admitted_of.ensures ∙ c.in-Some-admitted_of.is)
