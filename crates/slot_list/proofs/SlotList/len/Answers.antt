use Rattle.std.proofs.Common.{◌∙◌}
use Rattle.slot_list.proofs.Values.{long_as}
use Rattle.slot_list.proofs.SlotList.len.Goals as goal

pub returns-clause-len : goal.returns-clause-len
returns-clause-len g c =
    c.len.ensures ∙ c.self.inside.order.ok.0 ∙ long_as _ _ _ c.self.invariant.there c.self.view_is
