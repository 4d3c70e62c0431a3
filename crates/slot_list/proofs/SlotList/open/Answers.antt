use Rattle.std.proofs.Common.{rules}
use Rattle.slot_list.proofs.SlotList.open.Goals as goal

pub invariant_of-result : goal.invariant_of-result
invariant_of-result g c = search rules
