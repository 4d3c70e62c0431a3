use Rattle.std.proofs.Common.{take}
use Rattle.json_order.specs.private.Entries.{keys_of, AreOrdered}
use Rattle.json_order.proofs.key_order.are_ordered.Given as goal

abbrev pub invariant-loop-i : goal.invariant-loop-i
invariant-loop-i l = AreOrdered l.order (keys_of (take l.i l.members))
