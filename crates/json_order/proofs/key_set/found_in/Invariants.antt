use Rattle.std.proofs.Common.{◌≡◌, drop}
use Rattle.json_order.specs.private.Entries.{keys_of}
use Rattle.json_order.specs.private.KeySets.{finds}
use Rattle.json_order.proofs.key_set.found_in.Given as goal

abbrev pub invariant-loop-slot : goal.invariant-loop-slot
invariant-loop-slot l =
    finds l.window (keys_of l.members) l.mark l.key ≡ finds (drop l.slot-index l.window) (keys_of l.members) l.mark l.key
