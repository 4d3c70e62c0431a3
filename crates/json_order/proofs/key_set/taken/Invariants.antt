use Rattle.std.proofs.Common.{◌≡◌, ◌+◌, drop}
use Rattle.json_order.specs.private.KeySets.{slots_taken}
use Rattle.json_order.proofs.key_set.taken.Given as goal

abbrev pub invariant-loop-i : goal.invariant-loop-i
invariant-loop-i l = slots_taken l.window ≡ l.i + slots_taken (drop l.i l.window)
