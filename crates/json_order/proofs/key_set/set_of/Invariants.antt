use Rattle.std.proofs.Common.{take}
use Rattle.json_order.specs.private.Entries.{keys_of}
use Rattle.json_order.specs.private.KeySets.{HasKeys}
use Rattle.json_order.proofs.key_set.set_of.Given as goal

abbrev pub invariant-loop-place : goal.invariant-loop-place
invariant-loop-place l = HasKeys l.set (keys_of (take l.place l.members))
