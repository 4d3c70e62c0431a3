use Rattle.std.proofs.Common.{◌≡◌, false, take}
use Rattle.json_order.specs.Grammar.{has_key}
use Rattle.json_order.specs.private.Entries.{keys_of}
use Rattle.json_order.proofs.members.is_among.Given as goal

abbrev pub invariant-loop-name : goal.invariant-loop-name
invariant-loop-name l = has_key (keys_of (take l.name-index l.members)) l.key ≡ false
