use Rattle.std.proofs.Common.{◌≡◌, take, map}
use Rattle.json_order.specs.Seen.{json_of}
use Rattle.json_order.specs.Lent.{lent_json}
use Rattle.json_order.specs.private.Copies.{entries_of_copy}
use Rattle.json_order.specs.private.Places.{entries_of_tree}
use Rattle.json_order.proofs.lending.+lend.Given as goal

abbrev pub invariant-lend_items-loop-item : goal.invariant-lend_items-loop-item
invariant-lend_items-loop-item l = map lent_json l.lent.items ≡ map json_of (take l.item-index l.item-items)

abbrev pub invariant-lend_members-loop-member : goal.invariant-lend_members-loop-member
invariant-lend_members-loop-member l = entries_of_tree l.lent.items ≡ entries_of_copy (take l.member-index l.member-items)
