use Rattle.std.proofs.Common.{◌≡◌, take, map}
use Rattle.json_order.specs.Seen.{json_of}
use Rattle.json_order.specs.Lent.{lent_json}
use Rattle.json_order.specs.private.Copies.{entries_of_copy}
use Rattle.json_order.specs.private.Places.{entries_of_tree}
use Rattle.json_order.proofs.copying.+copy.Given as goal

abbrev pub invariant-copy_of_items-loop-item : goal.invariant-copy_of_items-loop-item
invariant-copy_of_items-loop-item l = map json_of l.copies.items ≡ map lent_json (take l.item-index l.item-items)

abbrev pub invariant-copy_of_members-loop-member : goal.invariant-copy_of_members-loop-member
invariant-copy_of_members-loop-member l = entries_of_copy l.copies.items ≡ entries_of_tree (take l.member-index l.member-items)
