use denote.Shadow.{shadow}
use denote.Text.{Utf8}
use Rattle.std.proofs.Common.{◌+◌, ◌*◌, length, map}
use Rattle.json_order.specs.Lent.{lent_json}
use Rattle.json_order.specs.private.Machine.{at_first_item, at_first_key, state}
use Rattle.json_order.specs.private.Places.{entries_of_tree}
use Rattle.json_order.specs.private.Whole.{Crosses, before_item, before_key}
use Rattle.json_order.proofs.whole.+value.Given as goal

abbrev pub decreases-value : goal.decreases-value
decreases-value l = 3 * l.depth

abbrev pub decreases-list : goal.decreases-list
decreases-list l = 3 * l.depth + 1

abbrev pub decreases-object : goal.decreases-object
decreases-object l = 3 * l.depth + 1

abbrev pub decreases-nested : goal.decreases-nested
decreases-nested l = 3 * l.depth + 2

abbrev pub invariant-list-items : goal.invariant-list-items
invariant-list-items l =
    shadow (Utf8 l.left)
    × Crosses (l.depth + 1) (state at_first_item) (before_item (map lent_json l.items.items)) l.rest l.left

abbrev pub decreases-list-items : goal.decreases-list-items
decreases-list-items l = length l.left

abbrev pub invariant-object-members : goal.invariant-object-members
invariant-object-members l =
    shadow (Utf8 l.left)
    × Crosses (l.depth + 1) (state at_first_key) (before_key (entries_of_tree l.members.list.items)) l.rest l.left

abbrev pub decreases-object-members : goal.decreases-object-members
decreases-object-members l = length l.left
