use Rattle.std.proofs.Common.{ap, sym, ◌∙◌}
use Rattle.json_order.specs.Json.{object, no_members}
use Rattle.json_order.specs.Seen.{json_of, members_with}
use Rattle.json_order.proofs.Copies.{object_copy_seen}
use Rattle.json_order.proofs.Trees.{object_seen}
use Rattle.json_order.proofs.lending.+lend.Goals as goal

pub lend-returns-in_ok-lend_members-in-Object : goal.lend-returns-in_ok-lend_members-in-Object
lend-returns-in_ok-lend_members-in-Object t c =
    object_seen c.in_ok-lend_members-in-Object.field-0
    ∙ ap (λ es. object (members_with es no_members)) c.in_ok-lend_members-in-Object.ensures
    ∙ sym (object_copy_seen c.in-Object.members) ∙ ap json_of (sym c.in-Object.is)
