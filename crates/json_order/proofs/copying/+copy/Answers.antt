use Rattle.std.proofs.Common.{ap, sym, ◌∙◌}
use Rattle.json_order.specs.Json.{object, no_members}
use Rattle.json_order.specs.Lent.{lent_json}
use Rattle.json_order.specs.Seen.{members_with}
use Rattle.json_order.proofs.Copies.{object_copy_seen}
use Rattle.json_order.proofs.Trees.{object_seen}
use Rattle.json_order.proofs.copying.+copy.Goals as goal

pub copy_of-returns-in_ok-copy_of_members-in-Object : goal.copy_of-returns-in_ok-copy_of_members-in-Object
copy_of-returns-in_ok-copy_of_members-in-Object t c =
    object_copy_seen c.in_ok-copy_of_members-in-Object.field-0
    ∙ ap (λ es. object (members_with es no_members)) c.in_ok-copy_of_members-in-Object.ensures
    ∙ sym (object_seen c.in-Object.members) ∙ ap lent_json (sym c.in-Object.is)
