use Rattle.std.proofs.Common.{List, length, ap, ◌∙◌}
use Rattle.std.specs.List.{remove}
use Rattle.slot_list.specs.private.Slots.{values_at}
use Rattle.slot_list.proofs.Kept.{kept_removed}
use Rattle.slot_list.proofs.Values.{values_remove, within_as}
use Rattle.slot_list.proofs.SlotList.remove.Goals as goal

pub remove-slot-requires : goal.remove-slot-requires
remove-slot-requires g c =
    rw c.self.inside.order.ok.0
    (within_as _ _ _ c.args.place c.self.invariant.there c.self.view_is c.requires)

pub invariant_of-self : goal.invariant_of-self
invariant_of-self g c =
    let s = c.self.inside in
    let is = c.self.invariant in
    let within = within_as _ _ _ c.args.place is.there c.self.view_is c.requires in
    rw (c.remove-slot.ensures.items, c.remove-slot.ensures.capacity)
    (rw (c.push_reserved.ensures.items, c.push_reserved.ensures.capacity)
    (kept_removed (length s.slots.items) s.order.items s.free.items c.args.place
    c.remove-slot.result _ _ _ within c.remove-slot.ensures.value is))

pub returns : goal.returns
returns g c =
    let slots = c.self.inside.slots.items in
    let order = c.self.inside.order.items in
    ap (values_at slots) c.remove-slot.ensures.items
    ∙ values_remove slots order c.args.place c.self.invariant.there
    ∙ ap (λ (vs : List g.row.T.Denot). remove vs c.args.place) c.self.view_is
