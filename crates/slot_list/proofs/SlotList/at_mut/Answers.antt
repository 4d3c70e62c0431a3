use Rattle.std.proofs.Common.{◌≡◌, get_or, refl, ◌∙◌}
use Rattle.std.proofs.lemmas.List.{get_or_default}
use Rattle.slot_list.proofs.Values.{read_as, within_as, written_as}
use Rattle.slot_list.proofs.SlotList.at_mut.Goals as goal

pub index-requires : goal.index-requires
index-requires g c =
    rw c.self.inside.order.ok.0
    (within_as _ _ _ c.args.place c.self.invariant.there c.self.view_is c.requires)

pub index_mut-requires : goal.index_mut-requires
index_mut-requires g c =
    let is = c.self.invariant in
    let within = within_as _ _ _ c.args.place is.there c.self.view_is c.requires in
    rw (c.from.ensures, c.index.ensures, c.self.inside.slots.ok.0)
    (is.there c.args.place c.index.result.now within)

pub returns : goal.returns
returns g c =
    let is = c.self.invariant in
    let slots = c.self.inside.slots.items in
    let order = c.self.inside.order.items in
    let now = c.args.self.now in
    let p = c.args.place in
    let n = c.from.result in
    let within = within_as _ _ _ p is.there c.self.view_is c.requires in
    let slot : n ≡ get_or order p 0 =
    c.from.ensures ∙ c.index.ensures ∙ get_or_default order p c.index.result.now 0 within in
    let x = c.index_mut.result.now in
    let read = read_as slots order now p n x is.there c.self.view_is within slot in (
      (refl, λ w. written_as slots order now p n w is.there is.once c.self.view_is within slot),
      record { writes_back = tt; value = read c.index_mut.ensures.value },
    )
