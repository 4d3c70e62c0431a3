use Rattle.std.proofs.Common.{◌≡◌, get_or, ◌∙◌}
use Rattle.std.proofs.lemmas.List.{get_or_default}
use Rattle.slot_list.proofs.Values.{read_as, within_as}
use Rattle.slot_list.proofs.SlotList.at.Goals as goal

pub index-requires : goal.index-requires
index-requires g c =
    rw c.self.inside.order.ok.0
    (within_as _ _ _ c.args.place c.self.invariant.there c.self.view_is c.requires)

pub index-requires-2 : goal.index-requires-2
index-requires-2 g c =
    let is = c.self.invariant in
    let within = within_as _ _ _ c.args.place is.there c.self.view_is c.requires in
    rw (c.from.ensures, c.index.ensures, c.self.inside.slots.ok.0)
    (is.there c.args.place c.index.result.now within)

pub returns : goal.returns
returns g c =
    let there = c.self.invariant.there in
    let order = c.self.inside.order.items in
    let p = c.args.place in
    let within = within_as _ _ _ p there c.self.view_is c.requires in
    let slot : c.from.result ≡ get_or order p 0 =
    c.from.ensures ∙ c.index.ensures ∙ get_or_default order p c.index.result.now 0 within in
    read_as c.self.inside.slots.items order c.args.self.now p c.from.result c.index-2.result.now
    there c.self.view_is within slot c.index-2.ensures
