use Rattle.std.proofs.Common.{◌≡◌, ◌≢◌, ◌<◌, ◌++◌, ◌∷◌, [], List, ℕ, All, length, get_or, set, sym, ap, ◌∙◌, arith}
use Rattle.std.proofs.lemmas.List.{length-set, length-append}
use Rattle.slot_list.specs.private.Slots.{values_at}
use Rattle.slot_list.proofs.Kept.{kept_pushed, kept_grown, free_as, last_all}
use Rattle.slot_list.proofs.Values.{values_last, values_more, values_other, long_as}
use Rattle.slot_list.proofs.Values.{get_set_same, get_more, none_long}
use Rattle.slot_list.proofs.SlotList.push.Goals as goal

-- A SLOT IS FREE
pub index_mut-requires : goal.index_mut-requires
index_mut-requires g c =
    let s = c.self.inside in
    let was = free_as c.in-Some.ensures.items c.self.invariant in
    rw (c.from.ensures, s.slots.ok.0)
    (last_all (λ u. u < length s.slots.items) c.pop.new.self.items c.in-Some.slot was.free_there)

pub invariant_of-self : goal.invariant_of-self
invariant_of-self g c =
    let s = c.self.inside in
    let was = free_as c.in-Some.ensures.items c.self.invariant in
    rw (length-set s.slots.items c.from.result c.args.value, c.push_reserved.ensures.items)
    (rw (c.push_reserved.ensures.capacity, c.pop.ensures.capacity)
    (kept_pushed _ s.order.items c.pop.new.self.items c.in-Some.slot _ _ _ was))

pub returns-in-Some : goal.returns-in-Some
returns-in-Some g c =
    let slots = c.self.inside.slots.items in
    let order = c.self.inside.order.items in
    let left = c.pop.new.self.items in
    let v = c.args.value in
    let slot = c.in-Some.slot in
    let was = free_as c.in-Some.ensures.items c.self.invariant in
    let there = last_all (λ u. u < length slots) left slot was.free_there in
    let apart : All (λ u. u ≢ slot) order =
    λ k d h. last_all (λ t. get_or order k d ≢ t) left slot (was.apart k d h) in
    ap (values_at (set slots c.from.result v)) c.push_reserved.ensures.items
    ∙ ap (λ (n : ℕ). values_at (set slots n v) (order ++ slot ∷ [])) c.from.ensures
    ∙ values_last (set slots slot v) order slot v (get_set_same slots slot v there)
    ∙ ap (λ (vs : List g.row.T.Denot). vs ++ v ∷ []) (values_other slots order slot v apart)
    ∙ ap (λ (vs : List g.row.T.Denot). vs ++ v ∷ []) c.self.view_is

-- NONE IS: there is one slot more
pub overflow_cast-len : goal.overflow_cast-len
overflow_cast-len g c =
    let s = c.self.inside in
    let long = long_as _ _ _ c.self.invariant.there c.self.view_is in
    omega (
      arith,
      long,
      c.requires.few,
      c.len.ensures,
      s.slots.ok.0,
      s.free.ok.0,
      c.in-None.ensures.cases.0,
      c.self.invariant.all,
    )

pub push_reserved-requires-in-None : goal.push_reserved-requires-in-None
push_reserved-requires-in-None g c =
    let long = long_as _ _ _ c.self.invariant.there c.self.view_is in
    omega (arith, long, c.requires.few, c.self.inside.order.ok.0, c.self.invariant.room_in_order)

pub push_reserved-requires-in-None-2 : goal.push_reserved-requires-in-None-2
push_reserved-requires-in-None-2 g c =
    let s = c.self.inside in
    let is = c.self.invariant in
    let long = long_as _ _ _ is.there c.self.view_is in
    omega (
      arith,
      long,
      c.requires.few,
      s.slots.ok.0,
      s.free.ok.0,
      c.in-None.ensures.cases.0,
      is.all,
      is.room,
    )

pub invariant_of-self-in-None : goal.invariant_of-self-in-None
invariant_of-self-in-None g c =
    let s = c.self.inside in
    let rest = c.pop.new.self in
    let pop = c.in-None.ensures.cases in
    let long = long_as _ _ _ c.self.invariant.there c.self.view_is in
    let none : s.free.items ≡ [] = none_long s.free.items (sym s.free.ok.0 ∙ pop.0) in
    let left : rest.items ≡ [] = none_long rest.items (sym rest.ok.0 ∙ pop.1) in
    let was = free_as none c.self.invariant in
    let few : length s.slots.items < 256 = omega (arith, long, c.requires.few, was.all) in
    let slot : c.len.result ≡ length s.slots.items = c.len.ensures ∙ s.slots.ok.0 in
    let in_order = c.push_reserved-in-None.ensures in
    let in_slots = c.push_reserved-in-None-2.ensures in
    rw (in_slots.items, length-append s.slots.items (c.args.value ∷ []), in_order.items, slot)
    (rw (left, in_slots.capacity, in_order.capacity, c.pop.ensures.capacity)
    (kept_grown (length s.slots.items) s.order.items s.slots.cap s.order.cap s.free.cap few was))

pub returns-in-None : goal.returns-in-None
returns-in-None g c =
    let s = c.self.inside in
    let slots = s.slots.items in
    let order = s.order.items in
    let v = c.args.value in
    let more = slots ++ v ∷ [] in
    let slot : c.len.result ≡ length slots = c.len.ensures ∙ s.slots.ok.0 in
    let in_order = c.push_reserved-in-None in
    ap (λ (vs : List g.row.T.Denot). values_at vs in_order.new.self.items)
    c.push_reserved-in-None-2.ensures.items
    ∙ ap (values_at more) in_order.ensures.items
    ∙ ap (λ (n : ℕ). values_at more (order ++ n ∷ [])) slot
    ∙ values_last more order (length slots) v (get_more slots v)
    ∙ ap (λ (vs : List g.row.T.Denot). vs ++ v ∷ [])
    (values_more slots order v c.self.invariant.there ∙ c.self.view_is)
