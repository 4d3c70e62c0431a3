use Rattle.std.proofs.Common.{◌≡◌, ◌<◌, ◌-◌, ◌^◌, get_or, set, length, ap, ◌∙◌, arith}
use Rattle.std.specs.List.{remove}
use Rattle.std.proofs.lemmas.List.{get_or_default}
use Rattle.due_times.specs.Timers.{times_by_place}
use Rattle.due_times.proofs.Orders.{count_is, removed_kept, removed_times}
use Rattle.due_times.proofs.timers.Timers.remove.Goals as goal

there : (c : goal.After-set) → c.args.place < length c.self.inside.order.items
there c = omega (arith, c.requires, ap length c.self.view_is, count_is c.self.inside.timer_tree c.self.inside.order.items)

leaf_is : (c : goal.After-set) → c.set.new.self ≡ set c.self.inside.timer_tree (get_or c.self.inside.order.items c.args.place 0) (2 ^ 64 - 1)
leaf_is c =
    let order = c.self.inside.order.items in
    let leaf : c.from.result ≡ get_or order c.args.place 0 = c.from.ensures ∙ c.remove-leaf.ensures.value ∙ get_or_default order c.args.place c.remove-leaf.result 0 (there c) in
    c.set.ensures ∙ ap (λ n. set c.self.inside.timer_tree n (2 ^ 64 - 1)) leaf

pub invariant_of-self : goal.invariant_of-self
invariant_of-self c =
    let is = c.self.inside in
    rw (leaf_is c, c.remove-leaf.ensures.items, c.remove-leaf.ensures.capacity)
    (removed_kept is.timer_tree is.order.items is.order.cap c.args.place c.self.invariant (there c))

pub returns : goal.returns
returns c =
    let is = c.self.inside in
    let place = c.args.place in
    ap (λ ts. times_by_place ts c.remove-leaf.new.self.items) (leaf_is c)
    ∙ ap (times_by_place (set is.timer_tree (get_or is.order.items place 0) (2 ^ 64 - 1))) c.remove-leaf.ensures.items
    ∙ removed_times is.timer_tree is.order.items is.order.cap place c.self.invariant (there c)
    ∙ ap (λ ts. remove ts place) c.self.view_is
