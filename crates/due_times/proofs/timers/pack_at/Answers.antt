use Rattle.std.proofs.Common.{◌≡◌, ◌≢◌, ◌-◌, ◌^◌, ℕ, get_or, set, length, ap, ◌∙◌, arith}
use Rattle.std.proofs.lemmas.List.{get_or_default, length-set}
use Rattle.due_times.specs.Timers.{times_by_place}
use Rattle.due_times.proofs.Orders.{inside, moved, packed_kept, packed_times}
use Rattle.due_times.proofs.timers.pack_at.Goals as goal

leaf_is : (c : goal.After-set-arg-2-1) → c.from-leaf.result ≡ get_or c.args.order.now.items c.args.place 0
leaf_is c = c.from-leaf.ensures ∙ c.index.ensures ∙ get_or_default c.args.order.now.items c.args.place c.index.result.now 0 c.requires.there

other : (c : goal.After-set-arg-2-1) → get_or c.args.order.now.items c.args.place 0 ≢ c.args.place
other c e = c.if-leaf-place.false (leaf_is c ∙ e)

pub set-requires-2 : goal.set-requires-2
set-requires-2 c =
    let times = c.args.timer_tree.now in
    let order = c.args.order.now.items in
    let within = inside times order c.args.order.now.cap c.args.place c.requires.kept c.requires.packed c.requires.there (other c) in
    omega (arith, within, ap length c.set.ensures, length-set times c.from-leaf.result (2 ^ 64 - 1))

leaf_as : (c : goal.After-order-1) → c.from-leaf.result ≡ get_or c.args.order.now.items c.args.place 0
leaf_as c = c.from-leaf.ensures ∙ c.index.ensures ∙ get_or_default c.args.order.now.items c.args.place c.index.result.now 0 c.requires.there

other_leaf : (c : goal.After-order-1) → get_or c.args.order.now.items c.args.place 0 ≢ c.args.place
other_leaf c e = c.if-leaf-place.false (leaf_as c ∙ e)

moved_is : (c : goal.After-order-1) → c.set-2.new.self ≡ moved c.args.timer_tree.now c.args.order.now.items c.args.order.now.cap c.args.place c.requires.kept c.requires.packed c.requires.there (other_leaf c)
moved_is c =
    let times = c.args.timer_tree.now in
    let place = c.args.place in
    let never = (2 ^ 64 - 1) in
    let freed = λ (leaf : ℕ). set times leaf never in
    c.set-2.ensures
    ∙ ap (λ ts. set ts place c.get-time.result) (c.set.ensures ∙ ap freed (leaf_as c))
    ∙ ap (λ t. set (freed (get_or c.args.order.now.items place 0)) place t) (c.get-time.ensures ∙ ap (λ leaf. get_or times leaf 0) (leaf_as c))

pub returns-clause-kept : goal.returns-clause-kept
returns-clause-kept c =
    rw (moved_is c)
    (packed_kept c.args.timer_tree.now c.args.order.now.items c.args.order.now.cap c.args.place c.requires.kept c.requires.packed c.requires.there (other_leaf c))

pub returns-clause-times : goal.returns-clause-times
returns-clause-times c =
    ap (λ ts. times_by_place ts (set c.args.order.now.items c.args.place c.args.place)) (moved_is c)
    ∙ packed_times c.args.timer_tree.now c.args.order.now.items c.args.order.now.cap c.args.place c.requires.kept c.requires.packed c.requires.there (other_leaf c)
