use Rattle.std.proofs.Common.{◌<◌, ◌++◌, ◌∷◌, [], length, set, ap, ◌∙◌, arith}
use Rattle.due_times.specs.Timers.{times_by_place}
use Rattle.due_times.proofs.Descending.{most_1024}
use Rattle.due_times.proofs.Orders.{count_is, pushed_kept, pushed_times}
use Rattle.due_times.proofs.timers.Timers.push.Goals as goal

pub overflow_cast-leaf : goal.overflow_cast-leaf
overflow_cast-leaf c =
    let most = most_1024 (length c.free_leaf-leaf.new.timer_tree) c.free_leaf-leaf.ensures.kept.size in
    omega (arith, most, c.free_leaf-leaf.ensures.there)

few : (c : goal.After-push_reserved) → length c.free_leaf-leaf.new.order.items < 256
few c = omega (arith, c.requires, c.free_leaf-leaf.ensures.count, ap length c.self.view_is, count_is c.self.inside.timer_tree c.self.inside.order.items)

pub invariant_of-self : goal.invariant_of-self
invariant_of-self c =
    let leaf = c.free_leaf-leaf in
    rw (c.set.ensures, c.push_reserved.ensures.items, c.push_reserved.ensures.capacity)
    (pushed_kept leaf.new.timer_tree leaf.new.order.items leaf.new.order.cap leaf.result c.args.due leaf.ensures.kept (few c) leaf.ensures.following leaf.ensures.there)

pub returns : goal.returns
returns c =
    let leaf = c.free_leaf-leaf in
    ap (λ ts. times_by_place ts c.push_reserved.new.self.items) c.set.ensures
    ∙ ap (times_by_place (set leaf.new.timer_tree leaf.result c.args.due)) c.push_reserved.ensures.items
    ∙ pushed_times leaf.new.timer_tree leaf.new.order.items leaf.result c.args.due leaf.ensures.following leaf.ensures.there
    ∙ ap (λ ts. ts ++ c.args.due ∷ []) (leaf.ensures.times ∙ c.self.view_is)
