use Rattle.std.proofs.Common.{◌≡◌, ◌<◌, get_or, set, length, ap, ◌∙◌, arith}
use Rattle.std.proofs.lemmas.List.{get_or_default}
use Rattle.due_times.specs.Timers.{times_by_place}
use Rattle.due_times.proofs.Orders.{count_is, set_times}
use Rattle.due_times.proofs.timers.Timers.set.Goals as goal

pub returns : goal.returns
returns c =
    let times = c.self.inside.timer_tree in
    let order = c.self.inside.order.items in
    let place = c.args.place in
    let there : place < length order = omega (arith, c.requires, ap length c.self.view_is, count_is times order) in
    let leaf : c.from.result ≡ get_or order place 0 = c.from.ensures ∙ c.index.ensures ∙ get_or_default order place c.index.result.now 0 there in
    ap (λ ts. times_by_place ts order) (c.set.ensures ∙ ap (λ n. set times n c.args.due) leaf)
    ∙ set_times times order c.self.inside.order.cap place c.args.due c.self.invariant there
    ∙ ap (λ ts. set ts place c.args.due) c.self.view_is
