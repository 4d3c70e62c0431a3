use Rattle.std.proofs.Common.{◌≡◌, ◌<◌, ℕ, List, length, get_or, ap, subst, ◌∙◌, arith}
use Rattle.std.proofs.lemmas.List.{get_or_default}
use Rattle.due_times.specs.Timers.{AreLater}
use Rattle.due_times.specs.private.Leaves.{IsFirstFrom}
use Rattle.due_times.proofs.Orders.{count_is, later_from}
use Rattle.due_times.proofs.timers.Timers.next_after.Goals as goal

pub returns-clause-others : goal.returns-clause-others
returns-clause-others c =
    let times = c.self.inside.timer_tree in
    let order = c.self.inside.order.items in
    let place = c.args.place in
    let there : place < length order = omega (arith, c.requires.there, ap length c.self.view_is, count_is times order) in
    let leaf : c.from.result ≡ get_or order place 0 = c.from.ensures ∙ c.index.ensures ∙ get_or_default order place c.index.result.now 0 there in
    let first = subst (λ (xs : List ℕ). IsFirstFrom xs c.following-leaf.result c.first_from.result) c.deref.ensures.value c.first_from.ensures in
    let later = subst (λ (n : ℕ). AreLater times c.args.time n c.following-leaf.result) leaf c.following-leaf.ensures.others in
    subst (λ (ts : List ℕ). AreLater ts c.args.time place c.first_from.result) c.self.view_is
    (later_from times order c.args.time place c.following-leaf.result c.first_from.result c.self.invariant.rising c.self.invariant.there first there later)
