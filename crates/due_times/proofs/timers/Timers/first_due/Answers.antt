use Rattle.std.proofs.Common.{◌<◌, ◌≤◌, ℕ, List, length, get_or, ap, subst, ◌∙◌, arith}
use Rattle.due_times.specs.Timers.{least, AreLater}
use Rattle.due_times.specs.private.Leaves.{IsFirstFrom}
use Rattle.due_times.proofs.Orders.{count_is, later_all, come_first, least_kept}
use Rattle.due_times.proofs.timers.Timers.first_due.Goals as goal

pub first_come-requires-clause-come : goal.first_come-requires-clause-come
first_come-requires-clause-come c =
    let is = c.self.inside in
    let same = least_kept is.timer_tree is.order.items is.order.cap c.self.invariant ∙ ap least c.self.view_is in
    omega (arith, same, c.requires)

pub returns-clause-others : goal.returns-clause-others
returns-clause-others c =
    let times = c.self.inside.timer_tree in
    let order = c.self.inside.order.items in
    let leaf = c.first_come.result in
    let first = subst (λ (xs : List ℕ). IsFirstFrom xs leaf c.first_from.result) c.deref.ensures.value c.first_from.ensures in
    subst (λ (ts : List ℕ). AreLater ts c.args.time 0 c.first_from.result) c.self.view_is
    (later_all times order c.args.time leaf c.first_from.result c.self.invariant.there first c.first_come.ensures.others)

pub returns-clause-due : goal.returns-clause-due
returns-clause-due c = λ h.
    let is = c.self.inside in
    let times = is.timer_tree in
    let order = is.order.items in
    let come = c.first_come in
    let first = subst (λ (xs : List ℕ). IsFirstFrom xs come.result c.first_from.result) c.deref.ensures.value c.first_from.ensures in
    let there : c.first_from.result < length order = omega (arith, h, ap length c.self.view_is, count_is times order) in
    subst (λ (ts : List ℕ). get_or ts c.first_from.result 0 ≤ c.args.time) c.self.view_is
    (come_first times order is.order.cap c.args.time come.result c.first_from.result c.self.invariant come.ensures.high first come.ensures.within come.ensures.come there)
