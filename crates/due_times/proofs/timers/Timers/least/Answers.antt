use Rattle.std.proofs.Common.{ap, ◌∙◌}
use Rattle.due_times.specs.Timers.{least}
use Rattle.due_times.proofs.Orders.{least_kept}
use Rattle.due_times.proofs.timers.Timers.least.Goals as goal

pub returns : goal.returns
returns c =
    let is = c.self.inside in
    c.least.ensures ∙ least_kept is.timer_tree is.order.items is.order.cap c.self.invariant ∙ ap least c.self.view_is
