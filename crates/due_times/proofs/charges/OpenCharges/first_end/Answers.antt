use Rattle.std.proofs.Common.{◌≡◌, ◌<◌, ℕ, map, sym, ap, subst, ◌∙◌}
use Rattle.due_times.specs.OpenCharges.{OpenChargesView, end_of}
use Rattle.due_times.specs.Timers.{least}
use Rattle.due_times.proofs.ChargeTimes.{first_ahead}
use Rattle.due_times.proofs.charges.OpenCharges.first_end.Goals as goal

pub returns-clause-ahead : goal.returns-clause-ahead
returns-clause-ahead c =
    let s = c.self.inside in
    let is : c.least.result ≡ least (map end_of s.charges.items) = c.least.ensures ∙ ap least c.self.invariant.ends_are in
    subst (λ (v : OpenChargesView). v.upto < c.least.result) c.self.view_is (subst (λ (n : ℕ). s.upto < n) (sym is) (first_ahead s.upto s.charges.items c.self.invariant.early c.self.invariant.ahead))
