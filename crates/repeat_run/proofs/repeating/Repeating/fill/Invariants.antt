use Rattle.std.proofs.Common.{◌≡◌, ◌≤◌, ◌-◌}
use Rattle.domain_run.specs.Tick.{ticks}
use Rattle.repeat_run.proofs.repeating.Repeating.fill.Given as goal

abbrev pub invariant-steps : goal.invariant-steps
invariant-steps l = record {
  state : l.self ≡ ticks (l.n - l.left) l.fn.self;
  most : l.left ≤ l.n;
}

abbrev pub decreases-steps : goal.decreases-steps
decreases-steps l = l.left
