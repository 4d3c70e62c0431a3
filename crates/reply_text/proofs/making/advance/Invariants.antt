use Rattle.std.proofs.Common.{◌≡◌, ◌≤◌, ◌-◌}
use Rattle.domain_run.specs.Passing.{without_switches}
use Rattle.domain_run.specs.Tick.{ticks}
use Rattle.reply_text.proofs.making.advance.Given as goal

abbrev pub invariant-pieces : goal.invariant-pieces
invariant-pieces l = record {
  domain : l.domain ≡ without_switches (ticks (l.ticks - l.left) l.fn.domain);
  most : l.left ≤ l.ticks;
}

abbrev pub decreases-pieces : goal.decreases-pieces
decreases-pieces l = l.left
