use Rattle.std.proofs.Common.{◌≡◌, ◌≤◌, ◌-◌, []}
use Rattle.domain_run.specs.Tick.{ticks}
use Rattle.call_book.proofs.book.domain.ending.ticking.fill_unlogged.Given as goal

-- the ticks so far are made, and the log is empty
abbrev pub invariant-pieces : goal.invariant-pieces
invariant-pieces l = record {
  state : l.logged_run.domain ≡ ticks (l.n - l.left) l.fn.logged_run.domain;
  most : l.left ≤ l.n;
  logged : l.logged_run.logged ≡ [];
}

abbrev pub decreases-pieces : goal.decreases-pieces
decreases-pieces l = l.left
