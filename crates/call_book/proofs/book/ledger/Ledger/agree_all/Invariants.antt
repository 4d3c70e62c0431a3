use Rattle.std.proofs.Common.{◌≡◌, All}
use Rattle.call_book.specs.Book.{own_entries}
use Rattle.call_book.proofs.book.ledger.Ledger.agree_all.Given as goal

abbrev pub invariant-loop-pass : goal.invariant-loop-pass
invariant-loop-pass l = record {
  ledger : l.self ≡ l.fn.self;
  passes : All (λ p. p.spine ≡ l.fn.self.spine) l.passes.items;
  own : All (λ p. p.entries ≡ own_entries p.client l.fn.self.history) l.passes.items → All (λ p. p.entries ≡ own_entries p.client l.fn.self.history) l.fn.passes.items;
}

abbrev pub decreases-loop-pass : goal.decreases-loop-pass
decreases-loop-pass l = goal.left-loop-pass l
