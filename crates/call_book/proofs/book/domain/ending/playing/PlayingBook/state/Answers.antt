use Rattle.std.proofs.Common.{◌≡◌, ℕ, subst}
use Rattle.call_book.specs.Book.{state_of}
use Rattle.call_book.specs.Playing.{PlayingView, HasWholeRun, LeadsToRun}
use Rattle.call_book.specs.private.Kept.{book_of}
use Rattle.call_book.specs.private.Played.{LeadsOn}
use Rattle.call_book.specs.private.Ticking.{domain_in}
use Rattle.call_book.proofs.Played.{play_of, at_run}
use Rattle.call_book.proofs.book.domain.ending.playing.PlayingBook.state.Goals as goal

pub returns-clause-leads : goal.returns-clause-leads
returns-clause-leads c = subst LeadsToRun c.self.view_is c.self.invariant.on.leads

pub returns-clause-run : goal.returns-clause-run
returns-clause-run c =
    let own = c.self.inside in
    let book = book_of own.cpus own.limit own.workers.count own.left own.ledger own.stock in
    let at = domain_in own.domain in
    subst (λ (p : PlayingView). p.left ≡ 0 → HasWholeRun p → p.at ≡ state_of p.book) c.self.view_is
    (λ none whole. at_run book at (subst (LeadsOn book at) none c.self.invariant.on) (subst (λ (k : ℕ). HasWholeRun (play_of book at k)) none whole))
