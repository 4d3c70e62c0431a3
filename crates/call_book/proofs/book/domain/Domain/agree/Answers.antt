use Rattle.std.proofs.Common.{sym, subst}
use Rattle.call_book.specs.Book.{BookView, IsBookHistory}
use Rattle.call_book.specs.private.Ledger.{LedgerView, IsHistory}
use Rattle.call_book.specs.private.Kept.{book_of}
use Rattle.call_book.proofs.book.domain.Domain.agree.Goals as goal

pub returns-clause-history : goal.returns-clause-history
returns-clause-history c =
    let inside = c.self.inside in
    let ledger = inside.ledger in
    let of : LedgerView → BookView = λ l. book_of inside.cpus inside.limit inside.workers.count inside.left l inside.stock in
    let kept : IsHistory ledger.clients ledger.room ledger.history = subst (λ (l : LedgerView). IsHistory l.clients l.room l.history) c.agree.ensures.ledger c.agree.ensures.history in
    let is : IsBookHistory (of ledger) = record { legal = c.self.invariant.legal; numbered = kept.numbered; members = kept.members; spelled = kept.entries; within = kept.within; short = kept.short } in
    subst (λ (l : LedgerView). IsBookHistory (of l)) (sym c.agree.ensures.ledger) is
