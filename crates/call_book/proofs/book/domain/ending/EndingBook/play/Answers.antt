use Rattle.std.proofs.Common.{All, sym, subst}
use Rattle.std.proofs.lemmas.List.Elements.{All-nil}
use Rattle.domain_run.specs.Domain.{Domain}
use Rattle.domain_run.specs.LoggedRun.{IsLoggedUntil}
use Rattle.call_book.specs.private.Kept.{book_of}
use Rattle.call_book.specs.private.Played.{LeadsOn}
use Rattle.call_book.specs.private.Ticking.{domain_in}
use Rattle.call_book.proofs.Played.{playing_from}
use Rattle.call_book.proofs.book.domain.ending.EndingBook.play.Goals as goal

pub invariant_of-result : goal.invariant_of-result
invariant_of-result c =
    let own = c.self.inside in
    let book = book_of own.cpus own.limit own.workers.count own.left own.ledger own.stock in
    let at = domain_in c.in-Ok.domain in
    record {
      on = subst (λ (d : Domain). LeadsOn book d 0) (sym c.in-Ok.ensures.domain) (playing_from book own.streamed own.state c.self.invariant c.now.ensures.domain);
      until = subst (All (IsLoggedUntil at.time)) (sym c.in-Ok.ensures.logged) (All-nil (IsLoggedUntil at.time));
    }
