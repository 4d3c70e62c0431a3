use Rattle.std.proofs.Common.{All, subst}
use Rattle.domain_run.specs.LoggedRun.{IsLoggedUntil}
use Rattle.call_book.specs.Playing.{PlayingView}
use Rattle.call_book.proofs.book.domain.ending.playing.PlayingBook.logged.Goals as goal

pub returns-clause-until : goal.returns-clause-until
returns-clause-until c = subst (λ (p : PlayingView). All (IsLoggedUntil p.at.time) p.logged) c.self.view_is c.self.invariant.until
