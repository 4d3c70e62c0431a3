use Rattle.std.proofs.Common.{All, subst}
use Rattle.domain_run.specs.LoggedRun.{IsLoggedUntil}
use Rattle.call_book.specs.declared.book.domain.ending.ticking.Ticking.{Ticking}
use Rattle.call_book.specs.private.Ticking.{domain_in, waits_in}
use Rattle.call_book.proofs.book.domain.ending.ticking.Ticking.fill_logged.Goals as goal

pub returns-in-Logs-clause-past : goal.returns-in-Logs-clause-past
returns-in-Logs-clause-past c = λ were.
    c.fill-in-Logs.ensures.past (subst (λ (t : Ticking). All (IsLoggedUntil (domain_in t).time) (waits_in t)) c.in-Logs.is were)
