use Rattle.std.proofs.Common.{sym, subst}
use Rattle.call_book.specs.Playing.{logged_ahead}
use Rattle.dl_session.specs.private.Tellable.{IsTellable}
use Rattle.dl_session.proofs.EventRuns.{log_front}
use Rattle.dl_session.proofs.played.PlayedRun.as_logged.Goals as goal

pub returns-clause-logged : goal.returns-clause-logged
returns-clause-logged c =
    let p = c.args.self.now in
    let all = subst (IsTellable p.base p.names) (sym c.logged.ensures.logged) (log_front p.base p.names p.book.logged (logged_ahead p.book) p.tellable) in
    record { lines = all.lines; rising = all.rising; few = all.few }

pub returns-clause-lines : goal.returns-clause-lines
returns-clause-lines c =
    let p = c.args.self.now in
    (subst (IsTellable p.base p.names) (sym c.logged.ensures.logged) (log_front p.base p.names p.book.logged (logged_ahead p.book) p.tellable)).shown
