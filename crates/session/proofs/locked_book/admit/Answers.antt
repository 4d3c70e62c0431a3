use Rattle.std.proofs.Common.{sym}
use Rattle.session.proofs.Replied.{busy_over}
use Rattle.session.proofs.locked_book.admit.Goals as goal

pub returns-in-Busy-clause-offered : goal.returns-in-Busy-clause-offered
returns-in-Busy-clause-offered c = record {
  pass = c.in-Busy.ensures.entered.entered.pass;
  verdict = busy_over c.args.domain.now c.admit.new.self c.args.pass.now c.admit.new.pass c.args.prepared c.args.ticket c.in-Busy.ticket c.in-Busy.seen c.in-Busy.ensures;
}

pub returns-in-Admitted-clause-logged : goal.returns-in-Admitted-clause-logged
returns-in-Admitted-clause-logged c = sym c.in-Admitted.ensures.entered.lawful

pub returns-in-Busy-clause-logged : goal.returns-in-Busy-clause-logged
returns-in-Busy-clause-logged c = sym c.in-Busy.ensures.entered.entered.lawful
