use Rattle.std.proofs.Common.{◌++◌}
use Rattle.domain_run.specs.private.TransitionLog.{one_of}
use Rattle.domain_run.proofs.Logging.{logs_more}
use Rattle.domain_run.proofs.log.Log.push_all.Goals as goal

pub returns-clause-logged : goal.returns-clause-logged
returns-clause-logged c =
    let one = one_of c.args.logged.first in
    let two = one_of c.args.logged.second in
    let three = one_of c.args.logged.third in
    let before = c.args.self.now in
    logs_more one (two ++ three) before c.push.new.self c.push-3.new.self c.push.ensures.logged
    (logs_more two three c.push.new.self c.push-2.new.self c.push-3.new.self c.push-2.ensures.logged c.push-3.ensures.logged)
