use Rattle.std.proofs.Common.{[], false, not, get_or, sym, ap, subst, ◌∙◌}
use Rattle.domain_run.specs.Log.{HasLogged}
use Rattle.domain_run.specs.private.TransitionLog.{logged_by_transition}
use Rattle.domain_run.proofs.Logging.{logs_none, logs_silent}
use Rattle.domain_run.proofs.sweep.apply_part.Goals as goal

pub returns-then-not-is_wanted-clause-logged : goal.returns-then-not-is_wanted-clause-logged
returns-then-not-is_wanted-clause-logged c d = logs_silent (logged_by_transition c.args.time c.args.transition.now (get_or c.args.task_table.now.tasks c.args.place d)) c.args.log.now (sym c.is_wanted.ensures ∙ c.if-not-is_wanted.true)

pub returns-then-not-may_log-clause-logged : goal.returns-then-not-may_log-clause-logged
returns-then-not-may_log-clause-logged c d =
    let t = get_or c.args.task_table.now.tasks c.args.place d in
    subst (λ hs. HasLogged c.args.log.now hs c.args.log.now) (sym (c.may_log.ensures t c.if-not-may_log.true (sym (c.condition_at.ensures d)))) (logs_none c.args.log.now)
