use Rattle.std.proofs.Common.{get_or, sym, ◌∙◌}
use Rattle.domain_run.specs.private.TransitionLog.{logged_by_transition}
use Rattle.domain_run.proofs.Logging.{logs_silent}
use Rattle.domain_run.proofs.task_table.TaskTable.apply_logged.Goals as goal

pub returns-clause-logged : goal.returns-clause-logged
returns-clause-logged c d = logs_silent (logged_by_transition c.args.time c.args.transition.now (get_or c.args.self.now.tasks c.args.place d)) c.args.log.now (sym c.is_wanted.ensures ∙ c.if-is_wanted.false)
