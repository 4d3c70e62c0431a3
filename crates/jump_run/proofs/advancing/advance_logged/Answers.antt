use Rattle.std.proofs.Common.{sym, ◌∙◌}
use Rattle.domain_run.specs.Happened.{logged_by_ticks}
use Rattle.domain_run.proofs.CallerLemmas.{logs_silent}
use Rattle.jump_run.proofs.advancing.advance_logged.Goals as goal

pub returns-then-not-is_wanted-clause-logged : goal.returns-then-not-is_wanted-clause-logged
returns-then-not-is_wanted-clause-logged c = logs_silent (logged_by_ticks c.advance.result.ticks c.args.state.now) c.args.log.now (sym c.is_wanted.ensures ∙ c.if-not-is_wanted.true)
