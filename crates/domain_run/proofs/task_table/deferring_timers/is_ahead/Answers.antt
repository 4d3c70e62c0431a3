use Rattle.std.proofs.Common.{rules}
use Rattle.domain_run.proofs.task_table.deferring_timers.is_ahead.Goals as goal

pub returns-then-not-is_contending : goal.returns-then-not-is_contending
returns-then-not-is_contending c = search rules
