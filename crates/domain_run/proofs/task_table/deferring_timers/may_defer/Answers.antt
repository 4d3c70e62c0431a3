use Rattle.std.proofs.Common.{rules}
use Rattle.domain_run.proofs.task_table.deferring_timers.may_defer.Goals as goal

pub returns-in-None : goal.returns-in-None
returns-in-None c = search rules

pub returns-then-time-lag : goal.returns-then-time-lag
returns-then-time-lag c = search rules
