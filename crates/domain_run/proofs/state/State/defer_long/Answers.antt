use Rattle.std.proofs.Common.{arith}
use Rattle.std.proofs.lemmas.Grind.{common_steps}
use Rattle.domain_run.proofs.Logging.{logs_none}
use Rattle.domain_run.proofs.state.State.defer_long.Goals as goal

pub returns-then-most-lt-LONG-clause-most : goal.returns-then-most-lt-LONG-clause-most
returns-then-most-lt-LONG-clause-most c = grind (arith, common_steps)

pub returns-then-most-lt-LONG-clause-ticks : goal.returns-then-most-lt-LONG-clause-ticks
returns-then-most-lt-LONG-clause-ticks c = grind (arith, common_steps)

pub returns-then-most-lt-LONG-clause-domain : goal.returns-then-most-lt-LONG-clause-domain
returns-then-most-lt-LONG-clause-domain c = grind (arith, common_steps)

pub returns-then-self-gt0-clause-most : goal.returns-then-self-gt0-clause-most
returns-then-self-gt0-clause-most c = grind (arith, common_steps)

pub returns-then-self-gt0-clause-ticks : goal.returns-then-self-gt0-clause-ticks
returns-then-self-gt0-clause-ticks c = grind (arith, common_steps)

pub returns-then-self-gt0-clause-domain : goal.returns-then-self-gt0-clause-domain
returns-then-self-gt0-clause-domain c = grind (arith, common_steps)

pub returns-then-made-eq0-clause-most : goal.returns-then-made-eq0-clause-most
returns-then-made-eq0-clause-most c = grind (arith, common_steps)

pub returns-then-made-eq0-clause-ticks : goal.returns-then-made-eq0-clause-ticks
returns-then-made-eq0-clause-ticks c = grind (arith, common_steps)

pub returns-then-made-eq0-clause-domain : goal.returns-then-made-eq0-clause-domain
returns-then-made-eq0-clause-domain c = grind (arith, common_steps)

pub returns-else-made-eq0-clause-most : goal.returns-else-made-eq0-clause-most
returns-else-made-eq0-clause-most c = grind (arith, common_steps)

pub returns-else-made-eq0-clause-ticks : goal.returns-else-made-eq0-clause-ticks
returns-else-made-eq0-clause-ticks c = grind (arith, common_steps)

pub returns-else-made-eq0-clause-domain : goal.returns-else-made-eq0-clause-domain
returns-else-made-eq0-clause-domain c = grind (arith, common_steps)

pub returns-then-most-lt-LONG-clause-logged : goal.returns-then-most-lt-LONG-clause-logged
returns-then-most-lt-LONG-clause-logged c = logs_none c.args.log.now

pub returns-then-not-lacks-clause-logged : goal.returns-then-not-lacks-clause-logged
returns-then-not-lacks-clause-logged c = logs_none c.args.log.now

pub returns-then-self-gt0-clause-logged : goal.returns-then-self-gt0-clause-logged
returns-then-self-gt0-clause-logged c = logs_none c.args.log.now
