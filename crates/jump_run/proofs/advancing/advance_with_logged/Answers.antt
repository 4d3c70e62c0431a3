use Rattle.std.proofs.Common.{rules}
use Rattle.jump_run.proofs.advancing.advance_with_logged.Goals as goal

pub returns-clause-logged : goal.returns-clause-logged
returns-clause-logged g c = search rules
