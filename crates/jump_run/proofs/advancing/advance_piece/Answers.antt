use Rattle.std.proofs.Common.{rules}
use Rattle.jump_run.proofs.advancing.advance_piece.Goals as goal

pub returns-clause-state : goal.returns-clause-state
returns-clause-state c = search rules

pub returns-clause-logged : goal.returns-clause-logged
returns-clause-logged c = search rules
