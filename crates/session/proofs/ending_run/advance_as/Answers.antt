use Rattle.std.proofs.Common.{rules}
use Rattle.session.proofs.ending_run.advance_as.Goals as goal

pub returns-in-Figures-clause-logged : goal.returns-in-Figures-clause-logged
returns-in-Figures-clause-logged g c = search rules

pub returns-in-Jobs-clause-logged : goal.returns-in-Jobs-clause-logged
returns-in-Jobs-clause-logged g c = search rules

pub returns-in-Chart-clause-logged : goal.returns-in-Chart-clause-logged
returns-in-Chart-clause-logged g c = search rules
