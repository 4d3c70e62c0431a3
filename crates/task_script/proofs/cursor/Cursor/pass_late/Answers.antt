use Rattle.std.proofs.Common.{rules}
use Rattle.task_script.proofs.cursor.Cursor.pass_late.Goals as goal

pub returns-clause-cursor : goal.returns-clause-cursor
returns-clause-cursor c = search rules
