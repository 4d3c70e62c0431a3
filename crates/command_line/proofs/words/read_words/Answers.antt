use Rattle.command_line.proofs.Asked.{asked_by}
use Rattle.command_line.proofs.words.read_words.Goals as goal

pub returns-clause-asked : goal.returns-clause-asked
returns-clause-asked g c = asked_by _ c.task_in.result c.task_in.ensures.asked
