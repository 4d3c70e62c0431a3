use Rattle.command_line.proofs.Asked.{of_answer}
use Rattle.command_line.proofs.words.task_in.Goals as goal

pub returns-clause-asked : goal.returns-clause-asked
returns-clause-asked c =
    of_answer _ c.in_ok-matches.matches c.task_of.result c.in_ok-matches.ensures.reading c.in_ok-matches.ensures.texts c.in_ok-matches.ensures.replay_texts c.task_of.ensures.named
    c.task_of.ensures.meant c.task_of.ensures.refused
