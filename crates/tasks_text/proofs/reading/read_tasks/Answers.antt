use Rattle.std.proofs.Common.{None, codes}
use Rattle.std.proofs.lemmas.Bool.Decides.{Decides-eqb}
use Rattle.std.proofs.lemmas.Slice.Eq.{strip_prefix_is}
use Rattle.tasks_text.proofs.Stops.{bad_header}
use Rattle.tasks_text.proofs.reading.read_tasks.Goals as goal

pub returns-in-None-clause-fault : goal.returns-in-None-clause-fault
returns-in-None-clause-fault c = bad_header c.args.text.now (strip_prefix_is Decides-eqb c.args.text.now (codes "dltasks 1\n") None c.in-None.ensures.cases)
