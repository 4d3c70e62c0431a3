use Rattle.std.proofs.Common.{arith}
use Rattle.switch_text.specs.Names.{name_of_task}
use Rattle.switch_text.proofs.Calling.{IsReady-called}
use Rattle.switch_text.proofs.ready.make.Goals as goal

pub head_of-requires-clause-title : goal.head_of-requires-clause-title
head_of-requires-clause-title c = omega (arith, c.spell-called.ensures.title_short)

pub returns-clause-texts : goal.returns-clause-texts
returns-clause-texts c = IsReady-called (name_of_task c.args.names.now) c.args.cpu c.args.task c.spell-called.result _ c.spell-called.ensures c.head_of.ensures c.leaving_of.ensures c.coming_of.ensures
