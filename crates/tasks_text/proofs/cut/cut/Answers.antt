use Rattle.std.proofs.Common.{◌+◌}
use Rattle.tasks_text.proofs.Lacking.{cut_parts, cut_none, rest_is}
use Rattle.tasks_text.proofs.cut.cut.Goals as goal

pub returns-in-Some : goal.returns-in-Some
returns-in-Some c = rw (rest_is (c.in-Some.i + 1) c.args.text.now) (cut_parts c.args.at c.args.text.now c.in-Some.i c.in-Some.ensures)

pub returns-in-None : goal.returns-in-None
returns-in-None c = cut_none c.args.at c.args.text.now c.in-None.ensures
