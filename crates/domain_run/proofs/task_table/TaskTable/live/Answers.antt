use Rattle.std.proofs.Common.{sym, ◌∙◌}
use Rattle.domain_run.proofs.Owed.{live_seen, live_ended, live_none}
use Rattle.domain_run.proofs.task_table.TaskTable.live.Goals as goal

pub returns-in_default-clause-absent : goal.returns-in_default-clause-absent
returns-in_default-clause-absent c = live_none c.args.self.now.tasks c.args.number c.find.ensures.numbered c.in_default.ensures.absent

pub returns-then-is_leaving-clause-absent : goal.returns-then-is_leaving-clause-absent
returns-then-is_leaving-clause-absent c = live_ended c.args.self.now.tasks c.args.number c.in-Some.task.now c.find.ensures.numbered c.in-Some.ensures.there (sym c.is_leaving.ensures ∙ c.if-is_leaving.true)

pub returns-clause-there : goal.returns-clause-there
returns-clause-there c = live_seen c.args.self.now.tasks c.args.number c.in-Some.task.now c.find.ensures.numbered c.in-Some.ensures.there (sym c.is_leaving.ensures ∙ c.if-is_leaving.false)
