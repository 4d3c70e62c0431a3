use Rattle.std.proofs.Common.{ap, arith}
use Rattle.domain_run.specs.private.TaskTable.{TaskTableView}
use Rattle.domain_run.proofs.task_table.TaskTable.vacate_all.Goals as goal

pub vacate-requires : goal.vacate-requires
vacate-requires c = omega (arith, c.loop-cpu-test.true, c.len-cpu-end.ensures.len, c.self.invariant.wide, ap (λ (r : TaskTableView). r.cpus) c.self.view_is, c.loop-cpu.invariant.cpus)
