use Rattle.std.proofs.Common.{ap, ◌∙◌}
use Rattle.domain_run.specs.Switches.{prev_state_of}
use Rattle.domain_run.specs.private.TaskTable.{TaskTableView}
use Rattle.domain_run.specs.private.Owed.{owed}
use Rattle.domain_run.proofs.Starting.{state_stored}
use Rattle.domain_run.proofs.Owed.{alike_owed, numbered_unlike}
use Rattle.domain_run.proofs.task_table.TaskTable.state_of.Goals as goal

pub state_of-requires : goal.state_of-requires
state_of-requires c =
    let s = c.self.inside in
    record {
      numbered = (numbered_unlike (owed s.charges.upto s.charges.charges) (alike_owed s.charges.upto s.charges.charges) s.tasks c.self.invariant.counted.task_table.numbered);
    }

pub returns : goal.returns
returns c =
    let s = c.self.inside in
    let o = c.args.occupant in
    c.state_of.ensures
    ∙ state_stored s.charges.upto s.charges.charges s.tasks o
    ∙ ap (λ (r : TaskTableView). prev_state_of r.tasks o) c.self.view_is
