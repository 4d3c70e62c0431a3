use Rattle.std.proofs.Common.{arith, rules}
use Rattle.edf_pick.proofs.Spans.{inserted_above}
use Rattle.edf_pick.proofs.room.Room.insert_above.Goals as goal

pub returns-clause-tasks : goal.returns-clause-tasks
returns-clause-tasks c =
    let room = c.args.self.now in
    let by = c.copy_within.ensures.by_index in
    inserted_above room.front room.end c.args.place room.tasks.items c.copy_within.new.self.items (search rules) (omega arith) c.args.task c.requires.there (omega arith) by.0 by.1
