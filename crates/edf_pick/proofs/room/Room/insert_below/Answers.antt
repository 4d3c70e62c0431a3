use Rattle.std.proofs.Common.{arith, rules}
use Rattle.edf_pick.proofs.Spans.{inserted_below}
use Rattle.edf_pick.proofs.room.Room.insert_below.Goals as goal

pub returns-clause-tasks : goal.returns-clause-tasks
returns-clause-tasks c =
    let room = c.args.self.now in
    let by = c.copy_within.ensures.by_index in
    inserted_below room.front room.end c.args.place room.tasks.items c.copy_within.new.self.items (search rules) (omega arith) c.args.task c.requires.there c.requires.free by.0 by.2
