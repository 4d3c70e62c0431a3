use Rattle.std.proofs.Common.{arith, rules}
use Rattle.edf_pick.proofs.Spans.{removed_above}
use Rattle.edf_pick.proofs.room.Room.remove_above.Goals as goal

pub returns-clause-tasks : goal.returns-clause-tasks
returns-clause-tasks c =
    let room = c.args.self.now in
    let by = c.copy_within.ensures.by_index in
    removed_above room.front room.end c.args.place room.tasks.items c.copy_within.new.self.items (search rules) (omega arith) c.requires.there by.0 by.1
