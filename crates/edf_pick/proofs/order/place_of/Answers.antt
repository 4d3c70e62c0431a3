use Rattle.std.proofs.Common.{arith}
use Rattle.edf_pick.proofs.Searching.{search_last}
use Rattle.edf_pick.proofs.order.place_of.Goals as goal

pub returns-clause-place : goal.returns-clause-place
returns-clause-place c = search_last c.args.c.now c.args.queue.now c.looks.place c.looks.width c.one_before.result (omega arith) c.looks.invariant.searched c.one_before.ensures
