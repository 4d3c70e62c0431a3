use Rattle.std.proofs.Common.{◌+◌, arith}
use Rattle.edf_pick.proofs.Stays.{latest_joined}
use Rattle.edf_pick.proofs.running.latest_of_four.Goals as goal

pub latest_of_two-requires : goal.latest_of_two-requires
latest_of_two-requires c = omega arith

pub overflow_add-at : goal.overflow_add-at
overflow_add-at c = omega arith

pub latest_of_two-requires-2 : goal.latest_of_two-requires-2
latest_of_two-requires-2 c = omega arith

pub later-requires : goal.later-requires
later-requires c = tt

pub returns : goal.returns
returns c =
    let at = c.args.at in
    let one = c.latest_of_two in
    let other = c.latest_of_two-2 in
    let e = c.later.ensures in
    latest_joined c.args.keys.now at (at + 2) (at + 2 + 2) (at + 4) one.result other.result c.later.result (omega arith) (omega arith) (omega arith) one.ensures other.ensures e.one e.first e.second
