use Rattle.std.proofs.Common.{◌+◌, arith}
use Rattle.edf_pick.proofs.Stays.{latest_joined}
use Rattle.edf_pick.proofs.running.latest_of_eight.Goals as goal

pub latest_of_four-requires : goal.latest_of_four-requires
latest_of_four-requires c = omega arith

pub overflow_add-at : goal.overflow_add-at
overflow_add-at c = omega arith

pub latest_of_four-requires-2 : goal.latest_of_four-requires-2
latest_of_four-requires-2 c = omega arith

pub later-requires : goal.later-requires
later-requires c = tt

pub returns : goal.returns
returns c =
    let at = c.args.at in
    let one = c.latest_of_four in
    let other = c.latest_of_four-2 in
    let e = c.later.ensures in
    latest_joined c.args.keys.now at (at + 4) (at + 4 + 4) (at + 8) one.result other.result c.later.result (omega arith) (omega arith) (omega arith) one.ensures other.ensures e.one e.first e.second
