use Rattle.std.proofs.Common.{◌+◌, get_or, arith}
use Rattle.edf_pick.specs.private.RunningSet.{bare_key}
use Rattle.edf_pick.proofs.Stays.{latest_one, latest_joined}
use Rattle.edf_pick.proofs.running.latest_of_two.Goals as goal

pub offset_bounds-keys-at : goal.offset_bounds-keys-at
offset_bounds-keys-at c = omega arith

pub bounds-keys-at : goal.bounds-keys-at
bounds-keys-at c = omega arith

pub overflow_add-at : goal.overflow_add-at
overflow_add-at c = omega arith

pub offset_bounds-keys-at-2 : goal.offset_bounds-keys-at-2
offset_bounds-keys-at-2 c = omega arith

pub bounds-keys-at-2 : goal.bounds-keys-at-2
bounds-keys-at-2 c = omega arith

pub later-requires : goal.later-requires
later-requires c = tt

pub returns : goal.returns
returns c =
    let keys = c.args.keys.now in
    let at = c.args.at in
    let e = c.later.ensures in
    latest_joined keys at (at + 1) (at + 1 + 1) (at + 2) (get_or keys at bare_key) (get_or keys (at + 1) bare_key) c.later.result (omega arith) (omega arith) (omega arith)
    (latest_one keys at) (latest_one keys (at + 1)) e.one e.first e.second
