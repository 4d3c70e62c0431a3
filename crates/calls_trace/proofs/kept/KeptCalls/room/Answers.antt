use Rattle.std.proofs.Common.{◌≤◌, List, length, arith, subst}
use Rattle.std.specs.Prelude.{sum_by}
use Rattle.domain_run.specs.declared.call.Call.{Call}
use Rattle.calls_trace.specs.private.Kept.{room_of}
use Rattle.calls_trace.proofs.LittleRoom.{room_enough}
use Rattle.calls_trace.proofs.kept.KeptCalls.room.Goals as goal

pub returns : goal.returns
returns c =
    let long = c.self.inside.long.items in
    let enough = subst (λ (cs : List Call). sum_by room_of cs ≤ length long) c.self.view_is (room_enough c.self.inside.order.items long) in
    omega (arith, enough, c.len.ensures, c.self.inside.long.ok.0)
