use Rattle.std.proofs.Common.{arith}
use Rattle.bw_gate.proofs.Steps.{comes}
use Rattle.bw_gate.proofs.gate.Gate.mark.Goals as goal

pub load_new_seat-seat-requires : goal.load_new_seat-seat-requires
load_new_seat-seat-requires c =
    let shared = c.self.inside.table.shared in
    let some = c.self.invariant.2.some in
    let words = c.self.invariant.1 in
    (omega (arith, some, words), comes shared.key shared.table_id.slots 0)
