use Rattle.std.proofs.Common.{ap, sym, ◌∙◌, arith}
use Rattle.bw_gate.specs.Pieces.{GateId}
use Rattle.bw_gate.proofs.Steps.{renews}
use Rattle.bw_gate.proofs.piece.Blank.renew.Goals as goal

pub load-requires : goal.load-requires
load-requires c =
    let shared = c.desk.inside.shared.now in
    let seat = c.self.inside.seat in
    let gate = ap (λ (b : _). b.gate) c.self.view_is ∙ c.requires ∙ sym c.desk.view_is in
    let words = c.desk.invariant.0 in
    let some = c.desk.invariant.1 in (
      ap (λ (g : GateId). g.table) gate,
      omega (arith, words, some),
      renews shared.key shared.table_id.slots seat.id seat.me some,
    )
