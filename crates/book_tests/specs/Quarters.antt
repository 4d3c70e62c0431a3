-- What the tests of clients in threads say (own).
use Rattle.std.specs.Prelude.{◌≡◌}
use Rattle.bw_gate.specs.Pieces.{GateId, TicketView}
use Rattle.bw_gate.specs.declared.answer.Take.{Take}
use Rattle.bw_gate.specs.declared.answer.Take.TheVariants.{Taken, Refused, Raced}

-- a ticket of this gate, of a quarter of a CPU in its first domain
pub record IsQuarter (gate : GateId) (t : TicketView) : Type 0 where
  pub own : t.gate ≡ gate
  pub domain : t.domain ≡ 0
  pub bw : t.bw ≡ 262144

-- such a ticket, or a blank of this gate
abbrev pub IsQuarterTaken : GateId → Take → Type 0
IsQuarterTaken gate (Taken t) = IsQuarter gate t
IsQuarterTaken gate (Refused b seen) = b.gate ≡ gate
IsQuarterTaken gate (Raced b expected seen) = b.gate ≡ gate
