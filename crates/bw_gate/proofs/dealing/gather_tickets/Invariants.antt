use Rattle.std.proofs.Common.{◌≡◌, ℕ, ◌+◌, [], length, All}
use Rattle.bw_gate.specs.Pieces.{bw_of_tickets}
use Rattle.bw_gate.specs.Table.{held_by}
use Rattle.bw_gate.proofs.dealing.gather_tickets.Given as goal

-- the seat's view has what it had, and what has come in
abbrev pub invariant-loop-ticket : goal.invariant-loop-ticket
invariant-loop-ticket l =
    (l.seat.table_id ≡ l.fn.seat.table_id) × (l.seat.id ≡ l.fn.seat.id) × (l.seat.me.1 ≡ []) × (l.seat.me.0.terms ≡ l.shared.key)
    × ((d : ℕ) → held_by d l.seat.me.0 + bw_of_tickets d l.tickets.items ≡ held_by d l.fn.seat.me.0 + bw_of_tickets d l.fn.tickets.items)
    × (length l.seat.me.0.pieces + length l.tickets.items ≡ length l.fn.seat.me.0.pieces + length l.fn.tickets.items)
    × All (λ x. x.gate ≡ record { table = l.shared.table_id; terms = l.shared.key }) l.tickets.items

abbrev pub decreases-loop-ticket : goal.decreases-loop-ticket
decreases-loop-ticket l = goal.left-loop-ticket l
