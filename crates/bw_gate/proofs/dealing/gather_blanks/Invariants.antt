use Rattle.std.proofs.Common.{◌≡◌, ℕ, ◌+◌, [], length, All}
use Rattle.bw_gate.specs.Table.{held_by}
use Rattle.bw_gate.proofs.dealing.gather_blanks.Given as goal

-- the seat's view has what it had, and what has come in
abbrev pub invariant-loop-blank : goal.invariant-loop-blank
invariant-loop-blank l =
    (l.seat.table_id ≡ l.fn.seat.table_id) × (l.seat.id ≡ l.fn.seat.id) × (l.seat.me.1 ≡ []) × (l.seat.me.0.terms ≡ l.shared.key)
    × ((d : ℕ) → held_by d l.seat.me.0 ≡ held_by d l.fn.seat.me.0)
    × (length l.seat.me.0.pieces + length l.blanks.items ≡ length l.fn.seat.me.0.pieces + length l.fn.blanks.items)
    × All (λ x. x.gate ≡ record { table = l.shared.table_id; terms = l.shared.key }) l.blanks.items

abbrev pub decreases-loop-blank : goal.decreases-loop-blank
decreases-loop-blank l = goal.left-loop-blank l
