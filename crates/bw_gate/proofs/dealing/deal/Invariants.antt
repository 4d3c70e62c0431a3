use Rattle.std.proofs.Common.{◌≡◌, ◌≤◌, ◌-◌, [], replicate}
use Rattle.std.specs.Prelude.{vec_capacity, vec_len}
use Rattle.bw_gate.specs.declared.view.Piece.TheVariants.{Blank}
use Rattle.bw_gate.proofs.dealing.deal.Given as goal

-- as many blanks are made as are missing in the seat's view
abbrev pub invariant-loop-seat : goal.invariant-loop-seat
invariant-loop-seat l =
    (l.seat.table_id ≡ l.shared.table_id)
    × (l.seat.me ≡ (record { pieces = replicate (l.n - vec_len l.blanks) Blank; found = []; limited_in = []; terms = l.shared.key }, []))
    × (l.blanks.items ≡ replicate (vec_len l.blanks) (record { gate = record { table = l.shared.table_id; terms = l.shared.key }; found = [] }))
    × (vec_len l.blanks ≤ l.n) × (l.n ≤ vec_capacity l.blanks)

abbrev pub decreases-loop-seat : goal.decreases-loop-seat
decreases-loop-seat l = l.n - vec_len l.blanks
