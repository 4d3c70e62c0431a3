use Rattle.std.proofs.Common.{◌≡◌, ◌≤◌, ◌<◌, ℕ, ◌+◌, ◌-◌, [], true, length, Some}
use Rattle.std.specs.Prelude.{slice_get, vec_capacity}
use Rattle.pass_seats.specs.Listed.{fresh}
use Rattle.pass_seats.proofs.spine.deal.Given as goal

-- the passes so far are made, and the others are in the seat's view
abbrev pub invariant-loop-k : goal.invariant-loop-k
invariant-loop-k g l =
    (l.seat.table_id ≡ l.shared.table_id)
    × (l.seat.me ≡ (record { is_spine = true; log = []; passes = fresh (l.k + 1) (l.clients - l.k) }, []))
    × (length l.passes.items ≡ l.k) × (l.clients ≤ vec_capacity l.passes)
    × ((k : ℕ) → k < l.k → slice_get l.passes.items k ≡ Some (record { spine = l.shared.table_id; client = k + 1; entries = [] }))
