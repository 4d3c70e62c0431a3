use Rattle.std.proofs.Common.{◌≡◌, ◌<◌, ℕ, length, slice_index, vec_capacity}
use Rattle.session.proofs.closing_session.put_row.Given as goal

abbrev pub invariant-loop-d : goal.invariant-loop-d
invariant-loop-d l =
    (length l.numbers.items ≡ l.d) × (vec_capacity l.numbers ≡ vec_capacity l.fn.numbers)
    × ((e : ℕ) → e < l.d → slice_index l.numbers.items e ≡ slice_index l.fn.row e)
