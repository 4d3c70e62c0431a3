use Rattle.std.proofs.Common.{◌≡◌, ◌+◌, ◌≤◌, ◌-◌, length, All, vec_capacity}
use Rattle.call_book.specs.Pieces.{is_kept}
use Rattle.call_book.proofs.Sweeping.{IsSwept}
use Rattle.call_book.proofs.book.stock.sweep_held.Given as goal

abbrev pub invariant-loop-place : goal.invariant-loop-place
invariant-loop-place l = record {
  swept : IsSwept (is_kept l.state) l.fn.held.items l.fn.blanks.items l.held.items l.place l.blanks.items;
  own : All (λ h. h.ticket.gate ≡ l.gate) l.held.items;
  room : length l.held.items + length l.blanks.items ≤ vec_capacity l.blanks;
  held_room : vec_capacity l.held ≡ vec_capacity l.fn.held;
  free_room : vec_capacity l.blanks ≡ vec_capacity l.fn.blanks;
  within : l.place ≤ length l.held.items;
}

abbrev pub decreases-loop-place : goal.decreases-loop-place
decreases-loop-place l = length l.held.items - l.place
