use Rattle.std.proofs.Common.{◌≡◌, false, take}
use Rattle.std.specs.List.{list_any}
use Rattle.call_book.specs.Pieces.{is_held}
use Rattle.call_book.proofs.book.stock.place_of.Given as goal

-- none of the tickets so far is held for the number
abbrev pub invariant-loop-i : goal.invariant-loop-i
invariant-loop-i l = list_any (is_held l.number) (take l.i l.held) ≡ false
