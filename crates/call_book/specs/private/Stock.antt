-- What a contract inside the crate sees of the pieces in a book, and what they keep.
use Rattle.std.specs.Prelude.{◌≡◌, ℕ, List, []}
use Rattle.bw_gate.specs.Pieces.{GateId, BlankView, TicketView}
use Rattle.call_book.specs.declared.book.stock.Held.{Held}
use Rattle.call_book.specs.Pieces.{ArePieces}

pub record StockView : Type 0 where
  pub gate : GateId
  pub domain : ℕ
  pub tickets : List Held
  pub blanks : List BlankView

-- what a stock keeps: its pieces, nothing that goes home yet, and the room for 256 of each that it
-- was opened with, so it takes no more
pub record IsStock (gate : GateId) (domain : ℕ) (tickets : List Held) (blanks : List BlankView)
    (home : List TicketView) (held_room free_room home_room : ℕ) : Type 0 where
  pub pieces : ArePieces gate domain tickets blanks
  pub empty : home ≡ []
  pub room : (held_room ≡ 256) × (free_room ≡ 256) × (home_room ≡ 256)
