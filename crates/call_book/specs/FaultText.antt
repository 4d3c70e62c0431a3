-- How the errors of an advance and of a move print (own).
use Rattle.std.specs.Prelude.{ℕ, List, codes}
use Rattle.call_book.specs.declared.book.domain.AdvanceError.{AdvanceError}
use Rattle.call_book.specs.declared.book.domain.AdvanceError.TheVariants as stops
use Rattle.call_book.specs.declared.book.domain.moving.MoveFault.{MoveFault}
use Rattle.call_book.specs.declared.book.domain.moving.MoveFault.TheVariants as moves

abbrev pub advance_text : AdvanceError → List ℕ
advance_text stops.Full = codes "the history is full"
advance_text stops.Memory = codes "out of memory"

abbrev pub move_text : MoveFault → List ℕ
move_text moves.NotListed = codes "no such task"
move_text moves.Memory = codes "out of memory"
