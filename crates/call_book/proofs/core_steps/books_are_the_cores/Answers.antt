use Rattle.call_book.proofs.CoreBook.{enters_as_the_core, settles_as_the_core, moves_as_the_core}
use Rattle.call_book.proofs.core_steps.books_are_the_cores.Goals as goal

pub returns : goal.returns
returns c = record { enter = enters_as_the_core; settle = settles_as_the_core; moves = moves_as_the_core }
