use Rattle.std.proofs.Common.{rules}
use Rattle.std.proofs.lemmas.Grind.{common_steps}
use Rattle.call_book.proofs.book.domain.ending.EndingBook.draw.Goals as goal

-- `auto` finds it too; written out, a wrong body is refused here, and not after a search
pub returns-clause-drawn : goal.returns-clause-drawn
returns-clause-drawn c = search (rules, common_steps)
