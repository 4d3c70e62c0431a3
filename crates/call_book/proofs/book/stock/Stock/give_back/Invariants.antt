use Rattle.std.proofs.Common.{◌≡◌, All}
use Rattle.call_book.proofs.book.stock.Stock.give_back.Given as goal

abbrev pub invariant-loop-ticket : goal.invariant-loop-ticket
invariant-loop-ticket l = All (λ t. t.gate ≡ l.gate) l.tickets.items

abbrev pub decreases-loop-ticket : goal.decreases-loop-ticket
decreases-loop-ticket l = goal.left-loop-ticket l
