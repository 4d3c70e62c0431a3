use Rattle.std.proofs.Common.{ap, ◌∙◌, arith, rules}
use Rattle.call_book.specs.Ending.{EndingView}
use Rattle.session.proofs.Closed.{apart}
use Rattle.session.proofs.closing_session.close_book.Goals as goal

pub returns-clause-elsewhere : goal.returns-clause-elsewhere
returns-clause-elsewhere g c = λ d other.
    let book = c.agree_all.new.book in
    let here = ap (λ (e : EndingView). e.book.domain) c.agree_all.ensures.book ∙ c.requires.named.domain in
    omega (arith, c.pour_tickets.ensures.sums d, apart book.book.gate book.book.domain d c.close-state.result.tickets.items c.close-state.ensures.homes (λ same. other (same ∙ here)))

pub returns-clause-history : goal.returns-clause-history
returns-clause-history g c = search rules

pub returns-clause-ended : goal.returns-clause-ended
returns-clause-ended g c = search rules

pub returns-clause-here : goal.returns-clause-here
returns-clause-here g c = search rules
