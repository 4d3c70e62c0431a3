use Rattle.std.proofs.Common.{◌≡◌, ap, sym, ◌∙◌}
use Rattle.domain_run.specs.Domain.{Domain}
use Rattle.domain_run.proofs.CallerLemmas.{ticks_cpus}
use Rattle.call_book.specs.Playing.{PlayingView}
use Rattle.call_book.specs.private.Kept.{book_of}
use Rattle.call_book.specs.private.Ticking.{domain_in}
use Rattle.call_book.proofs.book.domain.ending.playing.PlayingBook.cpus.Goals as goal

pub returns-clause-same : goal.returns-clause-same
returns-clause-same c =
    let own = c.self.inside in
    let book = book_of own.cpus own.limit own.workers.count own.left own.ledger own.stock in
    let kept = c.self.invariant.on in
    let run : (domain_in own.domain).cpus ≡ book.cpus =
    sym (ticks_cpus own.ticks (domain_in own.domain)) ∙ ap (λ (d : Domain). d.cpus) kept.leads ∙ kept.will_be.machine.0 in
    ap (λ (v : PlayingView). v.at.cpus) (sym c.self.view_is) ∙ run ∙ ap (λ (v : PlayingView). v.book.cpus) c.self.view_is
