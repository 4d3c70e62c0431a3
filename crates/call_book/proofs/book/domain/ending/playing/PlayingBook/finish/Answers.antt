use Rattle.std.proofs.Common.{◌≡◌, ◌∙◌, sym, ap, subst}
use Rattle.std.specs.Prelude.{filter}
use Rattle.domain_run.specs.Domain.{Domain}
use Rattle.call_book.specs.Pieces.{HoldsTickets, is_kept}
use Rattle.call_book.specs.Playing.{PlayingView}
use Rattle.call_book.specs.private.Kept.{book_of}
use Rattle.call_book.specs.private.Played.{LeadsOn}
use Rattle.call_book.specs.private.Ticking.{domain_in}
use Rattle.call_book.proofs.Played.{played_listed, finished_book, swept_book}
use Rattle.call_book.proofs.book.domain.ending.playing.PlayingBook.finish.Goals as goal

pub sweep-requires-clause-listed : goal.sweep-requires-clause-listed
sweep-requires-clause-listed c =
    let own = c.self.inside in
    let book = book_of own.cpus own.limit own.workers.count own.left own.ledger own.stock in
    let none : own.ticks ≡ 0 = ap (λ (v : PlayingView). v.left) c.self.view_is ∙ c.requires.made in
    let was : LeadsOn book (domain_in own.domain) 0 = subst (LeadsOn book (domain_in own.domain)) none c.self.invariant.on in
    let run = played_listed book c.into_state-state.result (domain_in own.domain) was (c.into_state-state.ensures ∙ c.forget_switches.ensures.domain) in
    subst (λ (d : Domain). HoldsTickets d (filter (is_kept d) own.stock.tickets)) (sym run) was.will_be.held

pub invariant_of-result : goal.invariant_of-result
invariant_of-result c =
    let own = c.self.inside in
    let book = book_of own.cpus own.limit own.workers.count own.left own.ledger own.stock in
    let none : own.ticks ≡ 0 = ap (λ (v : PlayingView). v.left) c.self.view_is ∙ c.requires.made in
    let was : LeadsOn book (domain_in own.domain) 0 = subst (LeadsOn book (domain_in own.domain)) none c.self.invariant.on in
    finished_book own.cpus own.limit own.workers.count own.left own.ledger own.stock c.sweep.new.self (domain_in own.domain) c.into_state-state.result was (c.into_state-state.ensures ∙ c.forget_switches.ensures.domain) c.sweep.ensures.stock

pub returns-clause-swept : goal.returns-clause-swept
returns-clause-swept c =
    let own = c.self.inside in
    let book = book_of own.cpus own.limit own.workers.count own.left own.ledger own.stock in
    let none : own.ticks ≡ 0 = ap (λ (v : PlayingView). v.left) c.self.view_is ∙ c.requires.made in
    let was : LeadsOn book (domain_in own.domain) 0 = subst (LeadsOn book (domain_in own.domain)) none c.self.invariant.on in
    swept_book c.args.self.book own.cpus own.limit own.workers.count own.left own.ledger own.stock c.sweep.new.self (domain_in own.domain) c.into_state-state.result (ap (λ (v : PlayingView). v.book) c.self.view_is) was (c.into_state-state.ensures ∙ c.forget_switches.ensures.domain) c.sweep.ensures.stock c.sweep.ensures.given
