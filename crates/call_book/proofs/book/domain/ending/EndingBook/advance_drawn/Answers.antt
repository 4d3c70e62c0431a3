use Rattle.std.proofs.Common.{◌≡◌, ◌∙◌, false, length, sym, ap, subst, arith}
use Rattle.domain_run.specs.Domain.{Domain}
use Rattle.domain_run.specs.Tick.{ticks}
use Rattle.streamed_run.specs.Streamed.{streamed_after}
use Rattle.call_book.specs.Book.{state_of, IsMember}
use Rattle.call_book.specs.Ending.{EndingView}
use Rattle.call_book.proofs.Growing.{has_room}
use Rattle.call_book.proofs.Sifting.{sifted_holds, advance_answer}
use Rattle.call_book.proofs.Ended.{run_unstreamed, book_unstreamed, streamed_grows, swept_alike, given_alike, ending_of}
use Rattle.call_book.proofs.book.domain.ending.EndingBook.advance_drawn.Goals as goal

-- nothing was drawn before
none_streamed : (e : EndingView) (v : EndingView) → v ≡ e → e.streamed ≡ false → v.streamed ≡ false
none_streamed e v is none = ap (λ (x : EndingView). x.streamed) is ∙ none

pub sweep-requires-clause-listed : goal.sweep-requires-clause-listed
sweep-requires-clause-listed c =
    let own = c.self.inside in
    let made = c.draw_on-ticks in
    let book = book_unstreamed _ own.streamed own.state c.self.invariant (none_streamed c.args.self.now _ c.self.view_is c.requires.unstreamed) in
    sifted_holds own.state made.new.state own.stock.tickets book.held made.ensures.keys

pub invariant_of-self-2 : goal.invariant_of-self-2
invariant_of-self-2 c =
    let own = c.self.inside in
    let made = c.draw_on-ticks in
    let most = made.ensures.most in
    let call = c.requires.call.1 in
    let book = book_unstreamed _ own.streamed own.state c.self.invariant (none_streamed c.args.self.now _ c.self.view_is c.requires.unstreamed) in
    ending_of _ (ticks made.result own.state) made.new.state
    (streamed_grows own.cpus own.limit own.workers.count own.left own.ledger c.enter.new.self own.stock c.sweep.new.self own.state made.new.state made.result c.args.pass.now book c.enter.ensures.ledger made.ensures.state made.ensures.keys c.sweep.ensures.stock (omega (arith, most, call)))
    made.ensures.state

pub returns-clause-done : goal.returns-clause-done
returns-clause-done c =
    let own = c.self.inside in
    let made = c.draw_on-ticks in
    let next = ticks made.result own.state in
    let most = made.ensures.most in
    let call = c.requires.call.1 in
    let some = c.if-ticks-eq0.false in
    let free = has_room c.is_full.result (length own.ledger.history) own.ledger.room c.is_full.ensures.full c.if-is_full.false c.is_full.ensures.history.within in
    let book = book_unstreamed _ own.streamed own.state c.self.invariant (none_streamed c.args.self.now _ c.self.view_is c.requires.unstreamed) in
    let after = streamed_grows own.cpus own.limit own.workers.count own.left own.ledger c.enter.new.self own.stock c.sweep.new.self own.state made.new.state made.result c.args.pass.now book c.enter.ensures.ledger made.ensures.state made.ensures.keys c.sweep.ensures.stock (omega (arith, most, call)) in
    advance_answer c.args.self.now.book own.cpus own.limit own.workers.count own.left own.ledger c.enter.new.self own.stock c.sweep.new.self own.state next made.result c.args.n c.args.pass.now c.enter.new.pass
    (ap (λ (e : EndingView). e.book) c.self.view_is) book after free (omega (arith, some)) most c.enter.ensures.ledger c.enter.ensures.pass
    (swept_alike own.stock c.sweep.new.self next made.new.state made.ensures.state c.sweep.ensures.stock)
    (given_alike own.stock c.sweep.new.self next made.new.state made.ensures.state c.sweep.ensures.given)

-- terms in place of searches, which take seconds

pub enter-requires-clause-own : goal.enter-requires-clause-own
enter-requires-clause-own c = c.requires.pass.spine ∙ ap (λ (e : EndingView). e.book.spine) (sym c.self.view_is)

pub enter-requires-clause-member : goal.enter-requires-clause-member
enter-requires-clause-member c = subst (λ (e : EndingView). IsMember e.book.clients c.args.pass.now.client) (sym c.self.view_is) c.requires.pass.member

pub enter-requires-clause-free : goal.enter-requires-clause-free
enter-requires-clause-free c =
    let ledger = c.self.inside.ledger in
    has_room c.is_full.result (length ledger.history) ledger.room c.is_full.ensures.full c.if-is_full.false c.is_full.ensures.history.within

pub enter-requires-clause-call : goal.enter-requires-clause-call
enter-requires-clause-call c =
    let most = c.draw_on-ticks.ensures.most in
    let some = c.if-ticks-eq0.false in
    let call = c.requires.call.1 in
    (omega (arith, some), omega (arith, most, call))

pub returns-clause-drawn : goal.returns-clause-drawn
returns-clause-drawn c =
    let own = c.self.inside in
    let made = c.draw_on-ticks in
    let run = run_unstreamed _ own.streamed own.state c.self.invariant (none_streamed c.args.self.now _ c.self.view_is c.requires.unstreamed) in
    made.ensures.drawn ∙ ap (λ (d : Domain). streamed_after c.args.n made.result d) (run ∙ ap (λ (e : EndingView). state_of e.book) c.self.view_is)

pub returns-clause-window : goal.returns-clause-window
returns-clause-window c = c.draw_on-ticks.ensures.window ∙ c.in-Ok.ensures.window
