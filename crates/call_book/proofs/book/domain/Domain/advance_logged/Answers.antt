use Rattle.std.proofs.Common.{◌≡◌, ℕ, length, refl, ap, ◌∙◌, subst, arith}
use Rattle.domain_run.specs.Domain.{Domain}
use Rattle.domain_run.specs.Happened.{logged_by_ticks}
use Rattle.domain_run.specs.Log.{HasLogged}
use Rattle.call_book.specs.Book.{state_of}
use Rattle.call_book.proofs.Growing.{has_room}
use Rattle.call_book.proofs.Sifting.{sifted_holds, advance_grows, advance_answer}
use Rattle.call_book.proofs.book.domain.Domain.advance_logged.Goals as goal

pub sweep-requires-clause-listed : goal.sweep-requires-clause-listed
sweep-requires-clause-listed g c =
    let inside = c.self.inside in
    let made = c.make_ticks-ticks in
    sifted_holds inside.state made.new.state inside.stock.tickets c.self.invariant.held made.ensures.keys

pub invariant_of-self-2 : goal.invariant_of-self-2
invariant_of-self-2 g c =
    let inside = c.self.inside in
    let made = c.make_ticks-ticks in
    let most = made.ensures.most in
    let call = c.requires.call.1 in
    advance_grows inside.cpus inside.limit inside.workers.count inside.left inside.ledger c.enter.new.self inside.stock c.sweep.new.self inside.state made.new.state made.result c.args.pass.now c.self.invariant c.enter.ensures.ledger made.ensures.state made.ensures.keys c.sweep.ensures.stock (omega (arith, most, call))

pub returns-clause-done : goal.returns-clause-done
returns-clause-done g c =
    let inside = c.self.inside in
    let made = c.make_ticks-ticks in
    let most = made.ensures.most in
    let call = c.requires.call.1 in
    let some = c.if-ticks-eq0.false in
    let free = has_room c.is_full.result (length inside.ledger.history) inside.ledger.room c.is_full.ensures.full c.if-is_full.false c.is_full.ensures.history.within in
    let after = advance_grows inside.cpus inside.limit inside.workers.count inside.left inside.ledger c.enter.new.self inside.stock c.sweep.new.self inside.state made.new.state made.result c.args.pass.now c.self.invariant c.enter.ensures.ledger made.ensures.state made.ensures.keys c.sweep.ensures.stock (omega (arith, most, call)) in
    advance_answer c.args.self.now inside.cpus inside.limit inside.workers.count inside.left inside.ledger c.enter.new.self inside.stock c.sweep.new.self inside.state made.new.state made.result c.args.n c.args.pass.now c.enter.new.pass c.self.view_is c.self.invariant after free (omega (arith, some)) most c.enter.ensures.ledger c.enter.ensures.pass c.sweep.ensures.stock c.sweep.ensures.given

pub returns-clause-logged : goal.returns-clause-logged
returns-clause-logged g c =
    let made = c.make_ticks-ticks in
    let is : c.self.inside.state ≡ state_of c.args.self.now = c.self.invariant.run ∙ ap state_of c.self.view_is in
    record { made = made.result; done = refl; logged = subst (λ (d : Domain). HasLogged c.args.log.now (logged_by_ticks made.result d) made.new.log) is made.ensures.logged }

pub returns-then-ticks-eq0-clause-unlogged : goal.returns-then-ticks-eq0-clause-unlogged
returns-then-ticks-eq0-clause-unlogged g c =
    let made = c.make_ticks-ticks in
    subst (λ (k : ℕ). HasLogged c.args.log.now (logged_by_ticks k c.self.inside.state) made.new.log) c.if-ticks-eq0.true made.ensures.logged
